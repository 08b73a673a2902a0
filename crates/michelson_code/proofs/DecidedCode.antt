-- A code on a kept stack is typed, or has a first fault.
use Rattle.std.proofs.Common.{◌≡◌, ℕ, suc, ◌+◌, List, [], ◌∷◌, length, inl, inr}
use Rattle.std.specs.Prelude.{◌⊎◌}
use Rattle.std.specs.List.{AllByRecursion}
use Rattle.value_core.specs.declared.ty.Ty.{Ty}
use Rattle.michelson_code.specs.declared.instr.Instr.{Instr}
use Rattle.michelson_code.specs.declared.instr.Instr.TheViews.{out-Instr}
use Rattle.michelson_code.specs.declared.script.Script.{Script}
use Rattle.michelson_code.specs.declared.type_fault.TypeKind.{TypeKind}
use Rattle.michelson_code.specs.declared.type_fault.TypeKind.TheVariants as kind
use Rattle.michelson_code.specs.FirstFault.{BodiesFault, CodeFault, StartsKept, this_body, later_body, at_instr, behind_failing}
use Rattle.michelson_code.specs.Forms.{bodies_of}
use Rattle.michelson_code.specs.Levels.{EachIn, induction}
use Rattle.michelson_code.specs.Typing.{CodeTyped, InstrTyped, IsKept, Outcome, To, Fails, Start, no_body, one_body, done, goes_on, fails}
use Rattle.michelson_code.proofs.DecidedCounts.{as_many}
use Rattle.michelson_code.proofs.DecidedInstr.{BodiesAnswer, Faulty, Typeable, instr_decided}
use Rattle.michelson_code.proofs.FaultLaws.{EndKept}

-- a code is typed, or has a first fault
abbrev pub CodeAnswer : Script → ℕ → List Instr → List Ty → Type 0
CodeAnswer s n c b =
    ((o : Outcome) × CodeTyped s n c b o) ⊎ ((path : List ℕ) × ((k : TypeKind) × CodeFault s n c b path k))

-- a fault stands one further behind an instruction that is typed
fault_behind : (s : Script) (n : ℕ) (i : Instr) (c : List Instr) (b t : List Ty) (path : List ℕ) (k : TypeKind) →
    IsKept n b → InstrTyped s n i b (To t) → CodeFault s n c t path k → (further : List ℕ) × CodeFault s n (i ∷ c) b further k
fault_behind s n i c b t path k kept before (at_instr n' front j d t' u p k' typed fault) =
    (length (i ∷ front) ∷ p, at_instr n (i ∷ front) j d b u p k (goes_on n i front b t (To u) kept before typed) fault)
fault_behind s n i c b t path k kept before (behind_failing n' front j d t' typed) =
    (length (i ∷ front) ∷ [], behind_failing n (i ∷ front) j d b (goes_on n i front b t Fails kept before typed))

-- and one further behind a body that is typed
fault_later : (s : Script) (n : ℕ) (c : List Instr) (cs : List (List Instr)) (y : Start) (ys : List Start) (o : Outcome) (path : List ℕ) (k : TypeKind) →
    CodeTyped s (n + y.0) c y.1 o → BodiesFault s n cs ys path k → (further : List ℕ) × BodiesFault s n (c ∷ cs) (y ∷ ys) further k
fault_later s n c cs y ys o path k before (this_body n' d more start starts p k' fault) =
    (1 ∷ p, later_body n c cs y ys o 0 p k before (this_body n d more start starts p k fault))
fault_later s n c cs y ys o path k before (later_body n' d more start starts q j p k' typed fault) =
    (suc (suc j) ∷ p, later_body n c cs y ys o (suc j) p k before (later_body n d more start starts q j p k typed fault))

module _ (s : Script) where
  -- an instruction is typed on each stack, or has a first fault there
  abbrev IsDecided : Instr → Type 0
  IsDecided i = (n : ℕ) (b : List Ty) → Typeable s n i b ⊎ Faulty s n i b

  module _ (n : ℕ) (i : Instr) (c : List Instr) (b : List Ty) (kept : IsKept n b) where
    behind : (t : List Ty) → InstrTyped s n i b (To t) → CodeAnswer s n c t → CodeAnswer s n (i ∷ c) b
    behind t before (inl typed) = inl (typed.0, goes_on n i c b t typed.0 kept before typed.1)
    behind t before (inr fault) =
        let further = fault_behind s n i c b t fault.0 fault.1.0 kept before fault.1.1 in inr (further.0, (fault.1.0, further.1))

    last : InstrTyped s n i b Fails → (d : List Instr) → CodeAnswer s n (i ∷ d) b
    last failing [] = inl (Fails, fails n i b kept failing)
    last failing (j ∷ d) = inr (length (i ∷ []) ∷ [], (kind.FailNotLast, behind_failing n (i ∷ []) j d b (fails n i b kept failing)))

    by_outcome : (o : Outcome) → InstrTyped s n i b o → EndKept n o → ((t : List Ty) → IsKept n t → CodeAnswer s n c t) → CodeAnswer s n (i ∷ c) b
    by_outcome (To t) typed left rest = behind t typed (rest t left)
    by_outcome Fails typed left rest = last typed c

    from_first : Typeable s n i b ⊎ Faulty s n i b → ((t : List Ty) → IsKept n t → CodeAnswer s n c t) → CodeAnswer s n (i ∷ c) b
    from_first (inl t) rest = by_outcome t.outcome t.typed t.kept rest
    from_first (inr f) rest = inr (0 ∷ f.path, (f.told, at_instr n [] i c b b f.path f.told (done n b kept) f.fault))

  code_by : (c : List Instr) → AllByRecursion IsDecided c → (n : ℕ) (b : List Ty) → IsKept n b → CodeAnswer s n c b
  code_by [] each n b kept = inl (To b, done n b kept)
  code_by (i ∷ c) each n b kept = from_first n i c b kept (each.0 n b) (λ t left. code_by c each.1 n t left)

  module _ (n : ℕ) (c : List Instr) (cs : List (List Instr)) (y : Start) (ys : List Start) where
    from_body : CodeAnswer s (n + y.0) c y.1 → BodiesAnswer s n cs ys → BodiesAnswer s n (c ∷ cs) (y ∷ ys)
    from_body (inr fault) rest = inr (0 ∷ fault.0, (fault.1.0, this_body n c cs y ys fault.0 fault.1.0 fault.1.1))
    from_body (inl typed) (inl rest) = inl (typed.0 ∷ rest.0, one_body n c cs y ys typed.0 rest.0 typed.1 rest.1)
    from_body (inl typed) (inr fault) =
        let further = fault_later s n c cs y ys typed.0 fault.0 fault.1.0 typed.1 fault.1.1 in inr (further.0, (fault.1.0, further.1))

  bodies_by : (cs : List (List Instr)) → EachIn IsDecided cs → (n : ℕ) (st : List Start) → length cs ≡ length st → StartsKept n st → BodiesAnswer s n cs st
  bodies_by [] each n [] long kept = inl ([], no_body n)
  bodies_by [] each n (y ∷ ys) long kept = cc
  bodies_by (c ∷ cs) each n [] long kept = cc
  bodies_by (c ∷ cs) each n (y ∷ ys) long kept =
      let short : length cs ≡ length ys = cc in
      from_body n c cs y ys (code_by c each.0 (n + y.0) y.1 kept.0) (bodies_by cs each.1 n ys short kept.1)

  each_decided : (i : Instr) → IsDecided i
  each_decided = induction IsDecided (λ i each n b. instr_decided s n i b (λ st es o x kept.
      bodies_by (bodies_of i) each n st (as_many (out-Instr i) b st es o x) kept))

  all_decided : (c : List Instr) → AllByRecursion IsDecided c
  all_decided [] = tt
  all_decided (i ∷ c) = (each_decided i, all_decided c)

  -- a code is typed on a kept stack, or has a first fault there
  pub code_answer : (n : ℕ) (c : List Instr) (b : List Ty) → IsKept n b → CodeAnswer s n c b
  code_answer n c b kept = code_by c (all_decided c) n b kept
