-- A code that is typed so far, one instruction further: it is typed, or this is its fault.
use Rattle.std.proofs.Common.{◌≡◌, ℕ, zero, suc, ◌+◌, ◌<◌, ◌≤◌, List, [], ◌∷◌, ◌++◌, length, take, drop, get_or, Vec, Global, refl, ap, sym, subst, ◌∙◌, arith}
use Rattle.std.proofs.lemmas.List.{length-take-le, take_more}
use Rattle.std.proofs.lemmas.List.Sums.{sum_by-cons}
use Rattle.value_core.specs.declared.ty.Ty.{Ty}
use Rattle.michelson_code.specs.declared.instr.Instr.{Instr}
use Rattle.michelson_code.specs.declared.script.Script.{Script}
use Rattle.michelson_code.specs.declared.type_fault.TypeKind.{TypeKind}
use Rattle.michelson_code.specs.declared.type_fault.TypeKind.TheVariants as kind
use Rattle.michelson_code.specs.FirstFault.{CodeFault, InstrFault, at_instr, behind_failing}
use Rattle.michelson_code.specs.Inside.{count_of-is}
use Rattle.michelson_code.specs.Typing.{CodeTyped, InstrTyped, IsKept, Outcome, To, Fails, done, goes_on, fails}
use Rattle.michelson_code.specs.Weight.{code_count, count_of}
use Rattle.michelson_code.proofs.AppendLaws.{code_append}
use Rattle.michelson_typer.specs.declared.stack.Ends.{Ends}
use Rattle.michelson_typer.specs.declared.stack.Ends.TheVariants as end
use Rattle.michelson_typer.specs.Closed.{end_at, end_of}
use Rattle.michelson_typer.specs.Told.{IsEndKept}

-- an end that leaves no stack
pub ends_fail : (table : List Ty) (e : Ends) → ((v : Vec ℕ Global) → e ≡ end.To v → ⊥) → end_at table (end_of e) ≡ Fails
ends_fail table (end.To v) other = absurd (other v refl)
ends_fail table end.Fails other = refl

-- ---- a code by an instruction in it

split_at : (c : List Instr) (k : ℕ) (i : Instr) → k < length c → get_or c k i ≡ i → take k c ++ i ∷ drop (suc k) c ≡ c
split_at [] k i lt is = absurd (omega arith)
split_at (x ∷ c) zero i lt is = λ j. sym is j ∷ c
split_at (x ∷ c) (suc k) i lt is = λ j. x ∷ split_at c k i (omega arith) is j

pub count_within : (c : List Instr) (k : ℕ) (i : Instr) → k < length c → get_or c k i ≡ i → count_of i ≤ code_count c
count_within [] k i lt is = absurd (omega arith)
count_within (x ∷ c) zero i lt is = let e = sum_by-cons count_of x c in let same : count_of x ≡ count_of i = ap count_of is in omega arith
count_within (x ∷ c) (suc k) i lt is = let e = sum_by-cons count_of x c in let less = count_within c k i (omega arith) is in omega arith

pub at_least_length : (c : List Instr) → length c ≤ code_count c
at_least_length [] = omega arith
at_least_length (x ∷ c) = let e = sum_by-cons count_of x c in let one = count_of-is x in let rest = at_least_length c in omega arith

module _ (s : Script) (n : ℕ) where
  -- what a code leaves is kept
  end_kept : (c : List Instr) (b : List Ty) (o : Outcome) → CodeTyped s n c b o → IsEndKept n o
  end_kept c b o (done n' b' kept) = kept
  end_kept c b o (goes_on n' i d b' t o' kept first rest) = end_kept d t o rest
  end_kept c b o (fails n' i b' kept first) = tt

  alone : (i : Instr) (t : List Ty) (p : Outcome) → IsKept n t → InstrTyped s n i t p → IsEndKept n p → CodeTyped s n (i ∷ []) t p
  alone i t (To u) kept typed left = goes_on n i [] t u (To u) kept typed (done n u left)
  alone i t Fails kept typed left = fails n i t kept typed

  module _ (c : List Instr) (b : List Ty) (k : ℕ) (i : Instr) (lt : k < length c) (is : get_or c k i ≡ i) where
    place : length (take k c) ≡ k
    place = length-take-le k c (omega arith)

    at_place : (path : List ℕ) (told : TypeKind) → CodeFault s n (take k c ++ i ∷ drop (suc k) c) b (length (take k c) ∷ path) told → CodeFault s n c b (k ∷ path) told
    at_place path told fault =
        subst (λ (d : List Instr). CodeFault s n d b (k ∷ path) told) (split_at c k i lt is)
        (subst (λ (m : ℕ). CodeFault s n (take k c ++ i ∷ drop (suc k) c) b (m ∷ path) told) place fault)

    pub code_fault : (t : List Ty) (path : List ℕ) (told : TypeKind) → CodeTyped s n (take k c) b (To t) → InstrFault s n i t path told → CodeFault s n c b (k ∷ path) told
    code_fault t path told typed fault = at_place path told (at_instr n (take k c) i (drop (suc k) c) b t path told typed fault)

    pub code_failing : CodeTyped s n (take k c) b Fails → CodeFault s n c b (k ∷ []) kind.FailNotLast
    code_failing typed = at_place [] kind.FailNotLast (behind_failing n (take k c) i (drop (suc k) c) b typed)

    pub code_further : (t : List Ty) (p : Outcome) → CodeTyped s n (take k c) b (To t) → InstrTyped s n i t p × IsEndKept n p → CodeTyped s n (take (k + 1) c) b p
    code_further t p typed next =
        subst (λ (d : List Instr). CodeTyped s n d b p) (sym (take_more c k i lt ∙ ap (λ (j : Instr). take k c ++ j ∷ []) is))
        (code_append s n (take k c) (i ∷ []) b t p typed (alone i t p (end_kept (take k c) b (To t) typed) next.0 next.1))
