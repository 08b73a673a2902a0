-- What a typed instruction finds on the stack, how its bodies are typed, and what it leaves, by its form.
use Rattle.std.specs.Prelude.{◌≡◌, ℕ, ◌+◌, suc, IsTrue, List, ◌∷◌, ◌++◌, length, ◌⊎◌, Some}
use Rattle.value_core.specs.declared.ty.Ty.{Ty}
use Rattle.value_core.specs.declared.ty.Ty.TheVariants as type
use Rattle.value_core.specs.Kinds.{is_comparable, is_passable}
use Rattle.michelson_code.specs.declared.instr.Instr.{Instr}
use Rattle.michelson_code.specs.declared.instr.Instr.TheOpen as one
use Rattle.michelson_code.specs.declared.instr.Instr.TheOpen.{Instr-F}
use Rattle.michelson_code.specs.declared.operands.Line.{Line}
use Rattle.michelson_code.specs.declared.script.Script.{Script}
use Rattle.michelson_code.specs.Operands.{lines}
use Rattle.michelson_code.specs.Typing.{Choice, CodeTyped, EndsWith, IsOneOf, Joined, Outcome, To, Fails, comb_type, given_types, slot_types}

-- the operands of a line stand on the stack, and its results in their place
pub record FindsLine (s : Script) (x : Instr-F Instr) (before : List Ty) (o : Outcome) : Type 0 where
  pub line : Line
  pub choice : Choice
  pub below : List Ty
  pub is_line : IsOneOf line (lines x)
  pub written : given_types s x ≡ Some choice.written
  pub comparable : IsTrue (is_comparable choice.k)
  pub operands : before ≡ slot_types choice line.0 ++ below
  pub results : o ≡ To (slot_types choice line.1 ++ below)

-- so many items stand above the others
pub record FindsItems (n : ℕ) (before : List Ty) (o : Outcome) (after : List Ty → List Ty → List Ty) : Type 0 where
  pub items : List Ty
  pub below : List Ty
  pub count : length items ≡ n
  pub operands : before ≡ items ++ below
  pub results : o ≡ To (after items below)

-- so many items stand above one that is meant
pub record FindsBelow (n : ℕ) (before : List Ty) (o : Outcome) (after : List Ty → Ty → List Ty → List Ty) : Type 0 where
  pub items : List Ty
  pub item : Ty
  pub below : List Ty
  pub count : length items ≡ n
  pub operands : before ≡ items ++ item ∷ below
  pub results : o ≡ To (after items item below)

-- two branches
pub record FindsBranches (s : Script) (n : ℕ) (c d : List Instr) (first second : List Ty) (o : Outcome) : Type 0 where
  pub end : Outcome
  pub other : Outcome
  pub typed : CodeTyped s n c first end
  pub other_typed : CodeTyped s n d second other
  pub joined : Joined end other o

-- a body that runs for each item, or again
pub record FindsRound (s : Script) (n : ℕ) (c : List Instr) (from to : List Ty) (o : Outcome) (after : List Ty) : Type 0 where
  pub end : Outcome
  pub typed : CodeTyped s n c from end
  pub ends : EndsWith to end
  pub results : o ≡ To after

-- a list, a set or a map of such items stands on top
abbrev pub FindsItemsOf : Ty → List Ty → List Ty → Type 0
FindsItemsOf a r b =
    (b ≡ type.List a ∷ r) ⊎ ((b ≡ type.Set a ∷ r) ⊎ ((k : Ty) × ((v : Ty) × ((a ≡ type.Pair k v) × (b ≡ type.Map k v ∷ r)))))

-- a list or a map of such items stands on top, and one of what the body leaves takes its place
abbrev pub FindsMapped : Ty → Ty → List Ty → List Ty → Outcome → Type 0
FindsMapped a t r b o =
    ((b ≡ type.List a ∷ r) × (o ≡ To (type.List t ∷ r)))
    ⊎ ((k : Ty) × ((v : Ty) × ((a ≡ type.Pair k v) × (b ≡ type.Map k v ∷ r) × (o ≡ To (type.Map k t ∷ r)))))

-- what is found, by one level of the instruction
abbrev pub Finds : Script → ℕ → Instr-F Instr → List Ty → Outcome → Type 0
Finds s n (one.DropN m) b o = FindsItems m b o (λ items below. below)
Finds s n (one.DupN m) b o = (k : ℕ) × ((suc k ≡ m) × FindsBelow k b o (λ items t below. t ∷ (items ++ t ∷ below)))
Finds s n (one.Dig m) b o = FindsBelow m b o (λ items t below. t ∷ (items ++ below))
Finds s n (one.Dug m) b o =
    (t : Ty) × ((r : List Ty) × ((b ≡ t ∷ r) × FindsItems m r o (λ items below. items ++ t ∷ below)))
Finds s n (one.PairN m) b o = (k : ℕ) × ((suc k ≡ m) × FindsBelow k b o (λ items t below. comb_type items t ∷ below))
Finds s n (one.UnpairN m) b o =
    (items : List Ty) × ((t : Ty) × ((below : List Ty) ×
    ((suc (length items) ≡ m) × (b ≡ comb_type items t ∷ below) × (o ≡ To (items ++ t ∷ below)))))
Finds s n (one.Dip c) b o =
    (a : Ty) × ((r : List Ty) × ((t : List Ty) × ((b ≡ a ∷ r) × CodeTyped s (n + 1) c r (To t) × (o ≡ To (a ∷ t)))))
Finds s n (one.DipN m c) b o =
    (items : List Ty) × ((r : List Ty) × ((t : List Ty) ×
    ((length items ≡ m) × (b ≡ items ++ r) × CodeTyped s (n + m) c r (To t) × (o ≡ To (items ++ t)))))
Finds s n (one.If c d) b o = (r : List Ty) × ((b ≡ type.Bool ∷ r) × FindsBranches s n c d r r o)
Finds s n (one.IfNone c d) b o =
    (a : Ty) × ((r : List Ty) × ((b ≡ type.Option a ∷ r) × FindsBranches s n c d r (a ∷ r) o))
Finds s n (one.IfLeft c d) b o =
    (l : Ty) × ((t : Ty) × ((r : List Ty) × ((b ≡ type.Or l t ∷ r) × FindsBranches s n c d (l ∷ r) (t ∷ r) o)))
Finds s n (one.IfCons c d) b o =
    (a : Ty) × ((r : List Ty) × ((b ≡ type.List a ∷ r) × FindsBranches s n c d (a ∷ type.List a ∷ r) r o))
Finds s n (one.Loop c) b o = (r : List Ty) × ((b ≡ type.Bool ∷ r) × FindsRound s n c r (type.Bool ∷ r) o r)
Finds s n (one.LoopLeft c) b o =
    (l : Ty) × ((t : Ty) × ((r : List Ty) ×
    ((b ≡ type.Or l t ∷ r) × FindsRound s n c (l ∷ r) (type.Or l t ∷ r) o (t ∷ r))))
Finds s n (one.Iter c) b o =
    (a : Ty) × ((r : List Ty) × (FindsItemsOf a r b × FindsRound s n c (a ∷ r) r o r))
Finds s n (one.Map c) b o =
    (a : Ty) × ((t : Ty) × ((r : List Ty) × (CodeTyped s n c (a ∷ r) (To (t ∷ r)) × FindsMapped a t r b o)))
Finds s n one.Failwith b o = (a : Ty) × ((r : List Ty) × ((b ≡ a ∷ r) × IsTrue (is_passable a) × (o ≡ Fails)))
Finds s n x b o = FindsLine s x b o
