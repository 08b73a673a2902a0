-- What the public contract rests on: what a refusal tells, and how code ends or what is told of it.
use Rattle.std.specs.Prelude.{◌≡◌, ℕ, ◌+◌, IsTrue, List, [], ◌∷◌, Option, None, Some, Result, Ok, Err}
use Rattle.value_core.specs.declared.ty.Ty.{Ty}
use Rattle.michelson_code.specs.declared.type_fault.TypeKind.{TypeKind}
use Rattle.michelson_code.specs.declared.type_fault.TypeKind.TheVariants as kind
use Rattle.michelson_code.specs.FirstFault.{HasTooLarge, IsStart, IsTooTall}
use Rattle.michelson_code.specs.Typing.{IsKept, Outcome, To, Fails, Start}
use Rattle.michelson_typer.specs.declared.closing.BodyEnds.{BodyEnds}
use Rattle.michelson_typer.specs.declared.fault.TypeRefusal.{TypeRefusal}
use Rattle.michelson_typer.specs.declared.fault.TypeRefusal.TheVariants.{Fault, NoMemory}
use Rattle.michelson_typer.specs.declared.stack.Ends.{Ends}
use Rattle.michelson_typer.specs.Closed.{are_ends_in, end_at, end_of, ends_at, ends_of, is_end_in}

-- what is told holds; want of memory comes freely
abbrev pub IsTold : (List ℕ → TypeKind → Type 0) → TypeRefusal → Type 0
IsTold Holds (Fault f) = Holds f.path.items f.kind
IsTold Holds NoMemory = Unit {0}

-- the place and the kind of a fault
abbrev pub told : TypeRefusal → Option (List ℕ × TypeKind)
told (Fault f) = Some (f.path.items, f.kind)
told NoMemory = None

-- what holds of a fault at the place itself
abbrev pub IsHere : (TypeKind → Type 0) → List ℕ → TypeKind → Type 0
IsHere Holds path k = (path ≡ []) × Holds k

-- a fault with a number in front of its place
pub record IsBehind (number : ℕ) (Holds : List ℕ → TypeKind → Type 0) (path : List ℕ) (k : TypeKind) : Type 0 where
  pub rest : List ℕ
  pub place : path ≡ number ∷ rest
  pub holds : Holds rest k

-- the outcome is so, and its numbers stand in the table; or what is told is so
abbrev pub EndsOrTold : List Ty → (Outcome → Type 0) → (List ℕ → TypeKind → Type 0) → Result Ends TypeRefusal → Type 0
EndsOrTold table IsSo Holds (Ok e) = IsSo (end_at table (end_of e)) × IsTrue (is_end_in table (end_of e))
EndsOrTold table IsSo Holds (Err r) = IsTold Holds r

-- the same of the bodies of an instruction
abbrev pub BodiesOrTold : List Ty → (List Outcome → Type 0) → (List ℕ → TypeKind → Type 0) → Result BodyEnds TypeRefusal → Type 0
BodiesOrTold table AreSo Holds (Ok e) = AreSo (ends_at table (ends_of e)) × IsTrue (are_ends_in table (ends_of e))
BodiesOrTold table AreSo Holds (Err r) = IsTold Holds r

-- ---- limits

-- a stack that is left is kept
abbrev pub IsEndKept : ℕ → Outcome → Type 0
IsEndKept n (To t) = IsKept n t
IsEndKept n Fails = Unit {0}

-- the first limit that a stack which is left goes beyond
abbrev pub EndBreaks : ℕ → Outcome → TypeKind → Type 0
EndBreaks n (To t) kind.StackTooTall = IsTooTall n t
EndBreaks n (To t) kind.TypeTooLarge = (IsTooTall n t → ⊥) × HasTooLarge n t
EndBreaks n o k = ⊥

-- an end that is this one and kept
abbrev pub KeptAs : ℕ → Outcome → Outcome → Type 0
KeptAs n o p = (p ≡ o) × IsEndKept n o

-- one of the starts, with so many items set aside, is so
abbrev pub SomeStart : (ℕ → List Ty → Type 0) → ℕ → List Start → Type 0
SomeStart IsSo n begun = (x : Start) × (IsStart x begun × IsSo (n + x.0) x.1)
