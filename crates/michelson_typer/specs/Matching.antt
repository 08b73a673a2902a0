-- What letters of a line stand for: choices that suit letters, and answers to a question about them.
use Rattle.std.specs.Prelude.{◌≡◌, ℕ, ◌<◌, Bool, ◌==◌, IsTrue, List, [], ◌∷◌, length, Option, None, Some, if◌then◌else◌}
use Rattle.std.specs.Option.{option_map}
use Rattle.value_core.specs.declared.ty.Ty.{Ty}
use Rattle.value_core.specs.Kinds.{is_comparable}
use Rattle.michelson_code.specs.declared.operands.Level.{Level}
use Rattle.michelson_code.specs.declared.operands.Part.{Part}
use Rattle.michelson_code.specs.declared.operands.Slot.{Slot}
use Rattle.michelson_code.specs.Typing.{Choice, level_type, part_type, slot_type}
use Rattle.michelson_typer.specs.declared.lines.Letters.{Letters}
use Rattle.michelson_typer.specs.declared.lines.Written.{Written}
use Rattle.michelson_typer.specs.Tables.{IsTypeOf, type_at}

-- a letter stands for a type that it may stand for
abbrev pub Meets : List Ty → Option ℕ → Ty → Type 0
Meets table None t = Unit {0}
Meets table (Some id) t = IsTypeOf table id t

-- the types written
abbrev pub written_types : List Ty → Written → List Ty
written_types table w = type_at table w.t ∷ type_at table w.u ∷ []

-- the choice is one that the letters allow
pub record Suits (table : List Ty) (w : Written) (l : Letters) (c : Choice) : Type 0 where
  pub a : Meets table l.a c.a
  pub b : Meets table l.b c.b
  pub k : Meets table l.k c.k
  pub comparable : IsTrue (is_comparable c.k)
  pub is_written : c.written ≡ written_types table w

-- further letters, with which exactly the choices are left of which it holds
pub record Narrows (table : List Ty) (w : Written) (l m : Letters) (Q : Choice → Type 0) : Type 0 where
  pub holds : (c : Choice) → Suits table w m c → Suits table w l c × Q c
  pub all : (c : Choice) → Suits table w l c → Q c → Suits table w m c

-- the letters with which it holds, or none where it holds of no choice
abbrev pub Answers : List Ty → Written → Letters → (Choice → Type 0) → Option Letters → Type 0
Answers table w l Q None = (c : Choice) → Suits table w l c → Q c → ⊥
Answers table w l Q (Some m) = Narrows table w l m Q

-- a letter stands for a type of the table
abbrev pub IsKnown : List Ty → Option ℕ → Type 0
IsKnown table None = Unit {0}
IsKnown table (Some id) = id < length table

-- a comparable one
abbrev pub IsOrdered : List Ty → Option ℕ → Type 0
IsOrdered table None = Unit {0}
IsOrdered table (Some id) = IsTrue (is_comparable (type_at table id))

-- each letter stands for a type of the table, and `k` for a comparable one
pub record AreKnown (table : List Ty) (l : Letters) : Type 0 where
  pub a : IsKnown table l.a
  pub b : IsKnown table l.b
  pub k : IsKnown table l.k
  pub ordered : IsOrdered table l.k

-- ---- the functions that bind letters

-- what a letter stands for, where it may stand for the type
abbrev pub bound : Option ℕ → ℕ → Option ℕ
bound None id = Some id
bound (Some x) id = if x == id then Some x else None

abbrev pub with_a : Letters → ℕ → Option Letters
with_a l id = option_map (λ x. record l { a = Some x }) (bound l.a id)

abbrev pub with_b : Letters → ℕ → Option Letters
with_b l id = option_map (λ x. record l { b = Some x }) (bound l.b id)

abbrev pub with_k : Letters → ℕ → Option Letters
with_k l id = option_map (λ x. record l { k = Some x }) (bound l.k id)

abbrev pub where_true : Bool → Letters → Option Letters
where_true holds l = if holds then Some l else None

-- ---- the questions

abbrev pub PartIs : List Ty → Part → ℕ → Choice → Type 0
PartIs table p id c = part_type c p ≡ type_at table id

abbrev pub LevelIs : List Ty → Level Part → Level ℕ → Choice → Type 0
LevelIs table x found c = level_type (part_type c) x ≡ level_type (type_at table) found

abbrev pub SlotIs : List Ty → Slot → ℕ → Choice → Type 0
SlotIs table x id c = slot_type c x ≡ type_at table id

-- operands stand on top of the stack
abbrev pub Front : List Ty → List Slot → List ℕ → Choice → Type 0
Front table [] stack c = Unit {0}
Front table (x ∷ xs) [] c = ⊥
Front table (x ∷ xs) (id ∷ stack) c = SlotIs table x id c × Front table xs stack c
