-- What is seen of an expression before it is typed, and which calls have a type by themselves.
use Rattle.std.specs.Prelude.{Bool, List, Option, Some, [], false, true, ◌∷◌}
use Rattle.ligo_typer.specs.declared.builtin.Builtin.{Builtin}
use Rattle.ligo_typer.specs.declared.builtin.Builtin.TheVariants as builtin
use Rattle.ligo_typer.specs.declared.builtin.Library.{Library}
use Rattle.ligo_typer.specs.declared.builtin.Library.TheVariants as library
use Rattle.ligo_typer.specs.Scopes.{Meaning, Predefined}
use Rattle.ligo_typer.specs.Shapes.{CaseOf, SomeOf}

-- what stands before arguments
pub data Head : Type 0 where
  Value : Option Meaning → Head
  OfLibrary : Option Library → Head
  Maker : Option CaseOf → Head
  NoHead : Head

-- whether it has a type by itself, and as what it stands elsewhere: before arguments; as a pair whose
-- parts have types by themselves; as a list whose first item is such a pair
pub record Sight : Type 0 where
  pub alone : Bool
  pub head : Head
  pub pair : Bool
  pub pairs : Bool

abbrev pub plain : Bool → Sight
plain alone = record { alone = alone; head = NoHead; pair = false; pairs = false }

abbrev pub heading : Bool → Head → Sight
heading alone head = record { alone = alone; head = head; pair = false; pairs = false }

abbrev pub alone_of : Sight → Bool
alone_of s = s.alone

abbrev pub first_is : (Sight → Bool) → List Sight → Bool
first_is test [] = false
first_is test (s ∷ ss) = test s

abbrev pub last_is : (Sight → Bool) → Sight → List Sight → Bool
last_is test s [] = test s
last_is test s (t ∷ ts) = last_is test t ts

abbrev pub last_alone : List Sight → Bool
last_alone [] = false
last_alone (s ∷ ss) = last_is alone_of s ss

-- a call that gives back its map has the type of that
abbrev pub map_call_alone : Builtin → List Sight → Bool
map_call_alone builtin.Add es = last_alone es
map_call_alone builtin.Remove es = last_alone es
map_call_alone builtin.Update es = last_alone es
map_call_alone b es = true

abbrev pub call_alone : Builtin → Bool
call_alone builtin.Failwith = false
call_alone builtin.GetContractOpt = false
call_alone b = true

abbrev pub library_alone : Library → List Sight → Bool
library_alone library.MapLiteral es = first_is (λ s. s.pairs) es
library_alone (library.OnMap b) es = map_call_alone b es
library_alone (library.OnBigMap b) es = map_call_alone b es
library_alone (library.Call b) es = call_alone b
library_alone l es = true

abbrev pub applied_alone : Head → List Sight → Bool
applied_alone (Value (Some (Predefined b))) es = call_alone b
applied_alone (OfLibrary (Some l)) es = library_alone l es
applied_alone (Maker (Some SomeOf)) es = first_is alone_of es
applied_alone head es = true
