-- What a call returned, beside what is read from the left.
use Rattle.std.specs.Prelude.{◌≡◌, ℕ, Bool, true, false, List, [], ◌∷◌, ◌++◌, map, Option, Some, None, Ok, Err}
use Rattle.std.specs.Option.{option_map}
use Rattle.value_core.specs.declared.ty.Ty.{Ty}
use Rattle.value_core.specs.declared.ty.Ty.TheVariants as type
use Rattle.micheline_text.specs.declared.fault.TextFault.{TextFault}
use Rattle.micheline_text.specs.declared.fault.TextFault.TheVariants as text
use Rattle.micheline_text.specs.declared.node.Node.{Node}
use Rattle.michelson_reader.specs.declared.fault.ReadFault.{ReadFault}
use Rattle.michelson_reader.specs.declared.fault.ReadFault.TheVariants as fault
use Rattle.michelson_reader.specs.declared.parameter.Parameter as held_parameter
use Rattle.michelson_reader.specs.declared.script.Sections as held_sections
use Rattle.michelson_reader.specs.CodeFaults.{Reader, code_read, instruction_read}
use Rattle.michelson_code.specs.Entries.{NamedEntry, Path}
use Rattle.michelson_reader.specs.ScriptFaults.{Parameter, Sections, once, parameter_read}
use Rattle.michelson_reader.specs.TypeFaults.{Read, then_read, type_read}

-- what is read of each, or the first fault
abbrev pub each : {A : Type 0} → List (Read A) → Read (List A)
each [] = Ok []
each (r ∷ more) = then_read r (λ x. then_read (each more) (λ xs. Ok (x ∷ xs)))

-- a pair of the first, and of the others nested so
abbrev pub nested : Ty → List Ty → Ty
nested t [] = t
nested t (u ∷ more) = type.Pair t (nested u more)

-- what can be read of a node
abbrev pub read_of : Node → Reader
read_of n = record { node = n; instruction = instruction_read n; code = code_read n }

-- ---- the parameter and the sections

-- names by the way from the root, where the way to their part is known
abbrev pub below_way : Path → List NamedEntry → List NamedEntry
below_way way = map (λ e. (way ++ e.0, e.1))

-- a part of the parameter was read, and its names stand behind those before
abbrev pub IsReadBehind : Node → Path → List NamedEntry → Ty → List NamedEntry → Type 0
IsReadBehind n way before t after = (names : List NamedEntry) × (parameter_read n ≡ Ok (t, names)) × (after ≡ before ++ below_way way names)

-- none, or one name
abbrev pub as_names : Option (List ℕ) → List (List ℕ)
as_names None = []
as_names (Some name) = name ∷ []

-- the one argument of a section, which may have stood before
abbrev pub only_argument : ℕ → Bool → List Node → Read Node
only_argument at true args = Err (fault.Sections at)
only_argument at false (x ∷ []) = Ok x
only_argument at false _ = Err (fault.Arity at)

-- the type and the names that are held
abbrev pub as_parameter : held_parameter.Parameter → Parameter
as_parameter p = (p.ty, p.names)

-- the sections that are held
abbrev pub shown : held_sections.Sections → Sections
shown s = record { parameter = option_map as_parameter s.parameter; storage = s.storage; code = s.code }

-- a fault of the text, or that memory ran out there
abbrev pub of_text : TextFault → ReadFault
of_text text.NoMemory = fault.NoMemory
of_text f = fault.Text f

-- each section, from what stood before
abbrev pub parameter_section : ℕ → List Node → Sections → Read Sections
parameter_section at args s = then_read (once at s.parameter args parameter_read) (λ p. Ok (record s { parameter = Some p }))

-- the storage, where none stood before
abbrev pub storage_section : ℕ → List Node → Sections → Read Sections
storage_section at args s = then_read (once at s.storage args type_read) (λ t. Ok (record s { storage = Some t }))

-- the code, where none stood before
abbrev pub code_section : ℕ → List Node → Sections → Read Sections
code_section at args s = then_read (once at s.code args code_read) (λ c. Ok (record s { code = Some c }))
