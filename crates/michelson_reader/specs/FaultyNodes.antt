-- When a node of a script is faulty by itself, whatever stands in its parts, and what is told there.
use Rattle.std.specs.Prelude.{◌≡◌, ℕ, pos, ◌≤◌, ◌⊎◌, false, ◌&&◌, int_le, length, List, Option, None, Some, if◌then◌else◌}
use Rattle.value_core.specs.declared.ty.Ty.{Ty}
use Rattle.value_core.specs.declared.ty.Ty.TheOpen as ty
use Rattle.value_core.specs.declared.ty.Ty.TheOpen.{Ty-F}
use Rattle.micheline_text.specs.declared.node.Node.{Node}
use Rattle.micheline_text.specs.declared.node.Body.{Body}
use Rattle.micheline_text.specs.declared.node.Body.TheOpen as body
use Rattle.micheline_text.specs.declared.node.Body.TheOpen.{Body-F}
use Rattle.michelson_code.specs.declared.instr.Instr.{Instr}
use Rattle.michelson_code.specs.Forms.{form_of}
use Rattle.michelson_reader.specs.declared.fault.ReadFault.{ReadFault}
use Rattle.michelson_reader.specs.declared.fault.ReadFault.TheVariants as fault
use Rattle.michelson_reader.specs.Entries.{entry_in}
use Rattle.michelson_reader.specs.Names.{is_known, is_left_out}
use Rattle.michelson_reader.specs.Types.{word_and_parts}

-- one level of a node
abbrev pub Level : Type 0
Level = Body-F Body Node

-- a type or an instruction is written with the word; this is what `is_known` decides
abbrev pub IsKnownWord : List ℕ → Type 0
IsKnownWord name = ((x : Ty-F Ty) × ((word_and_parts x).0 ≡ name)) ⊎ ((i : Instr) × ((form_of i).word ≡ name))

-- what is told of a word that can't stand there: whether it is left out or unknown comes before anything else
abbrev pub word_fault : ℕ → List ℕ → ReadFault
word_fault at name = if is_known name then fault.Arity at else if is_left_out name then fault.LeftOut at name else fault.UnknownPrim at

-- what is told of a node that can't stand there
abbrev pub level_fault : ℕ → Level → ReadFault
level_fault at (body.Prim name notes args) = word_fault at name
level_fault at _ = fault.Arity at

-- ---- types, and annotations

-- so many parts stand behind the word of a type; two or more behind that of a pair
abbrev pub TakesParts : Ty-F Ty → ℕ → Type 0
TakesParts (ty.Pair s t) count = 2 ≤ count
TakesParts x count = length (word_and_parts x).1 ≡ count

-- no type has the word and so many parts
abbrev pub HasNoType : List ℕ → ℕ → Type 0
HasNoType name count = (x : Ty-F Ty) → (word_and_parts x).0 ≡ name → TakesParts x count → ⊥

-- a node that no type is written as, whatever its parts are
abbrev pub IsNoType : Level → Type 0
IsNoType (body.Prim name notes args) = HasNoType name (length args)
IsNoType _ = Unit {0}

-- the annotations aren't fit for a name of an entry
abbrev pub IsUnfit : Level → Type 0
IsUnfit (body.Prim name notes args) = entry_in notes ≡ None
IsUnfit _ = ⊥

-- ---- instructions, by the table of forms, and codes

-- no instruction has the word, and so many operands
abbrev pub HasNoForm : List ℕ → ℕ → Type 0
HasNoForm name count = (i : Instr) → (form_of i).word ≡ name → length (form_of i).operands ≡ count → ⊥

-- this one has them
abbrev pub IsOfForm : List ℕ → ℕ → Instr → Type 0
IsOfForm name count i = ((form_of i).word ≡ name) × (length (form_of i).operands ≡ count)

-- the word takes the name of an entry, for which the annotations aren't fit
abbrev pub IsUnfitFor : Option (Option (List ℕ)) → List (List ℕ) → Type 0
IsUnfitFor None notes = ⊥
IsUnfitFor (Some e) notes = entry_in notes ≡ None

-- a node that no instruction is written as, whatever its parts are
abbrev pub IsNoInstruction : Level → Type 0
IsNoInstruction (body.Prim name notes args) =
    HasNoForm name (length args) ⊎ ((i : Instr) × IsOfForm name (length args) i × IsUnfitFor (form_of i).entry notes)
IsNoInstruction _ = Unit {0}

-- a code stands in braces
abbrev pub IsNoCode : Level → Type 0
IsNoCode (body.Seq nodes) = ⊥
IsNoCode _ = Unit {0}

-- ---- numbers

-- not a numeral
abbrev pub IsNoNumber : Level → Type 0
IsNoNumber (body.Int z) = ⊥
IsNoNumber _ = Unit {0}

-- below the least number, or above 65,535
abbrev pub IsOutOfRange : ℕ → Level → Type 0
IsOutOfRange least (body.Int z) = (int_le (pos least) z && int_le z (pos 65535)) ≡ false
IsOutOfRange least _ = ⊥
