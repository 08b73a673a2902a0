-- What the kinds of types make of their parts, and which words are those of instructions.
use Rattle.std.specs.Prelude.{ℕ, ◌||◌, Bool, List}
use Rattle.std.specs.List.{list_any}
use Rattle.std.specs.Str.{bytes_eq}
use Rattle.value_core.specs.declared.ty.Ty.{Ty}
use Rattle.value_core.specs.declared.ty.Ty.TheVariants as type
use Rattle.michelson_reader.specs.declared.type_words.TypeOfOne.{TypeOfOne}
use Rattle.michelson_reader.specs.declared.type_words.TypeOfOne.TheVariants as one_part
use Rattle.michelson_reader.specs.declared.type_words.TypeOfTwo.{TypeOfTwo}
use Rattle.michelson_reader.specs.declared.type_words.TypeOfTwo.TheVariants as two_parts
use Rattle.michelson_reader.specs.Names.{forms_of_body, forms_of_number, forms_of_two_bodies, forms_of_type, is_in, other_forms, plain_forms}

-- with one part
abbrev pub type_of_one : TypeOfOne → Ty → Ty
type_of_one one_part.Option = type.Option
type_of_one one_part.List = type.List
type_of_one one_part.Set = type.Set
type_of_one one_part.Contract = type.Contract

-- with two
abbrev pub type_of_two : TypeOfTwo → Ty → Ty → Ty
type_of_two two_parts.Or = type.Or
type_of_two two_parts.Pair = type.Pair
type_of_two two_parts.Map = type.Map
type_of_two two_parts.BigMap = type.BigMap

-- a word of an instruction
abbrev pub is_code_word : List ℕ → Bool
is_code_word name =
    is_in name plain_forms || is_in name forms_of_number || is_in name forms_of_type || is_in name forms_of_body || is_in name forms_of_two_bodies
    || list_any (bytes_eq name) other_forms
