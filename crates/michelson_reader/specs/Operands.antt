-- Instructions with operands, each by what is read of them.
use Rattle.std.specs.Prelude.{ℕ, List, Option, None, Some, Ok}
use Rattle.std.specs.Option.{option_map}
use Rattle.micheline_text.specs.declared.node.Node.{Node}
use Rattle.michelson_code.specs.declared.instr.Instr.{Instr}
use Rattle.michelson_code.specs.declared.instr.Instr.TheVariants as instr
use Rattle.michelson_reader.specs.CodeFaults.{code_read, entry, number, pushed}
use Rattle.michelson_reader.specs.Names.{forms_of_body, forms_of_number, forms_of_two_bodies, forms_of_type, named}
use Rattle.michelson_reader.specs.TypeFaults.{Read, no_form, then_read, type_read}

-- the instruction of a word, or that the word has no such form
abbrev pub formed : ℕ → List ℕ → Option Instr → Read Instr
formed at name (Some i) = Ok i
formed at name None = no_form at name

-- `CONTRACT %e t`
abbrev pub contract_read : ℕ → List (List ℕ) → Node → Read Instr
contract_read at notes x = then_read (entry at notes) (λ e. then_read (type_read x) (λ t. Ok (instr.Contract e t)))

-- a word with a number from the least one on
abbrev pub number_form : ℕ → List ℕ → ℕ → Node → Read Instr
number_form at name least x = then_read (number at least x) (λ n. formed at name (option_map (λ f. f.1 n) (named name forms_of_number)))

-- a word with a type
abbrev pub type_form : ℕ → List ℕ → Node → Read Instr
type_form at name x = then_read (type_read x) (λ t. formed at name (option_map (λ f. f t) (named name forms_of_type)))

-- a word with a body
abbrev pub body_form : ℕ → List ℕ → Node → Read Instr
body_form at name x = then_read (code_read x) (λ c. formed at name (option_map (λ f. f c) (named name forms_of_body)))

-- `PUSH t v`
abbrev pub push_read : Node → Node → Read Instr
push_read x y = then_read (type_read x) (λ t. then_read (pushed t y) (λ v. Ok (instr.Push t v)))

-- `EMPTY_MAP k v`
abbrev pub empty_map_read : Node → Node → Read Instr
empty_map_read x y = then_read (type_read x) (λ k. then_read (type_read y) (λ v. Ok (instr.EmptyMap k v)))

-- `DIP n c`
abbrev pub dip_read : ℕ → Node → Node → Read Instr
dip_read at x y = then_read (number at 0 x) (λ n. then_read (code_read y) (λ c. Ok (instr.DipN n c)))

-- a word with two bodies
abbrev pub bodies_form : ℕ → List ℕ → Node → Node → Read Instr
bodies_form at name x y = then_read (code_read x) (λ c. then_read (code_read y) (λ d. formed at name (option_map (λ f. f c d) (named name forms_of_two_bodies))))
