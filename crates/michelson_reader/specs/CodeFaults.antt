-- Instructions read from the left: the instruction, or the first fault and its place.
use Rattle.std.specs.Prelude.{ℕ, pos, ◌&&◌, int_le, nat_abs, nat_le, List, [], ◌∷◌, codes, if◌then◌else◌, Option, None, Some, Result, Ok, Err}
use Rattle.std.specs.Option.{option_map_or}
use Rattle.std.specs.Str.{bytes_eq}
use Rattle.value_core.specs.declared.ty.Ty.{Ty}
use Rattle.value_core.specs.declared.val.Val.{Val}
use Rattle.micheline_text.specs.declared.node.Node.{Node}
use Rattle.micheline_text.specs.declared.node.Body.{Body}
use Rattle.micheline_text.specs.declared.node.Body.TheOpen as body
use Rattle.micheline_text.specs.declared.node.Body.TheOpen.{Body-F}
use Rattle.micheline_text.specs.declared.node.Body.TheViews.{out-Body, roll-Body}
use Rattle.micheline_text.specs.declared.node.Body.TheFolds.{fold-Node, map-Body}
use Rattle.michelson_code.specs.declared.instr.Instr.{Instr}
use Rattle.michelson_code.specs.declared.instr.Instr.TheVariants as instr
use Rattle.data_nodes.specs.declared.fault.DataFault.{DataFault}
use Rattle.data_nodes.specs.Faults.{data_read}
use Rattle.michelson_reader.specs.declared.fault.ReadFault.TheVariants as fault
use Rattle.michelson_reader.specs.Entries.{entry_in}
use Rattle.michelson_reader.specs.Names.{forms_of_body, forms_of_number, forms_of_two_bodies, forms_of_type, is_left_out, named, plain_forms}
use Rattle.michelson_reader.specs.TypeFaults.{Read, no_form, then_read, type_read}

-- ---- a number, the name of an entry, and data

-- a number from the least one to 65,535, by the kind of node
abbrev pub number_body : ℕ → ℕ → ℕ → Body-F Body Node → Read ℕ
number_body at least place (body.Int z) =
    if int_le (pos least) z && int_le z (pos 65535) then Ok (nat_abs z) else Err (fault.Arity at)
number_body at least place (body.Prim name notes args) = no_form place name
number_body at least place _ = Err (fault.Arity place)

-- out of range it is told at the instruction, and at itself where it is no number
abbrev pub number : ℕ → ℕ → Node → Read ℕ
number at least n = number_body at least n.at (out-Body n.body)

-- annotations that aren't fit are told at the instruction
abbrev pub entry : ℕ → List (List ℕ) → Read (Option (List ℕ))
entry at notes = option_map_or (λ e. Ok e) (entry_in notes) (Err (fault.Arity at))

-- the first of some finds
abbrev pub first_found : {A : Type 0} → List (Option A) → Option A
first_found [] = None
first_found (None ∷ more) = first_found more
first_found (Some x ∷ more) = Some x

-- one level of a node
abbrev pub left_out_at : Body-F (ℕ → Option (ℕ × List ℕ)) (Option (ℕ × List ℕ)) → ℕ → Option (ℕ × List ℕ)
left_out_at (body.Prim name notes args) at = if is_left_out name then Some (at, name) else first_found args
left_out_at (body.Seq nodes) at = first_found nodes
left_out_at _ at = None

-- the leftmost word in a node that is left out, and its place
abbrev pub left_out_in : Node → Option (ℕ × List ℕ)
left_out_in = fold-Node (ℕ → Option (ℕ × List ℕ)) (Option (ℕ × List ℕ)) left_out_at (λ n. n.body n.at)

-- a word that is left out is told before what is wrong with the data there or behind it
abbrev pub data_fault : {A : Type 0} → DataFault → Option (ℕ × List ℕ) → Read A
data_fault f None = Err (fault.Data f)
data_fault f (Some found) = if nat_le found.0 f.at then Err (fault.LeftOut found.0 found.1) else Err (fault.Data f)

-- what is read of data, or what is told of its fault
abbrev pub told : {A : Type 0} → Node → Result A DataFault → Read A
told n (Ok v) = Ok v
told n (Err f) = data_fault f (left_out_in n)

-- data of a type, as an instruction pushes it
abbrev pub pushed : Ty → Node → Read Val
pushed t n = told n (data_read t n)

-- ---- an instruction

-- what can be read of a node: it itself, an instruction, and a code in braces
pub record Reader : Type 0 where
  pub node : Node
  pub instruction : Read Instr
  pub code : Read (List Instr)

-- instructions one after another
abbrev pub in_order : List Reader → Read (List Instr)
in_order [] = Ok []
in_order (x ∷ more) = then_read x.instruction (λ i. then_read (in_order more) (λ is. Ok (i ∷ is)))

-- a word by itself
abbrev pub alone : ℕ → List ℕ → List (List ℕ) → Read Instr
alone at name notes =
    if bytes_eq name (codes "SELF") then then_read (entry at notes) (λ e. Ok (instr.SelfEntry e))
    else option_map_or (λ i. Ok i) (named name plain_forms) (no_form at name)

-- a word with one argument
abbrev pub with_one : ℕ → List ℕ → List (List ℕ) → Reader → Read Instr
with_one at name notes x =
    if bytes_eq name (codes "CONTRACT") then then_read (entry at notes) (λ e. then_read (type_read x.node) (λ t. Ok (instr.Contract e t)))
    else option_map_or (λ f. then_read (number at f.0 x.node) (λ n. Ok (f.1 n))) (named name forms_of_number)
    (option_map_or (λ f. then_read (type_read x.node) (λ t. Ok (f t))) (named name forms_of_type)
    (option_map_or (λ f. then_read x.code (λ c. Ok (f c))) (named name forms_of_body) (no_form at name)))

-- a word with two arguments
abbrev pub with_two : ℕ → List ℕ → Reader → Reader → Read Instr
with_two at name x y =
    if bytes_eq name (codes "PUSH") then then_read (type_read x.node) (λ t. then_read (pushed t y.node) (λ v. Ok (instr.Push t v)))
    else if bytes_eq name (codes "EMPTY_MAP") then then_read (type_read x.node) (λ k. then_read (type_read y.node) (λ v. Ok (instr.EmptyMap k v)))
    else if bytes_eq name (codes "DIP") then then_read (number at 0 x.node) (λ n. then_read y.code (λ c. Ok (instr.DipN n c)))
    else option_map_or (λ f. then_read x.code (λ c. then_read y.code (λ d. Ok (f c d)))) (named name forms_of_two_bodies) (no_form at name)

-- by how many arguments there are
abbrev pub applied : ℕ → List ℕ → List (List ℕ) → List Reader → Read Instr
applied at name notes [] = alone at name notes
applied at name notes (x ∷ []) = with_one at name notes x
applied at name notes (x ∷ y ∷ []) = with_two at name x y
applied at name notes (x ∷ y ∷ z ∷ more) = no_form at name

-- an instruction, by the kind of node
abbrev pub instruction_at : ℕ → Body-F (ℕ → Reader) Reader → Read Instr
instruction_at at (body.Prim name notes args) = applied at name notes args
instruction_at at _ = Err (fault.Arity at)

-- a code, by the kind of node
abbrev pub code_at : ℕ → Body-F (ℕ → Reader) Reader → Read (List Instr)
code_at at (body.Seq nodes) = in_order nodes
code_at at (body.Prim name notes args) = no_form at name
code_at at _ = Err (fault.Arity at)

-- the body itself
abbrev pub body_of : Body-F (ℕ → Reader) Reader → Body
body_of b = roll-Body (map-Body (ℕ → Reader) Reader Body Node (λ r. (r 0).node.body) (λ r. r.node) b)

-- what can be read of a node with such a body
abbrev pub reader_at : Body-F (ℕ → Reader) Reader → ℕ → Reader
reader_at b at = record { node = record { at = at; body = body_of b }; instruction = instruction_at at b; code = code_at at b }

-- what can be read of the node
abbrev pub reader : Node → Reader
reader = fold-Node (ℕ → Reader) Reader reader_at (λ n. n.body n.at)

-- the instruction that a node is
abbrev pub instruction_read : Node → Read Instr
instruction_read n = (reader n).instruction

-- the code that a node is
abbrev pub code_read : Node → Read (List Instr)
code_read n = (reader n).code
