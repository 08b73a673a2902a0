-- Types read from the left: the type, or the first fault and its place.
use Rattle.std.specs.Prelude.{ℕ, List, [], ◌∷◌, codes, if◌then◌else◌, Result, Ok, Err}
use Rattle.std.specs.Option.{option_map_or}
use Rattle.std.specs.Str.{bytes_eq}
use Rattle.value_core.specs.declared.ty.Ty.{Ty}
use Rattle.value_core.specs.declared.ty.Ty.TheVariants as type
use Rattle.micheline_text.specs.declared.node.Node.{Node}
use Rattle.micheline_text.specs.declared.node.Body.TheOpen as body
use Rattle.micheline_text.specs.declared.node.Body.TheOpen.{Body-F}
use Rattle.micheline_text.specs.declared.node.Body.TheFolds.{fold-Node}
pub use Rattle.data_nodes.specs.Readers.{then_read}
use Rattle.michelson_reader.specs.declared.fault.ReadFault.{ReadFault}
use Rattle.michelson_reader.specs.declared.fault.ReadFault.TheVariants as fault
use Rattle.michelson_reader.specs.Names.{is_known, is_left_out, named, plain_types, types_of_one, types_of_two}

-- what is read, or the first fault
abbrev pub Read : Type 0 → Type 0
Read A = Result A ReadFault

-- a node with a word that can't stand there, or not with so many arguments: a known word is told as Arity
abbrev pub no_form : {A : Type 0} → ℕ → List ℕ → Read A
no_form at name =
    if is_known name then Err (fault.Arity at) else if is_left_out name then Err (fault.LeftOut at name) else Err (fault.UnknownPrim at)

-- the parts of a comb
abbrev pub comb : Read Ty → List (Read Ty) → Read Ty
comb x [] = x
comb x (y ∷ more) = then_read x (λ s. then_read (comb y more) (λ t. Ok (type.Pair s t)))

-- by how many arguments there are
abbrev pub applied : ℕ → List ℕ → List (Read Ty) → Read Ty
applied at name [] = option_map_or (λ t. Ok t) (named name plain_types) (no_form at name)
applied at name (x ∷ []) = option_map_or (λ f. then_read x (λ t. Ok (f t))) (named name types_of_one) (no_form at name)
applied at name (x ∷ y ∷ []) = option_map_or (λ f. then_read x (λ s. then_read y (λ t. Ok (f s t)))) (named name types_of_two) (no_form at name)
applied at name (x ∷ y ∷ z ∷ more) = if bytes_eq name (codes "pair") then comb x (y ∷ z ∷ more) else no_form at name

-- by the kind of node
abbrev pub type_at : Body-F (ℕ → Read Ty) (Read Ty) → ℕ → Read Ty
type_at (body.Prim name notes args) at = applied at name args
type_at _ at = Err (fault.Arity at)

-- the type that a node is
abbrev pub type_read : Node → Read Ty
type_read = fold-Node (ℕ → Read Ty) (Read Ty) type_at (λ n. n.body n.at)
