-- Types and what is read of nodes as types, one level at a time, and induction on the parts of a type.
use Rattle.std.proofs.Common.{◌≡◌, ℕ, List, refl, ap, subst, ◌∙◌}
use Rattle.value_core.specs.declared.ty.Ty.{Ty}
use Rattle.value_core.specs.declared.ty.Ty.TheOpen as ty
use Rattle.value_core.specs.declared.ty.Ty.TheOpen.{Ty-F}
use Rattle.value_core.specs.declared.ty.Ty.TheViews.{out-Ty}
use Rattle.value_core.specs.declared.ty.Ty.TheFolds.{fold_out-Ty, map-Ty}
use Rattle.micheline_text.specs.declared.node.Node.{Node}
use Rattle.micheline_text.specs.declared.node.Body.{Body}
use Rattle.micheline_text.specs.declared.node.Body.TheOpen.{Body-F, Node-F}
use Rattle.micheline_text.specs.declared.node.Body.TheViews.{out-Body}
use Rattle.micheline_text.specs.declared.node.Body.TheFolds.{fold-Body, fold_out-Body, fold-roll-Node, map-Body}
use Rattle.data_nodes.specs.Nodes.{Test}
use Rattle.value_core.specs.TypeLevels as types
pub use Rattle.value_core.specs.TypeLevels.{Each, out-roll, roll-out}
use Rattle.michelson_reader.specs.TypeFaults.{Read, type_at, type_read}
use Rattle.michelson_reader.specs.Types.{is_type, type_level, word_and_parts}

-- ---- what is read of a node

abbrev body_type : Body → ℕ → Read Ty
body_type = fold-Body (ℕ → Read Ty) (Read Ty) type_at (λ n. n.body n.at)

one_node : Node → Node-F Body Node
one_node n = record { at = n.at; body = n.body }

read_is : (n : Node) → type_read n ≡ body_type n.body n.at
unfolding one_node
read_is n = fold-roll-Node (ℕ → Read Ty) (Read Ty) type_at (λ m. m.body m.at) (one_node n)

-- one level of a node, with what is read in the place of each part
abbrev pub read_parts : Body-F Body Node → Body-F (ℕ → Read Ty) (Read Ty)
read_parts = map-Body Body Node (ℕ → Read Ty) (Read Ty) body_type type_read

pub type_read-level : (n : Node) → type_read n ≡ type_at (read_parts (out-Body n.body)) n.at
type_read-level n = read_is n ∙ ap (λ (f : ℕ → Read Ty). f n.at) (fold_out-Body (ℕ → Read Ty) (Read Ty) type_at (λ m. m.body m.at) n.body)

-- ---- the types a node is written for

pub is_type-level : (t : Ty) (n : Node) → is_type t n ≡ type_level (map-Ty Ty Test is_type (out-Ty t)) n
is_type-level t n = ap (λ (f : Test). f n) (fold_out-Ty Test type_level t)

-- ---- parts of types

abbrev pub parts_of : {A : Type 0} → Ty-F A → List A
parts_of x = (word_and_parts x).1

same_parts : (x : Ty-F Ty) → types.types_in x ≡ parts_of x
same_parts (ty.Option t) = refl
same_parts _ = refl

-- what holds of a type where it holds of its parts holds of each type
pub induction : (P : Ty → Type 0) → ((t : Ty) → Each P (parts_of (out-Ty t)) → P t) → (t : Ty) → P t
induction P step = types.induction P (λ t h. step t (subst (λ (ts : List Ty). Each P ts) (same_parts (out-Ty t)) h))
