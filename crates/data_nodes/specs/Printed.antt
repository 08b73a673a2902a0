-- The node that is printed for a value.
use Rattle.std.specs.Prelude.{ℕ, pos, Bool, ◌&&◌, IsTrue, List, [], ◌∷◌, map, codes, if◌then◌else◌}
use Rattle.value_core.specs.declared.ty.Ty.{Ty}
use Rattle.value_core.specs.declared.val.Val.{Val}
use Rattle.value_core.specs.declared.val.Val.TheOpen as one
use Rattle.value_core.specs.Layer.{Layer, by_level}
use Rattle.value_core.specs.BigMaps.{has_no_big_map}
use Rattle.value_core.specs.Sound.{is_plain}
use Rattle.value_core.specs.Typed.{has_type}
use Rattle.micheline_text.specs.declared.node.Node.{Node}
use Rattle.micheline_text.specs.declared.node.Body.TheVariants as body
use Rattle.micheline_text.specs.Text.{IsTextOf}
use Rattle.data_nodes.specs.Nodes.{applied, node, word}
use Rattle.data_nodes.specs.Data.{IsData}
use Rattle.data_nodes.specs.Storage.{IsStorage}

-- one level of a value, with the node of each part in its place; what isn't data is printed as `{}`
abbrev pub printed_level : Layer Node → Node
printed_level one.Unit = word (codes "Unit")
printed_level (one.Bool b) = word (if b then codes "True" else codes "False")
printed_level (one.Int z) = node (body.Int z)
printed_level (one.Nat z) = node (body.Int z)
printed_level (one.Mutez n) = node (body.Int (pos n))
printed_level (one.Time z) = node (body.Int z)
printed_level (one.Text s) = node (body.Text s)
printed_level (one.Bytes b) = node (body.Bytes b)
printed_level (one.Addr address) = node (body.Bytes address)
printed_level one.Nothing = word (codes "None")
printed_level (one.Some part) = applied (codes "Some") (part ∷ [])
printed_level (one.Left part) = applied (codes "Left") (part ∷ [])
printed_level (one.Right part) = applied (codes "Right") (part ∷ [])
printed_level (one.Pair a b) = applied (codes "Pair") (a ∷ b ∷ [])
printed_level (one.List items) = node (body.Seq items)
printed_level (one.Set items) = node (body.Seq items)
printed_level (one.Map entries) = node (body.Seq (map (λ e. applied (codes "Elt") (e.0 ∷ e.1 ∷ [])) entries))
printed_level _ = node (body.Seq [])

-- the node of a value
abbrev pub node_of : Val → Node
node_of = by_level printed_level

-- plain, and without big maps
abbrev pub is_printed_whole : Val → Bool
is_printed_whole v = is_plain v && has_no_big_map v

-- the text is one of a node that is data of each type of the value, and a storage of each, without entries
abbrev pub IsReadAgain : List ℕ → Val → Type 0
IsReadAgain text v = (n : Node) × IsTextOf text (n ∷ []) × ((t : Ty) → IsTrue (has_type v t) → IsData t n v × IsStorage t n (v, []))
