-- The grammar of data: which nodes are written for which value.
use Rattle.std.specs.Prelude.{pos, Bool, false, ◌&&◌, IsTrue, [], ◌∷◌, map, codes, if◌then◌else◌}
use Rattle.std.specs.Str.{bytes_eq}
use Rattle.value_core.specs.declared.ty.Ty.{Ty}
use Rattle.value_core.specs.declared.val.Val.{Val}
use Rattle.value_core.specs.declared.val.Val.TheOpen as one
use Rattle.value_core.specs.Layer.{Layer, by_level}
use Rattle.value_core.specs.Leaves.{is_address}
use Rattle.value_core.specs.Typed.{has_type}
use Rattle.micheline_text.specs.declared.node.Node.{Node}
use Rattle.micheline_text.specs.declared.node.Body.{Body}
use Rattle.micheline_text.specs.declared.node.Body.TheOpen as body
use Rattle.micheline_text.specs.declared.node.Body.TheOpen.{Body-F}
use Rattle.micheline_text.specs.declared.node.Body.TheViews.{out-Body}
use Rattle.data_nodes.specs.Nodes.{Test, are_items, is_applied, is_bytes, is_numeral, is_sequence, is_string}

-- `Pair a b`, `Pair a b c` for `Pair a (Pair b c)`, and the same items in braces
abbrev pub is_comb_body : Test → Test → Body-F Body Node → Bool
is_comb_body first rest (body.Prim name notes args) = bytes_eq name (codes "Pair") && are_items (codes "Pair") first rest args
is_comb_body first rest (body.Seq nodes) = are_items (codes "Pair") first rest nodes
is_comb_body first rest _ = false

-- a node with these items, in either way
abbrev pub is_comb : Test → Test → Test
is_comb first rest n = is_comb_body first rest (out-Body n.body)

-- `Elt k v`
abbrev pub is_entry : Test × Test → Test
is_entry e = is_applied (codes "Elt") (e.0 ∷ e.1 ∷ [])

-- one level of a value, with what is written for each part in its place; bytes are an address only where they spell one
abbrev pub written_level : Layer Test → Test
written_level one.Unit = is_applied (codes "Unit") []
written_level (one.Bool b) = is_applied (if b then codes "True" else codes "False") []
written_level (one.Int z) = is_numeral z
written_level (one.Nat z) = is_numeral z
written_level (one.Mutez n) = is_numeral (pos n)
written_level (one.Time z) = is_numeral z
written_level (one.Text s) = is_string s
written_level (one.Bytes b) = is_bytes b
written_level (one.Addr address) = λ n. is_address address && is_bytes address n
written_level one.Nothing = is_applied (codes "None") []
written_level (one.Some part) = is_applied (codes "Some") (part ∷ [])
written_level (one.Left part) = is_applied (codes "Left") (part ∷ [])
written_level (one.Right part) = is_applied (codes "Right") (part ∷ [])
written_level (one.Pair a b) = is_comb a b
written_level (one.List items) = is_sequence items
written_level (one.Set items) = is_sequence items
written_level (one.Map entries) = is_sequence (map is_entry entries)
written_level _ = λ n. false

-- the node is written for the value
abbrev pub is_written : Val → Test
is_written = by_level written_level

-- the node is data of the type: a value of it, ranges and order of items included, written so
abbrev pub IsData : Ty → Node → Val → Type 0
IsData t n v = IsTrue (has_type v t) × IsTrue (is_written v n)
