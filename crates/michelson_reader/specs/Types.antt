-- The grammar of types: which nodes are written for which type, one line for each type.
use Rattle.std.specs.Prelude.{ℕ, Bool, false, ◌&&◌, IsTrue, List, [], ◌∷◌, codes}
use Rattle.std.specs.Str.{bytes_eq}
use Rattle.value_core.specs.declared.ty.Ty.{Ty}
use Rattle.value_core.specs.declared.ty.Ty.TheOpen as ty
use Rattle.value_core.specs.declared.ty.Ty.TheOpen.{Ty-F}
use Rattle.value_core.specs.declared.ty.Ty.TheFolds.{fold-Ty}
use Rattle.micheline_text.specs.declared.node.Node.{Node}
use Rattle.micheline_text.specs.declared.node.Body.{Body}
use Rattle.micheline_text.specs.declared.node.Body.TheOpen as body
use Rattle.micheline_text.specs.declared.node.Body.TheOpen.{Body-F}
use Rattle.micheline_text.specs.declared.node.Body.TheViews.{out-Body}
use Rattle.micheline_text.specs.Text.{IsTextOf}
use Rattle.data_nodes.specs.Nodes.{Test, are_items, is_applied}

-- the table of types: the word, and the parts behind it
abbrev pub word_and_parts : {A : Type 0} → Ty-F A → List ℕ × List A
word_and_parts ty.Unit = (codes "unit", [])
word_and_parts ty.Bool = (codes "bool", [])
word_and_parts ty.Int = (codes "int", [])
word_and_parts ty.Nat = (codes "nat", [])
word_and_parts ty.Mutez = (codes "mutez", [])
word_and_parts ty.Time = (codes "timestamp", [])
word_and_parts ty.Text = (codes "string", [])
word_and_parts ty.Bytes = (codes "bytes", [])
word_and_parts ty.Addr = (codes "address", [])
word_and_parts (ty.Option t) = (codes "option", t ∷ [])
word_and_parts (ty.Or s t) = (codes "or", s ∷ t ∷ [])
word_and_parts (ty.Pair s t) = (codes "pair", s ∷ t ∷ [])
word_and_parts (ty.List t) = (codes "list", t ∷ [])
word_and_parts (ty.Set t) = (codes "set", t ∷ [])
word_and_parts (ty.Map k v) = (codes "map", k ∷ v ∷ [])
word_and_parts (ty.BigMap k v) = (codes "big_map", k ∷ v ∷ [])
word_and_parts (ty.Contract t) = (codes "contract", t ∷ [])
word_and_parts ty.Operation = (codes "operation", [])

-- one level of a node that is a pair
abbrev pub is_pair_body : Test → Test → Body-F Body Node → Bool
is_pair_body first rest (body.Prim name notes args) =
    bytes_eq name (codes "pair") && are_items (codes "pair") first rest args
is_pair_body first rest _ = false

-- `pair a b`, and `pair a b c` for `pair a (pair b c)`
abbrev pub is_pair : Test → Test → Test
is_pair first rest n = is_pair_body first rest (out-Body n.body)

-- one level of a type, with what is written for each part in its place
abbrev pub type_level : Ty-F Test → Test
type_level (ty.Pair s t) = is_pair s t
type_level x = is_applied (word_and_parts x).0 (word_and_parts x).1

-- the node is written for the type
abbrev pub is_type : Ty → Test
is_type = fold-Ty Test type_level

-- the bytes are a text of one node, which is written for the type
abbrev pub IsTypeText : List ℕ → Ty → Type 0
IsTypeText bytes t = (n : Node) × IsTextOf bytes (n ∷ []) × IsTrue (is_type t n)
