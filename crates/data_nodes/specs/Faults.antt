-- Data read from the left: the value, or the first fault and its place.
use Rattle.std.specs.Prelude.{ℕ, true, false, nat_le, List, [], ◌∷◌, codes, if◌then◌else◌, Option, None, Ok}
use Rattle.std.specs.Str.{bytes_eq}
use Rattle.value_core.specs.declared.ty.Ty.{Ty}
use Rattle.value_core.specs.declared.ty.Ty.TheOpen as ty
use Rattle.value_core.specs.declared.ty.Ty.TheOpen.{Ty-F}
use Rattle.value_core.specs.declared.ty.Ty.TheViews.{out-Ty}
use Rattle.value_core.specs.declared.val.Val.{Val}
use Rattle.value_core.specs.declared.val.Val.TheVariants as value
use Rattle.value_core.specs.Size.{size_of}
use Rattle.value_core.specs.Sound.{is_countable}
use Rattle.micheline_text.specs.declared.node.Node.{Node}
use Rattle.micheline_text.specs.declared.node.Body.TheOpen as body
use Rattle.micheline_text.specs.declared.node.Body.TheOpen.{Body-F, Node-F}
use Rattle.micheline_text.specs.declared.node.Body.TheFolds.{fold-Node}
use Rattle.data_nodes.specs.declared.fault.DataKind.TheVariants.{Shape, Order, TooLarge}
use Rattle.value_core.specs.Lasts.{is_above}
use Rattle.data_nodes.specs.Readers.{Read, Reader, ascending, bytes, entries, fault, items, made, number, pair, string, then_read}

-- nodes in braces; a list, a set and a map have fewer than 2^32 of them
abbrev pub sequence : ℕ → List Reader → Ty → Ty-F Ty → Read Val
sequence at nodes t (ty.Pair a b) = pair at nodes t
sequence at nodes t (ty.List item) = if is_countable nodes then made value.List (items item nodes) else fault Shape at
sequence at nodes t (ty.Set item) = if is_countable nodes then made value.Set (ascending item None nodes) else fault Shape at
sequence at nodes t (ty.Map k v) = if is_countable nodes then made value.Map (entries k v None nodes) else fault Shape at
sequence at nodes t _ = fault Shape at

-- ---- words with their arguments

-- a word by itself
abbrev pub alone : ℕ → List ℕ → Ty-F Ty → Read Val
alone at name ty.Unit = if bytes_eq name (codes "Unit") then Ok value.Unit else fault Shape at
alone at name ty.Bool =
    if bytes_eq name (codes "True") then Ok (value.Bool true) else if bytes_eq name (codes "False") then Ok (value.Bool false) else fault Shape at
alone at name (ty.Option t) = if bytes_eq name (codes "None") then Ok value.Nothing else fault Shape at
alone at name _ = fault Shape at

-- a word with one argument
abbrev pub with_one : ℕ → List ℕ → Reader → Ty-F Ty → Read Val
with_one at name x (ty.Option t) = if bytes_eq name (codes "Some") then made value.Some (x.value t) else fault Shape at
with_one at name x (ty.Or s t) =
    if bytes_eq name (codes "Left") then made value.Left (x.value s) else if bytes_eq name (codes "Right") then made value.Right (x.value t) else fault Shape at
with_one at name x _ = fault Shape at

-- by how many arguments there are
abbrev pub applied : ℕ → List ℕ → List Reader → Ty → Read Val
applied at name [] t = alone at name (out-Ty t)
applied at name (x ∷ []) t = with_one at name x (out-Ty t)
applied at name (x ∷ y ∷ more) t = if bytes_eq name (codes "Pair") then pair at (x ∷ y ∷ more) t else fault Shape at

-- ---- a node

-- data of a type, by the kind of node
abbrev pub value_at : ℕ → Body-F (ℕ → Reader) Reader → Ty → Read Val
value_at at (body.Int z) t = number at z (out-Ty t)
value_at at (body.Text s) t = string at s (out-Ty t)
value_at at (body.Bytes b) t = bytes at b (out-Ty t)
value_at at (body.Prim name notes args) t = applied at name args t
value_at at (body.Seq nodes) t = sequence at nodes t (out-Ty t)

-- `Elt k v`: the order is tested at the key, before the value is read
abbrev pub key_and_value : Reader → Reader → Option Val → Ty → Ty → Read (Val × Val)
key_and_value x y last k v = then_read (x.value k) (λ key.
    if is_above last key then then_read (y.value v) (λ value. Ok (key, value)) else fault Order x.place)

-- a word with its arguments, as an entry
abbrev pub entry_of : ℕ → List ℕ → List Reader → Option Val → Ty → Ty → Read (Val × Val)
entry_of at name (x ∷ y ∷ []) last k v = if bytes_eq name (codes "Elt") then key_and_value x y last k v else fault Shape at
entry_of at name _ last k v = fault Shape at

-- an entry, by the kind of node
abbrev pub entry_at : ℕ → Body-F (ℕ → Reader) Reader → Option Val → Ty → Ty → Read (Val × Val)
entry_at at (body.Prim name notes args) last k v = entry_of at name args last k v
entry_at at _ last k v = fault Shape at

-- what can be read of the node
abbrev pub reader : Node → Reader
reader = fold-Node (ℕ → Reader) Reader (λ b at. record { place = at; value = value_at at b; entry = entry_at at b }) (λ n. n.body n.at)

-- data of any size
abbrev pub storage_read : Ty → Node → Read Val
storage_read t n = (reader n).value t

-- data of at most 4,096 leaves
abbrev pub data_read : Ty → Node → Read Val
data_read t n = then_read (storage_read t n) (λ v. if nat_le (size_of v) 4096 then Ok v else fault TooLarge n.at)
