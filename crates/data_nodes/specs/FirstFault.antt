-- Which faults stand in a node, each at a node that is faulty by itself in the role of its place, and which one is the first.
use Rattle.std.specs.Prelude.{◌≡◌, ℕ, ◌+◌, ◌^◌, ◌<◌, ◌⊎◌, Bool, false, ◌&&◌, ◌||◌, IsSomeAnd, List, [], ◌∷◌, Option, None, Some, codes, if◌then◌else◌, int_le, int_lt, length, map, nat_le, pos, slice_get}
use Rattle.std.specs.Str.{bytes_eq}
use Rattle.std.specs.Ordering.{is_lt}
use Rattle.value_core.specs.declared.ty.Ty.{Ty}
use Rattle.value_core.specs.declared.ty.Ty.TheOpen as ty
use Rattle.value_core.specs.declared.ty.Ty.TheOpen.{Ty-F}
use Rattle.value_core.specs.declared.ty.Ty.TheViews.{out-Ty}
use Rattle.value_core.specs.declared.ty.Ty.TheFolds.{fold-Ty}
use Rattle.value_core.specs.declared.val.Val.{Val}
use Rattle.value_core.specs.Leaves.{is_address}
use Rattle.value_core.specs.Order.{order}
use Rattle.value_core.specs.Size.{size_of}
use Rattle.value_core.specs.Sound.{is_countable}
use Rattle.micheline_text.specs.declared.node.Node.{Node}
use Rattle.micheline_text.specs.declared.node.Body.{Body}
use Rattle.micheline_text.specs.declared.node.Body.TheOpen as body
use Rattle.micheline_text.specs.declared.node.Body.TheOpen.{Body-F}
use Rattle.micheline_text.specs.declared.node.Body.TheViews.{out-Body}
use Rattle.data_nodes.specs.declared.fault.DataFault.{DataFault}
use Rattle.data_nodes.specs.declared.fault.DataKind.{DataKind}
use Rattle.data_nodes.specs.declared.fault.DataKind.TheVariants.{Shape, Range, Order, TooLarge}
use Rattle.data_nodes.specs.Data.{IsData}

-- what a node is by its place: data of a type, or an entry of a map; and the data or the key that must stand below it, if there is any
pub data Role : Type 0 where
  OfType : Ty → Option Node → Role
  EntryOf : Ty → Ty → Option Node → Role

-- ---- a node by itself

-- this kind, where the test fails
abbrev pub unless : Bool → DataKind → Option DataKind
unless good kind = if good then None else Some kind

-- how many pairs a type has on its right
abbrev pub level_pairs : Ty-F ℕ → ℕ
level_pairs (ty.Pair s t) = 1 + t
level_pairs _ = 0

-- of a type
abbrev pub pairs_of : Ty → ℕ
pairs_of = fold-Ty ℕ level_pairs

-- two items or more, and no more than the type has
abbrev pub are_items_of : Ty → List Node → Bool
are_items_of t nodes = nat_le 2 (length nodes) && nat_le (length nodes) (1 + pairs_of t)

-- what is wrong with a node as data of a type, whatever stands in its parts
abbrev pub fault_here : Ty → Ty-F Ty → Body-F Body Node → Option DataKind
fault_here t ty.Unit (body.Prim name notes []) = unless (bytes_eq name (codes "Unit")) Shape
fault_here t ty.Bool (body.Prim name notes []) = unless (bytes_eq name (codes "True") || bytes_eq name (codes "False")) Shape
fault_here t ty.Int (body.Int z) = None
fault_here t ty.Nat (body.Int z) = unless (int_le (pos 0) z) Range
fault_here t ty.Mutez (body.Int z) = unless (int_le (pos 0) z && int_lt z (pos (2 ^ 63))) Range
fault_here t ty.Time (body.Int z) = None
fault_here t ty.Text (body.Text s) = None
fault_here t ty.Bytes (body.Bytes b) = None
fault_here t ty.Addr (body.Bytes b) = unless (is_address b) Shape
fault_here t (ty.Option u) (body.Prim name notes []) = unless (bytes_eq name (codes "None")) Shape
fault_here t (ty.Option u) (body.Prim name notes (x ∷ [])) = unless (bytes_eq name (codes "Some")) Shape
fault_here t (ty.Or s u) (body.Prim name notes (x ∷ [])) = unless (bytes_eq name (codes "Left") || bytes_eq name (codes "Right")) Shape
fault_here t (ty.Pair s u) (body.Prim name notes args) = unless (bytes_eq name (codes "Pair") && are_items_of t args) Shape
fault_here t (ty.Pair s u) (body.Seq nodes) = unless (are_items_of t nodes) Shape
fault_here t (ty.List u) (body.Seq nodes) = unless (is_countable nodes) Shape
fault_here t (ty.Set u) (body.Seq nodes) = unless (is_countable nodes) Shape
fault_here t (ty.Map k v) (body.Seq nodes) = unless (is_countable nodes) Shape
fault_here t _ _ = Some Shape

-- and as an entry
abbrev pub entry_fault : Body-F Body Node → Option DataKind
entry_fault (body.Prim name notes (x ∷ y ∷ [])) = unless (bytes_eq name (codes "Elt")) Shape
entry_fault _ = Some Shape

-- both are data of the type, and the second isn't above the first
abbrev pub IsOutOfOrder : Ty → Option Node → Node → Type 0
IsOutOfOrder t None n = ⊥
IsOutOfOrder t (Some m) n = (a b : Val) × IsData t m a × IsData t n b × (is_lt (order a b) ≡ false)

-- the node is faulty by itself in its role
abbrev pub IsFaulty : Role → Node → DataKind → Type 0
IsFaulty (OfType t before) n kind = (fault_here t (out-Ty t) (out-Body n.body) ≡ Some kind) ⊎ ((kind ≡ Order) × IsOutOfOrder t before n)
IsFaulty (EntryOf k v before) n kind = entry_fault (out-Body n.body) ≡ Some kind

-- ---- the parts of a node, each with its role

-- a part of a node: its role, and the node that stands there
abbrev pub Part : Type 0
Part = Role × Node

-- data of the type, behind nothing
abbrev pub part : Ty → Node → Part
part t n = (OfType t None, n)

-- the first item at a pair's first type, and the others at its second
abbrev pub pair_parts : Node → (Ty → List Part) → Ty-F Ty → List Part
pair_parts x others (ty.Pair s u) = part s x ∷ others u
pair_parts x others _ = []

-- the items of a comb, each at its type
abbrev pub comb_parts : List Node → Ty → List Part
comb_parts [] t = []
comb_parts (x ∷ []) t = part t x ∷ []
comb_parts (x ∷ y ∷ more) t = pair_parts x (comb_parts (y ∷ more)) (out-Ty t)

-- each item of a set above the one before
abbrev pub set_parts : Ty → Option Node → List Node → List Part
set_parts t before [] = []
set_parts t before (x ∷ more) = (OfType t before, x) ∷ set_parts t (Some x) more

-- the key in an entry
abbrev pub key_here : Body-F Body Node → Option Node
key_here (body.Prim name notes (x ∷ y ∷ [])) = Some x
key_here _ = None

-- each key of a map above the one before
abbrev pub map_parts : Ty → Ty → Option Node → List Node → List Part
map_parts k v before [] = []
map_parts k v before (x ∷ more) = (EntryOf k v before, x) ∷ map_parts k v (key_here (out-Body x.body)) more

-- the parts of data of a type
abbrev pub parts_here : Ty → Ty-F Ty → Body-F Body Node → List Part
parts_here t (ty.Option u) (body.Prim name notes (x ∷ [])) = part u x ∷ []
parts_here t (ty.Or s u) (body.Prim name notes (x ∷ [])) = part (if bytes_eq name (codes "Left") then s else u) x ∷ []
parts_here t (ty.Pair s u) (body.Prim name notes args) = comb_parts args t
parts_here t (ty.Pair s u) (body.Seq nodes) = comb_parts nodes t
parts_here t (ty.List u) (body.Seq nodes) = map (part u) nodes
parts_here t (ty.Set u) (body.Seq nodes) = set_parts u None nodes
parts_here t (ty.Map k v) (body.Seq nodes) = map_parts k v None nodes
parts_here t _ _ = []

-- the key and the value of an entry
abbrev pub entry_parts : Ty → Ty → Option Node → Body-F Body Node → List Part
entry_parts k v before (body.Prim name notes (x ∷ y ∷ [])) = (OfType k before, x) ∷ part v y ∷ []
entry_parts k v before _ = []

-- the parts of a node by its role
abbrev pub parts_of : Role → Node → List Part
parts_of (OfType t before) n = parts_here t (out-Ty t) (out-Body n.body)
parts_of (EntryOf k v before) n = entry_parts k v before (out-Body n.body)

-- ---- faults at their places

-- a place in a node: which part, in it which part, and so on
abbrev pub Place : Type 0
Place = List ℕ

-- the fault stands at the place, and is told at the offset of the node there
abbrev pub IsFaultAt : Place → Role → Node → DataFault → Type 0
IsFaultAt [] role n f = IsFaulty role n f.kind × (f.at ≡ n.at)
IsFaultAt (i ∷ place) role n f = IsSomeAnd (slice_get (parts_of role n) i) (λ p. IsFaultAt place p.0 p.1 f)

-- a node stands before those in it, and these before what stands further right
abbrev pub IsBefore : Place → Place → Type 0
IsBefore [] [] = ⊥
IsBefore [] (j ∷ q) = Unit {0}
IsBefore (i ∷ p) [] = ⊥
IsBefore (i ∷ p) (j ∷ q) = (i < j) ⊎ ((i ≡ j) × IsBefore p q)

-- of these faults, each at its places, it is the one that stands before all others
abbrev pub IsFirstOf : {F : Type 0} → (Place → F → Type 0) → F → Type 0
IsFirstOf {F} Stands f = (p : Place) × Stands p f × ((q : Place) (g : F) → Stands q g → ((p ≡ q) × (f ≡ g)) ⊎ IsBefore p q)

-- the first fault of a node as data of a type
abbrev pub IsFirstFault : Ty → Node → DataFault → Type 0
IsFirstFault t n = IsFirstOf (λ p f. IsFaultAt p (OfType t None) n f)

-- why a node isn't read as data: its first fault, or that it is data of more than 4,096 leaves
abbrev pub IsDataFault : Ty → Node → DataFault → Type 0
IsDataFault t n f = IsFirstFault t n f ⊎ ((f ≡ record { at = n.at; kind = TooLarge }) × ((v : Val) × IsData t n v × (4096 < size_of v)))
