-- What is read of a node as data is told by its first fault, and there is none where a value is read.
use Rattle.std.proofs.Common.{◌≡◌, ℕ, ℤ, suc, ◌+◌, ◌^◌, ◌<◌, ◌⊎◌, inl, inr, Bool, true, false, List, [], ◌∷◌, Option, None, Some, Result, Ok, Err, codes, length, map, pos, refl, sym, ap, subst, ◌∙◌, arith}
use Rattle.std.specs.Prelude.{IfErr, ◌&&◌, ◌||◌, if◌then◌else◌, int_le, int_lt, nat_abs, nat_le, nat_lt}
use Rattle.std.specs.Str.{bytes_eq}
use Rattle.std.specs.Ordering.{is_lt}
use Rattle.std.proofs.lemmas.Bool.Decides.{nat_tests}
use Rattle.std.proofs.lemmas.List.{length-map}
use Rattle.value_core.specs.declared.ty.Ty.{Ty}
use Rattle.value_core.specs.declared.ty.Ty.TheOpen as ty
use Rattle.value_core.specs.declared.ty.Ty.TheOpen.{Ty-F}
use Rattle.value_core.specs.declared.ty.Ty.TheViews.{out-Ty}
use Rattle.value_core.specs.declared.val.Val.{Val}
use Rattle.value_core.specs.declared.val.Val.TheVariants as value
use Rattle.value_core.specs.Leaves.{is_address}
use Rattle.value_core.specs.Order.{order}
use Rattle.value_core.specs.Size.{size_of}
use Rattle.value_core.specs.Sound.{is_countable}
use Rattle.value_core.specs.TypeLevels.{fold-at}
use Rattle.micheline_text.specs.declared.node.Node.{Node}
use Rattle.micheline_text.specs.declared.node.Body.{Body}
use Rattle.micheline_text.specs.declared.node.Body.TheOpen as body
use Rattle.micheline_text.specs.declared.node.Body.TheOpen.{Body-F}
use Rattle.micheline_text.specs.declared.node.Body.TheViews.{out-Body}
use Rattle.data_nodes.specs.declared.fault.DataFault.{DataFault}
use Rattle.data_nodes.specs.declared.fault.DataKind.{DataKind}
use Rattle.data_nodes.specs.declared.fault.DataKind.TheVariants.{Shape, Range, Order, TooLarge}
use Rattle.data_nodes.specs.declared.fault.DataRefusal.{DataRefusal}
use Rattle.data_nodes.specs.declared.fault.DataRefusal.TheVariants.{Fault, NoMemory}
use Rattle.micheline_text.specs.Told.{AnswersUnlessFull}
use Rattle.data_nodes.specs.Told.{Tells, node_fault}
use Rattle.data_nodes.specs.Data.{IsData}
use Rattle.value_core.specs.Lasts.{is_above}
use Rattle.data_nodes.specs.Readers.{Read, Reader, ascending, at_second, bytes, comb, entries, fault, is_comb_of, items, made, number, pair, pair_of, string, then_read}
use Rattle.data_nodes.specs.Faults.{alone, applied, data_read, entry_at, key_and_value, reader, sequence, storage_read, value_at, with_one}
use Rattle.data_nodes.specs.FirstFault.{IsBefore, IsDataFault, IsFaulty, IsFirstFault, IsFirstOf, IsOutOfOrder, OfType, EntryOf, Part, Place, IsFaultAt, are_items_of, comb_parts, entry_fault, entry_parts, fault_here, key_here, level_pairs, map_parts, pair_parts, pairs_of, part, parts_here, parts_of, set_parts, unless}
use Rattle.data_nodes.proofs.DataLaws.{data_is_read, read_is_data}
use Rattle.data_nodes.proofs.ItemLaws.{if_ok, then_ok}
use Rattle.data_nodes.proofs.NodeInduction as nodes
use Rattle.data_nodes.proofs.NodeInduction.{Each, induction}
use Rattle.data_nodes.proofs.NodeLevels.{reader-level, readers}
use Rattle.data_nodes.proofs.ToldFaults.{InParts, Told, both_told, either_told, faulty_told, guarded_told, mapped_told, no_part, single_told, sound_told, then_told}

-- ---- roles

abbrev AsData : Ty → Option Node → Node → Place → DataFault → Type 0
AsData t before n p f = IsFaultAt p (OfType t before) n f

abbrev AsEntry : Ty → Ty → Option Node → Node → Place → DataFault → Type 0
AsEntry k v before n p f = IsFaultAt p (EntryOf k v before) n f

-- the last value was read of the node before, if there is one
abbrev IsBehind : Ty → Option Node → Option Val → Type 0
IsBehind t None None = Unit {0}
IsBehind t (Some m) (Some a) = storage_read t m ≡ Ok a
IsBehind t _ _ = ⊥

-- what is read of the node is told by its faults, in each role
record AreTold (n : Node) : Type 0 where
  pub value : (t : Ty) → Told (AsData t None n) (storage_read t n)
  pub entry : (k v : Ty) (before : Option Node) (last : Option Val) → IsBehind k before last → Told (AsEntry k v before n) ((reader n).entry last k v)

-- ---- data behind other data

abbrev item_read : Ty → Option Val → Node → Read Val
item_read t last n = then_read (storage_read t n) (λ v. if is_above last v then Ok v else fault Order n.at)

module _ (t : Ty) (n : Node) where
  widened : (before : Option Node) (p : Place) (f : DataFault) → AsData t None n p f → AsData t before n p f
  widened before [] f s = (elim s.0 [ inl e ↦ inl e | inr o ↦ absurd o.1 ], s.1)
  widened before (i ∷ p) f s = s

  unread : (before : Option Node) (f : DataFault) → storage_read t n ≡ Err f → IsOutOfOrder t before n → ⊥
  unread None f e o = o
  unread (Some m) f e o = let read = data_is_read t n o.1 o.3 in absurd cc

  narrowed : (before : Option Node) (f : DataFault) → storage_read t n ≡ Err f → (p : Place) (g : DataFault) → AsData t before n p g → AsData t None n p g
  narrowed before f e [] g s = (elim s.0 [ inl own ↦ inl own | inr o ↦ absurd (unread before f e o.1) ], s.1)
  narrowed before f e (i ∷ p) g s = s

  in_order : (before : Option Node) (last : Option Val) (v : Val) → IsBehind t before last → storage_read t n ≡ Ok v → is_above last v ≡ true → IsOutOfOrder t before n → ⊥
  in_order None last v behind e above o = o
  in_order (Some m) None v behind e above o = behind
  in_order (Some m) (Some last) v behind e above o =
      let first = data_is_read t m o.0 o.2 in
      let second = data_is_read t n o.1 o.3 in
      let same : o.0 ≡ last = cc in
      let other : o.1 ≡ v = cc in
      let up : is_lt (order o.0 o.1) ≡ true = (λ i. is_lt (order (same i) (other i))) ∙ above in
      absurd cc

  above_told : (before : Option Node) (last : Option Val) (v : Val) → IsBehind t before last → storage_read t n ≡ Ok v → is_above last v ≡ true →
      ((p : Place) (f : DataFault) → AsData t None n p f → ⊥) → (p : Place) (f : DataFault) → AsData t before n p f → ⊥
  above_told before last v behind e above none [] f s = elim s.0 [ inl own ↦ none [] f (inl own, s.1) | inr o ↦ in_order before last v behind e above o.1 ]
  above_told before last v behind e above none (i ∷ p) f s = none (i ∷ p) f s

  abbrev out_of_order : DataFault
  out_of_order = record { at = n.at; kind = Order }

  only_order : (before : Option Node) → ((p : Place) (f : DataFault) → AsData t None n p f → ⊥) → (q : Place) (g : DataFault) → AsData t before n q g →
      (([] ≡ q) × (out_of_order ≡ g)) ⊎ IsBefore [] q
  only_order before none [] g s = elim s.0 [
    | inl own ↦ absurd (none [] g (inl own, s.1))
    | inr o ↦ inl (refl, λ i. record { at = sym s.1 i; kind = sym o.0 i })
  ]
  only_order before none (j ∷ q) g s = inr tt

  not_above : (before : Option Node) (last : Option Val) (v : Val) → IsBehind t before last → storage_read t n ≡ Ok v → is_above last v ≡ false →
      ((p : Place) (f : DataFault) → AsData t None n p f → ⊥) → IsFirstOf (AsData t before n) out_of_order
  not_above None None v behind e above none = absurd cc
  not_above None (Some last) v behind e above none = absurd behind
  not_above (Some m) None v behind e above none = absurd behind
  not_above (Some m) (Some last) v behind e above none =
      ([], (inr (refl, (last, v, read_is_data t m last behind, read_is_data t n v e, above)), refl), λ q g s. only_order (Some m) none q g s)

  ordered_told : (before : Option Node) (last : Option Val) (v : Val) (b : Bool) → IsBehind t before last → storage_read t n ≡ Ok v → is_above last v ≡ b →
      ((p : Place) (f : DataFault) → AsData t None n p f → ⊥) → (let r : Read Val = if b then Ok v else fault Order n.at in Told (AsData t before n) r)
  ordered_told before last v true behind e above none = above_told before last v behind e above none
  ordered_told before last v false behind e above none = not_above before last v behind e above none

  item_from : (before : Option Node) (last : Option Val) → IsBehind t before last → (r : Read Val) → storage_read t n ≡ r → Told (AsData t None n) r →
      Told (AsData t before n) (then_read r (λ v. if is_above last v then Ok v else fault Order n.at))
  item_from before last behind (Ok v) e told = ordered_told before last v (is_above last v) behind e refl told
  item_from before last behind (Err f) e told = (told.0, widened before told.0 f told.1, λ q g s. told.2 q g (narrowed before f e q g s))

  item_told : (before : Option Node) (last : Option Val) → IsBehind t before last → Told (AsData t None n) (storage_read t n) → Told (AsData t before n) (item_read t last n)
  item_told before last behind told = item_from before last behind (storage_read t n) refl told

  item_ok : (last : Option Val) (v : Val) → item_read t last n ≡ Ok v → storage_read t n ≡ Ok v
  item_ok last v h =
      let one = then_ok (storage_read t n) (λ w. if is_above last w then Ok w else fault Order n.at) v h in
      let both = if_ok (is_above last one.0) (Ok one.0) _ v one.2 in
      one.1 ∙ both.1

regrouped : {A B : Type 0} (test : A → Bool) (k : A → Read B) (e : DataFault) (r : Read A) →
    then_read r (λ v. if test v then k v else Err e) ≡ then_read (then_read r (λ v. if test v then Ok v else Err e)) k
regrouped test k e (Ok v) = elim (test v) as (λ b. (if b then k v else Err e) ≡ then_read (if b then Ok v else Err e) k) [ true ↦ refl | false ↦ refl ]
regrouped test k e (Err f) = refl

place_is : (n : Node) → (reader n).place ≡ n.at
place_is n = ap (λ (r : Reader). r.place) (reader-level n)

-- data and what is read behind it, with its order tested in between
tested_is : {B : Type 0} (t : Ty) (last : Option Val) (n : Node) (k : Val → Read B) →
    then_read (storage_read t n) (λ v. if is_above last v then k v else fault Order (reader n).place) ≡ then_read (item_read t last n) k
tested_is t last n k =
    ap (λ (at : ℕ). then_read (storage_read t n) (λ v. if is_above last v then k v else fault Order at)) (place_is n)
    ∙ regrouped (is_above last) k (record { at = n.at; kind = Order }) (storage_read t n)

-- ---- lists, sets and combs

items_told : (u : Ty) (ns : List Node) → Each AreTold ns → Told (InParts (map (part u) ns)) (items u (map reader ns))
items_told u [] h = no_part
items_told u (n ∷ ns) h =
    then_told (part u n) (map (part u) ns) (storage_read u n) (λ v. then_read (items u (map reader ns)) (λ vs. Ok (v ∷ vs))) (h.0.value u)
    (λ v ok. mapped_told (InParts (map (part u) ns)) (items u (map reader ns)) (λ vs. v ∷ vs) (items_told u ns h.1))

set_told : (u : Ty) (before : Option Node) (last : Option Val) (ns : List Node) → IsBehind u before last → Each AreTold ns →
    Told (InParts (set_parts u before ns)) (ascending u last (map reader ns))
set_told u before last [] behind h = no_part
set_told u before last (n ∷ ns) behind h =
    let rest : Val → Read (List Val) = λ v. then_read (ascending u (Some v) (map reader ns)) (λ vs. Ok (v ∷ vs)) in
    subst (Told (InParts (set_parts u before (n ∷ ns)))) (sym (tested_is u last n rest))
    (then_told (OfType u before, n) (set_parts u (Some n) ns) (item_read u last n) rest (item_told u n before last behind (h.0.value u))
    (λ v ok. mapped_told (InParts (set_parts u (Some n) ns)) (ascending u (Some v) (map reader ns)) (λ vs. v ∷ vs) (set_told u (Some n) (Some v) ns (item_ok u n last v ok) h.1)))

module _ (at : ℕ) where
  pair_told : (x : Node) (more : List Node) (τ : Ty-F Ty) → AreTold x → at_second false (is_comb_of (map reader more)) τ ≡ true →
      ((u : Ty) → is_comb_of (map reader more) u ≡ true → Told (InParts (comb_parts more u)) (comb at (map reader more) u)) →
      Told (InParts (pair_parts x (comb_parts more) τ)) (pair_of at (reader x) (comb at (map reader more)) τ)
  pair_told x more (ty.Pair s u) h few others =
      then_told (part s x) (comb_parts more u) (storage_read s x) (λ a. then_read (comb at (map reader more) u) (λ b. Ok (value.Pair a b))) (h.value s)
      (λ a ok. mapped_told (InParts (comb_parts more u)) (comb at (map reader more) u) (value.Pair a) (others u few))
  pair_told x more τ h few others = absurd cc

  comb_told : (ns : List Node) (t : Ty) → Each AreTold ns → is_comb_of (map reader ns) t ≡ true → Told (InParts (comb_parts ns t)) (comb at (map reader ns) t)
  comb_told [] t h few = absurd cc
  comb_told (x ∷ []) t h few = single_told (part t x) (storage_read t x) (h.0.value t)
  comb_told (x ∷ y ∷ more) t h few = pair_told x (y ∷ more) (out-Ty t) h.0 few (λ u fewer. comb_told (y ∷ more) u h.1 fewer)

-- ---- maps

module _ (k v : Ty) where
  entry_level : (before : Option Node) (last : Option Val) (n : Node) (b : Body-F Body Node) → out-Body n.body ≡ b → IsBehind k before last → Each AreTold (nodes.parts_of b) →
      Told (AsEntry k v before n) (entry_at n.at (readers b) last k v)
  entry_level before last n (body.Prim name notes (x ∷ y ∷ [])) e behind h =
      let rest : Val → Read (Val × Val) = λ key. then_read (storage_read v y) (λ item. Ok (key, item)) in
      let own : entry_fault (out-Body n.body) ≡ unless (bytes_eq name (codes "Elt")) Shape = ap entry_fault e in
      let told : Told (InParts ((OfType k before, x) ∷ part v y ∷ [])) (key_and_value (reader x) (reader y) last k v) =
      subst (Told (InParts ((OfType k before, x) ∷ part v y ∷ []))) (sym (tested_is k last x rest))
      (then_told (OfType k before, x) (part v y ∷ []) (item_read k last x) rest (item_told k x before last behind (h.0.value k))
      (λ key ok. mapped_told (InParts (part v y ∷ [])) (storage_read v y) (λ item. (key, item)) (single_told (part v y) (storage_read v y) (h.1.0.value v)))) in
      guarded_told (EntryOf k v before) n (entry_fault (out-Body n.body)) (λ kind own. own) (λ kind own. own) (bytes_eq name (codes "Elt")) Shape
      (key_and_value (reader x) (reader y) last k v) own (λ good. subst (λ (ps : List Part). Told (InParts ps) (key_and_value (reader x) (reader y) last k v)) (sym (ap (entry_parts k v before) e)) told)
  entry_level before last n (body.Prim name notes []) e behind h = faulty_told (EntryOf k v before) n (entry_fault (out-Body n.body)) (λ kind own. own) (λ kind own. own) Shape (ap entry_fault e)
  entry_level before last n (body.Prim name notes (x ∷ [])) e behind h = faulty_told (EntryOf k v before) n (entry_fault (out-Body n.body)) (λ kind own. own) (λ kind own. own) Shape (ap entry_fault e)
  entry_level before last n (body.Prim name notes (x ∷ y ∷ z ∷ more)) e behind h = faulty_told (EntryOf k v before) n (entry_fault (out-Body n.body)) (λ kind own. own) (λ kind own. own) Shape (ap entry_fault e)
  entry_level before last n b e behind h = faulty_told (EntryOf k v before) n (entry_fault (out-Body n.body)) (λ kind own. own) (λ kind own. own) Shape (ap entry_fault e)

  key_level : (last : Option Val) (n : Node) (b : Body-F Body Node) (e : Val × Val) → entry_at n.at (readers b) last k v ≡ Ok e → IsBehind k (key_here b) (Some e.0)
  key_level last n (body.Prim name notes (x ∷ y ∷ [])) e h =
      let word = if_ok (bytes_eq name (codes "Elt")) (key_and_value (reader x) (reader y) last k v) _ e h in
      let key = then_ok (storage_read k x) (λ key. if is_above last key then then_read (storage_read v y) (λ item. Ok (key, item)) else fault Order (reader x).place) e word.1 in
      let up = if_ok (is_above last key.0) (then_read (storage_read v y) (λ item. Ok (key.0, item))) _ e key.2 in
      let item = then_ok (storage_read v y) (λ item. Ok (key.0, item)) e up.1 in
      let both : (key.0, item.0) ≡ e = cc in
      let first : key.0 ≡ e.0 = ap (λ (p : Val × Val). p.0) both in
      key.1 ∙ ap (λ (a : Val). Ok a) first
  key_level last n (body.Prim name notes []) e h = absurd cc
  key_level last n (body.Prim name notes (x ∷ [])) e h = absurd cc
  key_level last n (body.Prim name notes (x ∷ y ∷ z ∷ more)) e h = absurd cc
  key_level last n b e h = absurd cc

  key_read : (last : Option Val) (n : Node) (e : Val × Val) → (reader n).entry last k v ≡ Ok e → IsBehind k (key_here (out-Body n.body)) (Some e.0)
  key_read last n e h = key_level last n (out-Body n.body) e (sym (ap (λ (r : Reader). r.entry last k v) (reader-level n)) ∙ h)

  map_told : (before : Option Node) (last : Option Val) (ns : List Node) → IsBehind k before last → Each AreTold ns →
      Told (InParts (map_parts k v before ns)) (entries k v last (map reader ns))
  map_told before last [] behind h = no_part
  map_told before last (n ∷ ns) behind h =
      let key = key_here (out-Body n.body) in
      then_told (EntryOf k v before, n) (map_parts k v key ns) ((reader n).entry last k v) (λ e. then_read (entries k v (Some e.0) (map reader ns)) (λ es. Ok (e ∷ es)))
      (h.0.entry k v before last behind)
      (λ e ok. mapped_told (InParts (map_parts k v key ns)) (entries k v (Some e.0) (map reader ns)) (λ es. e ∷ es) (map_told key (Some e.0) ns (key_read last n e ok) h.1))

-- ---- as many items as a type has

pairs_at : (t : Ty) (τ : Ty-F Ty) → out-Ty t ≡ τ → (x y : Node) (more : List Node) → ((u : Ty) → nat_le (length (y ∷ more)) (1 + pairs_of u) ≡ is_comb_of (map reader (y ∷ more)) u) →
    nat_le (length (x ∷ y ∷ more)) (1 + pairs_of t) ≡ at_second false (is_comb_of (map reader (y ∷ more))) τ
pairs_at t (ty.Pair s u) e x y more others =
    let count : pairs_of t ≡ 1 + pairs_of u = fold-at level_pairs t (ty.Pair s u) e in
    ap (λ (k : ℕ). nat_le (length (x ∷ y ∷ more)) (1 + k)) count ∙ one_less (length (y ∷ more)) (pairs_of u) ∙ others u
  where
    one_less : (m k : ℕ) → nat_le (suc m) (1 + (1 + k)) ≡ nat_le m (1 + k)
    one_less m k = grind (arith, nat_tests)
pairs_at t τ e x y more others =
    let count : pairs_of t ≡ 0 = fold-at level_pairs t τ e in
    ap (λ (k : ℕ). nat_le (length (x ∷ y ∷ more)) (1 + k)) count ∙ too_many (length more)
  where
    too_many : (m : ℕ) → nat_le (suc (suc m)) (1 + 0) ≡ false
    too_many m = grind (arith, nat_tests)

one_item : (k : ℕ) → nat_le 1 (1 + k) ≡ true
one_item k = grind (arith, nat_tests)

counted : (x : Node) (more : List Node) (t : Ty) → nat_le (length (x ∷ more)) (1 + pairs_of t) ≡ is_comb_of (map reader (x ∷ more)) t
counted x [] t = one_item (pairs_of t)
counted x (y ∷ more) t = pairs_at t (out-Ty t) refl x y more (λ u. counted y more u)

two_or_more : (m : ℕ) → nat_le 2 (suc (suc m)) ≡ true
two_or_more m = grind (arith, nat_tests)

items_counted : (x y : Node) (more : List Node) (t : Ty) → are_items_of t (x ∷ y ∷ more) ≡ is_comb_of (map reader (x ∷ y ∷ more)) t
items_counted x y more t = (λ i. two_or_more (length more) i && counted x (y ∷ more) t i)

countable_same : (ns : List Node) → is_countable ns ≡ is_countable (map reader ns)
countable_same ns = ap (λ (m : ℕ). nat_lt m (2 ^ 32)) (sym (length-map ns reader))

-- ---- each kind of node

no_items : (b : Bool) → unless (b && false) Shape ≡ Some Shape
no_items true = refl
no_items false = refl

same_if : {A : Type 0} (b : Bool) (r : Read A) → (if b then r else r) ≡ r
same_if true r = refl
same_if false r = refl

module _ (t : Ty) (n : Node) where
  makes : (kind : DataKind) → fault_here t (out-Ty t) (out-Body n.body) ≡ Some kind → IsFaulty (OfType t None) n kind
  makes kind e = inl e

  comes : (kind : DataKind) → IsFaulty (OfType t None) n kind → fault_here t (out-Ty t) (out-Body n.body) ≡ Some kind
  comes kind s = elim s [ inl e ↦ e | inr o ↦ absurd o.1 ]

  module _ (τ : Ty-F Ty) (b : Body-F Body Node) (type_is : out-Ty t ≡ τ) (body_is : out-Body n.body ≡ b) where
    own_is : fault_here t (out-Ty t) (out-Body n.body) ≡ fault_here t τ b
    own_is = λ i. fault_here t (type_is i) (body_is i)

    in_parts : (r : Read Val) → Told (InParts (parts_here t τ b)) r → Told (InParts (parts_of (OfType t None) n)) r
    in_parts r told = subst (λ (ps : List Part). Told (InParts ps) r) (sym (λ i. parts_here t (type_is i) (body_is i))) told

    wrong : (kind : DataKind) → fault_here t τ b ≡ Some kind → IsFirstOf (AsData t None n) (record { at = n.at; kind = kind })
    wrong kind e = faulty_told (OfType t None) n (fault_here t (out-Ty t) (out-Body n.body)) makes comes kind (own_is ∙ e)

    right : (r : Read Val) → fault_here t τ b ≡ None → Told (InParts (parts_here t τ b)) r → Told (AsData t None n) r
    right r e told = sound_told (OfType t None) n (fault_here t (out-Ty t) (out-Body n.body)) makes comes r (own_is ∙ e) (in_parts r told)

    guarded : (good : Bool) (kind : DataKind) (r : Read Val) → fault_here t τ b ≡ unless good kind → (good ≡ true → Told (InParts (parts_here t τ b)) r) →
        Told (AsData t None n) (if good then r else fault kind n.at)
    guarded good kind r e told = guarded_told (OfType t None) n (fault_here t (out-Ty t) (out-Body n.body)) makes comes good kind r (own_is ∙ e) (λ g. in_parts r (told g))

    both : (a c : Bool) (kind : DataKind) (r : Read Val) → fault_here t τ b ≡ unless (a && c) kind → (a ≡ true → c ≡ true → Told (InParts (parts_here t τ b)) r) →
        Told (AsData t None n) (if a then if c then r else fault kind n.at else fault kind n.at)
    both a c kind r e told = both_told (OfType t None) n (fault_here t (out-Ty t) (out-Body n.body)) makes comes a c kind r (own_is ∙ e) (λ g h. in_parts r (told g h))

    either : (a c : Bool) (kind : DataKind) (x y : Read Val) → fault_here t τ b ≡ unless (a || c) kind → (a ≡ true → Told (InParts (parts_here t τ b)) x) →
        (a ≡ false → c ≡ true → Told (InParts (parts_here t τ b)) y) → Told (AsData t None n) (if a then x else if c then y else fault kind n.at)
    either a c kind x y e first second =
        either_told (OfType t None) n (fault_here t (out-Ty t) (out-Body n.body)) makes comes a c kind x y (own_is ∙ e) (λ g. in_parts x (first g)) (λ g h. in_parts y (second g h))

  -- ---- literals

  number_told : (z : ℤ) (τ : Ty-F Ty) → out-Ty t ≡ τ → out-Body n.body ≡ body.Int z → Told (AsData t None n) (number n.at z τ)
  number_told z ty.Int e b = right ty.Int (body.Int z) e b (Ok (value.Int z)) refl no_part
  number_told z ty.Time e b = right ty.Time (body.Int z) e b (Ok (value.Time z)) refl no_part
  number_told z ty.Nat e b = guarded ty.Nat (body.Int z) e b (int_le (pos 0) z) Range (Ok (value.Nat z)) refl (λ g. no_part)
  number_told z ty.Mutez e b = guarded ty.Mutez (body.Int z) e b (int_le (pos 0) z && int_lt z (pos (2 ^ 63))) Range (Ok (value.Mutez (nat_abs z))) refl (λ g. no_part)
  number_told z τ e b = wrong τ (body.Int z) e b Shape refl

  string_told : (s : List ℕ) (τ : Ty-F Ty) → out-Ty t ≡ τ → out-Body n.body ≡ body.Text s → Told (AsData t None n) (string n.at s τ)
  string_told s ty.Text e b = right ty.Text (body.Text s) e b (Ok (value.Text s)) refl no_part
  string_told s τ e b = wrong τ (body.Text s) e b Shape refl

  bytes_told : (s : List ℕ) (τ : Ty-F Ty) → out-Ty t ≡ τ → out-Body n.body ≡ body.Bytes s → Told (AsData t None n) (bytes n.at s τ)
  bytes_told s ty.Bytes e b = right ty.Bytes (body.Bytes s) e b (Ok (value.Bytes s)) refl no_part
  bytes_told s ty.Addr e b = guarded ty.Addr (body.Bytes s) e b (is_address s) Shape (Ok (value.Addr s)) refl (λ g. no_part)
  bytes_told s τ e b = wrong τ (body.Bytes s) e b Shape refl

  -- ---- words

  module _ (name : List ℕ) (notes : List (List ℕ)) where
    alone_told : (τ : Ty-F Ty) → out-Ty t ≡ τ → out-Body n.body ≡ body.Prim name notes [] → Told (AsData t None n) (alone n.at name τ)
    alone_told ty.Unit e b = guarded ty.Unit (body.Prim name notes []) e b (bytes_eq name (codes "Unit")) Shape (Ok value.Unit) refl (λ g. no_part)
    alone_told ty.Bool e b =
        either ty.Bool (body.Prim name notes []) e b (bytes_eq name (codes "True")) (bytes_eq name (codes "False")) Shape (Ok (value.Bool true)) (Ok (value.Bool false)) refl (λ g. no_part) (λ g h. no_part)
    alone_told (ty.Option u) e b = guarded (ty.Option u) (body.Prim name notes []) e b (bytes_eq name (codes "None")) Shape (Ok value.Nothing) refl (λ g. no_part)
    alone_told (ty.Pair s u) e b = wrong (ty.Pair s u) (body.Prim name notes []) e b Shape (no_items (bytes_eq name (codes "Pair")))
    alone_told τ e b = wrong τ (body.Prim name notes []) e b Shape refl

    one_told : (x : Node) → AreTold x → (τ : Ty-F Ty) → out-Ty t ≡ τ → out-Body n.body ≡ body.Prim name notes (x ∷ []) → Told (AsData t None n) (with_one n.at name (reader x) τ)
    one_told x h (ty.Option u) e b =
        guarded (ty.Option u) (body.Prim name notes (x ∷ [])) e b (bytes_eq name (codes "Some")) Shape (made value.Some (storage_read u x)) refl
        (λ g. mapped_told (InParts (part u x ∷ [])) (storage_read u x) value.Some (single_told (part u x) (storage_read u x) (h.value u)))
    one_told x h (ty.Or s u) e b =
        let lefts = mapped_told (InParts (part s x ∷ [])) (storage_read s x) value.Left (single_told (part s x) (storage_read s x) (h.value s)) in
        let rights = mapped_told (InParts (part u x ∷ [])) (storage_read u x) value.Right (single_told (part u x) (storage_read u x) (h.value u)) in
        either (ty.Or s u) (body.Prim name notes (x ∷ [])) e b (bytes_eq name (codes "Left")) (bytes_eq name (codes "Right")) Shape (made value.Left (storage_read s x)) (made value.Right (storage_read u x)) refl
        (λ g. subst (λ (c : Bool). Told (InParts (part (if c then s else u) x ∷ [])) (made value.Left (storage_read s x))) (sym g) lefts)
        (λ g k. subst (λ (c : Bool). Told (InParts (part (if c then s else u) x ∷ [])) (made value.Right (storage_read u x))) (sym g) rights)
    one_told x h (ty.Pair s u) e b = wrong (ty.Pair s u) (body.Prim name notes (x ∷ [])) e b Shape (no_items (bytes_eq name (codes "Pair")))
    one_told x h τ e b = wrong τ (body.Prim name notes (x ∷ [])) e b Shape refl

    more_told : (x y : Node) (more : List Node) → Each AreTold (x ∷ y ∷ more) → (τ : Ty-F Ty) → out-Ty t ≡ τ → out-Body n.body ≡ body.Prim name notes (x ∷ y ∷ more) →
        Told (AsData t None n) (applied n.at name (map reader (x ∷ y ∷ more)) t)
    more_told x y more h (ty.Pair s u) e b =
        both (ty.Pair s u) (body.Prim name notes (x ∷ y ∷ more)) e b (bytes_eq name (codes "Pair")) (is_comb_of (map reader (x ∷ y ∷ more)) t) Shape (comb n.at (map reader (x ∷ y ∷ more)) t)
        (ap (λ (c : Bool). unless (bytes_eq name (codes "Pair") && c) Shape) (items_counted x y more t)) (λ g few. comb_told n.at (x ∷ y ∷ more) t h few)
    more_told x y more h τ e b =
        let none : is_comb_of (map reader (x ∷ y ∷ more)) t ≡ false = ap (at_second false (is_comb_of (map reader (y ∷ more)))) e in
        let read : applied n.at name (map reader (x ∷ y ∷ more)) t ≡ fault Shape n.at =
        ap (λ (c : Bool). if bytes_eq name (codes "Pair") then if c then comb n.at (map reader (x ∷ y ∷ more)) t else fault Shape n.at else fault Shape n.at) none
        ∙ same_if (bytes_eq name (codes "Pair")) (fault Shape n.at) in
        subst (Told (AsData t None n)) (sym read) (wrong τ (body.Prim name notes (x ∷ y ∷ more)) e b Shape refl)

  -- ---- braces

  braced_pair_told : (ns : List Node) (s u : Ty) → Each AreTold ns → out-Ty t ≡ ty.Pair s u → out-Body n.body ≡ body.Seq ns → Told (AsData t None n) (pair n.at (map reader ns) t)
  braced_pair_told [] s u h e b = wrong (ty.Pair s u) (body.Seq []) e b Shape refl
  braced_pair_told (x ∷ []) s u h e b = wrong (ty.Pair s u) (body.Seq (x ∷ [])) e b Shape refl
  braced_pair_told (x ∷ y ∷ more) s u h e b =
      guarded (ty.Pair s u) (body.Seq (x ∷ y ∷ more)) e b (is_comb_of (map reader (x ∷ y ∷ more)) t) Shape (comb n.at (map reader (x ∷ y ∷ more)) t)
      (ap (λ (c : Bool). unless c Shape) (items_counted x y more t)) (λ few. comb_told n.at (x ∷ y ∷ more) t h few)

  sequence_told : (ns : List Node) (τ : Ty-F Ty) → Each AreTold ns → out-Ty t ≡ τ → out-Body n.body ≡ body.Seq ns → Told (AsData t None n) (sequence n.at (map reader ns) t τ)
  sequence_told ns (ty.Pair s u) h e b = braced_pair_told ns s u h e b
  sequence_told ns (ty.List u) h e b =
      guarded (ty.List u) (body.Seq ns) e b (is_countable (map reader ns)) Shape (made value.List (items u (map reader ns))) (ap (λ (c : Bool). unless c Shape) (countable_same ns))
      (λ few. mapped_told (InParts (map (part u) ns)) (items u (map reader ns)) value.List (items_told u ns h))
  sequence_told ns (ty.Set u) h e b =
      guarded (ty.Set u) (body.Seq ns) e b (is_countable (map reader ns)) Shape (made value.Set (ascending u None (map reader ns))) (ap (λ (c : Bool). unless c Shape) (countable_same ns))
      (λ few. mapped_told (InParts (set_parts u None ns)) (ascending u None (map reader ns)) value.Set (set_told u None None ns tt h))
  sequence_told ns (ty.Map k v) h e b =
      guarded (ty.Map k v) (body.Seq ns) e b (is_countable (map reader ns)) Shape (made value.Map (entries k v None (map reader ns))) (ap (λ (c : Bool). unless c Shape) (countable_same ns))
      (λ few. mapped_told (InParts (map_parts k v None ns)) (entries k v None (map reader ns)) value.Map (map_told k v None None ns tt h))
  sequence_told ns τ h e b = wrong τ (body.Seq ns) e b Shape refl

  value_told : (b : Body-F Body Node) → out-Body n.body ≡ b → Each AreTold (nodes.parts_of b) → Told (AsData t None n) (value_at n.at (readers b) t)
  value_told (body.Int z) b h = number_told z (out-Ty t) refl b
  value_told (body.Text s) b h = string_told s (out-Ty t) refl b
  value_told (body.Bytes s) b h = bytes_told s (out-Ty t) refl b
  value_told (body.Prim name notes []) b h = alone_told name notes (out-Ty t) refl b
  value_told (body.Prim name notes (x ∷ [])) b h = one_told name notes x h.0 (out-Ty t) refl b
  value_told (body.Prim name notes (x ∷ y ∷ more)) b h = more_told name notes x y more h (out-Ty t) refl b
  value_told (body.Seq ns) b h = sequence_told ns (out-Ty t) h refl b

-- ---- all nodes

are_told : (n : Node) → AreTold n
are_told = induction AreTold (λ n h. record {
  value = λ t. subst (Told (AsData t None n)) (sym (ap (λ (r : Reader). r.value t) (reader-level n))) (value_told t n (out-Body n.body) refl h);
  entry = λ k v before last behind. subst (Told (AsEntry k v before n)) (sym (ap (λ (r : Reader). r.entry last k v) (reader-level n))) (entry_level k v before last n (out-Body n.body) refl behind h);
})

told : (t : Ty) (n : Node) → Told (AsData t None n) (storage_read t n)
told t n = (are_told n).value t

-- the fault that is told is the first one
pub first_is_told : (t : Ty) (n : Node) (f : DataFault) → storage_read t n ≡ Err f → IsFirstFault t n f
first_is_told t n f e = subst (Told (AsData t None n)) e (told t n)

-- no fault stands anywhere in data
pub none_in_data : (t : Ty) (n : Node) (v : Val) → IsData t n v → (p : Place) (f : DataFault) → IsFaultAt p (OfType t None) n f → ⊥
none_in_data t n v data_of = subst (Told (AsData t None n)) (data_is_read t n v data_of) (told t n)

-- ---- one first fault

not_both : (p q : Place) → IsBefore p q → IsBefore q p → ⊥
not_both [] [] h k = h
not_both [] (j ∷ q) h k = k
not_both (i ∷ p) [] h k = h
not_both (i ∷ p) (j ∷ q) h k = elim h [
  | inl lt ↦ elim k [ inl gt ↦ omega (arith, lt, gt) | inr same ↦ omega (arith, lt, same.0) ]
  | inr same ↦ elim k [ inl gt ↦ omega (arith, gt, same.0) | inr other ↦ not_both p q same.1 other.1 ]
]

pub one_first : (t : Ty) (n : Node) (f g : DataFault) → IsFirstFault t n f → IsFirstFault t n g → f ≡ g
one_first t n f g h k = elim (h.2 k.0 g k.1) [
  | inl same ↦ same.1
  | inr before ↦ elim (k.2 h.0 f h.1) [ inl same ↦ sym same.1 | inr other ↦ absurd (not_both h.0 k.0 before other) ]
]

told_first : (t : Ty) (n : Node) (f : DataFault) (r : Read Val) → storage_read t n ≡ r → IsFirstFault t n f → storage_read t n ≡ Err f
told_first t n f (Ok v) e h = let none = subst (Told (AsData t None n)) e (told t n) in absurd (none h.0 f h.1)
told_first t n f (Err g) e h = e ∙ ap (λ (k : DataFault). Err k) (one_first t n g f (first_is_told t n g e) h)

-- so the first fault is told
pub told_is_first : (t : Ty) (n : Node) (f : DataFault) → IsFirstFault t n f → storage_read t n ≡ Err f
told_is_first t n f h = told_first t n f (storage_read t n) refl h

-- ---- faults of data that may be too large

too_large : (v : Val) (n : Node) (t : Ty) (f : DataFault) (b : Bool) → nat_le (size_of v) 4096 ≡ b → IsData t n v → (let r : Read Val = if b then Ok v else fault TooLarge n.at in r ≡ Err f) → IsDataFault t n f
too_large v n t f true e data_of h = absurd cc
too_large v n t f false e data_of h =
    let is : f ≡ record { at = n.at; kind = TooLarge } = cc in
    let large : 4096 < size_of v = grind (arith, nat_tests) in
    inr (is, (v, data_of, large))

fault_from : (t : Ty) (n : Node) (f : DataFault) (r : Read Val) → storage_read t n ≡ r → then_read r (λ v. if nat_le (size_of v) 4096 then Ok v else fault TooLarge n.at) ≡ Err f → IsDataFault t n f
fault_from t n f (Ok v) e h = too_large v n t f (nat_le (size_of v) 4096) refl (read_is_data t n v e) h
fault_from t n f (Err g) e h = let same : storage_read t n ≡ Err f = cc in inl (first_is_told t n f same)

-- the fault that is told of data is the first one, or that the value is too large
pub data_fault_is_told : (t : Ty) (n : Node) (f : DataFault) → data_read t n ≡ Err f → IsDataFault t n f
data_fault_is_told t n f h = fault_from t n f (storage_read t n) refl h

pub one_data_fault : (t : Ty) (n : Node) (f g : DataFault) → IsDataFault t n f → IsDataFault t n g → f ≡ g
one_data_fault t n f g (inl h) (inl k) = one_first t n f g h k
one_data_fault t n f g (inl h) (inr k) = absurd (none_in_data t n k.1.0 k.1.1 h.0 f h.1)
one_data_fault t n f g (inr h) (inl k) = absurd (none_in_data t n h.1.0 h.1.1 k.0 g k.1)
one_data_fault t n f g (inr h) (inr k) = h.0 ∙ sym k.0

-- so is what a call answered
pub answer_fault : (t : Ty) (n : Node) (r : Result Val DataRefusal) → AnswersUnlessFull node_fault (λ v. v) r (data_read t n) → IfErr r (Tells (IsDataFault t n))
answer_fault t n (Ok v) a = tt
answer_fault t n (Err NoMemory) a = tt
answer_fault t n (Err (Fault f)) a = data_fault_is_told t n f a
