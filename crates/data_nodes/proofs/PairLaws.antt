-- The items of pairs: what is read of nodes is what they say.
use Rattle.std.proofs.Common.{◌≡◌, ℕ, Bool, true, false, List, [], ◌∷◌, map, Ok, codes, refl, sym, ap, ◌∙◌}
use Rattle.std.specs.Prelude.{◌&&◌}
use Rattle.std.specs.List.{list_all}
use Rattle.std.proofs.lemmas.Bool.{and_from, and_parts}
use Rattle.value_core.specs.Sound.{is_sound}
use Rattle.value_core.specs.declared.ty.Ty.{Ty}
use Rattle.value_core.specs.declared.ty.Ty.TheOpen as ty
use Rattle.value_core.specs.declared.ty.Ty.TheOpen.{Ty-F}
use Rattle.value_core.specs.declared.ty.Ty.TheViews.{out-Ty}
use Rattle.value_core.specs.declared.val.Val.{Val}
use Rattle.value_core.specs.declared.val.Val.TheVariants as value
use Rattle.value_core.specs.declared.val.Val.TheVariants.{rolls-Pair}
use Rattle.value_core.specs.declared.val.Val.TheOpen as one
use Rattle.value_core.specs.declared.val.Val.TheViews.{roll-Val}
use Rattle.value_core.specs.Layer.{Layer, parts_of}
use Rattle.value_core.specs.Typed.{fits}
use Rattle.value_core.proofs.Levels.{Each}
use Rattle.micheline_text.specs.declared.node.Node.{Node}
use Rattle.data_nodes.specs.Nodes as nodes
use Rattle.data_nodes.specs.Nodes.{are_items}
use Rattle.data_nodes.specs.Data.{is_written}
use Rattle.data_nodes.specs.Readers.{Read, Reader, at_second, comb, is_comb_of, pair, pair_of, then_read}
use Rattle.data_nodes.specs.Faults.{reader, storage_read}
use Rattle.data_nodes.proofs.NodeLevels.{read_prim}
use Rattle.data_nodes.proofs.ItemLaws.{Agree, if_ok, then_ok}

-- ---- what is read of items doesn't depend on the place of their pair

pair_placed : (at other : ℕ) (x : Reader) (rest other_rest : Ty → Read Val) (τ : Ty-F Ty) (v : Val) → ((u : Ty) (b : Val) → rest u ≡ Ok b → other_rest u ≡ Ok b) →
    pair_of at x rest τ ≡ Ok v → pair_of other x other_rest τ ≡ Ok v
pair_placed at other x rest other_rest (ty.Pair s u) v same h =
    let first = then_ok (x.value s) (λ a. then_read (rest u) (λ b. Ok (value.Pair a b))) v h in
    let second = then_ok (rest u) (λ b. Ok (value.Pair first.0 b)) v first.2 in
    rw (first.1, same u second.0 second.1) second.2
pair_placed at other x rest other_rest τ v same h = absurd cc

comb_placed : (at other : ℕ) (rs : List Reader) (t : Ty) (v : Val) → comb at rs t ≡ Ok v → comb other rs t ≡ Ok v
comb_placed at other [] t v h = absurd cc
comb_placed at other (x ∷ []) t v h = h
comb_placed at other (x ∷ y ∷ more) t v h =
    pair_placed at other x (comb at (y ∷ more)) (comb other (y ∷ more)) (out-Ty t) v (λ u b. comb_placed at other (y ∷ more) u b) h

-- ---- the items behind the first, as one node

second_node : Node → List Node → Node
second_node y [] = y
second_node y (z ∷ more) = nodes.applied (codes "Pair") (y ∷ z ∷ more)

items-are : (first rest : Node → Bool) (x y : Node) (more : List Node) → are_items (codes "Pair") first rest (x ∷ y ∷ more) ≡ (first x && rest (second_node y more))
unfolding second_node
items-are first rest x y [] = refl
items-are first rest x y (z ∷ more) = refl

read_pair : (y z : Node) (more : List Node) (u : Ty) → storage_read u (nodes.applied (codes "Pair") (y ∷ z ∷ more)) ≡ pair 0 (map reader (y ∷ z ∷ more)) u
read_pair y z more u = read_prim (nodes.applied (codes "Pair") (y ∷ z ∷ more)) (codes "Pair") [] (y ∷ z ∷ more) u refl

second_from : (at : ℕ) (y : Node) (more : List Node) (u : Ty) (b : Val) → is_comb_of (map reader (y ∷ more)) u ≡ true → comb at (map reader (y ∷ more)) u ≡ Ok b →
    storage_read u (second_node y more) ≡ Ok b
unfolding second_node
second_from at y [] u b few h = h
second_from at y (z ∷ more) u b few h = read_pair y z more u ∙ rw few (comb_placed at 0 (map reader (y ∷ z ∷ more)) u b h)

second_to : (at : ℕ) (y : Node) (more : List Node) (u : Ty) (b : Val) → storage_read u (second_node y more) ≡ Ok b →
    (is_comb_of (map reader (y ∷ more)) u ≡ true) × (comb at (map reader (y ∷ more)) u ≡ Ok b)
unfolding second_node
second_to at y [] u b h = (refl, h)
second_to at y (z ∷ more) u b h =
    let both = if_ok (is_comb_of (map reader (y ∷ z ∷ more)) u) (comb 0 (map reader (y ∷ z ∷ more)) u) _ b (sym (read_pair y z more u) ∙ h) in
    (both.0, comb_placed 0 at (map reader (y ∷ z ∷ more)) u b both.1)

-- ---- pairs

pub record PairSaid (s u : Ty) (all : List Node) (v : Val) : Type 0 where
  pub first : Val
  pub second : Val
  pub is : roll-Val (one.Pair first second) ≡ v
  pub sound : list_all is_sound (first ∷ second ∷ []) ≡ true
  pub fit : (fits first s && fits second u) ≡ true
  pub written : are_items (codes "Pair") (is_written first) (is_written second) all ≡ true

pub pair_said : (at : ℕ) (t s u : Ty) (all : List Node) (v : Val) → out-Ty t ≡ ty.Pair s u → ((x : Layer Val) → roll-Val x ≡ v → Each Agree (parts_of x)) →
    pair at (map reader all) t ≡ Ok v → PairSaid s u all v
pair_said at t s u [] v e h r = absurd cc
pair_said at t s u (x ∷ []) v e h r = absurd cc
pair_said at t s u (x ∷ y ∷ more) v e h r =
    let rest : Ty → Read Val = comb at (map reader (y ∷ more)) in
    let both = if_ok (is_comb_of (map reader (x ∷ y ∷ more)) t) (comb at (map reader (x ∷ y ∷ more)) t) _ v r in
    let few : is_comb_of (map reader (y ∷ more)) u ≡ true = sym (ap (at_second false (is_comb_of (map reader (y ∷ more)))) e) ∙ both.0 in
    let first = then_ok (storage_read s x) (λ a. then_read (rest u) (λ b. Ok (value.Pair a b))) v (sym (ap (pair_of at (reader x) rest) e) ∙ both.1) in
    let second = then_ok (rest u) (λ b. Ok (value.Pair first.0 b)) v first.2 in
    let made : value.Pair first.0 second.0 ≡ v = cc in
    let is : roll-Val (one.Pair first.0 second.0) ≡ v = rolls-Pair first.0 second.0 ∙ made in
    let parts = h (one.Pair first.0 second.0) is in
    let a = (parts.0 s x).said first.1 in
    let b = (parts.1.0 u (second_node y more)).said (second_from at y more u second.0 few second.1) in
    record {
      first = first.0;
      second = second.0;
      is = is;
      sound = and_from _ _ a.sound (and_from _ _ b.sound refl);
      fit = and_from _ _ a.fit b.fit;
      written = items-are (is_written first.0) (is_written second.0) x y more ∙ and_from _ _ a.written b.written;
    }

pub pair_read : (at : ℕ) (t s u : Ty) (all : List Node) (a b : Val) → out-Ty t ≡ ty.Pair s u → Agree a → Agree b → list_all is_sound (a ∷ b ∷ []) ≡ true → (fits a s && fits b u) ≡ true →
    are_items (codes "Pair") (is_written a) (is_written b) all ≡ true → pair at (map reader all) t ≡ Ok (value.Pair a b)
pair_read at t s u [] a b e f g sound fit written = absurd cc
pair_read at t s u (x ∷ []) a b e f g sound fit written = absurd cc
pair_read at t s u (x ∷ y ∷ more) a b e f g sound fit written =
    let rest : Ty → Read Val = comb at (map reader (y ∷ more)) in
    let both : (is_written a x && is_written b (second_node y more)) ≡ true = sym (items-are (is_written a) (is_written b) x y more) ∙ written in
    let others : (is_sound b && true) ≡ true = (and_parts (is_sound a) _ sound).1 in
    let first : storage_read s x ≡ Ok a = (f s x).read (record { sound = (and_parts (is_sound a) _ sound).0; fit = (and_parts (fits a s) _ fit).0; written = (and_parts (is_written a x) _ both).0 }) in
    let second = second_to at y more u b ((g u (second_node y more)).read (record { sound = (and_parts (is_sound b) _ others).0; fit = (and_parts (fits a s) _ fit).1; written = (and_parts (is_written a x) _ both).1 })) in
    let few : is_comb_of (map reader (x ∷ y ∷ more)) t ≡ true = ap (at_second false (is_comb_of (map reader (y ∷ more)))) e ∙ second.0 in
    let made : pair_of at (reader x) rest (out-Ty t) ≡ Ok (value.Pair a b) =
    ap (pair_of at (reader x) rest) e ∙ ap (λ (r : Read Val). then_read r (λ a. then_read (rest u) (λ b. Ok (value.Pair a b)))) first ∙ ap (λ (r : Read Val). then_read r (λ b. Ok (value.Pair a b))) second.1 in
    rw few made

no_pair : (τ : Ty-F Ty) (f : Ty → Bool) → at_second false f τ ≡ true → (s : Ty) × (u : Ty) × (τ ≡ ty.Pair s u)
no_pair (ty.Pair s u) f h = (s, u, refl)
no_pair τ f h = absurd cc

-- what is read as items is a pair
pub pair_typed : (at : ℕ) (t : Ty) (all : List Node) (v : Val) → pair at (map reader all) t ≡ Ok v → (s : Ty) × (u : Ty) × (out-Ty t ≡ ty.Pair s u)
pair_typed at t [] v r = absurd cc
pair_typed at t (x ∷ []) v r = absurd cc
pair_typed at t (x ∷ y ∷ more) v r =
    no_pair (out-Ty t) (is_comb_of (map reader (y ∷ more))) (if_ok (is_comb_of (map reader (x ∷ y ∷ more)) t) (comb at (map reader (x ∷ y ∷ more)) t) _ v r).0
