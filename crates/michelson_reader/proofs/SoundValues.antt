-- The node that is printed for a lawful value is lawful and well named, with the value's brackets.
use Rattle.std.proofs.Common.{◌≡◌, ℕ, pos, ◌^◌, true, false, List, [], ◌∷◌, length, map, refl, sym, subst, ◌∙◌, arith, eqb-true}
use Rattle.std.specs.Prelude.{◌==◌, codes, nat_lt}
use Rattle.std.specs.List.{list_all}
use Rattle.std.proofs.lemmas.Bool.{and_from, and_parts}
use Rattle.std.proofs.lemmas.Bool.Decides.{nat_tests}
use Rattle.std.proofs.lemmas.Int.{ints}
use Rattle.value_core.specs.declared.val.Val.{Val}
use Rattle.value_core.specs.declared.val.Val.TheOpen as one
use Rattle.value_core.specs.declared.val.Val.TheViews.{out-Val}
use Rattle.value_core.specs.Layer.{Layer, flat, on_parts, parts_of}
use Rattle.value_core.specs.Lawful.{are_bytes, is_lawful, is_lawful_address, is_lawful_blob, is_lawful_level, is_number}
use Rattle.value_core.specs.Leaves.{is_address, is_blob}
use Rattle.value_core.proofs.Everywhere.{everywhere-is}
use Rattle.value_core.proofs.Levels.{Each, by_level-is, induction}
use Rattle.micheline_text.specs.declared.node.Node.{Node}
use Rattle.micheline_text.specs.Again.{argument_depth}
use Rattle.michelson_code.specs.Brackets.{Nesting, entry_inside, nesting_level, nesting_of, nestings_of}
use Rattle.data_nodes.specs.Printed.{node_of, printed_level}
use Rattle.data_nodes.proofs.WrittenNodes.{nodes_of, pair_node, printed-is}
use Rattle.michelson_reader.proofs.SoundNodes.{AllFit, Fit, Sound, bytes_sound, fit_of, inside, int_sound, prim_sound, seq_sound, text_sound}

-- ---- leaves

amount_is_number : (n : ℕ) → nat_lt n (2 ^ 64) ≡ true → is_number (pos n) ≡ true
amount_is_number n h = grind (arith, ints, nat_tests)

-- 22 bytes aren't too many
address_is_blob : (t : List ℕ) → is_lawful_address t ≡ true → is_lawful_blob t ≡ true
address_is_blob t h =
    let both = and_parts (is_address t) (are_bytes t) h in
    let long : length t ≡ 22 = eqb-true (length t) 22 (and_parts (length t == 22) _ both.0).0 in
    let short : is_blob t ≡ true = rw long refl in
    and_from _ _ short both.1

-- ---- parts

abbrev IsSound : Val → Type 0
IsSound v = is_lawful v ≡ true → Sound (node_of v) (nesting_of v)

module _ (v : Val) (h : IsSound v) (lawful : is_lawful v ≡ true) where
  as_argument : Fit argument_depth (node_of v) (argument_depth (nesting_of v))
  as_argument = fit_of argument_depth (node_of v) (nesting_of v) (h lawful)

  as_item : Fit inside (node_of v) (inside (nesting_of v))
  as_item = fit_of inside (node_of v) (nesting_of v) (h lawful)

items_fit : (vs : List Val) → Each IsSound vs → list_all is_lawful vs ≡ true → AllFit inside (map node_of vs) (map inside (map nesting_of vs))
items_fit [] h lawful = tt
items_fit (v ∷ vs) h lawful =
    let both = and_parts _ _ lawful in
    (as_item v h.0 both.0, items_fit vs h.1 both.1)

entries_fit : (es : List (Val × Val)) → Each IsSound (flat es) → list_all is_lawful (flat es) ≡ true →
    AllFit inside (map pair_node (map nodes_of es)) (map entry_inside (map nestings_of es))
entries_fit [] h lawful = tt
entries_fit (e ∷ es) h lawful =
    let key = and_parts _ _ lawful in
    let value = and_parts _ _ key.1 in
    let ks : List ℕ = argument_depth (nesting_of e.0) ∷ argument_depth (nesting_of e.1) ∷ [] in
    let both : AllFit argument_depth (node_of e.0 ∷ node_of e.1 ∷ []) ks = (as_argument e.0 h.0 key.0, (as_argument e.1 h.1.0 value.0, tt)) in (
      fit_of inside (pair_node (nodes_of e)) _ (prim_sound (codes "Elt") [] (node_of e.0 ∷ node_of e.1 ∷ []) ks refl refl both),
      entries_fit es h.1.1 value.1,
    )

one_part : (word : List ℕ) (v : Val) → list_all is_lawful (v ∷ []) ≡ true → IsSound v → AllFit argument_depth (node_of v ∷ []) (argument_depth (nesting_of v) ∷ [])
one_part word v lawful h = (as_argument v h (and_parts _ _ lawful).0, tt)

level_sound : (x : Layer Val) → is_lawful_level x ≡ true → list_all is_lawful (parts_of x) ≡ true → Each IsSound (parts_of x) →
    Sound (printed_level (on_parts node_of x)) (nesting_level (on_parts nesting_of x))
level_sound one.Unit level lawful h = prim_sound (codes "Unit") [] [] [] refl refl tt
level_sound (one.Bool true) level lawful h = prim_sound (codes "True") [] [] [] refl refl tt
level_sound (one.Bool false) level lawful h = prim_sound (codes "False") [] [] [] refl refl tt
level_sound (one.Int z) level lawful h = int_sound z level
level_sound (one.Nat z) level lawful h = int_sound z level
level_sound (one.Mutez n) level lawful h = int_sound (pos n) (amount_is_number n level)
level_sound (one.Time z) level lawful h = int_sound z level
level_sound (one.Text s) level lawful h = text_sound s level
level_sound (one.Bytes b) level lawful h = bytes_sound b level
level_sound (one.Addr address) level lawful h = bytes_sound address (address_is_blob address level)
level_sound one.Nothing level lawful h = prim_sound (codes "None") [] [] [] refl refl tt
level_sound (one.Some v) level lawful h = prim_sound (codes "Some") [] (node_of v ∷ []) (argument_depth (nesting_of v) ∷ []) refl refl (one_part (codes "Some") v lawful h.0)
level_sound (one.Left v) level lawful h = prim_sound (codes "Left") [] (node_of v ∷ []) (argument_depth (nesting_of v) ∷ []) refl refl (one_part (codes "Left") v lawful h.0)
level_sound (one.Right v) level lawful h = prim_sound (codes "Right") [] (node_of v ∷ []) (argument_depth (nesting_of v) ∷ []) refl refl (one_part (codes "Right") v lawful h.0)
level_sound (one.Pair a b) level lawful h =
    let first = and_parts _ _ lawful in
    let second = and_parts _ _ first.1 in
    prim_sound (codes "Pair") [] (node_of a ∷ node_of b ∷ []) (argument_depth (nesting_of a) ∷ argument_depth (nesting_of b) ∷ []) refl refl
    (as_argument a h.0 first.0, (as_argument b h.1.0 second.0, tt))
level_sound (one.List items) level lawful h = seq_sound (map node_of items) (map inside (map nesting_of items)) (items_fit items h lawful)
level_sound (one.Set items) level lawful h = seq_sound (map node_of items) (map inside (map nesting_of items)) (items_fit items h lawful)
level_sound (one.Map entries) level lawful h = seq_sound (map pair_node (map nodes_of entries)) (map entry_inside (map nestings_of entries)) (entries_fit entries h lawful)
level_sound (one.BigMap place version) level lawful h = seq_sound [] [] tt
level_sound (one.Contract address entry) level lawful h = seq_sound [] [] tt
level_sound (one.Operation emit) level lawful h = seq_sound [] [] tt

nesting-is : (v : Val) → nesting_of v ≡ nesting_level (on_parts nesting_of (out-Val v))
nesting-is = by_level-is {A = Nesting} nesting_level

-- the node of a lawful value
pub value_sound : (v : Val) → is_lawful v ≡ true → Sound (node_of v) (nesting_of v)
value_sound = induction IsSound (λ v h lawful.
    let both = and_parts _ _ (sym (everywhere-is is_lawful_level v) ∙ lawful) in
    subst (λ (n : Node). Sound n (nesting_of v)) (sym (printed-is v))
    (subst (Sound (printed_level (on_parts node_of (out-Val v)))) (sym (nesting-is v)) (level_sound (out-Val v) both.0 both.1 h)))
