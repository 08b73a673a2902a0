-- What has a spelling, level by level.
use Rattle.std.proofs.Common.{◌≡◌, ℕ, zero, suc, ◌+◌, ◌≤◌, true, false, List, [], ◌∷◌, map, refl, sym, ap, subst, ◌∙◌, arith}
use Rattle.std.specs.Prelude.{IsTrue, ◌&&◌, nat_le}
use Rattle.std.specs.List.{list_all, AllByRecursion}
use Rattle.value_core.specs.declared.val.Val.{Val}
use Rattle.value_core.specs.declared.val.Val.TheOpen as one
use Rattle.value_core.specs.declared.val.Val.TheViews.{out-Val, roll-Val}
use Rattle.value_core.specs.Layer.{Layer, parts_of, tag_of}
use Rattle.value_core.specs.Sound.{is_plain, is_sound_level, is_settled_level}
use Rattle.value_core.proofs.Bools.{both_true, first_true, second_true}
use Rattle.value_core.proofs.Levels.{Each, induction, by_level-is, out-roll, parts_of-on_parts}
use Rattle.value_core.proofs.Everywhere.{everywhere-is}
use Rattle.value_core.specs.Depth.{greatest, depth_of}
use Rattle.value_core.specs.Lawful.{is_lawful, is_lawful_level}
use Rattle.value_codec.specs.Spelling.{has_tags, IsSpelt}

-- ---- one level

pub record GoodLevel (most : ℕ) (x : Layer Val) : Type 0 where
  pub tag : IsTrue (nat_le (tag_of x) most)
  pub sound : IsTrue (is_sound_level x)
  pub settled : IsTrue (is_settled_level x)
  pub leaf : IsTrue (is_lawful_level x)

-- good at each level, and at most d deep
abbrev pub IsGood : ℕ → ℕ → Val → Type 0
IsGood most zero v = ⊥
IsGood most (suc d) v = GoodLevel most (out-Val v) × AllByRecursion (IsGood most d) (parts_of (out-Val v))

pub good_at : (most d : ℕ) (x : Layer Val) (v : Val) → roll-Val x ≡ v → GoodLevel most x → AllByRecursion (IsGood most d) (parts_of x) → IsGood most (suc d) v
good_at most d x v is level parts =
    subst (λ w. IsGood most (suc d) w) is (subst (λ (l : Layer Val). GoodLevel most l × AllByRecursion (IsGood most d) (parts_of l)) (sym (out-roll x)) (level, parts))

-- ---- the three tests at one level

depth-is : (v : Val) → depth_of v ≡ 1 + greatest (map depth_of (parts_of (out-Val v)))
depth-is v = by_level-is (λ x. 1 + greatest (parts_of x)) v ∙ ap (λ ns. 1 + greatest ns) (parts_of-on_parts depth_of (out-Val v))

plain-is : (v : Val) → is_plain v ≡ ((is_sound_level (out-Val v) && is_settled_level (out-Val v)) && list_all is_plain (parts_of (out-Val v)))
plain-is = everywhere-is (λ x. is_sound_level x && is_settled_level x)

lawful-is : (v : Val) → is_lawful v ≡ (is_lawful_level (out-Val v) && list_all is_lawful (parts_of (out-Val v)))
lawful-is = everywhere-is is_lawful_level

tags-is : (most : ℕ) (v : Val) → has_tags most v ≡ (nat_le (tag_of (out-Val v)) most && list_all (has_tags most) (parts_of (out-Val v)))
tags-is most = everywhere-is (λ x. nat_le (tag_of x) most)

-- ---- a plain value has tags up to that of big maps

plain_tag : (x : Layer Val) → is_settled_level x ≡ true → nat_le (tag_of x) 18 ≡ true
plain_tag (one.Bool false) s = refl
plain_tag (one.Bool true) s = refl
plain_tag (one.Contract address entry) s = absurd cc
plain_tag (one.Operation emit) s = absurd cc
plain_tag _ s = refl

abbrev PlainTags : Val → Type 0
PlainTags v = is_plain v ≡ true → has_tags 18 v ≡ true

plain_all : (vs : List Val) → Each PlainTags vs → list_all is_plain vs ≡ true → list_all (has_tags 18) vs ≡ true
plain_all [] each h = refl
plain_all (v ∷ vs) each h = both_true (has_tags 18 v) _ (each.0 (first_true (is_plain v) _ h)) (plain_all vs each.1 (second_true (is_plain v) _ h))

pub plain_tags : (v : Val) → is_plain v ≡ true → has_tags 18 v ≡ true
plain_tags = induction PlainTags (λ v each plain.
    let h = sym (plain-is v) ∙ plain in
    let level = first_true (is_sound_level (out-Val v) && is_settled_level (out-Val v)) _ h in
    let settled = second_true (is_sound_level (out-Val v)) _ level in
    tags-is 18 v ∙ both_true (nat_le (tag_of (out-Val v)) 18) _ (plain_tag (out-Val v) settled) (plain_all (parts_of (out-Val v)) each (second_true (is_sound_level (out-Val v) && is_settled_level (out-Val v)) _ h)))

-- ---- at each level is everywhere

good_all : (most d : ℕ) → ((v : Val) → IsSpelt most d v → IsGood most d v) → (vs : List Val) → list_all is_lawful vs ≡ true → list_all is_plain vs ≡ true → list_all (has_tags most) vs ≡ true → greatest (map depth_of vs) ≤ d →
    AllByRecursion (IsGood most d) vs
good_all most d each [] leaves plain tags deep = tt
good_all most d each (v ∷ vs) leaves plain tags deep = (
  each v (record { leaves = first_true (is_lawful v) _ leaves; plain = first_true (is_plain v) _ plain; tags = first_true (has_tags most v) _ tags; deep = omega arith }),
  good_all most d each vs (second_true (is_lawful v) _ leaves) (second_true (is_plain v) _ plain) (second_true (has_tags most v) _ tags) (omega arith),
)

pub is_good : (most d : ℕ) (v : Val) → IsSpelt most d v → IsGood most d v
is_good most zero v h = absurd (omega (arith, depth-is v, h.deep))
is_good most (suc d) v h =
    let plain = sym (plain-is v) ∙ h.plain in
    let tags = sym (tags-is most v) ∙ h.tags in
    let level = first_true (is_sound_level (out-Val v) && is_settled_level (out-Val v)) _ plain in
    let settled = second_true (is_sound_level (out-Val v)) _ level in
    let lawful = sym (lawful-is v) ∙ h.leaves in (
      record { tag = first_true (nat_le (tag_of (out-Val v)) most) _ tags; sound = first_true (is_sound_level (out-Val v)) _ level; settled = settled; leaf = first_true (is_lawful_level (out-Val v)) _ lawful },
      good_all most d (is_good most d) (parts_of (out-Val v)) (second_true (is_lawful_level (out-Val v)) _ lawful) (second_true (is_sound_level (out-Val v) && is_settled_level (out-Val v)) _ plain) (second_true (nat_le (tag_of (out-Val v)) most) _ tags) (omega (arith, depth-is v, h.deep)),
    )

record AllSpelt (most d : ℕ) (vs : List Val) : Type 0 where
  leaves : list_all is_lawful vs ≡ true
  plain : list_all is_plain vs ≡ true
  tags : list_all (has_tags most) vs ≡ true
  deep : greatest (map depth_of vs) ≤ d

spelt_all : (most d : ℕ) → ((v : Val) → IsGood most d v → IsSpelt most d v) → (vs : List Val) → AllByRecursion (IsGood most d) vs → AllSpelt most d vs
spelt_all most d each [] good = record { leaves = refl; plain = refl; tags = refl; deep = omega arith }
spelt_all most d each (v ∷ vs) good =
    let first = each v good.0 in
    let others = spelt_all most d each vs good.1 in
    record {
      leaves = both_true (is_lawful v) _ first.leaves others.leaves;
      plain = both_true (is_plain v) _ first.plain others.plain;
      tags = both_true (has_tags most v) _ first.tags others.tags;
      deep = omega (arith, first.deep, others.deep);
    }

pub is_spelt : (most d : ℕ) (v : Val) → IsGood most d v → IsSpelt most d v
is_spelt most zero v h = absurd h
is_spelt most (suc d) v h =
    let parts = spelt_all most d (is_spelt most d) (parts_of (out-Val v)) h.1 in
    record {
      leaves = lawful-is v ∙ both_true (is_lawful_level (out-Val v)) _ h.0.leaf parts.leaves;
      plain = plain-is v ∙ both_true (is_sound_level (out-Val v) && is_settled_level (out-Val v)) _ (both_true (is_sound_level (out-Val v)) _ h.0.sound h.0.settled) parts.plain;
      tags = tags-is most v ∙ both_true (nat_le (tag_of (out-Val v)) most) _ h.0.tag parts.tags;
      deep = omega (arith, depth-is v, parts.deep);
    }
