-- Values that may be passed on: plain ones without big maps, which have no tag above that of maps.
use Rattle.std.proofs.Common.{◌≡◌, Bool, true, false, List, [], ◌∷◌, refl, sym, ◌∙◌}
use Rattle.std.specs.Prelude.{IsTrue, ◌&&◌, nat_le}
use Rattle.std.specs.List.{list_all}
use Rattle.byte_fields.specs.Laws.{Reads}
use Rattle.byte_fields.proofs.Joined.{reads_as}
use Rattle.value_core.specs.declared.val.Val.{Val}
use Rattle.value_core.specs.declared.val.Val.TheOpen as one
use Rattle.value_core.specs.declared.val.Val.TheViews.{out-Val}
use Rattle.value_core.specs.BigMaps.{has_no_big_map, is_no_big_map}
use Rattle.value_core.specs.Everywhere.{everywhere}
use Rattle.value_core.specs.Layer.{Layer, parts_of, tag_of}
use Rattle.value_core.specs.Lawful.{is_lawful}
use Rattle.value_core.specs.Sound.{is_plain, is_settled_level, is_sound_level}
use Rattle.value_core.proofs.Bools.{both_true, first_true, second_true}
use Rattle.value_core.proofs.Everywhere.{everywhere-is}
use Rattle.value_core.proofs.Levels.{Each, induction}
use Rattle.value_core.proofs.SettledLemmas.{everywhere-and}
use Rattle.value_codec.specs.declared.tag.TheConstants.{PASSED_VALUE}
use Rattle.value_codec.specs.Spelling.{IsSpelt, has_tags, spell}
use Rattle.value_codec.proofs.ValueLaws.{spelt_reads}
use Rattle.op_rules.specs.declared.limits.TheConstants.{MOST_DEPTH}
use Rattle.block_codec.specs.Block.{MayBeRaised}
use Rattle.block_codec.specs.Operation.{passed}

-- ---- a test of every level, by another one

module _ (p q : Layer Val → Bool) (more : (x : Layer Val) → p x ≡ true → q x ≡ true) where
  abbrev Carries : Val → Type 0
  Carries v = everywhere p v ≡ true → everywhere q v ≡ true

  all_more : (vs : List Val) → Each Carries vs → list_all (everywhere p) vs ≡ true → list_all (everywhere q) vs ≡ true
  all_more [] each all = refl
  all_more (v ∷ vs) each all = both_true (everywhere q v) _ (each.0 (first_true (everywhere p v) _ all)) (all_more vs each.1 (second_true (everywhere p v) _ all))

  everywhere_more : (v : Val) → Carries v
  everywhere_more = induction Carries (λ v each holds.
      let here = sym (everywhere-is p v) ∙ holds in
      everywhere-is q v ∙ both_true (q (out-Val v)) _ (more (out-Val v) (first_true (p (out-Val v)) _ here)) (all_more (parts_of (out-Val v)) each (second_true (p (out-Val v)) _ here)))

-- ---- big maps and tags

abbrev is_low : Layer Val → Bool
is_low x = nat_le (tag_of x) PASSED_VALUE

abbrev is_plain_level : Layer Val → Bool
is_plain_level x = is_sound_level x && is_settled_level x

no_map_is_low : (x : Layer Val) → is_low x ≡ true → is_no_big_map x ≡ true
no_map_is_low (one.BigMap place version) low = absurd cc
no_map_is_low _ low = refl

settled_is_low : (x : Layer Val) → is_settled_level x ≡ true → is_no_big_map x ≡ true → is_low x ≡ true
settled_is_low (one.Bool false) settled mapless = refl
settled_is_low (one.Bool true) settled mapless = refl
settled_is_low (one.BigMap place version) settled mapless = absurd cc
settled_is_low (one.Contract address entry) settled mapless = absurd cc
settled_is_low (one.Operation emit) settled mapless = absurd cc
settled_is_low _ settled mapless = refl

plain_is_low : (x : Layer Val) → (is_plain_level x && is_no_big_map x) ≡ true → is_low x ≡ true
plain_is_low x holds =
    settled_is_low x (second_true (is_sound_level x) _ (first_true (is_plain_level x) _ holds)) (second_true (is_plain_level x) _ holds)

mapless : (v : Val) → IsTrue (has_tags PASSED_VALUE v) → IsTrue (has_no_big_map v)
mapless = everywhere_more is_low is_no_big_map no_map_is_low

low_tags : (v : Val) → IsTrue (is_plain v) → IsTrue (has_no_big_map v) → IsTrue (has_tags PASSED_VALUE v)
low_tags v plain none =
    everywhere_more (λ x. is_plain_level x && is_no_big_map x) is_low plain_is_low v
    (everywhere-and is_plain_level is_no_big_map v ∙ both_true (is_plain v) _ plain none)

-- ---- the law

pub spelt_value : (v : Val) → IsTrue (is_lawful v) → MayBeRaised v → IsSpelt PASSED_VALUE MOST_DEPTH v
spelt_value v leaves good = record { leaves = leaves; plain = good.plain; tags = low_tags v good.plain good.mapless; deep = good.deep }

pub passed_reads : Reads passed spell (λ v. IsTrue (is_lawful v) × MayBeRaised v)
passed_reads =
    reads_as spell (λ v. IsTrue (is_lawful v) × MayBeRaised v)
    (λ v good. (refl, (good.leaves, record { plain = good.plain; mapless = mapless v good.tags; deep = good.deep })))
    (λ v good. spelt_value v good.0 good.1)
    (spelt_reads PASSED_VALUE MOST_DEPTH)
