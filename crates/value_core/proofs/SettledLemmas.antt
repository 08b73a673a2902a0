-- Settled lists, sets and maps; and tests of every level, one beside another.
use Rattle.std.proofs.Common.{◌≡◌, Bool, List, [], ◌∷◌, ap, refl, sym, ◌∙◌}
use Rattle.std.specs.Prelude.{◌&&◌}
use Rattle.std.specs.List.{list_all}
use Rattle.value_core.specs.declared.val.Val.{Val}
use Rattle.value_core.specs.declared.val.Val.TheVariants as variant
use Rattle.value_core.specs.declared.val.Val.TheVariants.{rolls-List, rolls-Set, rolls-Map}
use Rattle.value_core.specs.declared.val.Val.TheOpen as one
use Rattle.value_core.specs.declared.val.Val.TheViews.{out-Val}
use Rattle.value_core.specs.Layer.{Layer, flat, parts_of}
use Rattle.value_core.specs.Everywhere.{everywhere}
use Rattle.value_core.specs.Settled.{is_settled}
use Rattle.value_core.specs.Sound.{is_plain, is_settled_level, is_sound, is_sound_level}
use Rattle.value_core.proofs.Bools.{exchanged, turned}
use Rattle.value_core.proofs.Levels.{Each, induction}
use Rattle.value_core.proofs.Everywhere.{everywhere-is, everywhere-roll}

pub settled-list : (vs : List Val) → is_settled (variant.List vs) ≡ list_all is_settled vs
settled-list vs = ap is_settled (sym (rolls-List vs)) ∙ everywhere-roll is_settled_level (one.List vs)

pub settled-set : (vs : List Val) → is_settled (variant.Set vs) ≡ list_all is_settled vs
settled-set vs = ap is_settled (sym (rolls-Set vs)) ∙ everywhere-roll is_settled_level (one.Set vs)

pub settled-map : (es : List (Val × Val)) → is_settled (variant.Map es) ≡ list_all is_settled (flat es)
settled-map es = ap is_settled (sym (rolls-Map es)) ∙ everywhere-roll is_settled_level (one.Map es)

pub ruleset settled_lists = (settled-list, settled-set, settled-map)

-- ---- two tests

module _ (p q : Layer Val → Bool) where
  abbrev both : Layer Val → Bool
  both x = p x && q x

  abbrev Splits : Val → Type 0
  Splits v = everywhere both v ≡ (everywhere p v && everywhere q v)

  all_split : (vs : List Val) → Each Splits vs → list_all (everywhere both) vs ≡ (list_all (everywhere p) vs && list_all (everywhere q) vs)
  all_split [] h = refl
  all_split (v ∷ vs) h =
      (λ i. h.0 i && all_split vs h.1 i) ∙ exchanged (everywhere p v) (everywhere q v) (list_all (everywhere p) vs) (list_all (everywhere q) vs)

  -- both tests hold at each level where each of them holds at each level
  pub everywhere-and : (v : Val) → Splits v
  everywhere-and = induction Splits (λ v h.
      everywhere-is both v
      ∙ ap (λ b. both (out-Val v) && b) (all_split (parts_of (out-Val v)) h)
      ∙ exchanged (p (out-Val v)) (q (out-Val v)) (list_all (everywhere p) (parts_of (out-Val v))) (list_all (everywhere q) (parts_of (out-Val v)))
      ∙ (λ i. sym (everywhere-is p v) i && sym (everywhere-is q v) i))

pub plain-and : (v : Val) → (is_settled v && is_sound v) ≡ is_plain v
plain-and v = turned (is_settled v) (is_sound v) ∙ sym (everywhere-and is_sound_level is_settled_level v)
