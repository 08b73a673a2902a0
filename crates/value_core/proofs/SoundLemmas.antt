-- Soundness of lists, sets, maps and pairs, and the order of what is left of lists.
use Rattle.std.proofs.Common.{◌≡◌, ℕ, zero, suc, ◌+◌, ◌<◌, ◌≤◌, List, [], ◌∷◌, map, length, drop, get_or, true, refl, ap, sym, ◌∙◌, arith}
use Rattle.std.specs.Prelude.{◌&&◌}
use Rattle.std.proofs.Math.Bool.{and-true}
use Rattle.std.specs.Ordering.{is_lt}
use Rattle.value_core.specs.declared.val.Val.{Val}
use Rattle.value_core.specs.declared.val.Val.TheVariants as variant
use Rattle.value_core.specs.declared.val.Val.TheVariants.{rolls-List, rolls-Set, rolls-Map, rolls-Pair}
use Rattle.value_core.specs.declared.val.Val.TheOpen as one
use Rattle.value_core.specs.Order.{order}
use Rattle.value_core.specs.Sound.{ascends, is_sound, is_sound_level}
use Rattle.value_core.specs.SoundParts.{is_sound_list, is_sound_map, is_sound_set}
use Rattle.value_core.proofs.Everywhere.{everywhere-roll}

pub sound-list : (vs : List Val) → is_sound (variant.List vs) ≡ is_sound_list vs
sound-list vs = ap is_sound (sym (rolls-List vs)) ∙ everywhere-roll is_sound_level (one.List vs)

pub sound-set : (vs : List Val) → is_sound (variant.Set vs) ≡ is_sound_set vs
sound-set vs = ap is_sound (sym (rolls-Set vs)) ∙ everywhere-roll is_sound_level (one.Set vs)

pub sound-map : (es : List (Val × Val)) → is_sound (variant.Map es) ≡ is_sound_map es
sound-map es = ap is_sound (sym (rolls-Map es)) ∙ everywhere-roll is_sound_level (one.Map es)

pub sound-pair : (a b : Val) → is_sound (variant.Pair a b) ≡ (is_sound a && is_sound b)
sound-pair a b =
    ap is_sound (sym (rolls-Pair a b)) ∙ everywhere-roll is_sound_level (one.Pair a b) ∙ ap (λ rest. is_sound a && rest) (and-true (is_sound b))

-- behind a sound first part
pub sound-behind : (v a b : Val) → v ≡ variant.Pair a b → is_sound a ≡ true → is_sound v ≡ is_sound b
sound-behind v a b is first = ap is_sound is ∙ sound-pair a b ∙ ap (λ s. s && is_sound b) first

-- ---- one value after another

pub ascends-next : (vs : List Val) (k : ℕ) (d : Val) → k + 1 < length vs →
    ascends (drop k vs) ≡ (is_lt (order (get_or vs k d) (get_or vs (k + 1) d)) && ascends (drop (k + 1) vs))
ascends-next [] k d lt = absurd (omega arith)
ascends-next (a ∷ []) k d lt = absurd (omega arith)
ascends-next (a ∷ b ∷ vs) zero d lt = refl
ascends-next (a ∷ b ∷ vs) (suc k) d lt =
    let up : suc k + 1 ≡ suc (k + 1) = omega arith in
    rw up (ascends-next (b ∷ vs) k d (omega arith))

pub ascends-end : (vs : List Val) → length vs ≤ 1 → ascends vs ≡ true
ascends-end [] h = refl
ascends-end (a ∷ []) h = refl
ascends-end (a ∷ b ∷ vs) h = absurd (omega arith)

pub keys_ascend-next : (es : List (Val × Val)) (k : ℕ) (d : Val × Val) → k + 1 < length es →
    ascends (map (λ e. e.0) (drop k es)) ≡ (is_lt (order (get_or es k d).0 (get_or es (k + 1) d).0) && ascends (map (λ e. e.0) (drop (k + 1) es)))
keys_ascend-next [] k d lt = absurd (omega arith)
keys_ascend-next (a ∷ []) k d lt = absurd (omega arith)
keys_ascend-next (a ∷ b ∷ es) zero d lt = refl
keys_ascend-next (a ∷ b ∷ es) (suc k) d lt =
    let up : suc k + 1 ≡ suc (k + 1) = omega arith in
    rw up (keys_ascend-next (b ∷ es) k d (omega arith))

pub keys_ascend-end : (es : List (Val × Val)) → length es ≤ 1 → ascends (map (λ e. e.0) es) ≡ true
keys_ascend-end [] h = refl
keys_ascend-end (a ∷ []) h = refl
keys_ascend-end (a ∷ b ∷ es) h = absurd (omega arith)
