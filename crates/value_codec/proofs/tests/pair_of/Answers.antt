-- A pair of a number and a text is plain, and two levels deep.
use Rattle.std.proofs.Common.{◌≡◌, ℕ, ℤ, ◌+◌, ◌≤◌, List, true, refl, sym, ap, subst, ◌∙◌, arith}
use Rattle.std.specs.Prelude.{IsTrue, ◌&&◌}
use Rattle.std.proofs.lemmas.Result.{IfOk-weaker}
use Rattle.value_core.specs.declared.val.Val.{Val}
use Rattle.value_core.specs.declared.val.Val.TheVariants as variant
use Rattle.value_core.specs.declared.val.Val.TheOpen as one
use Rattle.value_core.specs.Depth.{greatest, depth_of}
use Rattle.value_core.specs.Layer.{parts_of}
use Rattle.value_core.specs.Sound.{is_plain, is_sound_level, is_settled_level}
use Rattle.value_core.proofs.Levels.{by_level-roll}
use Rattle.value_core.proofs.Everywhere.{everywhere-roll}
use Rattle.value_core.proofs.Bools.{both_true}
use Rattle.value_codec.proofs.tests.pair_of.Goals as goal

plain_int : (n : ℤ) → is_plain (variant.Int n) ≡ true
plain_int n = ap is_plain (sym (variant.rolls-Int n)) ∙ everywhere-roll (λ x. is_sound_level x && is_settled_level x) (one.Int n)

plain_text : (t : List ℕ) → is_plain (variant.Text t) ≡ true
plain_text t = ap is_plain (sym (variant.rolls-Text t)) ∙ everywhere-roll (λ x. is_sound_level x && is_settled_level x) (one.Text t)

plain_pair : (n : ℤ) (t : List ℕ) → is_plain (variant.Pair (variant.Int n) (variant.Text t)) ≡ true
plain_pair n t =
    ap is_plain (sym (variant.rolls-Pair (variant.Int n) (variant.Text t))) ∙ everywhere-roll (λ x. is_sound_level x && is_settled_level x) (one.Pair (variant.Int n) (variant.Text t))
    ∙ both_true (is_plain (variant.Int n)) _ (plain_int n) (both_true (is_plain (variant.Text t)) true (plain_text t) refl)

deep_int : (n : ℤ) → depth_of (variant.Int n) ≡ 1
deep_int n = ap depth_of (sym (variant.rolls-Int n)) ∙ by_level-roll (λ x. 1 + greatest (parts_of x)) (one.Int n)

deep_text : (t : List ℕ) → depth_of (variant.Text t) ≡ 1
deep_text t = ap depth_of (sym (variant.rolls-Text t)) ∙ by_level-roll (λ x. 1 + greatest (parts_of x)) (one.Text t)

deep_pair : (n : ℤ) (t : List ℕ) → depth_of (variant.Pair (variant.Int n) (variant.Text t)) ≤ 128
deep_pair n t =
    let one_level = ap depth_of (sym (variant.rolls-Pair (variant.Int n) (variant.Text t))) ∙ by_level-roll (λ x. 1 + greatest (parts_of x)) (one.Pair (variant.Int n) (variant.Text t)) in
    omega (arith, one_level, deep_int n, deep_text t)

pub returns-clause-plain : goal.returns-clause-plain
returns-clause-plain c = IfOk-weaker c.pair.result _ _ (λ v is. subst (λ (w : Val). IsTrue (is_plain w)) (sym is) (plain_pair c.args.number c.args.text)) c.pair.ensures

pub returns-clause-deep : goal.returns-clause-deep
returns-clause-deep c = IfOk-weaker c.pair.result _ _ (λ v is. subst (λ (w : Val). depth_of w ≤ 128) (sym is) (deep_pair c.args.number c.args.text)) c.pair.ensures
