-- The counter may be called: what typed calls ask for is there.
use Rattle.std.proofs.Common.{◌≡◌, ℤ, ◌<◌, ◌^◌, List, [], ap, sym, ◌∙◌, subst, rules}
use Rattle.value_core.specs.declared.ty.Ty.{Ty}
use Rattle.value_core.specs.declared.ty.Ty.TheOpen as ty
use Rattle.value_core.specs.declared.ty.Ty.TheVariants as type
use Rattle.value_core.specs.declared.ty.Ty.TheViews.{out-Ty, the_lemmas}
use Rattle.value_core.specs.declared.val.Val.TheOpen as is
use Rattle.value_core.specs.declared.val.Val.TheVariants as value
use Rattle.value_core.specs.BigMaps.{Beside, Placing, beside_level, big_maps_of, placing_level}
use Rattle.value_core.specs.Settled.{is_settled}
use Rattle.value_core.specs.Sound.{is_settled_level}
use Rattle.value_core.specs.TypeLevels.{fold-at}
use Rattle.value_core.proofs.Everywhere.{everywhere-roll}
use Rattle.value_core.proofs.TypeEquations.{has_type-int}
use Rattle.michelson_code.specs.TypedScript.{counter}
use Rattle.michelson_code.proofs.CounterTyped.{counter_typed}
use Rattle.michelson_rules.specs.declared.ask.Env.{Env}
use Rattle.michelson_rules.specs.TypedScripts.{IsTypedCall}
use Rattle.michelson_rules.specs.TypedValues.{FitsMaps, IsInRange}
use Rattle.michelson_rules.specs.World.{World}

int_shown : out-Ty type.Int ≡ ty.Int
int_shown = search (rules, the_lemmas)

no_map_fits : (maps : List (Ty × Ty)) (w : World) → maps ≡ [] → w.balance < 2 ^ 63 → FitsMaps maps w
no_map_fits maps w none small = subst (λ (ms : List (Ty × Ty)). FitsMaps ms w) (sym none) (record { entries = λ place k t key v is found. absurd cc; balance = small })

pub counter_called : (env : Env) (w : World) (m n : ℤ) → IsInRange env → w.balance < 2 ^ 63 → IsTypedCall counter env w (value.Int m) (value.Int n)
counter_called env w m n range small = record {
  script = counter_typed;
  param_typed = has_type-int m;
  storage_typed = has_type-int n;
  places = ap (λ (p : Placing). p.1 0 (value.Int n)) (fold-at placing_level type.Int ty.Int int_shown);
  settled = ap is_settled (sym (value.rolls-Int n)) ∙ everywhere-roll is_settled_level (is.Int n);
  range = range;
  maps = no_map_fits (big_maps_of type.Int) w (ap (λ (b : Beside). b.1) (fold-at beside_level type.Int ty.Int int_shown)) small;
}
