-- A script is cut only where it spends too much, and never where the gas is enough for its weight.
use Rattle.std.proofs.Common.{◌≡◌, ◌+◌, ◌*◌, ◌<◌, ◌≤◌, List, subst, arith}
use Rattle.value_core.specs.declared.val.Val.{Val}
use Rattle.michelson_code.specs.declared.script.Script.{Script}
use Rattle.michelson_code.specs.declared.why.Why.TheVariants as why
use Rattle.michelson_code.specs.Weight.{code_weight}
use Rattle.michelson_rules.specs.declared.ask.Budget.{Budget}
use Rattle.michelson_rules.specs.declared.ask.Env.{Env}
use Rattle.michelson_rules.specs.Causes.{EndsByItself}
use Rattle.michelson_rules.specs.Lasting.{end_of}
use Rattle.michelson_rules.specs.Metered.{run_of, script_outcome}
use Rattle.michelson_rules.specs.Rules.{charges}
use Rattle.michelson_rules.specs.Runs.{Failed, Run}
use Rattle.michelson_rules.specs.Spent.{gas_in, room_in}
use Rattle.michelson_rules.specs.World.{World}
use Rattle.michelson_rules.proofs.Budgets.{gas_is_passed, room_is_passed}
use Rattle.michelson_rules.proofs.Fair.{charges_are_fair, costs_for_turns, ends_by_itself}

module _ (s : Script) (env : Env) (w : World) (left : Budget) (param storage : Val) where
  abbrev its_run : Run (List Val)
  its_run = run_of s env w left param storage

  its_end : EndsByItself its_run.ending
  its_end = ends_by_itself charges charges_are_fair s env w s.code _ _

  pub script_passes_gas : end_of (script_outcome s env w left param storage) ≡ Failed why.OutOfGas → left.gas < gas_in its_run.marks
  script_passes_gas = gas_is_passed left its_run.marks its_run.ending (λ own. subst EndsByItself own its_end)

  pub script_passes_room : end_of (script_outcome s env w left param storage) ≡ Failed why.TooMuchData → left.room < room_in its_run.marks
  script_passes_room = room_is_passed left its_run.marks its_run.ending (λ own. subst EndsByItself own its_end)

  pub weight_is_enough : code_weight s.code * (left.turns + 1) ≤ left.gas → end_of (script_outcome s env w left param storage) ≡ Failed why.OutOfGas → ⊥
  weight_is_enough enough cut =
      let over : left.gas < gas_in its_run.marks = script_passes_gas cut in
      let cost : gas_in its_run.marks ≤ code_weight s.code * (left.turns + 1) = costs_for_turns s env w s.code _ _ in
      omega (arith, over, cost, enough)
