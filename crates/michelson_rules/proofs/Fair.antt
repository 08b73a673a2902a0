-- The two ways to charge are fair, and what follows for codes.
use Rattle.std.proofs.Common.{◌≡◌, ℕ, ◌+◌, ◌*◌, ◌≤◌, List, refl, arith}
use Rattle.std.proofs.Math.Nat.{mul-add, mul-le-mul_left}
use Rattle.value_core.specs.declared.val.Val.{Val}
use Rattle.michelson_code.specs.declared.instr.Instr.{Instr}
use Rattle.michelson_code.specs.declared.script.Script.{Script}
use Rattle.michelson_code.specs.Weight.{code_weight}
use Rattle.michelson_rules.specs.declared.ask.Env.{Env}
use Rattle.michelson_rules.specs.declared.ask.Budget.{Budget}
use Rattle.michelson_rules.specs.World.{World}
use Rattle.michelson_rules.specs.Metered.{run_of}
use Rattle.michelson_rules.specs.Causes.{EndsByItself}
use Rattle.michelson_rules.specs.Runs.{Beside, Ending, Failed, Mark, Missed, Return, Run}
use Rattle.michelson_rules.specs.Rules.{charges, rules, still}
use Rattle.michelson_rules.specs.Spent.{CostsAtMost, IsFair, KeepsTurns, TurnsAddUp, gas_in, turns_in}
use Rattle.michelson_rules.specs.Versions.{AllAscend, ReturnsAscending}
use Rattle.michelson_rules.proofs.WithinRules.{rules_within}

pub charges_are_fair : IsFair charges
charges_are_fair = record { gas = λ n. omega arith; turns = λ n. refl }

pub still_is_fair : IsFair still
still_is_fair = record { gas = λ n. omega arith; turns = λ n. refl }

pub keeps_turns : (price : ℕ → List Mark) → IsFair price → (s : Script) (env : Env) (w : World) (c : List Instr) (stack : List Val) (beside : Beside) →
    KeepsTurns beside.turns (rules price s env w c stack beside)
keeps_turns price fair s env w c stack beside = (rules_within price fair s env w c stack beside).keeps

pub ends_by_itself : (price : ℕ → List Mark) → IsFair price → (s : Script) (env : Env) (w : World) (c : List Instr) (stack : List Val) (beside : Beside) →
    EndsByItself (rules price s env w c stack beside).ending
ends_by_itself price fair s env w c stack beside = (rules_within price fair s env w c stack beside).fails

pub versions_ascend : (price : ℕ → List Mark) → IsFair price → (s : Script) (env : Env) (w : World) (c : List Instr) (stack : List Val) (beside : Beside) →
    AllAscend beside.versions → ReturnsAscending (rules price s env w c stack beside).ending
versions_ascend price fair s env w c stack beside = (rules_within price fair s env w c stack beside).ascends

pub costs_its_weight : (s : Script) (env : Env) (w : World) (c : List Instr) (stack : List Val) (beside : Beside) →
    CostsAtMost (code_weight c) (rules charges s env w c stack beside)
costs_its_weight s env w c stack beside =
    let r : Run (List Val) = rules charges s env w c stack beside in
    let cost : gas_in r.marks ≤ code_weight c * turns_in r.marks + code_weight c = (rules_within charges charges_are_fair s env w c stack beside).cost in
    let sum : code_weight c * (turns_in r.marks + 1) ≡ code_weight c * turns_in r.marks + code_weight c * 1 = mul-add (code_weight c) (turns_in r.marks) 1 in
    omega arith

-- the turns that are taken are among those that there were
taken_of : {A : Type 0} (turns taken : ℕ) (e : Ending A) → TurnsAddUp turns taken e → taken ≤ turns
taken_of turns taken (Return a beside) h = omega arith
taken_of turns taken (Failed y) h = h
taken_of turns taken Missed h = h

pub costs_for_turns : (s : Script) (env : Env) (w : World) (c : List Instr) (stack : List Val) (beside : Beside) →
    gas_in (rules charges s env w c stack beside).marks ≤ code_weight c * (beside.turns + 1)
costs_for_turns s env w c stack beside =
    let r : Run (List Val) = rules charges s env w c stack beside in
    let cost : gas_in r.marks ≤ code_weight c * (turns_in r.marks + 1) = costs_its_weight s env w c stack beside in
    let few : turns_in r.marks ≤ beside.turns = taken_of beside.turns (turns_in r.marks) r.ending (keeps_turns charges charges_are_fair s env w c stack beside) in
    let all : code_weight c * (turns_in r.marks + 1) ≤ code_weight c * (beside.turns + 1) = mul-le-mul_left (code_weight c) (omega arith) in
    omega (arith, cost, all)

pub script_keeps_turns : (s : Script) (env : Env) (w : World) (left : Budget) (param storage : Val) → KeepsTurns left.turns (run_of s env w left param storage)
script_keeps_turns s env w left param storage = keeps_turns charges charges_are_fair s env w s.code _ _
