-- What is true of each run of each code.
use Rattle.std.specs.Prelude.{◌≡◌, ℕ, List, ◌++◌}
use Rattle.value_core.specs.declared.val.Val.{Val}
use Rattle.value_core.specs.Layer.{Layer}
use Rattle.michelson_code.specs.declared.instr.Instr.{Instr}
use Rattle.michelson_code.specs.declared.script.Script.{Script}
use Rattle.michelson_rules.specs.declared.ask.Budget.{Budget}
use Rattle.michelson_rules.specs.declared.ask.Env.{Env}
use Rattle.michelson_rules.specs.World.{World}
use Rattle.michelson_rules.specs.Runs.{Beside, Ending, Mark, Run, then_do}
use Rattle.michelson_rules.specs.Bodies.{Again, Meaning, by_top, looped, once_more}
use Rattle.michelson_rules.specs.Rules.{rules}
use Rattle.michelson_rules.specs.Metered.{Outcome, metered, run_of, script_outcome}
use Rattle.michelson_rules.specs.Spent.{hushed}

-- of each code with its script, who called and the ledger
abbrev pub EachCode : ((List Instr → Meaning) → Type 0) → (ℕ → List Mark) → Type 0
EachCode P price = (s : Script) (env : Env) (w : World) → P (rules price s env w)

-- a code, what stands beside at the beginning, and the run
abbrev pub EachRun : (ℕ → List Mark) → (List Instr → Beside → Run (List Val) → Type 0) → Type 0
EachRun price P = EachCode (λ run. (c : List Instr) (stack : List Val) (beside : Beside) → P c beside (run c stack beside)) price

-- of two codes one after another the second runs on what the first returns
abbrev pub RunsInTurn : (List Instr → Meaning) → Type 0
RunsInTurn run = (c d : List Instr) (stack : List Val) (beside : Beside) → run (c ++ d) stack beside ≡ then_do (run c stack beside) (run d)

-- a loop is its body for a turn, and then the loop again
abbrev pub LoopsOn : (Layer Val → List Val → Again) → (List Instr → Meaning) → Type 0
LoopsOn while run = (c : List Instr) (stack : List Val) (beside : Beside) →
    looped while (run c) stack beside ≡ once_more (run c) (looped while (run c)) (by_top while stack) beside

-- by two ways to charge the runs are alike, but for the charges
abbrev pub AreAlike : (ℕ → List Mark) → (ℕ → List Mark) → Type 0
AreAlike loud calm = (s : Script) (env : Env) (w : World) (c : List Instr) (stack : List Val) (beside : Beside) →
    hushed (rules loud s env w c stack beside) ≡ rules calm s env w c stack beside

-- of whatever a budget, marks and an end come to
abbrev pub EachOutcome : (Budget → List Mark → Ending (List Val) → Outcome (List Val) → Type 0) → Type 0
EachOutcome P = (left : Budget) (marks : List Mark) (e : Ending (List Val)) → P left marks e (metered left marks e)

-- of each script with its budget: its run, and what it comes to
abbrev pub EachScript : (Script → Budget → Run (List Val) → Outcome (List Val) → Type 0) → Type 0
EachScript P = (s : Script) (env : Env) (w : World) (left : Budget) (param storage : Val) →
    P s left (run_of s env w left param storage) (script_outcome s env w left param storage)
