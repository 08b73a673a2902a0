-- The bound on the times of a loop is never met, since no run returns more turns than it had.
use Rattle.std.proofs.Common.{◌≡◌, ℕ, zero, suc, ◌+◌, ◌<◌, ◌≤◌, List, refl, ap, subst, ◌∙◌, add-one, arith}
use Rattle.value_core.specs.declared.val.Val.{Val}
use Rattle.value_core.specs.Layer.{Layer}
use Rattle.michelson_code.specs.declared.instr.Instr.{Instr}
use Rattle.michelson_code.specs.declared.script.Script.{Script}
use Rattle.michelson_rules.specs.declared.ask.Env.{Env}
use Rattle.michelson_rules.specs.World.{World}
use Rattle.michelson_rules.specs.Runs.{Beside, Changes, Ending, Failed, Mark, Missed, Return, Turn, marked}
use Rattle.michelson_rules.specs.Bodies.{Again, Meaning, Neither, Off, On, by_top, looped, once_more, repeated}
use Rattle.michelson_rules.specs.Rules.{rules}
use Rattle.michelson_rules.specs.Spent.{IsFair, TurnsAddUp, turns_in}
use Rattle.michelson_rules.proofs.ThenDo.{then_alike}
use Rattle.michelson_rules.proofs.WithinRules.{rules_within}

-- no more turns are returned than there were
abbrev Leaves : {A : Type 0} → ℕ → Ending A → Type 0
Leaves turns (Return a beside) = beside.turns ≤ turns
Leaves turns (Failed y) = Unit {0}
Leaves turns Missed = Unit {0}

leaves : {A : Type 0} (turns taken : ℕ) (e : Ending A) → TurnsAddUp turns taken e → Leaves turns e
leaves turns taken (Return a beside) h = omega arith
leaves turns taken (Failed y) h = tt
leaves turns taken Missed h = tt

module _ (while : Layer Val → List Val → Again) (body : Meaning) (frugal : (stack : List Val) (b : Beside) → Leaves b.turns (body stack b).ending) where
  once_alike : (k j : Meaning) (again : Again) (turns : ℕ) (versions : List Changes) →
      ((stack : List Val) (b : Beside) → b.turns < turns → k stack b ≡ j stack b) →
      once_more body k again (record { turns = turns; versions = versions }) ≡ once_more body j again (record { turns = turns; versions = versions })
  once_alike k j (On stack) zero versions h = refl
  once_alike k j (On stack) (suc turns) versions h =
      let start : Beside = record { turns = turns; versions = versions } in
      ap (marked Turn) (then_alike (body stack start) k j (λ st b is.
      let le : b.turns ≤ turns = subst (Leaves turns) is (frugal stack start) in h st b (omega arith)))
  once_alike k j (Off stack) turns versions h = refl
  once_alike k j Neither turns versions h = refl

  enough : (n m : ℕ) (stack : List Val) (b : Beside) → b.turns < n → b.turns < m → repeated n while body stack b ≡ repeated m while body stack b
  enough zero m stack b p q = absurd (omega arith)
  enough (suc n) zero stack b p q = absurd (omega arith)
  enough (suc n) (suc m) stack b p q =
      once_alike (repeated n while body) (repeated m while body) (by_top while stack) b.turns b.versions (λ st c less. enough n m st c (omega arith) (omega arith))

  goes_round : (stack : List Val) (b : Beside) → looped while body stack b ≡ once_more body (looped while body) (by_top while stack) b
  goes_round stack b =
      ap (λ n. repeated n while body stack b) (add-one b.turns)
      ∙ once_alike (repeated b.turns while body) (looped while body) (by_top while stack) b.turns b.versions
      (λ st c less. enough b.turns (c.turns + 1) st c (omega arith) (omega arith))

-- a loop is its body for a turn, and then the loop again
pub loops_on : (price : ℕ → List Mark) → IsFair price → (s : Script) (env : Env) (w : World) (while : Layer Val → List Val → Again) (c : List Instr) (stack : List Val) (beside : Beside) →
    looped while (rules price s env w c) stack beside ≡ once_more (rules price s env w c) (looped while (rules price s env w c)) (by_top while stack) beside
loops_on price fair s env w while c =
    let body : Meaning = rules price s env w c in
    goes_round while body (λ st b. leaves b.turns (turns_in (body st b).marks) (body st b).ending (rules_within price fair s env w c st b).keeps)
