-- One run after another.
use Rattle.std.proofs.Common.{◌≡◌, List, [], ◌∷◌, ◌++◌, map, refl, sym, ap, ◌∙◌, append_assoc}
use Rattle.std.proofs.lemmas.List.{append-nil, map-append}
use Rattle.value_core.specs.declared.val.Val.{Val}
use Rattle.michelson_code.specs.declared.instr.Instr.{Instr}
use Rattle.michelson_code.specs.declared.script.Script.{Script}
use Rattle.michelson_rules.specs.declared.ask.Env.{Env}
use Rattle.michelson_rules.specs.World.{World}
use Rattle.michelson_rules.specs.Runs.{Beside, Ending, Failed, Mark, Missed, Return, Run, ends, go_on, prefixed, then_do}
use Rattle.michelson_rules.specs.Bodies.{Meaning, in_turn}
use Rattle.michelson_rules.specs.Rules.{rule, rules}
use Rattle.std.specs.Prelude.{ℕ}

-- only what comes after a return matters
go_on_alike : {A B : Type 0} (e : Ending A) (k j : A → Beside → Run B) → ((a : A) (b : Beside) → e ≡ Return a b → k a b ≡ j a b) → go_on e k ≡ go_on e j
go_on_alike (Return a b) k j h = h a b refl
go_on_alike (Failed y) k j h = refl
go_on_alike Missed k j h = refl

pub then_alike : {A B : Type 0} (r : Run A) (k j : A → Beside → Run B) → ((a : A) (b : Beside) → r.ending ≡ Return a b → k a b ≡ j a b) → then_do r k ≡ then_do r j
then_alike {B = B} r k j h = ap (λ (z : Run B). prefixed r.marks z) (go_on_alike r.ending k j h)

assoc : {A B C : Type 0} (ms : List Mark) (e : Ending A) (k : A → Beside → Run B) (j : B → Beside → Run C) →
    then_do (then_do (record { marks = ms; ending = e }) k) j ≡ then_do (record { marks = ms; ending = e }) (λ a b. then_do (k a b) j)
assoc ms (Return a b) k j = ap (λ l. record { marks = l; ending = (go_on (k a b).ending j).ending }) (append_assoc ms (k a b).marks (go_on (k a b).ending j).marks)
assoc ms (Failed y) k j = ap (λ l. record { marks = l; ending = Failed y }) (append-nil (ms ++ []))
assoc ms Missed k j = ap (λ l. record { marks = l; ending = Missed }) (append-nil (ms ++ []))

-- three runs one after another
pub then_assoc : {A B C : Type 0} (r : Run A) (k : A → Beside → Run B) (j : B → Beside → Run C) → then_do (then_do r k) j ≡ then_do r (λ a b. then_do (k a b) j)
then_assoc r k j = assoc r.marks r.ending k j

-- codes one after another
pub in_turn-append : (ms ns : List Meaning) (stack : List Val) (beside : Beside) → in_turn (ms ++ ns) stack beside ≡ then_do (in_turn ms stack beside) (in_turn ns)
in_turn-append [] ns stack beside = refl
in_turn-append (m ∷ ms) ns stack beside =
    ap (then_do (m stack beside)) (λ i s b. in_turn-append ms ns s b i) ∙ sym (then_assoc (m stack beside) (in_turn ms) (in_turn ns))

pub rules-append : (price : ℕ → List Mark) (s : Script) (env : Env) (w : World) (c d : List Instr) (stack : List Val) (beside : Beside) →
    rules price s env w (c ++ d) stack beside ≡ then_do (rules price s env w c stack beside) (rules price s env w d)
rules-append price s env w c d stack beside =
    ap (λ ms. in_turn ms stack beside) (map-append (rule price s env w) c d)
    ∙ in_turn-append (map (rule price s env w) c) (map (rule price s env w) d) stack beside

returns : {A : Type 0} (ms : List Mark) (e : Ending A) → then_do (record { marks = ms; ending = e }) (λ a b. ends (Return a b)) ≡ record { marks = ms; ending = e }
returns ms (Return a b) = ap (λ l. record { marks = l; ending = Return a b }) (append-nil ms)
returns ms (Failed y) = ap (λ l. record { marks = l; ending = Failed y }) (append-nil ms)
returns ms Missed = ap (λ l. record { marks = l; ending = Missed }) (append-nil ms)

-- nothing is done after a run
pub then_return : {A : Type 0} (r : Run A) → then_do r (λ a b. ends (Return a b)) ≡ r
then_return r = returns r.marks r.ending

-- marks before a run, and then another
pub then_prefixed : {A B : Type 0} (ms : List Mark) (r : Run A) (k : A → Beside → Run B) → then_do (prefixed ms r) k ≡ prefixed ms (then_do r k)
then_prefixed ms r k = ap (λ l. record { marks = l; ending = (go_on r.ending k).ending }) (append_assoc ms r.marks (go_on r.ending k).marks)
