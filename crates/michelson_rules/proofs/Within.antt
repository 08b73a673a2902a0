-- Runs that cost so much outside of turns and so much in each, and take no other turns than they have.
use Rattle.std.proofs.Common.{◌≡◌, ℕ, zero, suc, ◌+◌, ◌*◌, ◌≤◌, Bool, true, false, cond, List, [], ◌∷◌, ◌++◌, sym, ap, subst, ◌∙◌, arith}
use Rattle.std.proofs.Math.Nat.{mul-add, mul-le-mul_right}
use Rattle.michelson_rules.specs.Runs.{Beside, Changes, Charge, Ending, Failed, Look, Mark, Missed, Return, Run, Take, Turn, ends, marked, prefixed, then_do, with_turns, in_a_turn}
use Rattle.michelson_rules.specs.Causes.{EndsByItself}
use Rattle.michelson_rules.specs.Versions.{AllAscend, ReturnsAscending}
use Rattle.michelson_rules.specs.Spent.{TurnsAddUp, gas_in, turns_in}

-- each turn costs at most each, and what is outside at most once; turns are kept; failures are of the code; versions go on ascending
pub record Within {A : Type 0} (each once : ℕ) (start : Beside) (r : Run A) : Type 0 where
  pub cost : gas_in r.marks ≤ each * turns_in r.marks + once
  pub keeps : TurnsAddUp start.turns (turns_in r.marks) r.ending
  pub fails : EndsByItself r.ending
  pub ascends : AllAscend start.versions → ReturnsAscending r.ending

-- ---- sums over marks

pub gas_in-append : (xs ys : List Mark) → gas_in (xs ++ ys) ≡ gas_in xs + gas_in ys
gas_in-append [] ys = omega arith
gas_in-append (Charge c ∷ xs) ys = let h : gas_in (xs ++ ys) ≡ gas_in xs + gas_in ys = gas_in-append xs ys in omega arith
gas_in-append (Turn ∷ xs) ys = gas_in-append xs ys
gas_in-append (Look a ∷ xs) ys = gas_in-append xs ys
gas_in-append (Take n ∷ xs) ys = gas_in-append xs ys

pub turns_in-append : (xs ys : List Mark) → turns_in (xs ++ ys) ≡ turns_in xs + turns_in ys
turns_in-append [] ys = omega arith
turns_in-append (Charge c ∷ xs) ys = turns_in-append xs ys
turns_in-append (Turn ∷ xs) ys = let h : turns_in (xs ++ ys) ≡ turns_in xs + turns_in ys = turns_in-append xs ys in omega arith
turns_in-append (Look a ∷ xs) ys = turns_in-append xs ys
turns_in-append (Take n ∷ xs) ys = turns_in-append xs ys

-- ---- numbers

both_cost : (each a b t u m n : ℕ) → m ≤ each * t + a → n ≤ each * u + b → m + n ≤ each * (t + u) + (a + b)
both_cost each a b t u m n p q = let e : each * (t + u) ≡ each * t + each * u = mul-add each t u in omega arith

more : (each each' a a' t m : ℕ) → each ≤ each' → a ≤ a' → m ≤ each * t + a → m ≤ each' * t + a'
more each each' a a' t m p q h = let e : each * t ≤ each' * t = mul-le-mul_right t p in omega arith

-- turns that were taken before
adds_up : {A : Type 0} (turns left before taken : ℕ) (e : Ending A) → before + left ≡ turns → TurnsAddUp left taken e → TurnsAddUp turns (before + taken) e
adds_up turns left before taken (Return a b) p h = omega arith
adds_up turns left before taken (Failed y) p h = omega arith
adds_up turns left before taken Missed p h = omega arith

-- ---- runs

pub wider : {A : Type 0} (each each' once once' : ℕ) (start : Beside) (r : Run A) → each ≤ each' → once ≤ once' → Within each once start r → Within each' once' start r
wider each each' once once' start r p q h = record { cost = more each each' once once' (turns_in r.marks) (gas_in r.marks) p q h.cost; keeps = h.keeps; fails = h.fails; ascends = h.ascends }

-- a run that ends at once
pub returns_at_once : {A : Type 0} (each once : ℕ) (a : A) (beside : Beside) → Within each once beside (ends (Return a beside))
returns_at_once each once a beside = record { cost = omega arith; keeps = omega arith; fails = tt; ascends = λ up. up }

pub misses_at_once : {A : Type 0} (each once : ℕ) (start : Beside) → Within each once start (ends {A = A} Missed)
misses_at_once each once start = record { cost = omega arith; keeps = omega arith; fails = tt; ascends = λ up. tt }

after : {A B : Type 0} (each a b : ℕ) (start : Beside) (ms : List Mark) (e : Ending A) (k : A → Beside → Run B) →
    Within each a start (record { marks = ms; ending = e }) → ((x : A) (beside : Beside) → Within each b beside (k x beside)) →
    Within each (a + b) start (then_do (record { marks = ms; ending = e }) k)
after {B = B} each a b start ms (Return x beside) k h f =
    let r : Run B = k x beside in
    record {
      cost = subst (λ n. n ≤ each * turns_in (ms ++ r.marks) + (a + b)) (sym (gas_in-append ms r.marks))
          (subst (λ n. gas_in ms + gas_in r.marks ≤ each * n + (a + b)) (sym (turns_in-append ms r.marks))
          (both_cost each a b (turns_in ms) (turns_in r.marks) (gas_in ms) (gas_in r.marks) h.cost (f x beside).cost));
      fails = (f x beside).fails;
      ascends = λ up. (f x beside).ascends (h.ascends up);
      keeps = subst (λ n. TurnsAddUp start.turns n r.ending) (sym (turns_in-append ms r.marks))
          (adds_up start.turns beside.turns (turns_in ms) (turns_in r.marks) r.ending h.keeps (f x beside).keeps);
    }
after each a b start ms (Failed y) k h f =
    let gas = gas_in-append ms [] in let taken = turns_in-append ms [] in let cost = h.cost in let keeps = h.keeps in
    record { cost = rw (gas, taken) (both_cost each a b (turns_in ms) 0 (gas_in ms) 0 h.cost (omega arith)); keeps = omega (arith, taken, keeps); fails = h.fails; ascends = λ up. tt }
after each a b start ms Missed k h f =
    let gas = gas_in-append ms [] in let taken = turns_in-append ms [] in let cost = h.cost in let keeps = h.keeps in
    record { cost = rw (gas, taken) (both_cost each a b (turns_in ms) 0 (gas_in ms) 0 h.cost (omega arith)); keeps = omega (arith, taken, keeps); fails = h.fails; ascends = λ up. tt }

-- one run after another
pub within_then : {A B : Type 0} (each a b : ℕ) (start : Beside) (r : Run A) (k : A → Beside → Run B) →
    Within each a start r → ((x : A) (beside : Beside) → Within each b beside (k x beside)) → Within each (a + b) start (then_do r k)
within_then each a b start r k h f = after each a b start r.marks r.ending k h f

-- the same where what comes after costs nothing of its own
pub within_last : {A B : Type 0} (each a : ℕ) (start : Beside) (r : Run A) (k : A → Beside → Run B) →
    Within each a start r → ((x : A) (beside : Beside) → Within each 0 beside (k x beside)) → Within each a start (then_do r k)
within_last each a start r k h f = wider each each (a + 0) a start (then_do r k) (omega arith) (omega arith) (within_then each a 0 start r k h f)

pub within_cond : {A : Type 0} (each once : ℕ) (start : Beside) (b : Bool) (x y : Run A) → Within each once start x → Within each once start y → Within each once start (cond b x y)
within_cond each once start true x y p q = p
within_cond each once start false x y p q = q

one_turn : {A : Type 0} (each turns : ℕ) (versions : List Changes) (r : Run A) →
    Within each each (record { turns = turns; versions = versions }) r → Within each 0 (record { turns = suc turns; versions = versions }) (marked Turn r)
one_turn each turns versions r h =
    record {
      cost = let e : each * (1 + turns_in r.marks) ≡ each * 1 + each * turns_in r.marks = mul-add each 1 (turns_in r.marks) in
          let k : gas_in r.marks ≤ each * turns_in r.marks + each = h.cost in omega arith;
      fails = h.fails;
      ascends = h.ascends;
      keeps = adds_up (suc turns) turns 1 (turns_in r.marks) r.ending (omega arith) h.keeps;
    }

with_turns_within : {A : Type 0} (each turns : ℕ) (versions : List Changes) (body : Beside → Run A) →
    ((beside : Beside) → Within each each beside (body beside)) → Within each 0 (record { turns = turns; versions = versions }) (with_turns turns versions body)
with_turns_within each zero versions body h = record { cost = omega arith; keeps = omega arith; fails = tt; ascends = λ up. tt }
with_turns_within each (suc turns) versions body h = one_turn each turns versions (body _) (h _)

-- a body that starts for a turn
pub turn_within : {A : Type 0} (each : ℕ) (body : Beside → Run A) →
    ((beside : Beside) → Within each each beside (body beside)) → (beside : Beside) → Within each 0 beside (in_a_turn body beside)
turn_within each body h beside = with_turns_within each beside.turns beside.versions body h

-- a charge before a run
pub paid : {A : Type 0} (cost n : ℕ) (start : Beside) (ms : List Mark) (r : Run A) → gas_in ms ≤ cost → turns_in ms ≡ 0 → Within n n start r → Within (cost + n) (cost + n) start (prefixed ms r)
paid cost n start ms r p q h =
    let wide : Within (cost + n) n start r = wider n (cost + n) n n start r (omega arith) (omega arith) h in
    let gas = gas_in-append ms r.marks in
    let taken : turns_in (ms ++ r.marks) ≡ turns_in r.marks = turns_in-append ms r.marks ∙ ap (λ k. k + turns_in r.marks) q ∙ omega arith in
    record {
      cost = rw (gas, taken) (let inside = wide.cost in omega (arith, inside, p));
      fails = h.fails;
      ascends = h.ascends;
      keeps = subst (λ k. TurnsAddUp start.turns k r.ending) (sym taken) h.keeps;
    }
