-- A run with enough gas and room comes to its own end, with more to the same end, and is cut only where they don't last.
use Rattle.std.proofs.Common.{◌≡◌, ℕ, ◌+◌, ◌-◌, ◌<◌, ◌≤◌, Bool, true, false, cond, List, [], ◌∷◌, refl, sym, ap, subst, ◌∙◌, arith}
use Rattle.std.specs.Prelude.{nat_lt}
use Rattle.std.proofs.lemmas.Bool.{le-ltb, ltb-false, ltb-true}
use Rattle.michelson_code.specs.declared.why.Why.{Why}
use Rattle.michelson_code.specs.declared.why.Why.TheVariants as why
use Rattle.michelson_rules.specs.declared.ask.Budget.{Budget}
use Rattle.michelson_rules.specs.Lasting.{Lasts, after_marks, end_of, left_of, more_gas, more_room, with_left}
use Rattle.michelson_rules.specs.Metered.{Asked, Ended, Outcome, less_a_turn, less_gas, less_room, metered}
use Rattle.michelson_rules.specs.Runs.{Beside, Charge, Ending, Failed, Look, Mark, Missed, Return, Take, Turn}
use Rattle.michelson_rules.specs.Spent.{TurnsAddUp, gas_in, room_in, turns_in}

is_left : (left : Budget) (g t r : ℕ) → left.gas ≡ g → left.turns ≡ t → left.room ≡ r → left ≡ record { gas = g; turns = t; room = r }
is_left left g t r p q u = λ i. record { gas = p i; turns = q i; room = u i }

-- ---- ends

abbrev ByRoom : {A : Type 0} → Ending A → Type 0
ByRoom (Failed why.TooMuchData) = Unit {0}
ByRoom _ = ⊥

gas_is_no_room : {A : Type 0} (e : Ending A) → e ≡ Failed why.OutOfGas → e ≡ Failed why.TooMuchData → ⊥
gas_is_no_room e p q = subst ByRoom (sym (sym p ∙ q)) tt

-- the turns that are left add up with those that are still taken
one_less : {A : Type 0} (turns taken : ℕ) (e : Ending A) → TurnsAddUp turns (1 + taken) e → TurnsAddUp (turns - 1) taken e
one_less turns taken (Return a beside) h = omega arith
one_less turns taken (Failed y) h = omega arith
one_less turns taken Missed h = omega arith

-- what follows a charge or a take, where there is enough for it, and where there isn't
either_way : {P : Type 0} (m n : ℕ) → (nat_lt m n ≡ true → P) → (nat_lt m n ≡ false → P) → P
either_way {P = P} m n yes_cut no_cut = elim (nat_lt m n) as (λ b. nat_lt m n ≡ b → P) [ true ↦ yes_cut | false ↦ no_cut ] refl

-- ---- enough gas and room

module _ {A : Type 0} where
  -- where nothing is cut
  uncut : (b : Bool) (x y : Outcome A) → b ≡ false → cond b x y ≡ y
  uncut b x y p = ap (λ z. cond z x y) p

  pub lasts_to_its_end : (left : Budget) (marks : List Mark) (e : Ending A) → Lasts left marks → end_of (metered left marks e) ≡ e
  lasts_to_its_end left [] e h = refl
  lasts_to_its_end left (Charge n ∷ marks) e h =
      let gas = h.gas in let room = h.room in
      ap end_of (uncut (nat_lt left.gas n) _ _ (le-ltb left.gas n (omega (arith, gas))))
      ∙ lasts_to_its_end (less_gas left n) marks e (record { gas = omega (arith, gas); room = room })
  lasts_to_its_end left (Turn ∷ marks) e h = lasts_to_its_end (less_a_turn left) marks e (record { gas = h.gas; room = h.room })
  lasts_to_its_end left (Look a ∷ marks) e h = lasts_to_its_end left marks e (record { gas = h.gas; room = h.room })
  lasts_to_its_end left (Take n ∷ marks) e h =
      let gas = h.gas in let room = h.room in
      ap end_of (uncut (nat_lt left.room n) _ _ (le-ltb left.room n (omega (arith, room))))
      ∙ lasts_to_its_end (less_room left n) marks e (record { gas = gas; room = omega (arith, room) })

  pub leaves_the_rest : (left : Budget) (marks : List Mark) (e : Ending A) → Lasts left marks → left_of (metered left marks e) ≡ after_marks left marks
  leaves_the_rest left [] e h = is_left left _ _ _ (omega arith) (omega arith) (omega arith)
  leaves_the_rest left (Charge n ∷ marks) e h =
      let gas = h.gas in let room = h.room in
      ap left_of (uncut (nat_lt left.gas n) _ _ (le-ltb left.gas n (omega (arith, gas))))
      ∙ leaves_the_rest (less_gas left n) marks e (record { gas = omega (arith, gas); room = room })
      ∙ is_left _ _ _ _ (omega arith) refl refl
  leaves_the_rest left (Turn ∷ marks) e h =
      leaves_the_rest (less_a_turn left) marks e (record { gas = h.gas; room = h.room }) ∙ is_left _ _ _ _ refl (omega arith) refl
  leaves_the_rest left (Look a ∷ marks) e h = leaves_the_rest left marks e (record { gas = h.gas; room = h.room })
  leaves_the_rest left (Take n ∷ marks) e h =
      let gas = h.gas in let room = h.room in
      ap left_of (uncut (nat_lt left.room n) _ _ (le-ltb left.room n (omega (arith, room))))
      ∙ leaves_the_rest (less_room left n) marks e (record { gas = gas; room = omega (arith, room) })
      ∙ is_left _ _ _ _ refl refl (omega arith)

  -- ---- more gas, or more room

  -- a cut that stands, or doesn't, on both sides
  cut_on_both : (f : Budget → Budget) (b b' : Bool) (y : Why) (left : Budget) (x x' : Outcome A) → b' ≡ b → (b ≡ false → x' ≡ with_left f x) →
      cond b' (Ended (Failed y) (f left)) x' ≡ with_left f (cond b (Ended (Failed y) left) x)
  cut_on_both f true b' y left x x' p h = ap (λ z. cond z (Ended (Failed y) (f left)) x') p
  cut_on_both f false b' y left x x' p h = ap (λ z. cond z (Ended (Failed y) (f left)) x') p ∙ h refl

  -- a cut that can't be
  never_cut : (f : Budget → Budget) (b b' : Bool) (y : Why) (left : Budget) (x x' : Outcome A) → (b ≡ false → b' ≡ false) →
      (end_of (cond b (Ended (Failed y) left) x) ≡ Failed y → ⊥) → (b ≡ false → (end_of x ≡ Failed y → ⊥) → x' ≡ with_left f x) →
      cond b' (Ended (Failed y) (f left)) x' ≡ with_left f (cond b (Ended (Failed y) left) x)
  never_cut f true b' y left x x' p ok h = absurd (ok refl)
  never_cut f false b' y left x x' p ok h = ap (λ z. cond z (Ended (Failed y) (f left)) x') (p refl) ∙ h refl ok

  -- more gas, where gas lasted
  pub with_more_gas : (g : ℕ) (left : Budget) (marks : List Mark) (e : Ending A) → (end_of (metered left marks e) ≡ Failed why.OutOfGas → ⊥) →
      metered (more_gas g left) marks e ≡ with_left (more_gas g) (metered left marks e)
  with_more_gas g left [] e ok = refl
  with_more_gas g left (Charge n ∷ marks) e ok =
      never_cut (more_gas g) (nat_lt left.gas n) (nat_lt (left.gas + g) n) why.OutOfGas left (metered (less_gas left n) marks e) (metered (less_gas (more_gas g left) n) marks e)
      (λ p. let le = ltb-false left.gas n p in le-ltb (left.gas + g) n (omega (arith, le))) ok
      (λ p fine. let le = ltb-false left.gas n p in
      ap (λ l. metered l marks e) (is_left (less_gas (more_gas g left) n) (left.gas - n + g) left.turns left.room (omega (arith, le)) refl refl)
      ∙ with_more_gas g (less_gas left n) marks e fine)
  with_more_gas g left (Turn ∷ marks) e ok = with_more_gas g (less_a_turn left) marks e ok
  with_more_gas g left (Look a ∷ marks) e ok = ap (Asked a (more_gas g left)) (with_more_gas g left marks e ok)
  with_more_gas g left (Take n ∷ marks) e ok =
      cut_on_both (more_gas g) (nat_lt left.room n) (nat_lt left.room n) why.TooMuchData left (metered (less_room left n) marks e) (metered (less_room (more_gas g left) n) marks e) refl
      (λ p. with_more_gas g (less_room left n) marks e (λ q. ok (ap end_of (uncut (nat_lt left.room n) _ _ p) ∙ q)))

  -- more room, where room lasted
  pub with_more_room : (g : ℕ) (left : Budget) (marks : List Mark) (e : Ending A) → (end_of (metered left marks e) ≡ Failed why.TooMuchData → ⊥) →
      metered (more_room g left) marks e ≡ with_left (more_room g) (metered left marks e)
  with_more_room g left [] e ok = refl
  with_more_room g left (Charge n ∷ marks) e ok =
      cut_on_both (more_room g) (nat_lt left.gas n) (nat_lt left.gas n) why.OutOfGas left (metered (less_gas left n) marks e) (metered (less_gas (more_room g left) n) marks e) refl
      (λ p. with_more_room g (less_gas left n) marks e (λ q. ok (ap end_of (uncut (nat_lt left.gas n) _ _ p) ∙ q)))
  with_more_room g left (Turn ∷ marks) e ok = with_more_room g (less_a_turn left) marks e ok
  with_more_room g left (Look a ∷ marks) e ok = ap (Asked a (more_room g left)) (with_more_room g left marks e ok)
  with_more_room g left (Take n ∷ marks) e ok =
      never_cut (more_room g) (nat_lt left.room n) (nat_lt (left.room + g) n) why.TooMuchData left (metered (less_room left n) marks e) (metered (less_room (more_room g left) n) marks e)
      (λ p. let le = ltb-false left.room n p in le-ltb (left.room + g) n (omega (arith, le))) ok
      (λ p fine. let le = ltb-false left.room n p in
      ap (λ l. metered l marks e) (is_left (less_room (more_room g left) n) left.gas left.turns (left.room - n + g) refl refl (omega (arith, le)))
      ∙ with_more_room g (less_room left n) marks e fine)

  -- ---- cuts

  pub gas_is_passed : (left : Budget) (marks : List Mark) (e : Ending A) → (e ≡ Failed why.OutOfGas → ⊥) → end_of (metered left marks e) ≡ Failed why.OutOfGas → left.gas < gas_in marks
  gas_is_passed left [] e own h = absurd (own h)
  gas_is_passed left (Charge n ∷ marks) e own h =
      either_way left.gas n
      (λ p. let lt = ltb-true left.gas n p in omega (arith, lt))
      (λ p. let le = ltb-false left.gas n p in
      let more = gas_is_passed (less_gas left n) marks e own (sym (ap end_of (uncut (nat_lt left.gas n) _ _ p)) ∙ h) in omega (arith, le, more))
  gas_is_passed left (Turn ∷ marks) e own h = gas_is_passed (less_a_turn left) marks e own h
  gas_is_passed left (Look a ∷ marks) e own h = gas_is_passed left marks e own h
  gas_is_passed left (Take n ∷ marks) e own h =
      either_way left.room n
      (λ p. absurd (gas_is_no_room _ h (ap (λ b. end_of (cond b (Ended (Failed why.TooMuchData) left) (metered (less_room left n) marks e))) p)))
      (λ p. gas_is_passed (less_room left n) marks e own (sym (ap end_of (uncut (nat_lt left.room n) _ _ p)) ∙ h))

  pub room_is_passed : (left : Budget) (marks : List Mark) (e : Ending A) → (e ≡ Failed why.TooMuchData → ⊥) → end_of (metered left marks e) ≡ Failed why.TooMuchData → left.room < room_in marks
  room_is_passed left [] e own h = absurd (own h)
  room_is_passed left (Charge n ∷ marks) e own h =
      either_way left.gas n
      (λ p. absurd (gas_is_no_room _ (ap (λ b. end_of (cond b (Ended (Failed why.OutOfGas) left) (metered (less_gas left n) marks e))) p) h))
      (λ p. room_is_passed (less_gas left n) marks e own (sym (ap end_of (uncut (nat_lt left.gas n) _ _ p)) ∙ h))
  room_is_passed left (Turn ∷ marks) e own h = room_is_passed (less_a_turn left) marks e own h
  room_is_passed left (Look a ∷ marks) e own h = room_is_passed left marks e own h
  room_is_passed left (Take n ∷ marks) e own h =
      either_way left.room n
      (λ p. let lt = ltb-true left.room n p in omega (arith, lt))
      (λ p. let le = ltb-false left.room n p in
      let more = room_is_passed (less_room left n) marks e own (sym (ap end_of (uncut (nat_lt left.room n) _ _ p)) ∙ h) in omega (arith, le, more))

  pub gas_runs_out : (left : Budget) (marks : List Mark) (e : Ending A) → room_in marks ≤ left.room → left.gas < gas_in marks → end_of (metered left marks e) ≡ Failed why.OutOfGas
  gas_runs_out left [] e room gas = absurd (omega (arith, gas))
  gas_runs_out left (Charge n ∷ marks) e room gas =
      either_way left.gas n
      (λ p. ap (λ b. end_of (cond b (Ended (Failed why.OutOfGas) left) (metered (less_gas left n) marks e))) p)
      (λ p. let le = ltb-false left.gas n p in ap end_of (uncut (nat_lt left.gas n) _ _ p) ∙ gas_runs_out (less_gas left n) marks e room (omega (arith, gas, le)))
  gas_runs_out left (Turn ∷ marks) e room gas = gas_runs_out (less_a_turn left) marks e room gas
  gas_runs_out left (Look a ∷ marks) e room gas = gas_runs_out left marks e room gas
  gas_runs_out left (Take n ∷ marks) e room gas =
      ap end_of (uncut (nat_lt left.room n) _ _ (le-ltb left.room n (omega (arith, room)))) ∙ gas_runs_out (less_room left n) marks e (omega (arith, room)) gas

  pub room_runs_out : (left : Budget) (marks : List Mark) (e : Ending A) → gas_in marks ≤ left.gas → left.room < room_in marks → end_of (metered left marks e) ≡ Failed why.TooMuchData
  room_runs_out left [] e gas room = absurd (omega (arith, room))
  room_runs_out left (Charge n ∷ marks) e gas room =
      ap end_of (uncut (nat_lt left.gas n) _ _ (le-ltb left.gas n (omega (arith, gas)))) ∙ room_runs_out (less_gas left n) marks e (omega (arith, gas)) room
  room_runs_out left (Turn ∷ marks) e gas room = room_runs_out (less_a_turn left) marks e gas room
  room_runs_out left (Look a ∷ marks) e gas room = room_runs_out left marks e gas room
  room_runs_out left (Take n ∷ marks) e gas room =
      either_way left.room n
      (λ p. ap (λ b. end_of (cond b (Ended (Failed why.TooMuchData) left) (metered (less_room left n) marks e))) p)
      (λ p. let le = ltb-false left.room n p in ap end_of (uncut (nat_lt left.room n) _ _ p) ∙ room_runs_out (less_room left n) marks e gas (omega (arith, room, le)))

  -- ---- turns

  -- a cut returns nothing
  abbrev Returns : Ending A → Type 0
  Returns (Return a beside) = Unit {0}
  Returns _ = ⊥

  uncut_returns : (b : Bool) (y : Why) (left : Budget) (x : Outcome A) (a : A) (beside : Beside) → end_of (cond b (Ended (Failed y) left) x) ≡ Return a beside → b ≡ false
  uncut_returns true y left x a beside h = absurd (subst Returns (sym h) tt)
  uncut_returns false y left x a beside h = refl

  -- where a value is returned the turns that are left are those beside it
  pub same_turns : (left : Budget) (marks : List Mark) (e : Ending A) (a : A) (beside : Beside) → TurnsAddUp left.turns (turns_in marks) e →
      end_of (metered left marks e) ≡ Return a beside → (left_of (metered left marks e)).turns ≡ beside.turns
  same_turns left [] e a beside adds h = let sum : 0 + beside.turns ≡ left.turns = subst (TurnsAddUp left.turns 0) h adds in omega (arith, sum)
  same_turns left (Charge n ∷ marks) e a beside adds h =
      let p : nat_lt left.gas n ≡ false = uncut_returns (nat_lt left.gas n) _ _ _ a beside h in
      ap (λ (o : Outcome A). (left_of o).turns) (uncut (nat_lt left.gas n) _ _ p)
      ∙ same_turns (less_gas left n) marks e a beside adds (sym (ap end_of (uncut (nat_lt left.gas n) _ _ p)) ∙ h)
  same_turns left (Turn ∷ marks) e a beside adds h = same_turns (less_a_turn left) marks e a beside (one_less left.turns (turns_in marks) e adds) h
  same_turns left (Look a' ∷ marks) e a beside adds h = same_turns left marks e a beside adds h
  same_turns left (Take n ∷ marks) e a beside adds h =
      let p : nat_lt left.room n ≡ false = uncut_returns (nat_lt left.room n) _ _ _ a beside h in
      ap (λ (o : Outcome A). (left_of o).turns) (uncut (nat_lt left.room n) _ _ p)
      ∙ same_turns (less_room left n) marks e a beside adds (sym (ap end_of (uncut (nat_lt left.room n) _ _ p)) ∙ h)
