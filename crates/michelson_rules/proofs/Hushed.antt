-- A run without its charges: one run after another, and each instruction with bodies.
use Rattle.std.proofs.Common.{◌≡◌, ℕ, zero, suc, ◌+◌, Bool, true, false, cond, List, [], ◌∷◌, ◌++◌, length, take, drop, Option, Some, None, refl, ap, ◌∙◌}
use Rattle.std.specs.Prelude.{nat_le}
use Rattle.value_core.specs.declared.val.Val.{Val}
use Rattle.value_core.specs.declared.val.Val.TheOpen as is
use Rattle.value_core.specs.declared.val.Val.TheVariants as value
use Rattle.value_core.specs.declared.val.Val.TheViews.{out-Val}
use Rattle.value_core.specs.Layer.{Layer}
use Rattle.michelson_rules.specs.Runs.{Beside, Changes, Charge, Ending, Failed, Look, Mark, Missed, Return, Run, Take, Turn, ends, in_a_turn, marked, then_do, with_turns}
use Rattle.michelson_rules.specs.Answers.{Answered, Gives, Ends, Misses, sized}
use Rattle.michelson_rules.specs.Bodies.{Again, Meaning, Neither, Off, On, below, by_bool, by_first, by_none, by_side, by_top, each, each_of, items_of, looped, on_top, once_more, repeated, results, with_result}
use Rattle.michelson_rules.specs.Rules.{answered, gathered, iterated, mapped}
use Rattle.michelson_rules.specs.Spent.{hushed, uncharged}

-- a meaning without the charges of its runs
abbrev pub quiet : Meaning → Meaning
quiet m stack beside = hushed (m stack beside)

pub uncharged-append : (xs ys : List Mark) → uncharged (xs ++ ys) ≡ uncharged xs ++ uncharged ys
uncharged-append [] ys = refl
uncharged-append (Charge n ∷ xs) ys = uncharged-append xs ys
uncharged-append (Turn ∷ xs) ys = ap (λ l. Turn ∷ l) (uncharged-append xs ys)
uncharged-append (Look a ∷ xs) ys = ap (λ l. Look a ∷ l) (uncharged-append xs ys)
uncharged-append (Take n ∷ xs) ys = ap (λ l. Take n ∷ l) (uncharged-append xs ys)

-- ---- runs

going : {A B : Type 0} (ms : List Mark) (e : Ending A) (k : A → Beside → Run B) →
    hushed (then_do (record { marks = ms; ending = e }) k) ≡ then_do (record { marks = uncharged ms; ending = e }) (λ a b. hushed (k a b))
going ms (Return a b) k = ap (λ l. record { marks = l; ending = (k a b).ending }) (uncharged-append ms (k a b).marks)
going ms (Failed y) k = ap (λ l. record { marks = l; ending = Failed y }) (uncharged-append ms [])
going ms Missed k = ap (λ l. record { marks = l; ending = Missed }) (uncharged-append ms [])

-- one run after another
pub quiet_then : {A B : Type 0} (r : Run A) (k : A → Beside → Run B) → hushed (then_do r k) ≡ then_do (hushed r) (λ a b. hushed (k a b))
quiet_then r k = going r.marks r.ending k

-- what comes after without charges of its own
pub quiet_last : {A B : Type 0} (r q : Run A) (k j : A → Beside → Run B) → hushed r ≡ q → ((a : A) (b : Beside) → hushed (k a b) ≡ j a b) → hushed (then_do r k) ≡ then_do q j
quiet_last r q k j p h = quiet_then r k ∙ (λ i. then_do (p i) (λ a b. h a b i))

turns_quiet : {A : Type 0} (turns : ℕ) (versions : List Changes) (body other : Beside → Run A) → ((b : Beside) → hushed (body b) ≡ other b) → hushed (with_turns turns versions body) ≡ with_turns turns versions other
turns_quiet zero versions body other h = refl
turns_quiet (suc turns) versions body other h = ap (marked Turn) (h _)

-- a body that starts for a turn
pub turn_quiet : {A : Type 0} (body other : Beside → Run A) → ((b : Beside) → hushed (body b) ≡ other b) → (beside : Beside) → hushed (in_a_turn body beside) ≡ in_a_turn other beside
turn_quiet body other h beside = turns_quiet beside.turns beside.versions body other h

quiet_cond : {A : Type 0} (b : Bool) (x y x' y' : Run A) → hushed x ≡ x' → hushed y ≡ y' → hushed (cond b x y) ≡ cond b x' y'
quiet_cond true x y x' y' p q = p
quiet_cond false x y x' y' p q = q

-- ---- instructions

pub answered_quiet : (a : Answered) (beside : Beside) → hushed (answered a beside) ≡ answered a beside
answered_quiet (Gives vs, stack) beside = refl
answered_quiet (Ends y, stack) beside = refl
answered_quiet (Misses, stack) beside = refl

pub below_quiet : (n : ℕ) (body other : Meaning) → quiet body ≡ other → (stack : List Val) (beside : Beside) → hushed (below n body stack beside) ≡ below n other stack beside
below_quiet n body other h stack beside =
    quiet_cond (nat_le n (length stack)) _ _ _ _
    (quiet_last (body (drop n stack) beside) _ _ (λ s b. ends (Return (take n stack ++ s) b)) (λ i. h i (drop n stack) beside) (λ s b. refl)) refl

pub on_top_quiet : (f g : Layer Val → Meaning) → ((x : Layer Val) (stack : List Val) (b : Beside) → hushed (f x stack b) ≡ g x stack b) →
    (stack : List Val) (beside : Beside) → hushed (on_top f stack beside) ≡ on_top g stack beside
on_top_quiet f g h (x ∷ stack) beside = h (out-Val x) stack beside
on_top_quiet f g h [] beside = refl

module _ (c d c' d' : Meaning) (first : quiet c ≡ c') (second : quiet d ≡ d') where
  pub bool_quiet : (x : Layer Val) (stack : List Val) (b : Beside) → hushed (by_bool c d x stack b) ≡ by_bool c' d' x stack b
  bool_quiet (is.Bool true) stack b = λ i. first i stack b
  bool_quiet (is.Bool false) stack b = λ i. second i stack b
  bool_quiet _ stack b = refl

  pub none_quiet : (x : Layer Val) (stack : List Val) (b : Beside) → hushed (by_none c d x stack b) ≡ by_none c' d' x stack b
  none_quiet is.Nothing stack b = λ i. first i stack b
  none_quiet (is.Some v) stack b = λ i. second i (v ∷ stack) b
  none_quiet _ stack b = refl

  pub side_quiet : (x : Layer Val) (stack : List Val) (b : Beside) → hushed (by_side c d x stack b) ≡ by_side c' d' x stack b
  side_quiet (is.Left v) stack b = λ i. first i (v ∷ stack) b
  side_quiet (is.Right v) stack b = λ i. second i (v ∷ stack) b
  side_quiet _ stack b = refl

  pub first_quiet : (x : Layer Val) (stack : List Val) (b : Beside) → hushed (by_first c d x stack b) ≡ by_first c' d' x stack b
  first_quiet (is.List []) stack b = λ i. second i stack b
  first_quiet (is.List (v ∷ items)) stack b = λ i. first i (v ∷ value.List items ∷ stack) b
  first_quiet _ stack b = refl

module _ (body other : Meaning) (is_other : quiet body ≡ other) where
  once_quiet : (k j : Meaning) → ((stack : List Val) (b : Beside) → hushed (k stack b) ≡ j stack b) → (again : Again) (beside : Beside) → hushed (once_more body k again beside) ≡ once_more other j again beside
  once_quiet k j h (On stack) beside =
      turn_quiet (λ b. then_do (body stack b) k) (λ b. then_do (other stack b) j) (λ b. quiet_last (body stack b) (other stack b) k j (λ i. is_other i stack b) h) beside
  once_quiet k j h (Off stack) beside = refl
  once_quiet k j h Neither beside = refl

  repeated_quiet : (n : ℕ) (while : Layer Val → List Val → Again) (stack : List Val) (beside : Beside) → hushed (repeated n while body stack beside) ≡ repeated n while other stack beside
  repeated_quiet zero while stack beside = refl
  repeated_quiet (suc n) while stack beside = once_quiet (repeated n while body) (repeated n while other) (repeated_quiet n while) (by_top while stack) beside

  pub looped_quiet : (while : Layer Val → List Val → Again) (stack : List Val) (beside : Beside) → hushed (looped while body stack beside) ≡ looped while other stack beside
  looped_quiet while stack beside = repeated_quiet (beside.turns + 1) while stack beside

  each_quiet : (items stack : List Val) (beside : Beside) → hushed (each body items stack beside) ≡ each other items stack beside
  each_quiet [] stack beside = refl
  each_quiet (x ∷ items) stack beside =
      turn_quiet (λ b. then_do (body (x ∷ stack) b) (each body items)) (λ b. then_do (other (x ∷ stack) b) (each other items))
      (λ b. quiet_last (body (x ∷ stack) b) (other (x ∷ stack) b) (each body items) (each other items) (λ i. is_other i (x ∷ stack) b) (each_quiet items)) beside

  each_of_quiet : (items : Option (List Val)) (stack : List Val) (beside : Beside) → hushed (each_of body items stack beside) ≡ each_of other items stack beside
  each_of_quiet (Some items) stack beside = each_quiet items stack beside
  each_of_quiet None stack beside = refl

  pub iterated_quiet : (x : Layer Val) (stack : List Val) (beside : Beside) → hushed (iterated body x stack beside) ≡ iterated other x stack beside
  iterated_quiet x = each_of_quiet (items_of x)

  result_quiet : (k j : List Val → Beside → Run (List Val × List Val)) → ((stack : List Val) (b : Beside) → hushed (k stack b) ≡ j stack b) →
      (stack : List Val) (beside : Beside) → hushed (with_result k stack beside) ≡ with_result j stack beside
  result_quiet k j h (y ∷ stack) beside = quiet_last (k stack beside) (j stack beside) _ (λ r b. ends (Return (y ∷ r.0, r.1) b)) (h stack beside) (λ r b. refl)
  result_quiet k j h [] beside = refl

  results_quiet : (items stack : List Val) (beside : Beside) → hushed (results body items stack beside) ≡ results other items stack beside
  results_quiet [] stack beside = refl
  results_quiet (x ∷ items) stack beside =
      turn_quiet (λ b. then_do (body (x ∷ stack) b) (with_result (results body items))) (λ b. then_do (other (x ∷ stack) b) (with_result (results other items)))
      (λ b. quiet_last (body (x ∷ stack) b) (other (x ∷ stack) b) (with_result (results body items)) (with_result (results other items)) (λ i. is_other i (x ∷ stack) b)
      (result_quiet (results body items) (results other items) (results_quiet items))) beside

  gathered_quiet : (x : Layer Val) (r : List Val × List Val) (beside : Beside) → hushed (gathered x r beside) ≡ gathered x r beside
  gathered_quiet (is.List items) (vs, stack) beside = answered_quiet (sized (value.List vs), stack) beside
  gathered_quiet (is.Map entries) (vs, stack) beside = answered_quiet (sized _, stack) beside
  gathered_quiet _ (vs, stack) beside = refl

  mapped_items_quiet : (x : Layer Val) (items stack : List Val) (beside : Beside) →
      hushed (then_do (results body items stack beside) (gathered x)) ≡ then_do (results other items stack beside) (gathered x)
  mapped_items_quiet x items stack beside = quiet_last (results body items stack beside) _ (gathered x) (gathered x) (results_quiet items stack beside) (gathered_quiet x)

  pub mapped_quiet : (x : Layer Val) (stack : List Val) (beside : Beside) → hushed (mapped body x stack beside) ≡ mapped other x stack beside
  mapped_quiet (is.Set items) stack beside = refl
  mapped_quiet (is.List items) stack beside = mapped_items_quiet (is.List items) items stack beside
  mapped_quiet (is.Map entries) stack beside = mapped_items_quiet (is.Map entries) _ stack beside
  mapped_quiet _ stack beside = refl
