-- What an access gives depends on its cell alone, and accesses that don't conflict may be exchanged.
use Rattle.std.proofs.Common.{◌≡◌, ℕ, ◌+◌, ◌-◌, ◌≤◌, Bool, true, false, cond, List, Option, refl, sym, ap, subst, ◌∙◌, arith}
use Rattle.std.specs.Prelude.{nat_lt, if◌then◌else◌}
use Rattle.std.specs.FinMap.{get}
use Rattle.value_core.specs.declared.val.Val.{Val}
use Rattle.cell_names.specs.declared.cell.Cell.{Cell}
use Rattle.cell_names.specs.declared.cell.Cell.TheVariants as cells
use Rattle.cell_names.specs.declared.access.Access.{Access}
use Rattle.cell_names.specs.declared.access.Access.TheVariants as access
use Rattle.cell_names.specs.declared.access.Reply.TheVariants as reply
use Rattle.cell_names.specs.declared.access.Undo.TheVariants as undo
use Rattle.cell_names.specs.declared.mode.Mode.{Mode}
use Rattle.cell_names.specs.declared.mode.Mode.TheVariants as mode
use Rattle.cell_names.specs.Modes.{conflicts}
use Rattle.cell_names.specs.Contents.{Contents, amount_in, amount_kept, balance, with_balance}
use Rattle.cell_names.specs.Effects.{cell_of, mode_needed, after, flight_after}
use Rattle.cell_names.specs.Conditions.{IsCovered}
use Rattle.cell_names.specs.Laws.{AreApart, GivesSame, MayBeExchanged}
use Rattle.cell_names.proofs.Puts.{is_one, one_from, is_one-self, left_in, same_contents, get-with_balance, get-after, get-after_there, get-after_elsewhere}
use Rattle.cell_names.proofs.Undoing.{cond_twice, balance-with_balance}

-- ---- its cell alone

pub gives_same : (a : Access) (m n : Contents) → get m (cell_of a) ≡ get n (cell_of a) → GivesSame a m n
gives_same (access.Read c) m n e = record { reply = ap reply.Value e; undo = refl; left = e; flight = λ f. refl }
gives_same (access.Write c v) m n e = record {
  reply = refl;
  undo = ap (undo.Put c) e;
  left = get-after_there (access.Write c v) m ∙ sym (get-after_there (access.Write c v) n);
  flight = λ f. refl;
}
gives_same (access.Credit a k) m n e = record {
  reply = refl;
  undo = refl;
  left = get-after_there (access.Credit a k) m ∙ ap (left_in (access.Credit a k)) e ∙ sym (get-after_there (access.Credit a k) n);
  flight = λ f. refl;
}
gives_same (access.Debit a k) m n e = record {
  reply = ap (λ (o : Option Val). if nat_lt (amount_in o) k then reply.Low else reply.Done) e;
  undo = ap (λ (o : Option Val). if nat_lt (amount_in o) k then undo.Nothing else undo.Undebit a k) e;
  left = get-after_there (access.Debit a k) m ∙ ap (left_in (access.Debit a k)) e ∙ sym (get-after_there (access.Debit a k) n);
  flight = λ f. ap (λ (o : Option Val). if nat_lt (amount_in o) k then f else f + k) e;
}

-- ---- two accesses of different cells

swapped : {A : Type 0} (x y : Bool) (k l g : A) → (x ≡ true → y ≡ true → ⊥) → cond x k (cond y l g) ≡ cond y l (cond x k g)
swapped true true k l g apart = absurd (apart refl refl)
swapped true false k l g apart = refl
swapped false y k l g apart = refl

-- what stands in a cell after one access and another of a different cell
get-after_both : (a b : Access) (m : Contents) (q : Cell) → ¬ (cell_of b ≡ cell_of a) →
    get (after b (after a m)) q ≡ cond (is_one q (cell_of b)) (left_in b (get m (cell_of b))) (cond (is_one q (cell_of a)) (left_in a (get m (cell_of a))) (get m q))
get-after_both a b m q apart =
    get-after b (after a m) q
    ∙ (λ i. cond (is_one q (cell_of b)) (left_in b (get-after_elsewhere a m (cell_of b) apart i)) (get-after a m q i))

apart_cells : (a b : Access) (m : Contents) → ¬ (cell_of a ≡ cell_of b) → after b (after a m) ≡ after a (after b m)
apart_cells a b m apart = same_contents _ _ (λ q.
    get-after_both a b m q (λ e. apart (sym e))
    ∙ swapped (is_one q (cell_of b)) (is_one q (cell_of a)) _ _ _ (λ x y. apart (sym (one_from q (cell_of a) y) ∙ one_from q (cell_of b) x))
    ∙ sym (get-after_both b a m q apart))

apart_exchanged : (a b : Access) (m : Contents) → ¬ (cell_of a ≡ cell_of b) → MayBeExchanged a b m
apart_exchanged a b m apart =
    let same = gives_same b (after a m) m (get-after_elsewhere a m (cell_of b) (λ e. apart (sym e))) in
    record { cells = apart_cells a b m apart; reply = same.reply; undo = same.undo }

-- ---- two accesses of one cell

-- two credits of an account add up
credited_twice : (m : Contents) (a : List ℕ) (n k : ℕ) → with_balance (with_balance m a (balance m a + n)) a (balance (with_balance m a (balance m a + n)) a + k) ≡ with_balance m a (balance m a + (n + k))
credited_twice m a n k =
    let sum : balance (with_balance m a (balance m a + n)) a + k ≡ balance m a + (n + k) = omega (arith, balance-with_balance m a (balance m a + n)) in
    ap (with_balance (with_balance m a (balance m a + n)) a) sum
    ∙ same_contents _ _ (λ q.
    get-with_balance (with_balance m a (balance m a + n)) a (balance m a + (n + k)) q
    ∙ ap (cond (is_one q (cells.Balance a)) (amount_kept (balance m a + (n + k)))) (get-with_balance m a (balance m a + n) q)
    ∙ cond_twice (is_one q (cells.Balance a)) _ _ _
    ∙ sym (get-with_balance m a (balance m a + (n + k)) q))

balances_of_one : (a b : List ℕ) → cells.Balance a ≡ cells.Balance b → a ≡ b
balances_of_one a b e = cc

credits_exchanged : (a b : List ℕ) (n k : ℕ) (m : Contents) → a ≡ b → after (access.Credit b k) (after (access.Credit a n) m) ≡ after (access.Credit a n) (after (access.Credit b k) m)
credits_exchanged a b n k m e =
    let sums : n + k ≡ k + n = omega arith in
    let twice : after (access.Credit a k) (after (access.Credit a n) m) ≡ after (access.Credit a n) (after (access.Credit a k) m) =
    credited_twice m a n k ∙ ap (λ s. with_balance m a (balance m a + s)) sums ∙ sym (credited_twice m a k n) in
    subst (λ (c : List ℕ). after (access.Credit c k) (after (access.Credit a n) m) ≡ after (access.Credit a n) (after (access.Credit c k) m)) e twice

one_exchanged : (a b : Access) (m : Contents) → cell_of a ≡ cell_of b → conflicts (mode_needed a) (mode_needed b) ≡ false → MayBeExchanged a b m
one_exchanged (access.Read c) b m e free = record { cells = refl; reply = refl; undo = refl }
one_exchanged (access.Credit a n) (access.Credit b k) m e free = record { cells = credits_exchanged a b n k m (balances_of_one a b e); reply = refl; undo = refl }
one_exchanged (access.Credit a n) (access.Read d) m e free = absurd cc
one_exchanged (access.Credit a n) (access.Write d v) m e free = absurd cc
one_exchanged (access.Credit a n) (access.Debit b k) m e free = absurd cc
one_exchanged (access.Write c v) (access.Read d) m e free = absurd cc
one_exchanged (access.Write c v) (access.Write d w) m e free = absurd cc
one_exchanged (access.Write c v) (access.Credit b k) m e free = absurd cc
one_exchanged (access.Write c v) (access.Debit b k) m e free = absurd cc
one_exchanged (access.Debit a n) (access.Read d) m e free = absurd cc
one_exchanged (access.Debit a n) (access.Write d w) m e free = absurd cc
one_exchanged (access.Debit a n) (access.Credit b k) m e free = absurd cc
one_exchanged (access.Debit a n) (access.Debit b k) m e free = absurd cc

differ : (c d : Cell) → is_one c d ≡ false → ¬ (c ≡ d)
differ c d e same = let here : is_one c d ≡ true = ap (is_one c) (sym same) ∙ is_one-self c in absurd cc

pub exchanged : (a b : Access) (m : Contents) → AreApart a b → MayBeExchanged a b m
exchanged a b m apart = elim (is_one (cell_of a) (cell_of b)) as (λ x. is_one (cell_of a) (cell_of b) ≡ x → MayBeExchanged a b m) [
  | true ↦ λ e. let same = one_from (cell_of a) (cell_of b) e in one_exchanged a b m same (apart same)
  | false ↦ λ e. apart_exchanged a b m (differ (cell_of a) (cell_of b) e)
] refl

-- ---- what is in flight

debit_and_credit : (low : Bool) (k n f : ℕ) → n ≤ f → (if low then f - n else ((f - n) + k)) ≡ (if low then f else f + k) - n
debit_and_credit true k n f le = refl
debit_and_credit false k n f le = omega (arith, le)

two_debits : (low less : Bool) (n k f : ℕ) → (if less then (if low then f else f + n) else ((if low then f else f + n) + k)) ≡ (if low then (if less then f else f + k) else ((if less then f else f + k) + n))
two_debits true true n k f = refl
two_debits true false n k f = refl
two_debits false true n k f = refl
two_debits false false n k f = omega arith

-- whatever their cells, on the same contents
flights_commute : (a b : Access) (m : Contents) (f : ℕ) → IsCovered f a → IsCovered f b → flight_after b m (flight_after a m f) ≡ flight_after a m (flight_after b m f)
flights_commute (access.Read c) b m f x y = refl
flights_commute (access.Write c v) b m f x y = refl
flights_commute (access.Credit a n) (access.Read d) m f x y = refl
flights_commute (access.Credit a n) (access.Write d w) m f x y = refl
flights_commute (access.Credit a n) (access.Credit b k) m f x y = omega arith
flights_commute (access.Credit a n) (access.Debit b k) m f x y = debit_and_credit (nat_lt (balance m b) k) k n f x
flights_commute (access.Debit a n) (access.Read d) m f x y = refl
flights_commute (access.Debit a n) (access.Write d w) m f x y = refl
flights_commute (access.Debit a n) (access.Credit b k) m f x y = sym (debit_and_credit (nat_lt (balance m a) n) n k f y)
flights_commute (access.Debit a n) (access.Debit b k) m f x y = two_debits (nat_lt (balance m a) n) (nat_lt (balance m b) k) n k f

own_conflicts : (x : Mode) → conflicts x mode.Own ≡ false → ⊥
own_conflicts mode.Read e = cc
own_conflicts mode.Credit e = cc
own_conflicts mode.Own e = cc

-- what a debit puts into flight, before another access and after it
flight_debited : (a : Access) (b : List ℕ) (k : ℕ) (m : Contents) (g : ℕ) → AreApart a (access.Debit b k) → flight_after (access.Debit b k) (after a m) g ≡ flight_after (access.Debit b k) m g
flight_debited a b k m g apart = elim (is_one (cell_of a) (cells.Balance b)) as (λ x. is_one (cell_of a) (cells.Balance b) ≡ x → flight_after (access.Debit b k) (after a m) g ≡ flight_after (access.Debit b k) m g) [
  | true ↦ λ e. absurd (own_conflicts (mode_needed a) (apart (one_from (cell_of a) (cells.Balance b) e)))
  | false ↦ λ e. (gives_same (access.Debit b k) (after a m) m (get-after_elsewhere a m (cells.Balance b) (λ same. differ (cell_of a) (cells.Balance b) e (sym same)))).flight g
] refl

-- an access that doesn't conflict with another makes of the flight the same, before the other and after it
flight_same : (a b : Access) (m : Contents) (g : ℕ) → AreApart a b → flight_after b (after a m) g ≡ flight_after b m g
flight_same a (access.Read d) m g apart = refl
flight_same a (access.Write d w) m g apart = refl
flight_same a (access.Credit b k) m g apart = refl
flight_same a (access.Debit b k) m g apart = flight_debited a b k m g apart

turned_modes : (x y : Mode) → conflicts x y ≡ false → conflicts y x ≡ false
turned_modes mode.Read mode.Read e = refl
turned_modes mode.Credit mode.Credit e = refl
turned_modes mode.Read mode.Credit e = absurd cc
turned_modes mode.Read mode.Own e = absurd cc
turned_modes mode.Credit mode.Read e = absurd cc
turned_modes mode.Credit mode.Own e = absurd cc
turned_modes mode.Own mode.Read e = absurd cc
turned_modes mode.Own mode.Credit e = absurd cc
turned_modes mode.Own mode.Own e = absurd cc

turned_apart : (a b : Access) → AreApart a b → AreApart b a
turned_apart a b apart e = turned_modes (mode_needed a) (mode_needed b) (apart (sym e))

pub flights_exchanged : (a b : Access) (m : Contents) (f : ℕ) → AreApart a b → IsCovered f a → IsCovered f b →
    flight_after b (after a m) (flight_after a m f) ≡ flight_after a (after b m) (flight_after b m f)
flights_exchanged a b m f apart x y =
    flight_same a b m (flight_after a m f) apart ∙ flights_commute a b m f x y ∙ sym (flight_same b a m (flight_after b m f) (turned_apart a b apart))
