-- The first other ticket of a row that holds in any mode decides the answer.
use Rattle.std.proofs.Common.{◌≡◌, ℕ, ◌+◌, ◌<◌, ◌≤◌, Bool, true, false, cond, [], ◌∷◌, length, get_or, drop, Option, Some, None, refl, sym, ap, subst, ◌∙◌, arith, add-one, eq-eqb, inl, inr}
use Rattle.std.specs.Prelude.{◌≢◌, ◌==◌, IsTrue}
use Rattle.std.specs.declared.cmp.Ordering.TheVariants.{Less}
use Rattle.std.specs.Ordering.{nat_cmp}
use Rattle.std.specs.FinMap.{is_sorted}
use Rattle.std.specs.FinMap.Entries.{below_all}
use Rattle.std.proofs.Math.Seq.{drop-cons}
use Rattle.std.proofs.lemmas.Cmp.{ranked}
use Rattle.std.proofs.lemmas.Bool.{eqb-true, eqb-false, cases_eq, cases_lt}
use Rattle.value_core.proofs.Bools.{first_true, second_true}
use Rattle.value_core.proofs.PlaceLemmas.{is_Less}
use Rattle.cell_names.specs.declared.mode.Mode.{Mode}
use Rattle.cell_names.specs.Modes.{conflicts}
use Rattle.cell_names.specs.Footprints.{modes_conflict}
use Rattle.abstract_locks.specs.declared.asked.Asked.{Asked}
use Rattle.abstract_locks.specs.declared.asked.Asked.TheVariants.{Granted, Held}
use Rattle.abstract_locks.specs.Holders.{Holders, AreApart, asked, Answers}
use Rattle.abstract_locks.specs.Tables.{Row, place_in, mode_at, holders_in}
use Rattle.abstract_locks.specs.Rows.{IsRow, told, decided, answer_in}
use Rattle.abstract_locks.proofs.ModeLemmas.{unequal, same_ticket, none_conflicts, alike}

-- ---- one place and those behind it

-- a ticket that isn't above one below all has no place
missing : (x : ℕ) (row : Row) → IsTrue (below_all nat_cmp x row) → (q : ℕ) → q ≤ x → place_in row q ≡ None
missing x [] low q le = refl
missing x (e ∷ row) low q le =
    let below : x < e.0 = ranked x e.0 Less (sym (is_Less (nat_cmp x e.0) (first_true _ _ low))) in
    ap (λ b. cond b (Some e.1) (place_in row q)) (same_ticket q e.0 ∙ unequal q e.0 (λ same. omega arith)) ∙ missing x row (second_true _ _ low) q le

here : (p : ℕ × Option Mode) (row : Row) → holders_in (p ∷ row) p.0 ≡ p.1
here p row = ap (λ b. mode_at (cond b (Some p.1) (place_in row p.0))) (same_ticket p.0 p.0 ∙ eq-eqb p.0 p.0 refl)

behind : (p : ℕ × Option Mode) (row : Row) (n : ℕ) → n ≢ p.0 → holders_in (p ∷ row) n ≡ holders_in row n
behind p row n ne = ap (λ b. mode_at (cond b (Some p.1) (place_in row n))) (same_ticket n p.0 ∙ unequal n p.0 ne)

gone : (x : ℕ) (row : Row) → IsTrue (below_all nat_cmp x row) → (q : ℕ) → q ≤ x → holders_in row q ≡ None
gone x row low q le = ap mode_at (missing x row low q le)

tail_apart : (p : ℕ × Option Mode) (row : Row) → IsTrue (below_all nat_cmp p.0 row) → AreApart (holders_in (p ∷ row)) → AreApart (holders_in row)
tail_apart p row low apart i j ne = elim (cases_eq i p.0) [
  | inl same ↦ ap (λ o. modes_conflict o (holders_in row j)) (gone p.0 row low i (omega arith))
  | inr other ↦ elim (cases_eq j p.0) [
    | inl same ↦ ap (modes_conflict (holders_in row i)) (gone p.0 row low j (omega arith)) ∙ none_conflicts (holders_in row i)
    | inr another ↦ (λ k. modes_conflict (sym (behind p row i other) k) (sym (behind p row j another) k)) ∙ apart i j ne
  ]
]

-- ---- the answer to a ticket that asks for a mode

-- it holds another ticket's mode that conflicts
record IsTold (holders : Holders) (ticket : ℕ) (a : Mode) (by : ℕ) (mode : Mode) : Type 0 where
  apart : by ≢ ticket
  holds : holders by ≡ Some mode
  conflict : modes_conflict (holders by) (Some a) ≡ true
  least : (n : ℕ) → n ≢ ticket → modes_conflict (holders n) (Some a) ≡ true → by ≤ n

abbrev AnswersFor : Holders → ℕ → Mode → Asked → Type 0
AnswersFor holders ticket a Granted = (n : ℕ) → n ≢ ticket → modes_conflict (holders n) (Some a) ≡ false
AnswersFor holders ticket a (Held by mode) = IsTold holders ticket a by mode

-- only other tickets count
same_answer : (h g : Holders) (t : ℕ) (a : Mode) (x : Asked) → ((n : ℕ) → n ≢ t → g n ≡ h n) → AnswersFor h t a x → AnswersFor g t a x
same_answer h g t a Granted same r = λ n ne. ap (λ o. modes_conflict o (Some a)) (same n ne) ∙ r n ne
same_answer h g t a (Held by mode) same r = record {
  apart = r.apart;
  holds = same by r.apart ∙ r.holds;
  conflict = ap (λ o. modes_conflict o (Some a)) (same by r.apart) ∙ r.conflict;
  least = λ n ne c. r.least n ne (ap (λ o. modes_conflict o (Some a)) (sym (same n ne)) ∙ c);
}

-- a place with no mode is as none
no_mode : (p : ℕ × Option Mode) (row : Row) → IsTrue (below_all nat_cmp p.0 row) → p.1 ≡ None → (n : ℕ) → holders_in (p ∷ row) n ≡ holders_in row n
no_mode p row low none n = elim (cases_eq n p.0) [
  | inl same ↦ ap (holders_in (p ∷ row)) same ∙ here p row ∙ none ∙ sym (gone p.0 row low n (omega arith))
  | inr other ↦ behind p row n other
]

first_tells : (b : Bool) (p : ℕ × Option Mode) (row : Row) (t : ℕ) (a mode : Mode) → IsTrue (below_all nat_cmp p.0 row) → AreApart (holders_in (p ∷ row)) → p.0 ≢ t →
    holders_in (p ∷ row) p.0 ≡ Some mode → conflicts mode a ≡ b → AnswersFor (holders_in (p ∷ row)) t a (cond b (Held p.0 mode) Granted)
first_tells true p row t a mode low apart ne holds c = record {
  apart = ne;
  holds = holds;
  conflict = ap (λ o. modes_conflict o (Some a)) holds ∙ c;
  least = λ n other d. elim (cases_lt n p.0) [
    | inl less ↦
        let none : holders_in (p ∷ row) n ≡ None = behind p row n (λ e. omega arith) ∙ gone p.0 row low n (omega arith) in
        let no : modes_conflict (holders_in (p ∷ row) n) (Some a) ≡ false = ap (λ o. modes_conflict o (Some a)) none in
        absurd cc
    | inr le ↦ le
  ];
}
first_tells false p row t a mode low apart ne holds c = λ n other. elim (cases_eq n p.0) [
  | inl same ↦ ap (λ k. modes_conflict (holders_in (p ∷ row) k) (Some a)) same ∙ ap (λ o. modes_conflict o (Some a)) holds ∙ c
  | inr another ↦ alike mode a (holders_in (p ∷ row) n) c (ap (λ o. modes_conflict o (holders_in (p ∷ row) n)) (sym holds) ∙ apart p.0 n (λ e. another (sym e)))
]

one_place : (b : Bool) (o : Option Mode) (p : ℕ × Option Mode) (row : Row) (t : ℕ) (a : Mode) → IsTrue (below_all nat_cmp p.0 row) → AreApart (holders_in (p ∷ row)) →
    (p.0 == t) ≡ b → p.1 ≡ o → AnswersFor (holders_in row) t a (answer_in row t a) → AnswersFor (holders_in (p ∷ row)) t a (decided b p.0 o a (answer_in row t a))
one_place true o p row t a low apart own is rest =
    same_answer (holders_in row) (holders_in (p ∷ row)) t a (answer_in row t a) (λ n ne. behind p row n (λ e. ne (e ∙ eqb-true p.0 t own))) rest
one_place false None p row t a low apart other is rest =
    same_answer (holders_in row) (holders_in (p ∷ row)) t a (answer_in row t a) (λ n ne. no_mode p row low is n) rest
one_place false (Some mode) p row t a low apart other is rest =
    first_tells (conflicts mode a) p row t a mode low apart (eqb-false p.0 t other) (here p row ∙ is) refl

answers_for : (row : Row) (t : ℕ) (a : Mode) → IsTrue (is_sorted nat_cmp row) → AreApart (holders_in row) → AnswersFor (holders_in row) t a (answer_in row t a)
answers_for [] t a up apart = λ n ne. refl
answers_for (p ∷ row) t a up apart =
    let low = first_true _ _ up in
    one_place (p.0 == t) p.1 p row t a low apart refl refl (answers_for row t a (second_true _ _ up) (tail_apart p row low apart))

told_of : (h : Holders) (t : ℕ) (m : Mode) (x : Asked) → AnswersFor h t (asked h t m) x → Answers h t m x
told_of h t m Granted r = λ n s. let no = r n s.apart in let yes = s.conflict in absurd cc
told_of h t m (Held by mode) r = record {
  stops = record { apart = r.apart; conflict = r.conflict };
  holds = r.holds;
  least = λ n s. r.least n s.apart s.conflict;
}

pub row_answers : (row : Row) (t : ℕ) (m a : Mode) (x : Asked) → IsRow row → a ≡ asked (holders_in row) t m → x ≡ answer_in row t a → Answers (holders_in row) t m x
row_answers row t m a x is mode answer =
    told_of (holders_in row) t m x
    (subst (λ (k : Mode). AnswersFor (holders_in row) t k x) mode
    (subst (λ (y : Asked). AnswersFor (holders_in row) t a y) (sym answer) (answers_for row t a is.ascends is.apart)))

-- the same, said of the row as it was seen
pub seen_answers : (row seen : Row) (t : ℕ) (m a : Mode) (x : Asked) → row ≡ seen → IsRow row → a ≡ asked (holders_in seen) t m → x ≡ answer_in row t a → Answers (holders_in seen) t m x
seen_answers row seen t m a x same is mode answer =
    subst (λ (l : Row). Answers (holders_in l) t m x) same (row_answers row t m a x is (mode ∙ ap (λ (l : Row). asked (holders_in l) t m) (sym same)) answer)

-- ---- one turn of the loop over the places

pub one_turn : (row : Row) (t : ℕ) (m : Mode) (i : ℕ) (p : ℕ × Option Mode) → i < length row → p ≡ get_or row i p →
    answer_in (drop i row) t m ≡ decided (p.0 == t) p.0 p.1 m (answer_in (drop (i + 1) row) t m)
one_turn row t m i p lt is =
    ap (λ (l : Row). answer_in l t m) (drop-cons row i p lt)
    ∙ (λ k. decided ((sym is k).0 == t) (sym is k).0 (sym is k).1 m (answer_in (drop (sym (add-one i) k) row) t m))

pub own_turn : (row : Row) (t : ℕ) (m : Mode) (i : ℕ) (p : ℕ × Option Mode) → i < length row → p ≡ get_or row i p → p.0 ≡ t → answer_in (drop i row) t m ≡ answer_in (drop (i + 1) row) t m
own_turn row t m i p lt is own = one_turn row t m i p lt is ∙ ap (λ b. decided b p.0 p.1 m (answer_in (drop (i + 1) row) t m)) (eq-eqb p.0 t own)

none_decides : (b : Bool) (n : ℕ) (m : Mode) (x : Asked) → decided b n None m x ≡ x
none_decides true n m x = refl
none_decides false n m x = refl

pub none_turn : (row : Row) (t : ℕ) (m : Mode) (i : ℕ) (p : ℕ × Option Mode) → i < length row → p ≡ get_or row i p → p.1 ≡ None → answer_in (drop i row) t m ≡ answer_in (drop (i + 1) row) t m
none_turn row t m i p lt is none =
    one_turn row t m i p lt is ∙ ap (λ o. decided (p.0 == t) p.0 o m (answer_in (drop (i + 1) row) t m)) none ∙ none_decides (p.0 == t) p.0 m _

pub told_turn : (row : Row) (t : ℕ) (m mode : Mode) (i : ℕ) (p : ℕ × Option Mode) → i < length row → p ≡ get_or row i p → p.0 ≢ t → p.1 ≡ Some mode → answer_in (drop i row) t m ≡ told p.0 mode m
told_turn row t m mode i p lt is other some =
    one_turn row t m i p lt is ∙ (λ k. decided (unequal p.0 t other k) p.0 (some k) m (answer_in (drop (i + 1) row) t m))
