-- What comes of cells that are added one after another: all of them, or the first reason against them.
use Rattle.std.proofs.Common.{◌≡◌, ℕ, zero, suc, ◌+◌, ◌<◌, ◌≤◌, ◌^◌, true, false, cond, List, [], ◌∷◌, ◌++◌, length, take, Option, Some, None, Result, Ok, Err, ◌⊎◌, inl, inr, refl, sym, ap, subst, ◌∙◌, append_assoc, arith}
use Rattle.std.specs.Prelude.{not, is_some, nat_le, if◌then◌else◌, slice_get}
use Rattle.std.specs.FinMap.{contains_key, empty, get, get-empty, get-insert, insert}
use Rattle.std.proofs.lemmas.Bool.{cases_lt, leb-true, leb-false}
use Rattle.std.proofs.lemmas.List.{append-nil, length-append, take-append-le, take_all}
use Rattle.value_core.specs.declared.val.Val.{Val}
use Rattle.cell_names.specs.declared.cell.Cell.{Cell}
use Rattle.cell_names.specs.Cells.{cell_cmp}
use Rattle.cell_names.specs.CellOrder.{cell_cmp-total}
use Rattle.cell_names.specs.Contents.{Contents}
use Rattle.cell_names.specs.Supply.{money_of, supply}
use Rattle.cell_names.proofs.Money.{supply-put}
use Rattle.cell_names.proofs.Puts.{is_one, is_one-self, one_from}
use Rattle.code_book.specs.Books.{Contracts}
use Rattle.code_book.specs.Fits.{fits}
use Rattle.ledger_state.specs.declared.fault.BuildFault.{BuildFault}
use Rattle.ledger_state.specs.declared.fault.BuildFault.TheVariants.{Misfit, Twice, TooMuch, NoStorage, NoMemory}
use Rattle.ledger_state.specs.Building.{added, against, unless}
use Rattle.ledger_state.specs.Reasons.{ComesBefore, IsFirstReason, IsMisfit, IsReason, IsRepeated, PassesSupply}
use Rattle.ledger_state.proofs.CellLaws.{Held, money}
use Rattle.ledger_state.proofs.Growing.{money-push, nothing}

-- ---- one more at the end

at_front : (front rest : List Held) (i : ℕ) → i < length front → slice_get (front ++ rest) i ≡ slice_get front i
at_front [] rest i lt = absurd (omega arith)
at_front (x ∷ front) rest zero lt = refl
at_front (x ∷ front) rest (suc i) lt = at_front front rest i (omega arith)

at_end : (front rest : List Held) (e : Held) → slice_get (front ++ e ∷ rest) (length front) ≡ Some e
at_end [] rest e = refl
at_end (x ∷ front) rest e = at_end front rest e

pub standing : (front : List Held) (i : ℕ) (e : Held) → slice_get front i ≡ Some e → i < length front
standing [] i e is = absurd cc
standing (x ∷ front) zero e is = omega arith
standing (x ∷ front) (suc i) e is = let rest : i < length front = standing front i e is in omega arith

-- what stands among one more stood before, or is the last
record IsNew (front : List Held) (x : Held) (i : ℕ) (e : Held) : Type 0 where
  place : i ≡ length front
  same : x ≡ e

split_at : (front : List Held) (x : Held) (i : ℕ) (e : Held) → slice_get (front ++ x ∷ []) i ≡ Some e → (slice_get front i ≡ Some e) ⊎ IsNew front x i e
split_at [] x zero e is = inr (record { place = refl; same = cc })
split_at [] x (suc i) e is = absurd cc
split_at (y ∷ front) x zero e is = inl is
split_at (y ∷ front) x (suc i) e is =
    elim (split_at front x i e is) [ inl old ↦ inl old | inr new ↦ let at : i ≡ length front = new.place in inr (record { place = omega arith; same = new.same }) ]

first_is : (a b : Held) → Path (Option Held) (Some a) (Some b) → a ≡ b
first_is a b e = cc

module _ (book : Contracts) where
  -- ---- cells that were added

  -- these cells were added: each fits, none stands twice, and they are what the contents have
  pub record AreAdded (front : List Held) (m : Contents) : Type 0 where
    pub fit : (i : ℕ) (c : Cell) (v : Val) → slice_get front i ≡ Some (c, v) → fits book c v ≡ true
    pub apart : (i j : ℕ) (c : Cell) (v w : Val) → i < j → slice_get front i ≡ Some (c, v) → slice_get front j ≡ Some (c, w) → ⊥
    pub held : (c : Cell) (v : Val) → get m c ≡ Some v → (i : ℕ) × (slice_get front i ≡ Some (c, v))
    pub stands : (i : ℕ) (c : Cell) (v : Val) → slice_get front i ≡ Some (c, v) → get m c ≡ Some v
    pub supply : supply m ≡ money front
    pub within : (i : ℕ) → i < length front → money (take (i + 1) front) < 2 ^ 63

  none_added : AreAdded [] empty
  none_added = record {
    fit = λ i c v is. absurd cc;
    apart = λ i j c v w lt is is'. absurd cc;
    held = λ c v is. let no : None ≡ Some v = sym (get-empty cell_cmp c) ∙ is in absurd cc;
    stands = λ i c v is. absurd cc;
    supply = ap money (nothing cell_cmp);
    within = λ i lt. absurd (omega arith);
  }

  -- a cell against which there is no reason
  record IsFree (m : Contents) (c : Cell) (v : Val) : Type 0 where
    fit : fits book c v ≡ true
    new : get m c ≡ None
    small : supply m + money_of (c, v) < 2 ^ 63

  module _ (front : List Held) (m : Contents) (are : AreAdded front m) (c : Cell) (v : Val) (free : IsFree m c v) where
    here : get (insert m c v) c ≡ Some v
    here = get-insert cell_cmp-total m c v c ∙ ap (λ b. cond b (Some v) (get m c)) (is_one-self c)

    elsewhere : (q : Cell) (w : Val) → get m q ≡ Some w → get (insert m c v) q ≡ Some w
    elsewhere q w is =
        get-insert cell_cmp-total m c v q ∙ elim (is_one q c) as (λ b. is_one q c ≡ b → cond b (Some v) (get m q) ≡ Some w) [
          | true ↦ λ one. let no : None ≡ Some w = sym free.new ∙ ap (get m) (sym (one_from q c one)) ∙ is in absurd cc
          | false ↦ λ _. is
        ] refl

  one_added : (front : List Held) (m : Contents) → AreAdded front m → (c : Cell) (v : Val) → IsFree m c v → AreAdded (front ++ (c, v) ∷ []) (insert m c v)
  one_added front m are c v free = record {
    fit = λ i d w is. elim (split_at front (c, v) i (d, w) is) [
      | inl old ↦ are.fit i d w old
      | inr new ↦ subst (λ (e : Held). fits book e.0 e.1 ≡ true) new.same free.fit
    ];
    apart = λ i j d w x lt is is'. elim (split_at front (c, v) i (d, w) is) [
      | inr new ↦ let within : j < length (front ++ (c, v) ∷ []) = standing _ j (d, x) is' in absurd (omega (arith, new.place, length-append front ((c, v) ∷ [])))
      | inl old ↦ elim (split_at front (c, v) j (d, x) is') [
        | inl old' ↦ are.apart i j d w x lt old old'
        | inr new ↦
            let same : c ≡ d = ap (λ (e : Held). e.0) new.same in
            let no : None ≡ Some w = sym free.new ∙ ap (get m) same ∙ are.stands i d w old in
            absurd cc
      ]
    ];
    held = λ d w is. elim (is_one d c) as (λ b. is_one d c ≡ b → cond b (Some v) (get m d) ≡ Some w → (i : ℕ) × (slice_get (front ++ (c, v) ∷ []) i ≡ Some (d, w))) [
      | true ↦ λ one same.
          let key : c ≡ d = sym (one_from d c one) in
          let value : v ≡ w = cc in
          (length front, at_end front [] (c, v) ∙ (λ k. Some (key k, value k)))
      | false ↦ λ _ old. let at = are.held d w old in (at.0, at_front front ((c, v) ∷ []) at.0 (standing front at.0 (d, w) at.1) ∙ at.1)
    ] refl (sym (get-insert cell_cmp-total m c v d) ∙ is);
    stands = λ i d w is. elim (split_at front (c, v) i (d, w) is) [
      | inl old ↦ elsewhere front m are c v free d w (are.stands i d w old)
      | inr new ↦ subst (λ (e : Held). get (insert m c v) e.0 ≡ Some e.1) new.same (here front m are c v free)
    ];
    supply = supply_new ∙ sym (money-push front (c, v));
    within = λ i lt. elim (cases_lt i (length front)) [
      | inl old ↦
          let small : money (take (i + 1) front) < 2 ^ 63 = are.within i old in
          subst (λ (l : List Held). money l < 2 ^ 63) (sym (take-append-le (i + 1) front ((c, v) ∷ []) (omega arith))) small
      | inr past ↦
          let all : length (front ++ (c, v) ∷ []) ≤ i + 1 = omega (arith, length-append front ((c, v) ∷ [])) in
          let small : money (front ++ (c, v) ∷ []) < 2 ^ 63 = omega (arith, money-push front (c, v), free.small, are.supply) in
          subst (λ (l : List Held). money l < 2 ^ 63) (sym (take_all (i + 1) (front ++ (c, v) ∷ []) all)) small
    ];
  }
    where
      supply_new : supply (insert m c v) ≡ money front + money_of (c, v)
      supply_new = let grown : supply (insert m c v) + 0 ≡ supply m + money_of (c, v) = rw free.new at (supply-put m c (Some v)) in omega (arith, grown, are.supply)

  -- ---- the first reason against one more

  -- why a cell isn't added at this place
  abbrev Why : ℕ → Contents → Cell → Val → BuildFault → Type 0
  Why at m c v (Misfit i) = (i ≡ at) × (fits book c v ≡ false)
  Why at m c v (Twice i) = (i ≡ at) × ((fits book c v ≡ true) × ((w : Val) × (get m c ≡ Some w)))
  Why at m c v (TooMuch i) = (i ≡ at) × ((fits book c v ≡ true) × ((get m c ≡ None) × (2 ^ 63 ≤ supply m + money_of (c, v))))
  Why at m c v _ = ⊥

  abbrev Answer : ℕ → Contents → Cell → Val → Option BuildFault → Type 0
  Answer at m c v None = IsFree m c v
  Answer at m c v (Some f) = Why at m c v f

  answer : (at : ℕ) (m : Contents) (c : Cell) (v : Val) → Answer at m c v (against book at m c v)
  answer at m c v =
      let n : ℕ = supply m + money_of (c, v) in
      elim (fits book c v) as (λ b. fits book c v ≡ b → Answer at m c v (if not b then Some (Misfit at) else if contains_key m c then Some (Twice at) else if nat_le (2 ^ 63) n then Some (TooMuch at) else None)) [
        | false ↦ λ misfit. (refl, misfit)
        | true ↦ λ fit. elim (get m c) as (λ o. get m c ≡ o → Answer at m c v (if is_some o then Some (Twice at) else if nat_le (2 ^ 63) n then Some (TooMuch at) else None)) [
          | Some w ↦ λ there. (refl, (fit, (w, there)))
          | None ↦ λ new. elim (nat_le (2 ^ 63) n) as (λ b. nat_le (2 ^ 63) n ≡ b → Answer at m c v (if b then Some (TooMuch at) else None)) [
            | true ↦ λ much. (refl, (fit, (new, leb-true (2 ^ 63) n much)))
            | false ↦ λ less. record { fit = fit; new = new; small = leb-false (2 ^ 63) n less }
          ] refl
        ] refl
      ] refl

  module _ (front rest : List Held) (m : Contents) (are : AreAdded front m) where
    early_misfit : (j : ℕ) → IsMisfit book (front ++ rest) j → j < length front → ⊥
    early_misfit j r lt =
        let fit : fits book r.cell r.value ≡ true = are.fit j r.cell r.value (sym (at_front front rest j lt) ∙ r.stands) in
        let no : true ≡ false = sym fit ∙ r.misfit in cc

    early_repeat : (j : ℕ) → IsRepeated (front ++ rest) j → j < length front → ⊥
    early_repeat j r lt =
        let before : r.earlier < j = r.before in
        are.apart r.earlier j r.cell r.other r.value r.before (sym (at_front front rest r.earlier (omega arith)) ∙ r.stood) (sym (at_front front rest j lt) ∙ r.stands)

    early_passes : (j : ℕ) → PassesSupply (front ++ rest) j → j < length front → ⊥
    early_passes j r lt =
        let few : money (take (j + 1) front) < 2 ^ 63 = are.within j lt in
        let same : money (take (j + 1) (front ++ rest)) ≡ money (take (j + 1) front) = ap money (take-append-le (j + 1) front rest (omega arith)) in
        let much : 2 ^ 63 ≤ money (take (j + 1) (front ++ rest)) = r.passes in
        omega arith

  module _ (front rest : List Held) (m : Contents) (are : AreAdded front m) (c : Cell) (v : Val) where
    abbrev all : List Held
    all = front ++ (c, v) ∷ rest

    here_is : (j : ℕ) (e : Held) → j ≡ length front → slice_get all j ≡ Some e → (c, v) ≡ e
    here_is j e at is = first_is (c, v) e (sym (at_end front rest (c, v)) ∙ ap (slice_get all) (sym at) ∙ is)

    last_misfit : (j : ℕ) → IsMisfit book all j → j ≡ length front → fits book c v ≡ true → ⊥
    last_misfit j r at fit =
        let same = here_is j (r.cell, r.value) at r.stands in
        let no : true ≡ false = sym fit ∙ ap (λ (e : Held). fits book e.0 e.1) same ∙ r.misfit in cc

    last_repeat : (j : ℕ) → IsRepeated all j → j ≡ length front → get m c ≡ None → ⊥
    last_repeat j r at new =
        let before : r.earlier < j = r.before in
        let same = here_is j (r.cell, r.value) at r.stands in
        let stood : get m r.cell ≡ Some r.other = are.stands r.earlier r.cell r.other (sym (at_front front ((c, v) ∷ rest) r.earlier (omega arith)) ∙ r.stood) in
        let no : None ≡ Some r.other = sym new ∙ ap (λ (e : Held). get m e.0) same ∙ stood in cc

    stands_here : (i : ℕ) → i ≡ length front → slice_get all i ≡ Some (c, v)
    stands_here i at = ap (slice_get all) at ∙ at_end front rest (c, v)

    taken : (i : ℕ) → i ≡ length front → money (take (i + 1) all) ≡ money front + money_of (c, v)
    taken i at =
        let whole : all ≡ (front ++ (c, v) ∷ []) ++ rest = sym (append_assoc front ((c, v) ∷ []) rest) in
        let count : length (front ++ (c, v) ∷ []) ≡ i + 1 = omega (arith, length-append front ((c, v) ∷ [])) in
        ap (λ (l : List Held). money (take (i + 1) l)) whole
        ∙ ap money (take-append-le (i + 1) (front ++ (c, v) ∷ []) rest (omega arith) ∙ take_all (i + 1) (front ++ (c, v) ∷ []) (omega arith))
        ∙ money-push front (c, v)

    holds : (f : BuildFault) → Why (length front) m c v f → IsReason book all f
    holds (Misfit i) (at, misfit) = record { cell = c; value = v; stands = stands_here i at; misfit = misfit }
    holds (Twice i) (at, (fit, (w, there))) =
        let stood = are.held c w there in
        let earlier : stood.0 < length front = standing front stood.0 (c, w) stood.1 in
        record {
          cell = c;
          value = v;
          stands = stands_here i at;
          earlier = stood.0;
          other = w;
          stood = at_front front ((c, v) ∷ rest) stood.0 earlier ∙ stood.1;
          before = omega arith;
        }
    holds (TooMuch i) (at, (fit, (new, much))) = record {
      within = omega (arith, length-append front ((c, v) ∷ rest));
      passes = omega (arith, taken i at, are.supply, much);
    }
    holds (NoStorage a) why = absurd why
    holds NoMemory why = absurd why

    none_before : (f : BuildFault) → Why (length front) m c v f → (g : BuildFault) → IsReason book all g → ComesBefore g f → ⊥
    none_before (Misfit i) (at, misfit) (Misfit j) r lt = early_misfit front ((c, v) ∷ rest) m are j r (omega arith)
    none_before (Misfit i) (at, misfit) (Twice j) r lt = early_repeat front ((c, v) ∷ rest) m are j r (omega arith)
    none_before (Misfit i) (at, misfit) (TooMuch j) r lt = early_passes front ((c, v) ∷ rest) m are j r (omega arith)
    none_before (Twice i) (at, (fit, there)) (Misfit j) r lt =
        elim (cases_lt j (length front)) [ inl early ↦ early_misfit front ((c, v) ∷ rest) m are j r early | inr past ↦ last_misfit j r (omega arith) fit ]
    none_before (Twice i) (at, (fit, there)) (Twice j) r lt = early_repeat front ((c, v) ∷ rest) m are j r (omega arith)
    none_before (Twice i) (at, (fit, there)) (TooMuch j) r lt = early_passes front ((c, v) ∷ rest) m are j r (omega arith)
    none_before (TooMuch i) (at, (fit, (new, much))) (Misfit j) r lt =
        elim (cases_lt j (length front)) [ inl early ↦ early_misfit front ((c, v) ∷ rest) m are j r early | inr past ↦ last_misfit j r (omega arith) fit ]
    none_before (TooMuch i) (at, (fit, (new, much))) (Twice j) r lt =
        elim (cases_lt j (length front)) [ inl early ↦ early_repeat front ((c, v) ∷ rest) m are j r early | inr past ↦ last_repeat j r (omega arith) new ]
    none_before (TooMuch i) (at, (fit, (new, much))) (TooMuch j) r lt = early_passes front ((c, v) ∷ rest) m are j r (omega arith)
    none_before (NoStorage a) why g r lt = absurd why
    none_before NoMemory why g r lt = absurd why
    none_before f why (NoStorage b) r lt = absurd (no_storage f why lt)
      where
        no_storage : (f : BuildFault) → Why (length front) m c v f → ComesBefore (NoStorage b) f → ⊥
        no_storage (Misfit i) why lt = lt
        no_storage (Twice i) why lt = lt
        no_storage (TooMuch i) why lt = lt
        no_storage (NoStorage a) why lt = why
        no_storage NoMemory why lt = why
    none_before f why NoMemory r lt = r

    first_reason : (f : BuildFault) → Why (length front) m c v f → IsFirstReason book all f
    first_reason f why = record { holds = holds f why; first = none_before f why }

  -- ---- all of them

  abbrev pub Outcome : List Held → Result Contents BuildFault → Type 0
  Outcome rows (Ok m) = AreAdded rows m
  Outcome rows (Err f) = IsFirstReason book rows f

  outcome : (front rows : List Held) (m : Contents) (n : ℕ) → n ≡ length front → AreAdded front m → Outcome (front ++ rows) (added book n m rows)
  outcome front [] m n at are = subst (λ (l : List Held). AreAdded l m) (sym (append-nil front)) are
  outcome front ((c, v) ∷ rows) m n at are =
      elim (against book n m c v) as (λ a. Answer n m c v a → Outcome (front ++ (c, v) ∷ rows) (unless a (added book (n + 1) (insert m c v) rows))) [
        | None ↦ λ free.
            let next : n + 1 ≡ length (front ++ (c, v) ∷ []) = omega (arith, length-append front ((c, v) ∷ [])) in
            subst (λ (l : List Held). Outcome l (added book (n + 1) (insert m c v) rows)) (append_assoc front ((c, v) ∷ []) rows)
            (outcome (front ++ (c, v) ∷ []) rows (insert m c v) (n + 1) next (one_added front m are c v free))
        | Some f ↦ λ why. first_reason front rows m are c v f (subst (λ k. Why k m c v f) at why)
      ] (answer n m c v)

  pub added_outcome : (rows : List Held) → Outcome rows (added book 0 empty rows)
  added_outcome rows = outcome [] rows empty 0 refl none_added
