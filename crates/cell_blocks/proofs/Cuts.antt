-- Where the keys above a given one begin among entries whose keys ascend, the least of them, and the greatest key of all.
use Rattle.std.proofs.Common.{◌≡◌, ℕ, suc, ◌+◌, ◌-◌, ◌<◌, ◌≤◌, true, false, cond, List, [], ◌∷◌, length, get_or, Option, Some, None, Ordering, refl, sym, ap, subst, ◌∙◌, arith, inl, inr}
use Rattle.std.specs.Prelude.{◌↔◌, IsTrue, is_some, slice_get, MatchOption}
use Rattle.std.specs.declared.cmp.Ordering.TheVariants.{Less, Equal, Greater}
use Rattle.std.specs.Ordering.{is_eq, eq_by_cmp, ordering_reverse}
use Rattle.std.specs.Cmp.{IsTotalOrder, tied_itself}
use Rattle.std.specs.FinMap.{IsAntisymmetric, find, is_sorted, contains_key, from_sorted, get-from_sorted}
use Rattle.std.proofs.lemmas.Bool.{cases_lt}
use Rattle.std.proofs.lemmas.Option.{slice_get_past}
use Rattle.value_core.specs.Places.{IsGap, IsPlace}
use Rattle.value_core.proofs.PlaceLemmas.{rises}
use Rattle.value_core.proofs.Bools.{T_of}
use Rattle.cell_blocks.specs.Successors.{IsAbove, IsNext, NoneAbove}
use Rattle.cell_blocks.specs.Placing.{IsCut}
use Rattle.cell_blocks.proofs.Ascending.{IsRead, read_at, get_read}

tie_of : (r : Ordering) → is_eq r ≡ true → r ≡ Equal
tie_of Less e = absurd cc
tie_of Equal e = refl
tie_of Greater e = absurd cc

not_less : {K : Type 0} {R : K → K → Ordering} → IsTotalOrder R → (x y : K) → R x y ≡ Less → R y x ≡ Less → ⊥
not_less {R = R} o x y e f = let is : R y x ≡ Greater = o.antisymm y x ∙ ap ordering_reverse e in let both : Greater ≡ Less = sym is ∙ f in cc

not_itself : {K : Type 0} {R : K → K → Ordering} → IsTotalOrder R → (x y : K) → x ≡ y → R x y ≡ Less → ⊥
not_itself {R = R} o x y e f = let both : Equal ≡ Less = sym (tied_itself o x) ∙ ap (R x) e ∙ f in cc

module _ {K X : Type 0} {R : K → K → Ordering} (o : IsTotalOrder R) where
  -- ---- where they begin

  pub cut_all : (es : List (K × X)) → IsCut R es None 0
  cut_all es = record { below = λ k d lt small. absurd (omega arith); above = λ k d le small. tt }

  pub cut_place : (es : List (K × X)) (q : K) (i : ℕ) → IsTrue (is_sorted R es) → IsPlace (λ e. e.0) es q i → IsCut R es (Some q) (i + 1)
  cut_place es q i up p = record {
    below = λ k d lt small less. elim (cases_lt k i) [
      | inl before ↦ not_less o (get_or es k d).0 q (ap (λ x. R (get_or es k d).0 x) (sym (p.here d)) ∙ rises o es k i d up before p.within) less
      | inr le ↦ let at : k ≡ i = omega arith in not_itself o q (get_or es k d).0 (sym (ap (λ n. (get_or es n d).0) at ∙ p.here d)) less
    ];
    above = λ k d le small. ap (λ x. R x (get_or es k d).0) (sym (p.here d)) ∙ rises o es i k d up (omega arith) small;
  }

  pub cut_gap : (es : List (K × X)) (q : K) (i : ℕ) → IsGap (λ e. e.0) R es q i → IsCut R es (Some q) i
  cut_gap es q i g = record {
    below = λ k d lt small less. not_less o (get_or es k d).0 q (g.below k d lt) less;
    above = λ k d le small. o.antisymm q (get_or es k d).0 ∙ ap ordering_reverse (g.above k d le small);
  }

  -- ---- a key that is there has a place

  record HasPlace (es : List (K × X)) (q : K) : Type 0 where
    at : ℕ
    within : at < length es
    here : (d : K × X) → (get_or es at d).0 ≡ q

  placed : IsAntisymmetric R → (q : K) (es : List (K × X)) → is_some (find R q es) ≡ true → HasPlace es q
  placed ties q [] e = absurd cc
  placed ties q (x ∷ es) is =
      elim (eq_by_cmp R q x.0) as (λ b. eq_by_cmp R q x.0 ≡ b → is_some (cond b (Some x.1) (find R q es)) ≡ true → HasPlace (x ∷ es) q) [
        | true ↦ λ tied _. record { at = 0; within = omega arith; here = λ d. sym (ties q x.0 (tie_of _ tied)) }
        | false ↦ λ _ rest. let p = placed ties q es rest in let within : p.at < length es = p.within in record { at = suc p.at; within = omega arith; here = p.here }
      ] refl is

  known_place : IsAntisymmetric R → (es : List (K × X)) (q : K) → IsTrue (is_sorted R es) → contains_key (from_sorted {R = R} es) q ≡ true → HasPlace es q
  known_place ties es q up known = placed ties q es (ap is_some (sym (get-from_sorted R es q (T_of _ up))) ∙ known)

  -- ---- the least above

  above_at : (es : List (K × X)) (given : Option K) (q : K) (p : HasPlace es q) (d : K × X) → IsAbove R given q → IsAbove R given (get_or es p.at d).0
  above_at es given q p d above = subst (λ k. IsAbove R given k) (sym (p.here d)) above

  least_at : IsAntisymmetric R → (es : List (K × X)) (given : Option K) (i : ℕ) (r : IsRead es i) → IsTrue (is_sorted R es) → IsCut R es given i → i < length es →
      (other : K) → contains_key (from_sorted {R = R} es) other ≡ true → IsAbove R given other → R other r.item.0 ≡ Less → ⊥
  least_at ties es given i r up cut within other known above less =
      let p = known_place ties es other up known in
      let d = r.item in
      let place_within : p.at < length es = p.within in
      elim (cases_lt p.at i) [
        | inl before ↦ cut.below p.at d before p.within (above_at es given other p d above)
        | inr le ↦ elim (cases_lt i p.at) [
          | inl behind ↦
              let rising : R (get_or es i d).0 (get_or es p.at d).0 ≡ Less = rises o es i p.at d up behind place_within in
              not_less o d.0 other ((λ j. R (sym (r.same d) j).0 (sym (p.here d) j)) ∙ rising) less
          | inr back ↦
              let same : p.at ≡ i = omega arith in
              not_itself o other d.0 (sym (p.here d) ∙ ap (λ n. (get_or es n d).0) same ∙ ap (λ (e : K × X). e.0) (r.same d)) less
        ]
      ]

  none_at : IsAntisymmetric R → (es : List (K × X)) (given : Option K) (i : ℕ) → IsTrue (is_sorted R es) → IsCut R es given i → length es ≤ i → NoneAbove R (from_sorted es) given
  none_at ties es given i up cut past other known above =
      let p = known_place ties es other up known in
      let r = read_at es p.at p.within in
      let within : p.at < length es = p.within in
      cut.below p.at r.item (omega arith) within (above_at es given other p r.item above)

  pub next_of : IsAntisymmetric R → (es : List (K × X)) (given : Option K) (i : ℕ) → IsTrue (is_sorted R es) → IsCut R es given i →
      MatchOption (slice_get es i) (NoneAbove R (from_sorted es) given) (λ e. IsNext R (from_sorted es) given e.0 e.1)
  next_of ties es given i up cut = elim (cases_lt i (length es)) [
    | inl within ↦
        let r = read_at es i within in
        subst (λ e. MatchOption e (NoneAbove R (from_sorted es) given) (λ e. IsNext R (from_sorted es) given e.0 e.1)) (sym r.reads)
        (record {
          stands = get_read o es i r within up;
          above = subst (λ (e : K × X). IsAbove R given e.0) (r.same r.item) (cut.above i r.item (omega arith) within);
          least = least_at ties es given i r up cut within;
        })
    | inr past ↦
        subst (λ e. MatchOption e (NoneAbove R (from_sorted es) given) (λ e. IsNext R (from_sorted es) given e.0 e.1)) (sym (slice_get_past es i past))
        (none_at ties es given i up cut past)
  ]

  -- ---- the greatest of all

  -- each key that is there is below this one
  abbrev pub AreBelow : List (K × X) → K → Type 0
  AreBelow es q = (other : K) → contains_key (from_sorted {R = R} es) other ≡ true → R other q ≡ Less

  below_last : IsAntisymmetric R → (es : List (K × X)) (i : ℕ) (r : IsRead es i) (q : K) → IsTrue (is_sorted R es) → i + 1 ≡ length es → R r.item.0 q ≡ Less → AreBelow es q
  below_last ties es i r q up last less other known =
      let p = known_place ties es other up known in
      let d = r.item in
      let within : p.at < length es = p.within in
      elim (cases_lt p.at i) [
        | inl before ↦
            let rising : R (get_or es p.at d).0 (get_or es i d).0 ≡ Less = rises o es p.at i d up before (omega arith) in
            o.trans other d.0 q ((λ j. R (sym (p.here d) j) (sym (r.same d) j).0) ∙ rising) less
        | inr le ↦
            let same : p.at ≡ i = omega arith in
            ap (λ k. R k q) (sym (p.here d) ∙ ap (λ n. (get_or es n d).0) same ∙ ap (λ (e : K × X). e.0) (r.same d)) ∙ less
      ]

  pub last_tells : IsAntisymmetric R → (es : List (K × X)) (q : K) → IsTrue (is_sorted R es) → MatchOption (slice_get es (length es - 1)) (AreBelow es q) (λ e. (R e.0 q ≡ Less) ↔ AreBelow es q)
  last_tells ties es q up = elim (cases_lt 0 (length es)) [
    | inl some ↦
        let r = read_at es (length es - 1) (omega arith) in
        subst (λ e. MatchOption e (AreBelow es q) (λ e. (R e.0 q ≡ Less) ↔ AreBelow es q)) (sym r.reads) (
          λ less. below_last ties es (length es - 1) r q up (omega arith) less,
          λ below. below r.item.0 (ap is_some (get_read o es (length es - 1) r (omega arith) up)),
        )
    | inr none ↦
        subst (λ e. MatchOption e (AreBelow es q) (λ e. (R e.0 q ≡ Less) ↔ AreBelow es q)) (sym (slice_get_past es (length es - 1) (omega arith)))
        (λ other known. let p = known_place ties es other up known in let within : p.at < length es = p.within in absurd (omega arith))
  ]
