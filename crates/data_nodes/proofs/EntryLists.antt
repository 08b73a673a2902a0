-- Entries of big maps: those with one place, those between two places, and the order of all.
use Rattle.std.proofs.Common.{◌≡◌, ℕ, ◌+◌, ◌<◌, ◌≤◌, ◌⊎◌, inl, inr, Bool, true, false, cond, List, [], ◌∷◌, ◌++◌, map, refl, sym, ap, ◌∙◌, arith}
use Rattle.std.specs.Prelude.{◌&&◌, ◌==◌, nat_le, nat_lt}
use Rattle.std.specs.List.{AllByRecursion, filter}
use Rattle.std.specs.declared.cmp.Ordering.{Ordering}
use Rattle.std.specs.declared.cmp.Ordering.TheVariants.{Less, Equal, Greater}
use Rattle.std.specs.Ordering.{MatchOrdering, is_lt, nat_cmp, ordering_then}
use Rattle.std.specs.Cmp.{nat_cmp_is, ranks}
use Rattle.std.proofs.lemmas.Bool.{and_from, and_parts, cases_lt, eqb-true}
use Rattle.std.proofs.lemmas.Bool.Decides.{nat_tests}
use Rattle.std.proofs.lemmas.Cmp.{nat_eq_equiv}
use Rattle.std.proofs.lemmas.List.{map-append}
use Rattle.std.proofs.lemmas.List.Elements.{filter-append}
use Rattle.value_core.specs.declared.val.Val.{Val}
use Rattle.value_core.specs.Order.{order}
use Rattle.value_core.specs.Sound.{ascends}
use Rattle.data_nodes.specs.Parts.{tagged}
use Rattle.data_nodes.specs.Storage.{Entry, entries_ascend, entries_at}

-- ---- claims of all entries

pub all_entries : (P Q : Entry → Type 0) → ((e : Entry) → P e → Q e) → (es : List Entry) → AllByRecursion P es → AllByRecursion Q es
all_entries P Q f [] h = tt
all_entries P Q f (e ∷ es) h = (f e h.0, all_entries P Q f es h.1)

pub all_append : (P : Entry → Type 0) (xs ys : List Entry) → AllByRecursion P xs → AllByRecursion P ys → AllByRecursion P (xs ++ ys)
all_append P [] ys h k = k
all_append P (x ∷ xs) ys h k = (h.0, all_append P xs ys h.1 k)

pub all_tagged : (P : Entry → Type 0) (place : ℕ) (es : List (Val × Val)) → AllByRecursion (λ e. P (place, e.0, e.1)) es → AllByRecursion P (tagged place es)
all_tagged P place [] h = tt
all_tagged P place (e ∷ es) h = (h.0, all_tagged P place es h.1)

-- ---- one entry more

first_step : (test : Entry → Bool) (e : Entry) (es : List Entry) (b : Bool) → test e ≡ b → filter test (e ∷ es) ≡ cond b (e ∷ filter test es) (filter test es)
first_step test e es b h = ap (λ (c : Bool). cond c (e ∷ filter test es) (filter test es)) h

none_pass : (test : Entry → Bool) (es : List Entry) → AllByRecursion (λ e. test e ≡ false) es → filter test es ≡ []
none_pass test [] h = refl
none_pass test (e ∷ es) h = first_step test e es false h.0 ∙ none_pass test es h.1

same_tests : (test other : Entry → Bool) → ((e : Entry) → test e ≡ other e) → (es : List Entry) → filter test es ≡ filter other es
same_tests test other same [] = refl
same_tests test other same (e ∷ es) = λ i. cond (same e i) (e ∷ same_tests test other same es i) (same_tests test other same es i)

-- ---- the entries with one place

abbrev untagged : Entry → Val × Val
untagged e = (e.1, e.2)

pub at-append : (place : ℕ) (xs ys : List Entry) → entries_at place (xs ++ ys) ≡ entries_at place xs ++ entries_at place ys
at-append place xs ys =
    ap (map untagged) (filter-append (λ (e : Entry). e.0 == place) xs ys)
    ∙ map-append untagged (filter (λ (e : Entry). e.0 == place) xs) (filter (λ (e : Entry). e.0 == place) ys)

pub at-here : (place : ℕ) (e : Entry) (es : List Entry) → (e.0 == place) ≡ true → entries_at place (e ∷ es) ≡ (e.1, e.2) ∷ entries_at place es
at-here place e es h = ap (map untagged) (first_step (λ (d : Entry). d.0 == place) e es true h)

pub at-elsewhere : (place : ℕ) (e : Entry) (es : List Entry) → (e.0 == place) ≡ false → entries_at place (e ∷ es) ≡ entries_at place es
at-elsewhere place e es h = ap (map untagged) (first_step (λ (d : Entry). d.0 == place) e es false h)

other_place : (a b : ℕ) → (a < b) ⊎ (b < a) → (a == b) ≡ false
other_place a b h = grind (arith, nat_tests)

-- none where each stands at another place
pub at-none : (place : ℕ) (es : List Entry) → AllByRecursion (λ e. (e.0 < place) ⊎ (place < e.0)) es → entries_at place es ≡ []
at-none place es h = ap (map untagged) (none_pass (λ e. e.0 == place) es (all_entries _ _ (λ e other. other_place e.0 place other) es h))

same_place : (place : ℕ) → (place == place) ≡ true
same_place place = nat_eq_equiv.refl place

-- of one big map's entries all
pub at-tagged : (place : ℕ) (es : List (Val × Val)) → entries_at place (tagged place es) ≡ es
at-tagged place [] = refl
at-tagged place (e ∷ es) =
    ap (map untagged) (first_step (λ d. d.0 == place) (place, e.0, e.1) (tagged place es) true (same_place place)) ∙ ap (λ (l : List (Val × Val)). e ∷ l) (at-tagged place es)

tagged_step : (place : ℕ) (e : Entry) (es : List Entry) (b : Bool) → (e.0 == place) ≡ b → tagged place (entries_at place es) ≡ filter (λ d. d.0 == place) es →
    tagged place (entries_at place (e ∷ es)) ≡ filter (λ d. d.0 == place) (e ∷ es)
tagged_step place e es true h more =
    let step = first_step (λ d. d.0 == place) e es true h in
    ap (λ (l : List Entry). tagged place (map untagged l)) step
    ∙ (λ i. (sym (eqb-true e.0 place h) i, e.1, e.2) ∷ more i) ∙ sym step
tagged_step place e es false h more =
    let step = first_step (λ d. d.0 == place) e es false h in
    ap (λ (l : List Entry). tagged place (map untagged l)) step ∙ more ∙ sym step

-- with their place they are the entries again
tagged-at : (place : ℕ) (es : List Entry) → tagged place (entries_at place es) ≡ filter (λ d. d.0 == place) es
tagged-at place [] = refl
tagged-at place (e ∷ es) = tagged_step place e es (e.0 == place) refl (tagged-at place es)

-- ---- the order of entries

pub ascend-tagged : (place : ℕ) (es : List (Val × Val)) → entries_ascend (tagged place es) ≡ ascends (map (λ e. e.0) es)
ascend-tagged place [] = refl
ascend-tagged place (e ∷ []) = refl
ascend-tagged place (d ∷ e ∷ es) =
    λ i. is_lt (ordering_then (sym (nat_cmp_is place place Equal refl) i) (order d.0 e.0)) && ascend-tagged place (e ∷ es) i

-- where all places of the first stand below those of the second
pub ascend-append : (limit : ℕ) (xs ys : List Entry) → entries_ascend xs ≡ true → entries_ascend ys ≡ true → AllByRecursion (λ e. e.0 < limit) xs → AllByRecursion (λ e. limit ≤ e.0) ys →
    entries_ascend (xs ++ ys) ≡ true
ascend-append limit [] ys h k low high = k
ascend-append limit (x ∷ []) [] h k low high = refl
ascend-append limit (x ∷ []) (y ∷ ys) h k low high =
    let below : x.0 < y.0 = omega (arith, low.0, high.0) in
    and_from _ _ (ap (λ (r : Ordering). is_lt (ordering_then r (order x.1 y.1))) (sym (nat_cmp_is x.0 y.0 Less below))) k
ascend-append limit (x ∷ z ∷ xs) ys h k low high =
    let both = and_parts (is_lt (ordering_then (nat_cmp x.0 z.0) (order x.1 z.1))) _ h in
    and_from _ _ both.0 (ascend-append limit (z ∷ xs) ys both.1 k low.1 high)

no_lower : (a b : ℕ) (o r : Ordering) → MatchOrdering r (a < b) (a ≡ b) (b < a) → is_lt (ordering_then r o) ≡ true → a ≤ b
no_lower a b o Less ranked h = omega (arith, ranked)
no_lower a b o Equal ranked h = omega (arith, ranked)
no_lower a b o Greater ranked h = absurd cc

-- no place behind an entry is lower than its own
places_up : (d : Entry) (es : List Entry) → entries_ascend (d ∷ es) ≡ true → AllByRecursion (λ e. d.0 ≤ e.0) es
places_up d [] h = tt
places_up d (e ∷ es) h =
    let both = and_parts (is_lt (ordering_then (nat_cmp d.0 e.0) (order d.1 e.1))) _ h in
    let up : d.0 ≤ e.0 = no_lower d.0 e.0 (order d.1 e.1) (nat_cmp d.0 e.0) (ranks d.0 e.0) both.0 in
    (up, all_entries (λ f. e.0 ≤ f.0) (λ f. d.0 ≤ f.0) (λ f le. omega (arith, up, le)) es (places_up e es both.1))

rest_ascends : (d : Entry) (es : List Entry) → entries_ascend (d ∷ es) ≡ true → entries_ascend es ≡ true
rest_ascends d [] h = refl
rest_ascends d (e ∷ es) h = (and_parts (is_lt (ordering_then (nat_cmp d.0 e.0) (order d.1 e.1))) _ h).1

below_next : (e d : Entry) (place : ℕ) → (e.0 == place) ≡ true → (d.0 == place) ≡ true → is_lt (ordering_then (nat_cmp e.0 d.0) (order e.1 d.1)) ≡ true → is_lt (order e.1 d.1) ≡ true
below_next e d place here there lower =
    let same : e.0 ≡ d.0 = eqb-true e.0 place here ∙ sym (eqb-true d.0 place there) in
    ap (λ (r : Ordering). is_lt (ordering_then r (order e.1 d.1))) (nat_cmp_is e.0 d.0 Equal same) ∙ lower

not_there : (a b place : ℕ) → (a == place) ≡ true → (b == place) ≡ false → a ≤ b → place < b
not_there a b place here there up = grind (arith, nat_tests)

module _ (place : ℕ) where
  abbrev KeysAscend : List Entry → Type 0
  KeysAscend es = ascends (map (λ e. e.0) (entries_at place es)) ≡ true

  keys_from : (e d : Entry) (es : List Entry) (there : Bool) → (e.0 == place) ≡ true → (d.0 == place) ≡ there → entries_ascend (e ∷ d ∷ es) ≡ true → KeysAscend (d ∷ es) → KeysAscend (e ∷ d ∷ es)
  keys_from e d es true here there up more =
      let both = and_parts (is_lt (ordering_then (nat_cmp e.0 d.0) (order e.1 d.1))) _ up in
      let rest : ascends (d.1 ∷ map (λ f. f.0) (entries_at place es)) ≡ true = sym (ap (λ (l : List (Val × Val)). ascends (map (λ f. f.0) l)) (at-here place d es there)) ∙ more in
      ap (λ (l : List (Val × Val)). ascends (map (λ f. f.0) l)) (at-here place e (d ∷ es) here ∙ ap (λ (l : List (Val × Val)). (e.1, e.2) ∷ l) (at-here place d es there))
      ∙ and_from _ _ (below_next e d place here there both.0) rest
  keys_from e d es false here there up more =
      let all_up = places_up e (d ∷ es) up in
      let beyond_place : place < d.0 = not_there e.0 d.0 place here there all_up.0 in
      let rest : AllByRecursion (λ f. d.0 ≤ f.0) es = places_up d es (rest_ascends e (d ∷ es) up) in
      let none : entries_at place (d ∷ es) ≡ [] = at-none place (d ∷ es) (inr beyond_place, all_entries (λ f. d.0 ≤ f.0) (λ f. (f.0 < place) ⊎ (place < f.0)) (λ f le. inr (omega (arith, le, beyond_place))) es rest) in
      ap (λ (l : List (Val × Val)). ascends (map (λ f. f.0) l)) (at-here place e (d ∷ es) here ∙ ap (λ (l : List (Val × Val)). (e.1, e.2) ∷ l) none)

  keys_step : (e : Entry) (es : List Entry) (here : Bool) → (e.0 == place) ≡ here → entries_ascend (e ∷ es) ≡ true → KeysAscend es → KeysAscend (e ∷ es)
  keys_step e es false h up more = ap (λ (l : List (Val × Val)). ascends (map (λ f. f.0) l)) (at-elsewhere place e es h) ∙ more
  keys_step e [] true h up more = ap (λ (l : List (Val × Val)). ascends (map (λ f. f.0) l)) (at-here place e [] h)
  keys_step e (d ∷ es) true h up more = keys_from e d es (d.0 == place) h refl up more

  -- so the keys of one big map ascend
  pub keys_ascend : (es : List Entry) → entries_ascend es ≡ true → KeysAscend es
  keys_ascend [] h = refl
  keys_ascend (e ∷ es) h = keys_step e es (e.0 == place) refl h (keys_ascend es (rest_ascends e es h))

-- ---- the entries between two places

abbrev is_between : ℕ → ℕ → Entry → Bool
is_between low high e = nat_le low e.0 && nat_lt e.0 high

abbrev pub between : ℕ → ℕ → List Entry → List Entry
between low high = filter (is_between low high)

inside : (low high x : ℕ) → low ≤ x → x < high → (nat_le low x && nat_lt x high) ≡ true
inside low high x h k = grind (arith, nat_tests)

below : (low high x : ℕ) → x < low → (nat_le low x && nat_lt x high) ≡ false
below low high x h = grind (arith, nat_tests)

beyond : (low high x : ℕ) → high ≤ x → (nat_le low x && nat_lt x high) ≡ false
beyond low high x h = grind (arith, nat_tests)

none_between : (low high : ℕ) (es : List Entry) → AllByRecursion (λ e. high ≤ e.0) es → between low high es ≡ []
none_between low high es h = none_pass (is_between low high) es (all_entries _ _ (λ e le. beyond low high e.0 le) es h)

module _ (low middle high : ℕ) (first : low ≤ middle) (second : middle ≤ high) where
  abbrev Splits : List Entry → Type 0
  Splits es = between low middle es ++ between middle high es ≡ between low high es

  split_step : (e : Entry) (es : List Entry) → AllByRecursion (λ f. e.0 ≤ f.0) es → Splits es → (e.0 < low) ⊎ (low ≤ e.0) → (e.0 < middle) ⊎ (middle ≤ e.0) → (e.0 < high) ⊎ (high ≤ e.0) → Splits (e ∷ es)
  split_step e es up more (inl a) b c =
      let step_one = first_step (is_between low middle) e es false (below low middle e.0 a) in
      let step_two = first_step (is_between middle high) e es false (below middle high e.0 (omega (arith, a, first))) in
      (λ i. step_one i ++ step_two i) ∙ more ∙ sym (first_step (is_between low high) e es false (below low high e.0 a))
  split_step e es up more (inr a) (inl b) c =
      let step_one = first_step (is_between low middle) e es true (inside low middle e.0 a b) in
      let step_two = first_step (is_between middle high) e es false (below middle high e.0 b) in
      (λ i. step_one i ++ step_two i) ∙ ap (λ (l : List Entry). e ∷ l) more ∙ sym (first_step (is_between low high) e es true (inside low high e.0 a (omega (arith, b, second))))
  split_step e es up more (inr a) (inr b) (inl c) =
      let none = none_between low middle es (all_entries (λ f. e.0 ≤ f.0) (λ f. middle ≤ f.0) (λ f le. omega (arith, b, le)) es up) in
      let step_one = first_step (is_between low middle) e es false (beyond low middle e.0 b) in
      let step_two = first_step (is_between middle high) e es true (inside middle high e.0 b c) in
      (λ i. (step_one ∙ none) i ++ step_two i) ∙ ap (λ (l : List Entry). e ∷ l) (sym (ap (λ (l : List Entry). l ++ between middle high es) none) ∙ more)
      ∙ sym (first_step (is_between low high) e es true (inside low high e.0 a c))
  split_step e es up more (inr a) (inr b) (inr c) =
      let step_one = first_step (is_between low middle) e es false (beyond low middle e.0 b) in
      let step_two = first_step (is_between middle high) e es false (beyond middle high e.0 c) in
      (λ i. step_one i ++ step_two i) ∙ more ∙ sym (first_step (is_between low high) e es false (beyond low high e.0 c))

  -- in order, those up to a place and those from there on are all
  pub between-split : (es : List Entry) → entries_ascend es ≡ true → between low middle es ++ between middle high es ≡ between low high es
  between-split [] h = refl
  between-split (e ∷ es) h =
      split_step e es (places_up e es h) (between-split es (rest_ascends e es h)) (cases_lt e.0 low) (cases_lt e.0 middle) (cases_lt e.0 high)

pub between-all : (high : ℕ) (es : List Entry) → AllByRecursion (λ e. e.0 < high) es → between 0 high es ≡ es
between-all high [] h = refl
between-all high (e ∷ es) h = first_step (is_between 0 high) e es true (inside 0 high e.0 (omega arith) h.0) ∙ ap (λ (l : List Entry). e ∷ l) (between-all high es h.1)

nothing_between : (x p : ℕ) → (nat_le p x && nat_lt x p) ≡ false
nothing_between x p = grind (arith, nat_tests)

each_outside : (place : ℕ) (es : List Entry) → AllByRecursion (λ e. is_between place place e ≡ false) es
each_outside place [] = tt
each_outside place (e ∷ es) = (nothing_between e.0 place, each_outside place es)

pub between-none : (place : ℕ) (es : List Entry) → between place place es ≡ []
between-none place es = none_pass (is_between place place) es (each_outside place es)

one_place : (x p : ℕ) → (x == p) ≡ (nat_le p x && nat_lt x (p + 1))
one_place x p = grind (arith, nat_tests)

-- the entries with one place are those up to the next
pub between-one : (place : ℕ) (es : List Entry) → tagged place (entries_at place es) ≡ between place (place + 1) es
between-one place es = tagged-at place es ∙ same_tests (λ e. e.0 == place) (is_between place (place + 1)) (λ e. one_place e.0 place) es
