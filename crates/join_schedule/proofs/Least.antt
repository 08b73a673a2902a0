-- The least operation and the soonest touch, when one more is looked at.
use Rattle.std.proofs.Common.{◌≡◌, ℕ, ◌<◌, ◌≤◌, Bool, true, false, cond, leb, List, [], ◌∷◌, ◌++◌, Option, Some, None, min, length, get_or, take, ◌+◌, sym, refl, ap, ◌∙◌, arith}
use Rattle.std.proofs.lemmas.List.{take_more}
use Rattle.std.specs.Option.{option_map}
use Rattle.std.proofs.lemmas.Bool.{leb-true, leb-false, le-leb}
use Rattle.cell_names.specs.declared.cell.Cell.{Cell}
use Rattle.cell_names.specs.declared.mode.Mode.{Mode}
use Rattle.join_schedule.specs.Touchers.{is_apart, least_with, least_apart, sooner, first_apart}

turned : (i k : ℕ) (o : Option ℕ) → least_with i (least_with k o) ≡ least_with k (least_with i o)
turned i k None = let e : min i k ≡ min k i = omega arith in ap Some e
turned i k (Some n) = let e : min i (min k n) ≡ min k (min i n) = omega arith in ap Some e

swapped : (a b : Bool) (i k : ℕ) (o : Option ℕ) → cond a (least_with i (cond b (least_with k o) o)) (cond b (least_with k o) o) ≡ cond b (least_with k (cond a (least_with i o) o)) (cond a (least_with i o) o)
swapped true true i k o = turned i k o
swapped true false i k o = refl
swapped false true i k o = refl
swapped false false i k o = refl

pub least_apart-push : (row : List Bool) (m : Mode) (ts : List (ℕ × Mode)) (t : ℕ × Mode) → least_apart row m (ts ++ t ∷ []) ≡ cond (is_apart row m t) (least_with t.0 (least_apart row m ts)) (least_apart row m ts)
least_apart-push row m [] t = refl
least_apart-push row m (s ∷ ts) t =
    ap (λ (o : Option ℕ). cond (is_apart row m s) (least_with s.0 o) o) (least_apart-push row m ts t)
    ∙ swapped (is_apart row m s) (is_apart row m t) s.0 t.0 (least_apart row m ts)

-- ---- soonest

sooner-none : (x : Option (ℕ × Cell)) → sooner x None ≡ x
sooner-none None = refl
sooner-none (Some x) = refl

not_less : (a b : ℕ) → b < a → leb a b ≡ false
not_less a b lt = elim (leb a b) as (λ t. leb a b ≡ t → t ≡ false) [ true ↦ λ e. absurd (let le : a ≤ b = leb-true a b e in omega arith) | false ↦ λ e. refl ] refl

three : (x y z : ℕ × Cell) (a b : Bool) → leb x.0 y.0 ≡ a → leb y.0 z.0 ≡ b → sooner (cond a (Some x) (Some y)) (Some z) ≡ sooner (Some x) (cond b (Some y) (Some z))
three x y z true true p q =
    let first : x.0 ≤ y.0 = leb-true _ _ p in
    let second : y.0 ≤ z.0 = leb-true _ _ q in
    let all : leb x.0 z.0 ≡ true = le-leb _ _ (omega arith) in
    ap (λ b. cond b (Some x) (Some z)) all ∙ sym (ap (λ b. cond b (Some x) (Some y)) p)
three x y z true false p q = refl
three x y z false true p q = ap (λ b. cond b (Some y) (Some z)) q ∙ sym (ap (λ b. cond b (Some x) (Some y)) p)
three x y z false false p q =
    let first : y.0 < x.0 = leb-false _ _ p in
    let second : z.0 < y.0 = leb-false _ _ q in
    ap (λ b. cond b (Some y) (Some z)) q ∙ sym (ap (λ b. cond b (Some x) (Some z)) (not_less x.0 z.0 (omega arith)))

sooner-assoc : (x y z : Option (ℕ × Cell)) → sooner (sooner x y) z ≡ sooner x (sooner y z)
sooner-assoc None y z = refl
sooner-assoc (Some x) None z = refl
sooner-assoc (Some x) (Some y) None = sooner-none (sooner (Some x) (Some y))
sooner-assoc (Some x) (Some y) (Some z) = three x y z (leb x.0 y.0) (leb y.0 z.0) refl refl

pub first_apart-push : (row : List Bool) (touched : Cell → List (ℕ × Mode)) (ts : List (Cell × Mode)) (t : Cell × Mode) →
    first_apart row touched (ts ++ t ∷ []) ≡ sooner (first_apart row touched ts) (option_map (λ (i : ℕ). (i, t.0)) (least_apart row t.1 (touched t.0)))
first_apart-push row touched [] t = sooner-none _
first_apart-push row touched (s ∷ ts) t =
    ap (λ (o : Option (ℕ × Cell)). sooner (option_map (λ (i : ℕ). (i, s.0)) (least_apart row s.1 (touched s.0))) o) (first_apart-push row touched ts t)
    ∙ sym (sooner-assoc (option_map (λ (i : ℕ). (i, s.0)) (least_apart row s.1 (touched s.0))) (first_apart row touched ts) (option_map (λ (i : ℕ). (i, t.0)) (least_apart row t.1 (touched t.0))))

-- ---- as loops go

module _ (row : List Bool) (m : Mode) (ts : List (ℕ × Mode)) (k : ℕ) (lt : k < length ts) (x : ℕ × Mode) (is : x ≡ get_or ts k x) where
  one_more : take (k + 1) ts ≡ take k ts ++ x ∷ []
  one_more = take_more ts k x lt ∙ ap (λ (y : ℕ × Mode). take k ts ++ y ∷ []) (sym is)

  pub least_apart-apart : (known : Option ℕ) (least' : ℕ) → known ≡ least_apart row m (take k ts) → is_apart row m x ≡ true → Some least' ≡ least_with x.0 known → Some least' ≡ least_apart row m (take (k + 1) ts)
  least_apart-apart known least' so_far on new =
      new ∙ ap (least_with x.0) so_far ∙ sym (ap (λ b. cond b (least_with x.0 (least_apart row m (take k ts))) (least_apart row m (take k ts))) on) ∙ sym (least_apart-push row m (take k ts) x) ∙ ap (least_apart row m) (sym one_more)

  pub least_apart-other : (known : Option ℕ) → known ≡ least_apart row m (take k ts) → is_apart row m x ≡ false → known ≡ least_apart row m (take (k + 1) ts)
  least_apart-other known so_far off =
      so_far ∙ sym (ap (λ b. cond b (least_with x.0 (least_apart row m (take k ts))) (least_apart row m (take k ts))) off) ∙ sym (least_apart-push row m (take k ts) x) ∙ ap (least_apart row m) (sym one_more)

pub first_apart-more : (row : List Bool) (touched : Cell → List (ℕ × Mode)) (ts : List (Cell × Mode)) (k : ℕ) (x : Cell × Mode) (first new : Option (ℕ × Cell)) (here : Option ℕ) → k < length ts → x ≡ get_or ts k x →
    first ≡ first_apart row touched (take k ts) → here ≡ least_apart row x.1 (touched x.0) → new ≡ sooner first (option_map (λ (i : ℕ). (i, x.0)) here) → new ≡ first_apart row touched (take (k + 1) ts)
first_apart-more row touched ts k x first new here lt is so_far at_cell joined =
    joined ∙ ap (λ (o : Option (ℕ × Cell)). sooner o (option_map (λ (i : ℕ). (i, x.0)) here)) so_far
    ∙ ap (λ (o : Option ℕ). sooner (first_apart row touched (take k ts)) (option_map (λ (i : ℕ). (i, x.0)) o)) at_cell
    ∙ sym (first_apart-push row touched (take k ts) x)
    ∙ ap (first_apart row touched) (sym (take_more ts k x lt ∙ ap (λ (y : Cell × Mode). take k ts ++ y ∷ []) (sym is)))
