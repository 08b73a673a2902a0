-- `order` is a total order, and ties equal values alone.
use Rattle.std.proofs.Common.{◌≡◌, ℕ, zero, suc, ◌+◌, ◌≤◌, max, true, false, List, [], ◌∷◌, refl, ap, sym, ◌∙◌, arith}
use Rattle.std.specs.declared.cmp.Ordering.{Ordering}
use Rattle.std.specs.declared.cmp.Ordering.TheVariants.{Equal, Less, Greater}
use Rattle.std.specs.Ordering.{int_cmp, nat_cmp, ordering_then, ordering_reverse}
use Rattle.std.specs.Cmp.{IsTotalOrder}
use Rattle.std.specs.FinMap.{int_cmp-IsAntisymmetric, nat_cmp-IsAntisymmetric, slice_cmp-IsAntisymmetric}
use Rattle.std.specs.Cmp.Lexicographic.{slice_cmp}
use Rattle.std.proofs.lemmas.Cmp.{int_cmp_total, nat_cmp_total, nat_list_cmp_total, lists_total, on_total, then_total}
use Rattle.value_core.specs.declared.val.Val.{Val}
use Rattle.value_core.specs.declared.val.Val.TheOpen as one
use Rattle.value_core.specs.declared.val.Val.TheViews.{out-Val, roll-Val}
use Rattle.value_core.specs.Layer.{Layer, flat, last_of, number_of, parts_of, tag_of, texts_of}
use Rattle.value_core.specs.Order.{IsOrder, layer_cmp, order}
use Rattle.value_core.proofs.OrderLemmas.{order-is}
use Rattle.value_core.proofs.Levels.{Each, induction, roll-out}

-- the order of values that are looked at n levels deep
abbrev order_at : ℕ → Val → Val → Ordering
order_at zero a b = Equal
order_at (suc n) a b = layer_cmp (order_at n) (out-Val a) (out-Val b)

total_at : (n : ℕ) → IsTotalOrder (order_at n)
total_at zero = on_total (λ _. 0) nat_cmp_total
total_at (suc n) =
    then_total (on_total (λ v. tag_of (out-Val v)) nat_cmp_total)
    (then_total (on_total (λ v. number_of (out-Val v)) int_cmp_total)
    (then_total (on_total (λ v. texts_of (out-Val v)) (lists_total nat_list_cmp_total))
    (then_total (on_total (λ v. parts_of (out-Val v)) (lists_total (total_at n)))
    (on_total (λ v. last_of (out-Val v)) nat_cmp_total))))

-- from some depth on, order_at answers as order does at a
abbrev IsSettled : Val → Type 0
IsSettled a = (d : ℕ) × ((n : ℕ) (b : Val) → d ≤ n → order_at n a b ≡ order a b)

settled_lists : (xs : List Val) → Each IsSettled xs → (d : ℕ) × ((n : ℕ) (ys : List Val) → d ≤ n → slice_cmp (order_at n) xs ys ≡ slice_cmp order xs ys)
settled_lists [] s = (0, λ n ys h. elim ys as (λ l. slice_cmp (order_at n) [] l ≡ slice_cmp order [] l) [ [] ↦ refl | y ∷ l ↦ refl ])
settled_lists (x ∷ xs) s =
    let rest = settled_lists xs s.1 in (
      max s.0.0 rest.0,
      λ n ys h. elim ys as (λ l. slice_cmp (order_at n) (x ∷ xs) l ≡ slice_cmp order (x ∷ xs) l) [
        | [] ↦ refl
        | y ∷ l ↦ λ i. ordering_then (s.0.1 n y (omega arith) i) (rest.1 n l (omega arith) i)
      ],
    )

settled_above : (a : Val) (d : ℕ) → ((n : ℕ) (ys : List Val) → d ≤ n → slice_cmp (order_at n) (parts_of (out-Val a)) ys ≡ slice_cmp order (parts_of (out-Val a)) ys) →
    (n : ℕ) (b : Val) → d + 1 ≤ n → order_at n a b ≡ order a b
settled_above a d h zero b p = absurd (omega arith)
settled_above a d h (suc n) b p =
    (λ i. ordering_then (nat_cmp (tag_of (out-Val a)) (tag_of (out-Val b)))
    (ordering_then (int_cmp (number_of (out-Val a)) (number_of (out-Val b)))
    (ordering_then (slice_cmp (slice_cmp nat_cmp) (texts_of (out-Val a)) (texts_of (out-Val b)))
    (ordering_then (h n (parts_of (out-Val b)) (omega arith) i) (nat_cmp (last_of (out-Val a)) (last_of (out-Val b)))))))
    ∙ sym (order-is a b)

settled : (a : Val) → IsSettled a
settled = induction IsSettled (λ a s. let all = settled_lists _ s in (all.0 + 1, settled_above a all.0 all.1))

module _ (x y z : Val) where
  abbrev n : ℕ
  n = max (settled x).0 (max (settled y).0 (settled z).0)

  antisymm : order x y ≡ ordering_reverse (order y x)
  antisymm = sym ((settled x).1 n y (omega arith)) ∙ (total_at n).antisymm x y ∙ ap ordering_reverse ((settled y).1 n x (omega arith))

  trans : order x y ≡ Less → order y z ≡ Less → order x z ≡ Less
  trans p q = sym ((settled x).1 n z (omega arith)) ∙
      (total_at n).trans x y z ((settled x).1 n y (omega arith) ∙ p) ((settled y).1 n z (omega arith) ∙ q)

  congr : order x y ≡ Equal → order x z ≡ order y z
  congr p = sym ((settled x).1 n z (omega arith)) ∙ (total_at n).congr x y z ((settled x).1 n y (omega arith) ∙ p) ∙ (settled y).1 n z (omega arith)

-- ---- ties

both_equal : (r s : Ordering) → ordering_then r s ≡ Equal → (r ≡ Equal) × (s ≡ Equal)
both_equal Less s e = cc
both_equal Equal s e = (refl, e)
both_equal Greater s e = cc

abbrev TiesItself : Val → Type 0
TiesItself a = (b : Val) → order a b ≡ Equal → a ≡ b

tied_lists : (xs : List Val) → Each TiesItself xs → (ys : List Val) → slice_cmp order xs ys ≡ Equal → xs ≡ ys
tied_lists [] h [] e = refl
tied_lists [] h (y ∷ ys) e = cc
tied_lists (x ∷ xs) h [] e = cc
tied_lists (x ∷ xs) h (y ∷ ys) e =
    let both = both_equal (order x y) (slice_cmp order xs ys) e in
    λ i. h.0 y both.0 i ∷ tied_lists xs h.1 ys both.1 i

flat-same : {A : Type 0} (es fs : List (A × A)) → flat es ≡ flat fs → es ≡ fs
flat-same [] [] e = refl
flat-same [] (f ∷ fs) e = cc
flat-same (e ∷ es) [] p = cc
flat-same (e ∷ es) (f ∷ fs) p =
    let first : e.0 ≡ f.0 = cc in
    let second : e.1 ≡ f.1 = cc in
    let rest : flat es ≡ flat fs = cc in
    λ i. (first i, second i) ∷ flat-same es fs rest i

-- a level is told by its tag, its number, its texts, its parts and its last number
same_layer : (x y : Layer Val) → tag_of x ≡ tag_of y → number_of x ≡ number_of y → texts_of x ≡ texts_of y → parts_of x ≡ parts_of y → last_of x ≡ last_of y → x ≡ y
same_layer one.Unit one.Unit t n s p l = refl
same_layer (one.Bool true) (one.Bool true) t n s p l = refl
same_layer (one.Bool false) (one.Bool false) t n s p l = refl
same_layer (one.Int a) (one.Int b) t n s p l = ap (λ z. one.Int z) n
same_layer (one.Nat a) (one.Nat b) t n s p l = ap (λ z. one.Nat z) n
same_layer (one.Mutez a) (one.Mutez b) t n s p l = cc
same_layer (one.Time a) (one.Time b) t n s p l = ap (λ z. one.Time z) n
same_layer (one.Text a) (one.Text b) t n s p l = cc
same_layer (one.Bytes a) (one.Bytes b) t n s p l = cc
same_layer (one.Addr a) (one.Addr b) t n s p l = cc
same_layer one.Nothing one.Nothing t n s p l = refl
same_layer (one.Some a) (one.Some b) t n s p l = cc
same_layer (one.Left a) (one.Left b) t n s p l = cc
same_layer (one.Right a) (one.Right b) t n s p l = cc
same_layer (one.Pair a b) (one.Pair c d) t n s p l = cc
same_layer (one.List a) (one.List b) t n s p l = ap (λ z. one.List z) p
same_layer (one.Set a) (one.Set b) t n s p l = ap (λ z. one.Set z) p
same_layer (one.Map a) (one.Map b) t n s p l = ap (λ z. one.Map z) (flat-same a b p)
same_layer (one.BigMap a v) (one.BigMap b w) t n s p l = cc
same_layer (one.Contract a e) (one.Contract b f) t n s p l = cc
same_layer (one.Operation d) (one.Operation e) t n s p l =
    let dest : d.dest ≡ e.dest = cc in
    let entry : d.entry ≡ e.entry = cc in
    let param : d.param ≡ e.param = cc in
    λ i. one.Operation (record { dest = dest i; entry = entry i; param = param i; amount = l i })
same_layer x y t n s p l = absurd (grind arith)

ties_itself : (a : Val) → TiesItself a
ties_itself = induction TiesItself (λ a h b e.
    let tags = both_equal _ _ (sym (order-is a b) ∙ e) in
    let numbers = both_equal _ _ tags.1 in
    let texts = both_equal _ _ numbers.1 in
    let rest = both_equal _ _ texts.1 in
    sym (roll-out a) ∙ ap roll-Val (same_layer (out-Val a) (out-Val b) (nat_cmp-IsAntisymmetric _ _ tags.0) (int_cmp-IsAntisymmetric _ _ numbers.0)
    (slice_cmp-IsAntisymmetric (slice_cmp-IsAntisymmetric nat_cmp-IsAntisymmetric) _ _ texts.0)
    (tied_lists _ h _ rest.0) (nat_cmp-IsAntisymmetric _ _ rest.1)) ∙ roll-out b)

pub order_lawful : IsOrder order
order_lawful = (record { antisymm = λ x y. antisymm x y x; trans = trans; congr = congr }, ties_itself)
