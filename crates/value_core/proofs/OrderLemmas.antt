-- What `order` is at one level, and the order of two lists from a place on.
use Rattle.std.proofs.Common.{◌≡◌, ℕ, zero, suc, min, length, List, [], ◌∷◌, map, drop, refl, ap, ◌∙◌, arith, rules}
use Rattle.std.proofs.lemmas.Bool.Decides.{nat_tests}
use Rattle.std.specs.declared.cmp.Ordering.{Ordering}
use Rattle.std.specs.declared.cmp.Ordering.TheVariants.{Equal, Less, Greater}
use Rattle.std.specs.Ordering.{int_cmp, nat_cmp, ordering_then}
use Rattle.std.specs.Cmp.Lexicographic.{slice_cmp}
use Rattle.value_core.specs.declared.val.Val.{Val}
use Rattle.value_core.specs.declared.val.Emit.{Emit}
use Rattle.value_core.specs.declared.val.Val.TheVariants as variant
use Rattle.value_core.specs.declared.val.Val.TheOpen as one
use Rattle.value_core.specs.declared.val.Val.TheViews.{out-Val, the_lemmas}
use Rattle.value_core.specs.Layer.{Layer, flat, last_of, number_of, on_parts, parts_of, tag_of, texts_of}
use Rattle.value_core.specs.Order.{layer_cmp, order, order_emit}
use Rattle.value_core.proofs.Levels.{by_level-is, last_of-on_parts, number_of-on_parts, parts_of-on_parts, tag_of-on_parts, texts_of-on_parts}

applied : {A B : Type 0} (R : A → B → Ordering) (xs : List A) (ys : List B) → slice_cmp (λ f w. f w) (map R xs) ys ≡ slice_cmp R xs ys
applied R [] [] = refl
applied R [] (y ∷ ys) = refl
applied R (x ∷ xs) [] = refl
applied R (x ∷ xs) (y ∷ ys) = ap (ordering_then (R x y)) (applied R xs ys)

-- a level whose parts are compared by their own orders
layer_cmp-on_parts : {A B : Type 0} (R : A → B → Ordering) (x : Layer A) (y : Layer B) → layer_cmp (λ f w. f w) (on_parts R x) y ≡ layer_cmp R x y
layer_cmp-on_parts R x y = λ i.
    ordering_then (nat_cmp (tag_of-on_parts R x i) (tag_of y))
    (ordering_then (int_cmp (number_of-on_parts R x i) (number_of y))
    (ordering_then (slice_cmp (slice_cmp nat_cmp) (texts_of-on_parts R x i) (texts_of y))
    (ordering_then ((ap (λ fs. slice_cmp (λ f w. f w) fs (parts_of y)) (parts_of-on_parts R x) ∙ applied R (parts_of x) (parts_of y)) i)
    (nat_cmp (last_of-on_parts R x i) (last_of y)))))

pub order-is : (a b : Val) → order a b ≡ layer_cmp order (out-Val a) (out-Val b)
order-is a b =
    ap (λ f. f b) (by_level-is {A = Val → Ordering} (λ x w. layer_cmp (λ f v. f v) x (out-Val w)) a)
    ∙ layer_cmp-on_parts order (out-Val a) (out-Val b)

-- ---- values whose levels are known

order_of_levels : (a b : Val) (x y : Layer Val) → out-Val a ≡ x → out-Val b ≡ y → order a b ≡ layer_cmp order x y
order_of_levels a b x y p q = order-is a b ∙ (λ i. layer_cmp order (p i) (q i))

pub then_equal : (o : Ordering) → ordering_then o Equal ≡ o
then_equal Less = refl
then_equal Equal = refl
then_equal Greater = refl

shows_list : (x : List Val) → out-Val (variant.List x) ≡ one.List x
shows_list x = search (rules, the_lemmas)

shows_set : (x : List Val) → out-Val (variant.Set x) ≡ one.Set x
shows_set x = search (rules, the_lemmas)

shows_map : (x : List (Val × Val)) → out-Val (variant.Map x) ≡ one.Map x
shows_map x = search (rules, the_lemmas)

shows_operation : (x : Emit) → out-Val (variant.Operation x) ≡ one.Operation x
shows_operation x = search (rules, the_lemmas)

pub order_lists : (x y : List Val) → order (variant.List x) (variant.List y) ≡ slice_cmp order x y
order_lists x y = order_of_levels _ _ _ _ (shows_list x) (shows_list y) ∙ then_equal (slice_cmp order x y)

pub order_sets : (x y : List Val) → order (variant.Set x) (variant.Set y) ≡ slice_cmp order x y
order_sets x y = order_of_levels _ _ _ _ (shows_set x) (shows_set y) ∙ then_equal (slice_cmp order x y)

pub order_maps : (x y : List (Val × Val)) → order (variant.Map x) (variant.Map y) ≡ slice_cmp order (flat x) (flat y)
order_maps x y = order_of_levels _ _ _ _ (shows_map x) (shows_map y) ∙ then_equal (slice_cmp order (flat x) (flat y))

then_assoc : (o p q : Ordering) → ordering_then (ordering_then o p) q ≡ ordering_then o (ordering_then p q)
then_assoc Less p q = refl
then_assoc Equal p q = refl
then_assoc Greater p q = refl

pub order_operations : (d e : Emit) → order (variant.Operation d) (variant.Operation e) ≡ order_emit d e
order_operations d e = order_of_levels _ _ _ _ (shows_operation d) (shows_operation e)
    ∙ then_assoc (slice_cmp nat_cmp d.dest e.dest) (ordering_then (slice_cmp nat_cmp d.entry e.entry) Equal) _
    ∙ (λ i. ordering_then (slice_cmp nat_cmp d.dest e.dest)
    (ordering_then (then_equal (slice_cmp nat_cmp d.entry e.entry) i)
    (ordering_then (then_equal (order d.param e.param) i) (nat_cmp d.amount e.amount))))

shows_pair : (x y : Val) → out-Val (variant.Pair x y) ≡ one.Pair x y
shows_pair x y = search (rules, the_lemmas)

order_pairs : (x y z w : Val) → order (variant.Pair x y) (variant.Pair z w) ≡ ordering_then (order x z) (order y w)
order_pairs x y z w = order_of_levels _ _ _ _ (shows_pair x y) (shows_pair z w)
    ∙ then_equal (ordering_then (order x z) (ordering_then (order y w) Equal))
    ∙ ap (ordering_then (order x z)) (then_equal (order y w))

-- behind first parts that tie
pub order_behind : (a b x y z w : Val) → a ≡ variant.Pair x y → b ≡ variant.Pair z w → order x z ≡ Equal → order a b ≡ order y w
order_behind a b x y z w p q tied = (λ i. order (p i) (q i)) ∙ order_pairs x y z w ∙ (λ i. ordering_then (tied i) (order y w))

-- ---- where the shorter list has ended, the lengths decide

less_zero : (n : ℕ) → Less ≡ nat_cmp 0 (suc n)
less_zero n = grind (arith, nat_tests)

greater_zero : (n : ℕ) → Greater ≡ nat_cmp (suc n) 0
greater_zero n = grind (arith, nat_tests)

both_more : (m n : ℕ) → nat_cmp m n ≡ nat_cmp (suc m) (suc n)
both_more m n = grind (arith, nat_tests)

pub ended : {A B : Type 0} (R : A → B → Ordering) (a : List A) (b : List B) (i : ℕ) → i ≡ min (length a) (length b) →
    slice_cmp R (drop i a) (drop i b) ≡ nat_cmp (length a) (length b)
ended R [] [] zero e = refl
ended R [] [] (suc i) e = absurd (omega arith)
ended R [] (y ∷ ys) zero e = less_zero (length ys)
ended R [] (y ∷ ys) (suc i) e = absurd (omega arith)
ended R (x ∷ xs) [] zero e = greater_zero (length xs)
ended R (x ∷ xs) [] (suc i) e = absurd (omega arith)
ended R (x ∷ xs) (y ∷ ys) zero e = absurd (omega arith)
ended R (x ∷ xs) (y ∷ ys) (suc i) e = ended R xs ys i (omega arith) ∙ both_more (length xs) (length ys)

pub ended_flat : {A B : Type 0} (R : A → B → Ordering) (a : List (A × A)) (b : List (B × B)) (i : ℕ) → i ≡ min (length a) (length b) →
    slice_cmp R (flat (drop i a)) (flat (drop i b)) ≡ nat_cmp (length a) (length b)
ended_flat R [] [] zero e = refl
ended_flat R [] [] (suc i) e = absurd (omega arith)
ended_flat R [] (y ∷ ys) zero e = less_zero (length ys)
ended_flat R [] (y ∷ ys) (suc i) e = absurd (omega arith)
ended_flat R (x ∷ xs) [] zero e = greater_zero (length xs)
ended_flat R (x ∷ xs) [] (suc i) e = absurd (omega arith)
ended_flat R (x ∷ xs) (y ∷ ys) zero e = absurd (omega arith)
ended_flat R (x ∷ xs) (y ∷ ys) (suc i) e = ended_flat R xs ys i (omega arith) ∙ both_more (length xs) (length ys)
