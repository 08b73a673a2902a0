-- Pairs to the right: from the last part up, and from the first part down; and their size.
use Rattle.std.proofs.Common.{◌≡◌, ℕ, suc, ◌+◌, ◌<◌, ◌≤◌, List, [], ◌∷◌, ◌++◌, reverse, length, Option, Some, None, Ok, Bool, true, false, refl, sym, ap, subst, ◌∙◌, arith, rules}
use Rattle.std.specs.Prelude.{IsTrue, is_some, nat_le, sum_by}
use Rattle.std.specs.Option.{option_map}
use Rattle.std.proofs.lemmas.List.Sums.{sum_by-cons}
use Rattle.value_core.specs.declared.val.Val.{Val}
use Rattle.value_core.specs.declared.val.Val.TheVariants as value
use Rattle.value_core.specs.Size.{size_of}
use Rattle.michelson_code.specs.declared.why.Why.TheVariants as why
use Rattle.michelson_rules.specs.Answers.{Ends, gives, sized}
use Rattle.value_core.specs.declared.val.Val.TheOpen as is
use Rattle.value_core.specs.declared.val.Val.TheViews.{out-Val, the_lemmas}
use Rattle.value_core.proofs.SizeLaws.{size-pair}
use Rattle.std.proofs.lemmas.List.{reverse-append, reverse-reverse}
use Rattle.michelson_rules.specs.Plain.{before_parts, comb_of, combed, in_parts, parts_of_comb}
use Rattle.michelson_rules.specs.Answers.{on_any}
use Rattle.michelson_data.specs.Replaces.{Replaces}
use Rattle.michelson_data.specs.Pairing.{comb_up, paired_up}

out-pair : (a b : Val) → out-Val (value.Pair a b) ≡ is.Pair a b
out-pair a b = search (rules, the_lemmas)

small_enough : (v : Val) → size_of v ≤ 4096 → sized v ≡ gives v
small_enough v small = grind arith

too_large : (v : Val) → 4096 < size_of v → sized v ≡ Ends why.TooLarge
too_large v large = grind arith

-- the pairs of parts, from the first down
abbrev comb_all : List Val → Val
comb_all [] = value.Unit
comb_all (x ∷ xs) = comb_of x xs

last_pair : (ys : List Val) (x m : Val) → comb_all (ys ++ value.Pair x m ∷ []) ≡ comb_all ((ys ++ x ∷ []) ++ m ∷ [])
last_pair [] x m = refl
last_pair (y ∷ []) x m = refl
last_pair (y ∷ z ∷ zs) x m = ap (value.Pair y) (last_pair (z ∷ zs) x m)

reverse_cons : (x : Val) (xs : List Val) → reverse (x ∷ xs) ≡ reverse xs ++ x ∷ []
reverse_cons x xs = reverse-append (x ∷ []) xs

up_is_down : (made : Val) (xs : List Val) → paired_up made xs ≡ comb_all (reverse xs ++ made ∷ [])
up_is_down made [] = refl
up_is_down made (x ∷ xs) = up_is_down (value.Pair x made) xs ∙ last_pair (reverse xs) x made ∙ ap (λ l. comb_all (l ++ made ∷ [])) (sym (reverse_cons x xs))

combed_is : (ys : List Val) (m : Val) → combed (ys ++ m ∷ []) ≡ sized (comb_all (ys ++ m ∷ []))
combed_is [] m = refl
combed_is (y ∷ ys) m = refl

-- the pairs of parts whose last stands first
combed_up : (x : Val) (xs : List Val) → combed (reverse (x ∷ xs)) ≡ sized (paired_up x xs)
combed_up x xs = ap combed (reverse_cons x xs) ∙ combed_is (reverse xs) x ∙ ap sized (sym (up_is_down x xs))

size_up : (made : Val) (xs : List Val) → size_of (paired_up made xs) ≡ size_of made + sum_by size_of xs
size_up made [] = omega arith
size_up made (x ∷ xs) = let more = size_up (value.Pair x made) xs in let pair = size-pair x made in let sums = sum_by-cons size_of x xs in omega arith

size_of_parts : (x : Val) (xs : List Val) → size_of (paired_up x xs) ≡ sum_by size_of (x ∷ xs)
size_of_parts x xs = let up = size_up x xs in let sums = sum_by-cons size_of x xs in omega arith

-- pairs of parts that are small enough together, and of others
pub small_comb : (parts : List Val) (v : Val) → 1 ≤ length parts → sum_by size_of parts ≤ 4096 → v ≡ comb_up parts → combed (reverse parts) ≡ gives v
small_comb [] v some small made = absurd (omega arith)
small_comb (x ∷ xs) v some small made = let size = size_of_parts x xs in
    combed_up x xs ∙ small_enough (paired_up x xs) (omega arith) ∙ ap gives (sym made)

above : (n m : ℕ) → (n ≤ m → false ≡ true) → m < n
above n m more = by_test (nat_le n m) refl
  where
    by_test : (b : Bool) → nat_le n m ≡ b → m < n
    by_test true is = absurd (let never : false ≡ true = more (grind arith) in search rules)
    by_test false is = grind arith

pub large_comb : (parts : List Val) → 1 ≤ length parts → (sum_by size_of parts ≤ 4096 → false ≡ true) → combed (reverse parts) ≡ Ends why.TooLarge
large_comb [] some large = absurd (omega arith)
large_comb (x ∷ xs) some large = let size = size_of_parts x xs in let more = above (sum_by size_of (x ∷ xs)) 4096 large in
    combed_up x xs ∙ too_large (paired_up x xs) (omega arith)

-- parts that are spread on the stack in the place of the pair
pub apart_is : (n : ℕ) (v : Val) (rest old new : List Val) → old ≡ rest ++ v ∷ [] → IsTrue (is_some (parts_of_comb n v)) →
    ((parts : List Val) → parts_of_comb n v ≡ Some parts → new ≡ rest ++ reverse parts) →
    Replaces {T = Unit {0}} (on_any (λ w. in_parts (parts_of_comb n w)) (reverse old)) (Ok tt) (reverse new)
apart_is n v rest old new split there spread =
    subst (λ s. Replaces {T = Unit {0}} (on_any (λ w. in_parts (parts_of_comb n w)) s) (Ok tt) (reverse new)) (sym (ap reverse split ∙ reverse-append rest (v ∷ [])))
    (by_parts (parts_of_comb n v) refl there)
  where
    by_parts : (o : Option (List Val)) → parts_of_comb n v ≡ o → is_some o ≡ true → Replaces {T = Unit {0}} (in_parts o, reverse rest) (Ok tt) (reverse new)
    by_parts (Some ps) is_it some = ap reverse (spread ps is_it) ∙ reverse-append rest (reverse ps) ∙ ap (λ l. l ++ reverse rest) (reverse-reverse ps)
    by_parts None is_it some = absurd (search rules)

-- one more part gone from what is left
pub one_part : (v a b : Val) (n : ℕ) → v ≡ value.Pair a b → parts_of_comb (suc (suc n)) v ≡ option_map (λ parts. a ∷ parts) (parts_of_comb (suc n) b)
one_part v a b n kind = ap (λ w. before_parts (parts_of_comb (suc n)) (out-Val w)) kind ∙ ap (before_parts (parts_of_comb (suc n))) (out-pair a b)
