-- Stacks whose top is the last item: the operands on top, and what stands below them.
use Rattle.std.proofs.Common.{◌≡◌, ℕ, ◌-◌, ◌≤◌, List, [], ◌∷◌, ◌++◌, reverse, length, take, drop, Result, Ok, Err, true, refl, sym, ap, subst, ◌∙◌, arith, rules, take-append-drop, length-drop}
use Rattle.std.proofs.lemmas.List.{reverse-append, length-reverse}
use Rattle.std.proofs.lemmas.Grind.{common_steps}
use Rattle.std.specs.Prelude.{nat_le, if◌then◌else◌}
use lib.Seq.{take-append_seam, drop-append_seam}
use Rattle.value_core.specs.declared.val.Val.{Val}
use Rattle.michelson_rules.specs.Answers.{Answer, Answered, Ends, Gives, Misses, gives, missed, sized}
use Rattle.michelson_rules.specs.Plain.{combed, paired}
use Rattle.michelson_data.specs.declared.fault.DataEnd.{DataEnd}
use Rattle.michelson_data.specs.declared.fault.DataEnd.TheVariants as end
use Rattle.michelson_data.specs.Replaces.{Replaces}
use Rattle.michelson_data.specs.Settled.{left_by, told}
use Rattle.michelson_data.specs.Sized.{IsSizedOf}
use Rattle.michelson_data.specs.Tells.{Tells}

-- from the top down: the operands, then the others
split_at : (k : ℕ) (xs : List Val) → reverse xs ≡ reverse (drop k xs) ++ reverse (take k xs)
split_at k xs = ap reverse (sym (take-append-drop k xs)) ∙ reverse-append (take k xs) (drop k xs)

top_of : (n : ℕ) (xs : List Val) → n ≤ length xs → n ≡ length (reverse (drop (length xs - n) xs))
top_of n xs there = let e = length-reverse (drop (length xs - n) xs) in let d = length-drop (length xs - n) xs in omega arith

pub taken_top : (n : ℕ) (xs : List Val) → n ≤ length xs → take n (reverse xs) ≡ reverse (drop (length xs - n) xs)
taken_top n xs there = let k = length xs - n in ap (take n) (split_at k xs) ∙
    ap (λ m. take m (reverse (drop k xs) ++ reverse (take k xs))) (top_of n xs there) ∙ take-append_seam (reverse (drop k xs)) (reverse (take k xs))

pub dropped_top : (n : ℕ) (xs : List Val) → n ≤ length xs → drop n (reverse xs) ≡ reverse (take (length xs - n) xs)
dropped_top n xs there = let k = length xs - n in ap (drop n) (split_at k xs) ∙
    ap (λ m. drop m (reverse (drop k xs) ++ reverse (take k xs))) (top_of n xs there) ∙ drop-append_seam (reverse (drop k xs)) (reverse (take k xs))

pub paired_is : (n : ℕ) (xs : List Val) → n ≤ length xs → paired n (reverse xs) ≡ (combed (reverse (drop (length xs - n) xs)), reverse (take (length xs - n) xs))
paired_is n xs there = let e = length-reverse xs in let holds : nat_le n (length (reverse xs)) ≡ true = grind arith in
    ap (λ b. if b then (combed (take n (reverse xs)), drop n (reverse xs)) else missed) holds ∙ ap (λ p. (combed p, drop n (reverse xs))) (taken_top n xs there) ∙
    ap (λ l. (combed (reverse (drop (length xs - n) xs)), l)) (dropped_top n xs there)

-- the value on top, from the top down
value_on_top : (below : List Val) (v : Val) → reverse (below ++ v ∷ []) ≡ v ∷ reverse below
value_on_top below v = reverse-append below (v ∷ [])

-- where there is no line nothing is to be shown
pub with_line : (a : Answer) (below : List Val) (r : Result (Unit {0}) DataEnd) (new : List Val) → ((a ≡ Misses → ⊥) → Replaces (a, below) r new) → Replaces (a, below) r new
with_line (Gives vs) below r new shown = shown (λ e. absurd (search rules))
with_line (Ends y) below r new shown = shown (λ e. absurd (search rules))
with_line Misses below r new shown = tt

-- what is made of operands is tested for its size and put in their place
pub sized_put : (a : Answer) (made : Val) (below : List Val) (r : Result (Unit {0}) DataEnd) (new : List Val) → IsSizedOf made a → Replaces (sized made, below) r new → Replaces (a, below) r new
sized_put a made below r new tells put = with_line a below r new (λ line. subst (λ b. Replaces (b, below) r new) (sym (tells line)) put)

-- one value in the place of operands
pub value_made : (a : Answer) (v : Val) (below : List Val) → ((a ≡ Misses → ⊥) → a ≡ gives v) → Replaces {T = Unit {0}} (a, reverse below) (Ok tt) (reverse (below ++ v ∷ []))
value_made a v below tells = with_line a (reverse below) (Ok tt) (reverse (below ++ v ∷ []))
    (λ line. subst (λ b. Replaces {T = Unit {0}} (b, reverse below) (Ok tt) (reverse (below ++ v ∷ []))) (sym (tells line)) (value_on_top below v))

-- want of memory comes freely
pub no_memory : (a : Answered) (new : List Val) → Replaces {T = Unit {0}} a (Err end.NoMemory) new
no_memory (Gives vs, below) new = refl
no_memory (Ends y, below) new = tt
no_memory (Misses, below) new = tt

ended : (a : Answer) (e : DataEnd) (below old : List Val) → Tells (Err e) a → Replaces (a, reverse below) (told (Err e)) (reverse (left_by (Err e) below old))
ended a end.Overflow below old tells = subst (λ b. Replaces {T = Unit {0}} (b, reverse below) (Err end.Overflow) (reverse below)) (sym tells) (refl, refl)
ended a end.Shift below old tells = subst (λ b. Replaces {T = Unit {0}} (b, reverse below) (Err end.Shift) (reverse below)) (sym tells) (refl, refl)
ended a end.TooLarge below old tells = subst (λ b. Replaces {T = Unit {0}} (b, reverse below) (Err end.TooLarge) (reverse below)) (sym tells) (refl, refl)
ended a end.NoMemory below old tells = no_memory (a, reverse below) (reverse old)

settled : (a : Answer) (made : Result Val DataEnd) (below old : List Val) → Tells made a → Replaces (a, reverse below) (told made) (reverse (left_by made below old))
settled a (Ok v) below old tells = value_made a v below (λ line. tells)
settled a (Err e) below old tells = ended a e below old tells

-- pairs are put together
pub put_together : (n : ℕ) (xs new : List Val) (made : Result Val DataEnd) (result : Result (Unit {0}) DataEnd) → n ≤ length xs → Tells made (combed (reverse (drop (length xs - n) xs))) →
    result ≡ told made → new ≡ left_by made (take (length xs - n) xs) xs → Replaces (paired n (reverse xs)) result (reverse new)
put_together n xs new made result there tells is left =
    subst (λ a. Replaces a result (reverse new)) (sym (paired_is n xs there)) (subst (λ r. Replaces (combed (reverse (drop (length xs - n) xs)), reverse (take (length xs - n) xs)) r (reverse new)) (sym is)
    (subst (λ l. Replaces (combed (reverse (drop (length xs - n) xs)), reverse (take (length xs - n) xs)) (told made) (reverse l)) (sym left)
    (settled (combed (reverse (drop (length xs - n) xs))) made (take (length xs - n) xs) xs tells)))

-- two and three operands on top of a stack
pub two_on_top : (rest one two : List Val) (x y : Val) → two ≡ one ++ x ∷ [] → one ≡ rest ++ y ∷ [] → reverse two ≡ x ∷ y ∷ reverse rest
two_on_top rest one two x y top next = ap reverse top ∙ value_on_top one x ∙ ap (λ l. x ∷ l) (ap reverse next ∙ value_on_top rest y)

pub three_on_top : (rest one two three : List Val) (x y z : Val) → three ≡ two ++ x ∷ [] → two ≡ one ++ y ∷ [] → one ≡ rest ++ z ∷ [] → reverse three ≡ x ∷ y ∷ z ∷ reverse rest
three_on_top rest one two three x y z top next last = ap reverse top ∙ value_on_top two x ∙ ap (λ l. x ∷ l) (two_on_top rest one two y z next last)

-- a slice up to its end
rest_of : (h : ℕ) (ys : List Val) → take (length ys - h) (drop h ys) ≡ drop h ys
rest_of h ys = let long = length-drop h ys in grind (arith, common_steps)

pub put_slice_together : (n height : ℕ) (xs slice new : List Val) (made : Result Val DataEnd) (result : Result (Unit {0}) DataEnd) → slice ≡ xs → height ≡ length xs → n ≤ height →
    Tells made (combed (reverse (take (length slice - (height - n)) (drop (height - n) slice)))) →
    result ≡ told made → new ≡ left_by made (take (length xs - n) xs) xs → Replaces (paired n (reverse xs)) result (reverse new)
put_slice_together n height xs slice new made result same tall there tells is left =
    put_together n xs new made result (subst (λ h. n ≤ h) tall there)
    (subst (λ l. Tells made (combed (reverse l))) (rest_of (height - n) slice ∙ ap (drop (height - n)) same ∙ ap (λ h. drop (h - n) xs) tall) tells) is left
