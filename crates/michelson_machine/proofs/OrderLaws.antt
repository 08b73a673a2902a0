-- Changes in order are what a stable sort makes of them.
use Rattle.std.proofs.Common.{◌≡◌, Bool, true, false, List, [], ◌∷◌, refl, sym, ap, ◌∙◌, subst, rules}
use Rattle.std.specs.Prelude.{cond, if◌then◌else◌, not, ◌&&◌}
use Rattle.std.specs.Cmp.{IsStrictWeakOrder, IsTotalOrder}
use Rattle.std.specs.List.{filter}
use Rattle.std.specs.List.Sorted.{IsSortedBy, IsStableBy, ties}
use Rattle.std.specs.Ordering.{is_gt, is_lt, ordering_reverse}
use Rattle.std.specs.declared.cmp.Ordering.{Ordering}
use Rattle.std.specs.declared.cmp.Ordering.TheVariants as sign
use Rattle.std.proofs.lemmas.Cmp.{nat_cmp_total, on_total, then_total}
use Rattle.std.proofs.lemmas.List.Sorted.{ranks_by}
use Rattle.value_core.proofs.TotalOrder.{order_lawful}
use Rattle.michelson_rules.specs.Returned.{Change, change_order, in_order, insert_change}
use Rattle.michelson_machine.proofs.StableLaws.{Least, Rises, one_list, rises_from}

total : IsTotalOrder change_order
total = then_total (on_total (λ (c : Change). c.0) nat_cmp_total) (on_total (λ (c : Change). c.1) order_lawful.0)

-- a change stands below another
abbrev pub below : Change → Change → Bool
below a b = is_lt (change_order a b)

pub ranks : IsStrictWeakOrder below
ranks = ranks_by total (λ (c : Change). c)

turned : (o : Ordering) → is_gt (ordering_reverse o) ≡ is_lt o
turned sign.Less = refl
turned sign.Equal = refl
turned sign.Greater = refl

above_is : (a b : Change) → is_gt (change_order a b) ≡ below b a
above_is a b = ap is_gt (total.antisymm a b) ∙ turned (change_order b a)

-- one change more, by how it stands to the first
further : (a b : Change) (bs : List Change) → below b a ≡ true → insert_change a (b ∷ bs) ≡ b ∷ insert_change a bs
further a b bs is = ap (λ c. if c then b ∷ insert_change a bs else a ∷ b ∷ bs) (above_is a b ∙ is)

here : (a b : Change) (bs : List Change) → below b a ≡ false → insert_change a (b ∷ bs) ≡ a ∷ b ∷ bs
here a b bs is = ap (λ c. if c then b ∷ insert_change a bs else a ∷ b ∷ bs) (above_is a b ∙ is)

least_with : (y a : Change) (xs : List Change) → below a y ≡ false → Least below y xs → Least below y (insert_change a xs)
least_with y a [] is least = (is, tt)
least_with y a (b ∷ bs) is least = by_test (least_with y a bs is least.1) (below b a) refl
  where
    by_test : Least below y (insert_change a bs) → (c : Bool) → below b a ≡ c → Least below y (insert_change a (b ∷ bs))
    by_test rest true so = subst (Least below y) (sym (further a b bs so)) (least.0, rest)
    by_test rest false so = subst (Least below y) (sym (here a b bs so)) (is, least)

least_through : (a b : Change) (bs : List Change) → below b a ≡ false → Least below b bs → Least below a bs
least_through a b [] is least = tt
least_through a b (c ∷ cs) is least = (ranks.chain c b a least.0 is, least_through a b cs is least.1)

insert_rises : (a : Change) (xs : List Change) → Rises below xs → Rises below (insert_change a xs)
insert_rises a [] up = (tt, tt)
insert_rises a (b ∷ bs) up = by_test (insert_rises a bs up.1) (below b a) refl
  where
    by_test : Rises below (insert_change a bs) → (c : Bool) → below b a ≡ c → Rises below (insert_change a (b ∷ bs))
    by_test rest true so = subst (Rises below) (sym (further a b bs so)) (least_with b a bs (ranks.one_way b a so) up.0, rest)
    by_test rest false so = subst (Rises below) (sym (here a b bs so)) ((so, least_through a b bs so up.0), up)

-- two of one rank
apart : (z a b : Change) → below b a ≡ true → ties below z a ≡ true → ties below z b ≡ true → true ≡ false
apart z a b so ta tb = sym so ∙ ranks.chain b z a (second_test (below z b) (below b z) tb) (first_test (below z a) (below a z) ta)
  where
    first_test : (p q : Bool) → (not p && not q) ≡ true → p ≡ false
    first_test false q e = refl
    first_test true q e = absurd (search rules)

    second_test : (p q : Bool) → (not p && not q) ≡ true → q ≡ false
    second_test true q e = absurd (search rules)
    second_test false false e = refl
    second_test false true e = absurd (search rules)

exchanged : (p q : Bool) (a b : Change) (rest : List Change) → (p ≡ true → q ≡ true → true ≡ false) →
    cond q (b ∷ cond p (a ∷ rest) rest) (cond p (a ∷ rest) rest) ≡ cond p (a ∷ cond q (b ∷ rest) rest) (cond q (b ∷ rest) rest)
exchanged true true a b rest differ = absurd (let never : true ≡ false = differ refl refl in search rules)
exchanged true false a b rest differ = refl
exchanged false true a b rest differ = refl
exchanged false false a b rest differ = refl

insert_ranks : (z a : Change) (xs : List Change) → filter (ties below z) (insert_change a xs) ≡ filter (ties below z) (a ∷ xs)
insert_ranks z a [] = refl
insert_ranks z a (b ∷ bs) = by_test (insert_ranks z a bs) (below b a) refl
  where
    by_test : filter (ties below z) (insert_change a bs) ≡ filter (ties below z) (a ∷ bs) → (c : Bool) → below b a ≡ c →
        filter (ties below z) (insert_change a (b ∷ bs)) ≡ filter (ties below z) (a ∷ b ∷ bs)
    by_test rest true so = ap (filter (ties below z)) (further a b bs so) ∙ ap (λ l. cond (ties below z b) (b ∷ l) l) rest
        ∙ exchanged (ties below z a) (ties below z b) a b (filter (ties below z) bs) (apart z a b so)
    by_test rest false so = ap (filter (ties below z)) (here a b bs so)

rises : (xs : List Change) → Rises below (in_order xs)
rises [] = tt
rises (a ∷ more) = insert_rises a (in_order more) (rises more)

same_ranks : (z : Change) (xs : List Change) → filter (ties below z) (in_order xs) ≡ filter (ties below z) xs
same_ranks z [] = refl
same_ranks z (a ∷ more) = insert_ranks z a (in_order more) ∙ ap (λ l. cond (ties below z a) (a ∷ l) l) (same_ranks z more)

pub sorted_is : (old new : List Change) → IsSortedBy below new → IsStableBy below old new → new ≡ in_order old
sorted_is old new sorted stable = one_list below ranks new (in_order old) (rises_from below ranks new sorted) (rises old) (λ z. stable z ∙ sym (same_ranks z old))
