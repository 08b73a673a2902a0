-- Modes that conflict or don't, tickets that are one or aren't, and holders that stay apart.
use Rattle.std.proofs.Common.{◌≡◌, ℕ, ◌<◌, Bool, true, false, cond, Option, Some, None, refl, sym, ◌∙◌, arith, eq-eqb}
use Rattle.std.specs.Prelude.{◌≢◌, ◌==◌, ◌||◌}
use Rattle.std.specs.declared.cmp.Ordering.{Ordering}
use Rattle.std.specs.declared.cmp.Ordering.TheVariants.{Less, Equal, Greater}
use Rattle.std.specs.Ordering.{nat_cmp, is_eq, eq_by_cmp}
use Rattle.std.proofs.lemmas.Cmp.{ranked}
use Rattle.std.proofs.lemmas.Bool.{eqb-true}
use Rattle.cell_names.specs.declared.mode.Mode.{Mode}
use Rattle.cell_names.specs.declared.mode.Mode.TheVariants.{Read, Credit, Own}
use Rattle.cell_names.specs.Modes.{conflicts, joined}
use Rattle.cell_names.specs.Footprints.{modes_conflict}
use Rattle.abstract_locks.specs.Holders.{Holders, AreApart, asked, IsFree}

-- ---- tickets

pub unequal : (a b : ℕ) → a ≢ b → (a == b) ≡ false
unequal a b ne = elim (a == b) as (λ t. (a == b) ≡ t → t ≡ false) [ true ↦ λ e. absurd (ne (eqb-true a b e)) | false ↦ λ e. refl ] refl

number_test : (r : Ordering) (a b : ℕ) → r ≡ nat_cmp a b → is_eq r ≡ (a == b)
number_test Less a b e = let lt : a < b = ranked a b Less e in sym (unequal a b (λ same. omega arith))
number_test Equal a b e = let same : a ≡ b = ranked a b Equal e in sym (eq-eqb a b same)
number_test Greater a b e = let gt : b < a = ranked a b Greater e in sym (unequal a b (λ same. omega arith))

pub same_ticket : (a b : ℕ) → eq_by_cmp nat_cmp a b ≡ (a == b)
same_ticket a b = number_test (nat_cmp a b) a b refl

-- ---- modes

pub conflicts-sym : (m n : Mode) → conflicts m n ≡ conflicts n m
conflicts-sym Read Read = refl
conflicts-sym Read Credit = refl
conflicts-sym Read Own = refl
conflicts-sym Credit Read = refl
conflicts-sym Credit Credit = refl
conflicts-sym Credit Own = refl
conflicts-sym Own Read = refl
conflicts-sym Own Credit = refl
conflicts-sym Own Own = refl

pub modes_conflict-sym : (x y : Option Mode) → modes_conflict x y ≡ modes_conflict y x
modes_conflict-sym None None = refl
modes_conflict-sym None (Some n) = refl
modes_conflict-sym (Some m) None = refl
modes_conflict-sym (Some m) (Some n) = conflicts-sym m n

pub none_conflicts : (x : Option Mode) → modes_conflict x None ≡ false
none_conflicts x = modes_conflict-sym x None

-- modes that don't conflict are one mode, which conflicts with the same
pub alike : (mode a : Mode) (o : Option Mode) → conflicts mode a ≡ false → modes_conflict (Some mode) o ≡ false → modes_conflict o (Some a) ≡ false
alike mode a None p q = refl
alike Read Read (Some Read) p q = refl
alike Credit Credit (Some Credit) p q = refl
alike Read Read (Some Credit) p q = absurd cc
alike Read Read (Some Own) p q = absurd cc
alike Credit Credit (Some Read) p q = absurd cc
alike Credit Credit (Some Own) p q = absurd cc
alike Read Credit (Some n) p q = absurd cc
alike Read Own (Some n) p q = absurd cc
alike Credit Read (Some n) p q = absurd cc
alike Credit Own (Some n) p q = absurd cc
alike Own a (Some n) p q = absurd cc

pub join_conflicts : (m a b : Mode) → conflicts m (joined a b) ≡ (conflicts m a || conflicts m b)
join_conflicts Read Read Read = refl
join_conflicts Read Read Credit = refl
join_conflicts Read Read Own = refl
join_conflicts Read Credit Read = refl
join_conflicts Read Credit Credit = refl
join_conflicts Read Credit Own = refl
join_conflicts Read Own Read = refl
join_conflicts Read Own Credit = refl
join_conflicts Read Own Own = refl
join_conflicts Credit Read Read = refl
join_conflicts Credit Read Credit = refl
join_conflicts Credit Read Own = refl
join_conflicts Credit Credit Read = refl
join_conflicts Credit Credit Credit = refl
join_conflicts Credit Credit Own = refl
join_conflicts Credit Own Read = refl
join_conflicts Credit Own Credit = refl
join_conflicts Credit Own Own = refl
join_conflicts Own Read Read = refl
join_conflicts Own Read Credit = refl
join_conflicts Own Read Own = refl
join_conflicts Own Credit Read = refl
join_conflicts Own Credit Credit = refl
join_conflicts Own Credit Own = refl
join_conflicts Own Own Read = refl
join_conflicts Own Own Credit = refl
join_conflicts Own Own Own = refl

-- ---- holders

pub free_of : (holders : Holders) (ticket : ℕ) (m : Mode) → IsFree holders ticket m → (n : ℕ) → n ≢ ticket → modes_conflict (holders n) (Some (asked holders ticket m)) ≡ false
free_of holders ticket m free n ne =
    elim (modes_conflict (holders n) (Some (asked holders ticket m))) as (λ b. modes_conflict (holders n) (Some (asked holders ticket m)) ≡ b → b ≡ false) [
      | true ↦ λ e. absurd (free n (record { apart = ne; conflict = e }))
      | false ↦ λ e. refl
    ] refl

apart_pair : (bi bj : Bool) (holders : Holders) (i j ticket : ℕ) (a : Mode) → (i == ticket) ≡ bi → (j == ticket) ≡ bj → i ≢ j → AreApart holders →
    ((n : ℕ) → n ≢ ticket → modes_conflict (holders n) (Some a) ≡ false) → modes_conflict (cond bi (Some a) (holders i)) (cond bj (Some a) (holders j)) ≡ false
apart_pair true true holders i j ticket a p q ne apart free = absurd (ne (eqb-true i ticket p ∙ sym (eqb-true j ticket q)))
apart_pair true false holders i j ticket a p q ne apart free =
    modes_conflict-sym (Some a) (holders j) ∙ free j (λ e. ne (eqb-true i ticket p ∙ sym e))
apart_pair false true holders i j ticket a p q ne apart free = free i (λ e. ne (e ∙ sym (eqb-true j ticket q)))
apart_pair false false holders i j ticket a p q ne apart free = apart i j ne

-- one ticket holds in a mode that conflicts with no other's
pub apart_with : (holders after : Holders) (ticket : ℕ) (a : Mode) → AreApart holders → ((n : ℕ) → n ≢ ticket → modes_conflict (holders n) (Some a) ≡ false) →
    ((n : ℕ) → after n ≡ cond (n == ticket) (Some a) (holders n)) → AreApart after
apart_with holders after ticket a apart free is i j ne =
    (λ k. modes_conflict (is i k) (is j k)) ∙ apart_pair (i == ticket) (j == ticket) holders i j ticket a refl refl ne apart free

left_pair : (bi bj : Bool) (x y : Option Mode) → modes_conflict x y ≡ false → modes_conflict (cond bi None x) (cond bj None y) ≡ false
left_pair true bj x y e = refl
left_pair false true x y e = none_conflicts x
left_pair false false x y e = e

-- one ticket holds nothing any more
pub apart_without : (holders after : Holders) (ticket : ℕ) → AreApart holders → ((n : ℕ) → after n ≡ cond (n == ticket) None (holders n)) → AreApart after
apart_without holders after ticket apart is i j ne = (λ k. modes_conflict (is i k) (is j k)) ∙ left_pair (i == ticket) (j == ticket) (holders i) (holders j) (apart i j ne)

-- holders that are as before
pub apart_still : (holders after : Holders) → AreApart holders → ((n : ℕ) → after n ≡ holders n) → AreApart after
apart_still holders after apart is i j ne = (λ k. modes_conflict (is i k) (is j k)) ∙ apart i j ne
