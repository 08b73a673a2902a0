-- Each place is at a cell that is listed under its ticket, whatever is done; so a release finds all of them.
use Rattle.std.proofs.Common.{◌≡◌, ℕ, Bool, true, false, cond, List, [], ◌∷◌, ◌++◌, Option, Some, None, refl, sym, ap, subst, ◌∙◌, inl, inr, eq-eqb}
use Rattle.std.specs.Prelude.{◌≢◌, ◌==◌, ◌&&◌, ◌||◌, IsSome}
use Rattle.std.specs.Map.{lookup}
use Rattle.std.specs.Ordering.{nat_cmp, eq_by_cmp}
use Rattle.std.specs.Global.{Vec}
use Rattle.std.proofs.lemmas.Bool.{eqb-true, cases_eq}
use Rattle.std.proofs.lemmas.List.Folds.{list_any-append}
use Rattle.value_core.proofs.Bools.{first_true, second_true}
use Rattle.cell_names.specs.declared.cell.Cell.{Cell}
use Rattle.cell_names.specs.declared.mode.Mode.{Mode}
use Rattle.abstract_locks.specs.Tables.{Row, Table, is_one, row_at, place_in, HasRoom}
use Rattle.abstract_locks.specs.Lists.{cells_of, is_among, is_listed, AreListed}
use Rattle.abstract_locks.proofs.ModeLemmas.{same_ticket, unequal}
use Rattle.abstract_locks.proofs.RowLemmas.{no_room}
use Rattle.abstract_locks.proofs.TableLemmas.{one_from, is_one-self, HasPlace}

abbrev pub Lists : Type 0
Lists = List (ℕ × Vec Cell)

-- ---- a list that grows

-- the cells of one ticket are others
abbrev pub HasList : Lists → Lists → ℕ → Vec Cell → Type 0
HasList old new t cells = (n : ℕ) → lookup (eq_by_cmp nat_cmp n) new ≡ cond (eq_by_cmp nat_cmp t n) (Some cells) (lookup (eq_by_cmp nat_cmp n) old)

-- what is listed stays listed
abbrev pub KeepsListed : Lists → Lists → Type 0
KeepsListed old new = (n : ℕ) (d : Cell) → is_listed old n d ≡ true → is_listed new n d ≡ true

or_true : (a b : Bool) → a ≡ true → (a || b) ≡ true
or_true true b e = refl
or_true false b e = absurd cc

true_or : (a b : Bool) → b ≡ true → (a || b) ≡ true
true_or true b e = refl
true_or false b e = e

among_more : (d : Cell) (cells more : List Cell) → is_among d cells ≡ true → is_among d (cells ++ more) ≡ true
among_more d cells more e = list_any-append (λ x. is_one x d) cells more ∙ or_true _ _ e

pub among_last : (c : Cell) (cells : List Cell) → is_among c (cells ++ c ∷ []) ≡ true
among_last c cells = list_any-append (λ x. is_one x c) cells (c ∷ []) ∙ true_or _ _ (or_true (is_one c c) false (is_one-self c))

list_kept : (b : Bool) (d : Cell) (cells : Vec Cell) (o : Option (Vec Cell)) (more : List Cell) → (b ≡ true → cells.items ≡ cells_of o ++ more) → is_among d (cells_of o) ≡ true → is_among d (cells_of (cond b (Some cells) o)) ≡ true
list_kept true d cells o more is e = ap (is_among d) (is refl) ∙ among_more d (cells_of o) more e
list_kept false d cells o more is e = e

pub grown : (old new : Lists) (t : ℕ) (cells : Vec Cell) (more : List Cell) → cells.items ≡ cells_of (lookup (eq_by_cmp nat_cmp t) old) ++ more → HasList old new t cells → KeepsListed old new
grown old new t cells more is has n d e =
    ap (λ o. is_among d (cells_of o)) (has n)
    ∙ list_kept (eq_by_cmp nat_cmp t n) d cells (lookup (eq_by_cmp nat_cmp n) old) more
    (λ one. is ∙ ap (λ k. cells_of (lookup (eq_by_cmp nat_cmp k) old) ++ more) (eqb-true t n (sym (same_ticket t n) ∙ one))) e

pub last_listed : (old new : Lists) (t : ℕ) (cells : Vec Cell) (c : Cell) (was : List Cell) → cells.items ≡ was ++ c ∷ [] → HasList old new t cells → is_listed new t c ≡ true
last_listed old new t cells c was is has =
    ap (λ o. is_among c (cells_of o)) (has t ∙ ap (λ b. cond b (Some cells) (lookup (eq_by_cmp nat_cmp t) old)) (same_ticket t t ∙ eq-eqb t t refl))
    ∙ ap (is_among c) is ∙ among_last c was

-- ---- places are listed

pub kept_listed : (table : Table) (old new : Lists) → AreListed table old → KeepsListed old new → AreListed table new
kept_listed table old new are keeps c n room = keeps n c (are c n room)

pub same_listed : (old new : Table) (lists : Lists) → AreListed old lists → ((d : Cell) → row_at new d ≡ row_at old d) → AreListed new lists
same_listed old new lists are same c n room = are c n (subst (λ (row : Row). IsSome (place_in row n)) (same c) room)

placed_listed_at : (b : Bool) (old new : Table) (lists : Lists) (c d : Cell) (t n : ℕ) (v : Option (Option Mode)) → (is_one c d && (n == t)) ≡ b → AreListed old lists → is_listed lists t c ≡ true →
    IsSome (cond b v (place_in (row_at old d) n)) → is_listed lists n d ≡ true
placed_listed_at true old new lists c d t n v e are listed room =
    (λ i. is_listed lists (eqb-true n t (second_true _ _ e) i) (sym (one_from c d (first_true _ _ e)) i)) ∙ listed
placed_listed_at false old new lists c d t n v e are listed room = are d n room

pub placed_listed : (old new : Table) (lists : Lists) (c : Cell) (t : ℕ) (v : Option (Option Mode)) → AreListed old lists → is_listed lists t c ≡ true → HasPlace old new c t v → AreListed new lists
placed_listed old new lists c t v are listed has d n room =
    placed_listed_at (is_one c d && (n == t)) old new lists c d t n v refl are listed (subst (λ (o : Option (Option Mode)). IsSome o) (has d n) room)

-- ---- a release

-- the places of one ticket at these cells are gone
abbrev pub HasLeft : Table → Table → ℕ → List Cell → Type 0
HasLeft old new t cells = (d : Cell) (n : ℕ) → place_in (row_at new d) n ≡ cond (is_among d cells && (n == t)) None (place_in (row_at old d) n)

none_left : (b : Bool) (o : Option (Option Mode)) → (IsSome o → b ≡ true) → cond b None o ≡ None
none_left true o is = refl
none_left false None is = refl
none_left false (Some x) is = absurd (let never : false ≡ true = is refl in cc)

with_own : (b : Bool) (t : ℕ) → (b && (t == t)) ≡ b
with_own true t = eq-eqb t t refl
with_own false t = refl

other_ticket : (b : Bool) (n t : ℕ) (o : Option (Option Mode)) → n ≢ t → cond (b && (n == t)) None o ≡ o
other_ticket true n t o ne = ap (λ k. cond k None o) (unequal n t ne)
other_ticket false n t o ne = refl

pub own_gone : (old new : Table) (lists : Lists) (t : ℕ) (cells : List Cell) → AreListed old lists → cells ≡ cells_of (lookup (eq_by_cmp nat_cmp t) lists) → HasLeft old new t cells →
    (c : Cell) → place_in (row_at new c) t ≡ None
own_gone old new lists t cells are is left c =
    left c t ∙ ap (λ b. cond b None (place_in (row_at old c) t)) (with_own (is_among c cells) t)
    ∙ none_left (is_among c cells) (place_in (row_at old c) t) (λ room. ap (is_among c) is ∙ are c t room)

pub others_stay : (old new : Table) (t : ℕ) (cells : List Cell) → HasLeft old new t cells → (c : Cell) (n : ℕ) → n ≢ t → place_in (row_at new c) n ≡ place_in (row_at old c) n
others_stay old new t cells left c n ne = left c n ∙ other_ticket (is_among c cells) n t (place_in (row_at old c) n) ne

pub left_listed : (old new : Table) (lists after : Lists) (t : ℕ) (cells : List Cell) → AreListed old lists → cells ≡ cells_of (lookup (eq_by_cmp nat_cmp t) lists) → HasLeft old new t cells →
    ((n : ℕ) → lookup (eq_by_cmp nat_cmp n) after ≡ cond (eq_by_cmp nat_cmp t n) None (lookup (eq_by_cmp nat_cmp n) lists)) → AreListed new after
left_listed old new lists after t cells are is left gone c n room = elim (cases_eq n t) [
  | inl same ↦
      let none : place_in (row_at new c) n ≡ None = ap (place_in (row_at new c)) same ∙ own_gone old new lists t cells are is left c in
      absurd (no_room (place_in (row_at new c) n) none room)
  | inr ne ↦
      let was : HasRoom old c n = subst (λ (o : Option (Option Mode)). IsSome o) (others_stay old new t cells left c n ne) room in
      ap (λ o. is_among c (cells_of o)) (gone n ∙ ap (λ b. cond b None (lookup (eq_by_cmp nat_cmp n) lists)) (same_ticket t n ∙ unequal t n (λ e. ne (sym e)))) ∙ are c n was
]

-- where nothing is listed under it, a ticket has no place
pub unlisted_gone : (table : Table) (lists : Lists) (t : ℕ) → AreListed table lists → lookup (eq_by_cmp nat_cmp t) lists ≡ None → (c : Cell) → place_in (row_at table c) t ≡ None
unlisted_gone table lists t are none c = none_of (place_in (row_at table c) t) (λ room. sym (ap (λ o. is_among c (cells_of o)) none) ∙ are c t room)
  where
    none_of : (o : Option (Option Mode)) → (IsSome o → false ≡ true) → o ≡ None
    none_of None is = refl
    none_of (Some x) is = absurd (let never : false ≡ true = is refl in cc)

-- ---- one cell after another

pub one_more_left : (old mid new : Table) (t : ℕ) (cells more : List Cell) (c : Cell) → more ≡ cells ++ c ∷ [] → HasLeft old mid t cells → HasPlace mid new c t None → HasLeft old new t more
one_more_left old mid new t cells more c longer left has d n =
    has d n ∙ ap (λ (o : Option (Option Mode)). cond (is_one c d && (n == t)) None o) (left d n)
    ∙ both_gone (is_one c d) (is_among d cells) (n == t) (place_in (row_at old d) n)
    ∙ ap (λ b. cond (b && (n == t)) None (place_in (row_at old d) n)) (sym (ap (is_among d) longer ∙ list_any-append (λ x. is_one x d) cells (c ∷ []) ∙ ap (λ b. is_among d cells || b) (alone (is_one c d))))
  where
    alone : (b : Bool) → (b || false) ≡ b
    alone true = refl
    alone false = refl

    both_gone : (a b s : Bool) (o : Option (Option Mode)) → cond (a && s) None (cond (b && s) None o) ≡ cond ((b || a) && s) None o
    both_gone true true true o = refl
    both_gone true true false o = refl
    both_gone true false true o = refl
    both_gone true false false o = refl
    both_gone false true true o = refl
    both_gone false true false o = refl
    both_gone false false s o = refl
