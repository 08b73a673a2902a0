-- One row more marks what is before its operation.
use Rattle.std.proofs.Common.{◌≡◌, ℕ, ◌+◌, ◌<◌, ◌++◌, ◌∷◌, [], List, Bool, length, get_or, arith, ap, sym, subst, ◌∙◌, length-append}
use Rattle.std.specs.Global.{Vec}
use Rattle.std.specs.List.{list_any}
use Rattle.join_schedule.specs.Joins.{joins_of, IsJoinList}
use Rattle.join_schedule.specs.Sets.{AreRows, AreStairs, marks, is_marked, is_through}
use Rattle.join_schedule.proofs.Rows.{stairs-push, rows-push}
use Rattle.join_schedule.proofs.before.rows_before.Goals as goal

-- one turn of the loop
pushed : (joins : List (List ℕ)) (list : List ℕ) (rows slice new : List (Vec Bool)) (row : Vec Bool) (n : ℕ) → length rows ≡ n → IsJoinList n (joins_of joins n) → list ≡ joins_of joins n → slice ≡ rows → AreStairs (marks rows) → AreRows joins n (marks rows) →
    length row.items ≡ n → ((i : ℕ) → is_marked row.items i ≡ list_any (is_through (marks slice) i) list) → new ≡ rows ++ row ∷ [] → (length new ≡ n + 1) × AreStairs (marks new) × AreRows joins (n + 1) (marks new)
pushed joins list rows slice new row n count good named same stairs so_far len marked is =
    let rows_is : IsJoinList (length rows) (joins_of joins (length rows)) = subst (λ (k : ℕ). IsJoinList k (joins_of joins k)) (sym count) good in
    let so_far' : AreRows joins (length rows) (marks rows) = subst (λ (k : ℕ). AreRows joins k (marks rows)) (sym count) so_far in
    let by_rows : (i : ℕ) → is_marked row.items i ≡ list_any (is_through (marks rows) i) (joins_of joins (length rows)) = λ i.
    marked i ∙ ap (λ (s : List (Vec Bool)). list_any (is_through (marks s) i) list) same ∙ ap (λ (l : List ℕ). list_any (is_through (marks rows) i) l) named ∙ ap (λ (k : ℕ). list_any (is_through (marks rows) i) (joins_of joins k)) (sym count) in
    subst (λ (all : List (Vec Bool)). (length all ≡ n + 1) × AreStairs (marks all) × AreRows joins (n + 1) (marks all)) (sym is)
    (omega (arith, length-append rows (row ∷ [])), stairs-push rows row stairs (len ∙ sym count), subst (λ (k : ℕ). AreRows joins (k + 1) (marks (rows ++ row ∷ []))) count (rows-push joins rows row rows_is so_far' by_rows))

pub row_before-requires-clause-earlier : goal.row_before-requires-clause-earlier
row_before-requires-clause-earlier c =
    let within : c.loop-number.number < length c.args.j.now = omega (arith, c.len-number-end.ensures) in
    subst (λ (list : List ℕ). (k : ℕ) → k < length list → get_or list k 0 < c.loop-number.number) (sym c.list.ensures) (c.requires c.loop-number.number within).earlier

pub loop-number-preserved : goal.loop-number-preserved
loop-number-preserved c =
    let within : c.loop-number.number < length c.args.j.now = omega (arith, c.len-number-end.ensures) in
    pushed c.args.j.now c.list.result.now c.loop-number.rows.items c.as_slice.result.now c.push.new.self.items c.in_ok-row.row c.loop-number.number c.loop-number.invariant.0 (c.requires c.loop-number.number within) c.list.ensures c.as_slice.ensures.value
    c.loop-number.invariant.1 c.loop-number.invariant.2 c.in_ok-row.ensures.length c.in_ok-row.ensures.marked c.in_ok-push.ensures.items
