-- The row of the cell alone is another.
use Rattle.std.proofs.Common.{◌≡◌, Some, cond, sym, ap, ◌∙◌}
use Rattle.std.specs.Prelude.{◌==◌, is_some}
use Rattle.abstract_locks.specs.Holders.{asked}
use Rattle.abstract_locks.specs.Tables.{Row, row_of, row_at, place_in, holders_in, held}
use Rattle.abstract_locks.proofs.TableLemmas.{one_row}
use Rattle.abstract_locks.proofs.places.hold.Goals as goal

pub returns-in-Some : goal.returns-in-Some
returns-in-Some c =
    let was : row_at c.args.rows.now.entries c.args.c.now ≡ c.in-Some.row.now = sym (ap row_of c.in-Some.ensures.value) in
    one_row c.args.rows.now.entries (c.get_mut.follows.lender c.hold.new.self).entries c.args.c.now c.in-Some.row.now (Some c.hold.new.self) c.args.ticket
    (Some (Some (asked (held c.args.rows.now.entries c.args.c.now) c.args.ticket c.args.m))) was
    (((c.get_mut.follows.holds c.hold.new.self).3 (sym (ap is_some c.in-Some.ensures.value))).0)
    (λ n. c.hold.ensures n ∙ ap (λ (row : Row). cond (n == c.args.ticket) (Some (Some (asked (holders_in row) c.args.ticket c.args.m))) (place_in c.in-Some.row.now n)) (sym was))
