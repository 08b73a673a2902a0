-- The operations so far are marked, with what their rows mark.
use Rattle.std.proofs.Common.{◌≡◌, ℕ, take}
use Rattle.std.specs.Prelude.{◌||◌}
use Rattle.std.specs.List.{list_any}
use Rattle.join_schedule.specs.Sets.{is_marked, is_through, marks}
use Rattle.join_schedule.proofs.before.mark_before.Given as goal

abbrev pub invariant-loop-earlier : goal.invariant-loop-earlier
invariant-loop-earlier l = (i : ℕ) → is_marked l.row i ≡ (is_marked l.fn.row i || list_any (is_through (marks l.rows) i) (take l.earlier-index l.list))
