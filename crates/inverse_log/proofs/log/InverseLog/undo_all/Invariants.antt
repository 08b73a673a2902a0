use Rattle.std.proofs.Common.{◌≡◌, ◌+◌, length}
use Rattle.inverse_log.specs.Undoing.{IsOnTheWay}
use Rattle.inverse_log.proofs.log.InverseLog.undo_all.Given as goal

abbrev pub invariant-loop : goal.invariant-loop
invariant-loop g l = (length l.self.entries + l.counter ≡ l.end) × IsOnTheWay l.initial.self.entries l.self.entries (g.S.Store.seen l.initial.s) (g.S.Store.seen l.s)
