use Rattle.std.proofs.Common.{◌≡◌, None}
use Rattle.op_run.specs.Promise.{awaited_by, work_of}
use Rattle.op_run.specs.SerialTurns.{Goes}
use Rattle.op_run.proofs.serial.finish.Given as goal

abbrev pub invariant-turns : goal.invariant-turns
invariant-turns g l = record {
  free : awaited_by l.run ≡ None;
  goes : Goes l.fn.run l.fn.log.entries (g.S.Store.seen l.fn.store) l.run l.log.entries (g.S.Store.seen l.store);
}

abbrev pub decreases-turns : goal.decreases-turns
decreases-turns g l = work_of l.run
