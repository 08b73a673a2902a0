-- A run that goes on follows its operation still, so it promises what it asks and how it ended.
use Rattle.op_run.proofs.Kept.{kept_sound}
use Rattle.op_run.proofs.Promised.{advanced, promised}
use Rattle.op_run.proofs.run.OpRun.advance.Goals as goal

pub advance-requires : goal.advance-requires
advance-requires c = kept_sound c.args.self.now.state c.args.self.now.kept

pub invariant_of-self : goal.invariant_of-self
invariant_of-self c =
    let h = c.advance.ensures in
    record { kept = advanced c.advance.result c.args.self.now.state c.advance.new.self h.stays h.sound h.same h.safe h.spent h.lives c.args.self.now.kept }

pub returns-clause-promise : goal.returns-clause-promise
returns-clause-promise c =
    let h = c.advance.ensures in
    promised c.advance.new.self (advanced c.advance.result c.args.self.now.state c.advance.new.self h.stays h.sound h.same h.safe h.spent h.lives c.args.self.now.kept)
    c.advance.result h.asks
