-- What a state keeps, seen from outside.
use Rattle.std.proofs.Common.{subst}
use Rattle.ledger_state.specs.Ledger.{IsLedger}
use Rattle.ledger_state.proofs.States.{cells_of, owned_as}
use Rattle.ledger_state.proofs.state.State.cells.Goals as goal

pub returns-clause-cells : goal.returns-clause-cells
returns-clause-cells c = cells_of c.self.inside.head.level c.self.inside.head.now c.self.inside.book c.self.inside.cells c.args.self.now c.self.view_is c.self.invariant

pub returns-clause-lawful : goal.returns-clause-lawful
returns-clause-lawful c = subst IsLedger c.self.view_is c.self.invariant.lawful

pub returns-clause-owned : goal.returns-clause-owned
returns-clause-owned c = owned_as c.self.inside.head.level c.self.inside.head.now c.self.inside.book c.self.inside.cells c.args.self.now c.self.view_is c.self.invariant
