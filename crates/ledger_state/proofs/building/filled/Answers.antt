-- The reason that is told of one row is told of all.
use Rattle.std.proofs.Common.{◌≡◌, ◌⊎◌, Err, subst, sym}
use Rattle.std.specs.FinMap.{empty}
use Rattle.std.specs.Vec.Iter.{into_iter_items}
use Rattle.ledger_state.specs.declared.fault.BuildFault.{BuildFault}
use Rattle.ledger_state.specs.declared.fault.BuildFault.TheVariants.{NoMemory}
use Rattle.ledger_state.specs.Building.{added}
use Rattle.ledger_state.proofs.RowsAdded.{one_refused}
use Rattle.ledger_state.proofs.building.filled.Goals as goal

pub returns-in-Err-clause-told : goal.returns-in-Err-clause-told
returns-in-Err-clause-told c =
    subst (λ (fault : BuildFault). (fault ≡ NoMemory) ⊎ (added c.args.book.now 0 empty c.args.rows.items ≡ Err fault)) (sym c.told_at.ensures)
    (one_refused c.loop-cell.cells c.args.book.now c.loop-cell.at c.in-Some.cell c.in-Some.value c.in-Err.end (into_iter_items c.loop-cell.cell-iterator) (into_iter_items c.next.new.self)
    (added c.args.book.now 0 empty c.args.rows.items) c.loop-cell.invariant.flight c.loop-cell.invariant.made_for c.in-Some.ensures.steps.0 c.in-Err.ensures.told c.loop-cell.invariant.so_far)
