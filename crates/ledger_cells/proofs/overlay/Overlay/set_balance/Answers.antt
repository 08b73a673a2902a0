-- The balance has a slot, or is held.
use Rattle.std.proofs.Common.{◌<◌, ◌^◌, sym, subst, ◌∙◌}
use Rattle.cell_names.specs.Contents.{Contents}
use Rattle.cell_names.specs.Supply.{supply}
use Rattle.ledger_cells.proofs.Counting.{put_kept}
use Rattle.ledger_cells.proofs.overlay.Overlay.set_balance.Goals as goal

pub put_back-requires-clause-within : goal.put_back-requires-clause-within
put_back-requires-clause-within c =
    subst (λ (m : Contents). supply m < 2 ^ 64) (sym (put_kept c.args.self.now.cells c.args.address c.args.amount c.kept.result c.kept.ensures)) c.requires.within

pub returns-then-has_slot-clause-set : goal.returns-then-has_slot-clause-set
returns-then-has_slot-clause-set c = c.put_back.ensures.put ∙ put_kept c.args.self.now.cells c.args.address c.args.amount c.kept.result c.kept.ensures
