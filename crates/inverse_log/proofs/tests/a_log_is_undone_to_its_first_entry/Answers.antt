-- One entry, of no amount.
use Rattle.std.proofs.Common.{◌∙◌}
use Rattle.inverse_log.proofs.NoCells.{one_entry}
use Rattle.inverse_log.proofs.tests.a_log_is_undone_to_its_first_entry.Goals as goal

pub undo_all-requires : goal.undo_all-requires
undo_all-requires g c =
    one_entry c.note.new.self.entries c.reserve.new.self.entries c.in_ok-uncredit.field-0 c.in_ok-uncredit.ensures.0 c.note.ensures.noted (c.reserve.ensures.entries ∙ c.new-log.ensures) c.in_ok-uncredit.ensures.1
