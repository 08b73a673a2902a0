-- Nothing changes where no big map stands.
use Rattle.std.proofs.Common.{sym}
use Rattle.michelson_machine.proofs.StorageLaws.{stays}
use Rattle.michelson_machine.proofs.returning.kept.Goals as goal

pub returns-then-has_no_big_map : goal.returns-then-has_no_big_map
returns-then-has_no_big_map c = sym (stays c.args.storage (sym c.if-has_no_big_map.ensures))
