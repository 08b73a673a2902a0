-- The changed set or map in the place of the three operands.
use Rattle.std.proofs.Common.{reverse}
use Rattle.michelson_data.proofs.OldLaws.{entry_put}
use Rattle.michelson_data.proofs.changes.updated.Goals as goal

pub returns-in-Ok-clause-applies : goal.returns-in-Ok-clause-applies
returns-in-Ok-clause-applies c = entry_put c.take-key.result c.take-choice.result c.take-of.result c.in-Ok.made c.take-of.new.stack.items c.take-choice.new.stack.items c.take-key.new.stack.items
    c.args.stack.now.items (reverse c.put_sized.new.stack.items) c.put_sized.result c.take-key.ensures.items c.take-choice.ensures.items c.take-of.ensures.items c.in-Ok.ensures.changed c.put_sized.ensures.applies
