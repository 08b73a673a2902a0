-- The bytes that are added are those of the number itself.
use Rattle.value_codec.proofs.Numbers.{added_number}
use Rattle.value_codec.proofs.writer.put_num.Goals as goal

pub returns-clause-added : goal.returns-clause-added
returns-clause-added c =
    added_number c.put_i128.result c.args.draft.now.added c.put_u8.new.self.added c.put_i128.new.self.added c.args.tag c.get-number.result c.args.n
    c.in_ok-put_u8.ensures.added c.get-number.ensures.value c.get-number.ensures.number c.put_i128.ensures.added
