use Rattle.std.proofs.Common.{sym}
use Rattle.chain_text.proofs.NumberLemmas.{no_text_is_none}
use Rattle.chain_text.proofs.numbers.decimal_of.Goals as goal

pub returns-in-Err : goal.returns-in-Err
returns-in-Err c = sym (no_text_is_none c.args.word.now c.in-Err.ensures.cases.0)
