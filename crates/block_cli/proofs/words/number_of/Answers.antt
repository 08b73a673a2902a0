use Rattle.std.proofs.Common.{◌≡◌, true, false, sym, ◌∙◌}
use Rattle.block_cli.specs.Inside.{begins_otherwise}
use Rattle.block_cli.proofs.NumberLemmas.{otherwise_is_none, parsed}
use Rattle.block_cli.proofs.words.number_of.Goals as goal

pub returns-then-begins_otherwise : goal.returns-then-begins_otherwise
returns-then-begins_otherwise c = let on : begins_otherwise c.args.word.now ≡ true = cc in sym (otherwise_is_none c.args.word.now on)

pub returns : goal.returns
returns c = let off : begins_otherwise c.args.word.now ≡ false = cc in c.ok.ensures.value ∙ parsed c.args.word.now c.parse.result c.parse.ensures.value.0 off
