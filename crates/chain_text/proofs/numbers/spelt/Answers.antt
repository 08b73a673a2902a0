use Rattle.std.proofs.Common.{◌≡◌, true, false, sym, ◌∙◌}
use Rattle.chain_text.specs.Inside.{begins_otherwise}
use Rattle.chain_text.proofs.NumberLemmas.{otherwise_is_none, parsed}
use Rattle.chain_text.proofs.numbers.spelt.Goals as goal

pub returns-then-begins_otherwise : goal.returns-then-begins_otherwise
returns-then-begins_otherwise c = let on : begins_otherwise c.args.text.now ≡ true = cc in sym (otherwise_is_none c.args.text.now on)

pub returns : goal.returns
returns c = let off : begins_otherwise c.args.text.now ≡ false = cc in c.ok.ensures.value ∙ parsed c.args.text.now c.parse.result c.parse.ensures.value.0 off
