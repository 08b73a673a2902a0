-- With greed and without there are the same texts.
use Rattle.ligo_syntax.proofs.GreedTexts.{text_is_kept}
use Rattle.ligo_syntax.proofs.GreedTrees.{tree_is_kept}
use Rattle.ligo_syntax.proofs.laws.greed_loses_no_text.Goals as goal

pub returns-clause-kept : goal.returns-clause-kept
returns-clause-kept c = tree_is_kept

pub returns-clause-none_lost : goal.returns-clause-none_lost
returns-clause-none_lost c = text_is_kept
