-- By the nodes that a text is one of.
use Rattle.chain_text.proofs.ContentLemmas.{scripts_are_spelt, storages_are_said}
use Rattle.chain_text.proofs.laws.texts_spell_scripts_and_storages.Goals as goal

pub returns-clause-scripts : goal.returns-clause-scripts
returns-clause-scripts c = scripts_are_spelt

pub returns-clause-storages : goal.returns-clause-storages
returns-clause-storages c = storages_are_said
