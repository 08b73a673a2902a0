-- A change keeps the order of keys, and nothing else adds a version.
use Rattle.michelson_rules.specs.Rules.{charges}
use Rattle.michelson_rules.proofs.Fair.{charges_are_fair, versions_ascend}
use Rattle.michelson_rules.proofs.laws.changes_go_on_ascending.Goals as goal

pub returns : goal.returns
returns c = record {
  runs = versions_ascend;
  scripts = λ s env w left param storage. versions_ascend charges charges_are_fair s env w s.code _ _ tt;
}
