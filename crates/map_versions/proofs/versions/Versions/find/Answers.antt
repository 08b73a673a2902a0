-- The changes of a root ascend.
use Rattle.std.proofs.Common.{ap, ◌∙◌}
use Rattle.std.specs.FinMap.{is_sorted}
use Rattle.value_core.specs.Order.{order}
use Rattle.michelson_rules.specs.Runs.{changes_of}
use Rattle.map_versions.proofs.RootLaws.{root_sorted}
use Rattle.map_versions.proofs.versions.Versions.find.Goals as goal

pub find-requires : goal.find-requires
find-requires c = record {
  sorted =
      ap (λ root. is_sorted order (changes_of root c.self.inside.trees.trees)) c.root.ensures
      ∙ root_sorted c.args.version c.self.inside.trees.trees c.self.inside.roots c.self.invariant;
}
