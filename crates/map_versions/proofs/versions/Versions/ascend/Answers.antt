-- The changes of a version are those of its root.
use Rattle.std.proofs.Common.{sym, ap, ◌∙◌}
use Rattle.value_core.specs.Sorted.{keys_of}
use Rattle.value_core.specs.Sound.{ascends}
use Rattle.michelson_rules.specs.Runs.{changes_of}
use Rattle.map_versions.proofs.RootLaws.{changes-versions, root_ascends}
use Rattle.map_versions.proofs.versions.Versions.ascend.Goals as goal

pub returns : goal.returns
returns c version =
    ap (λ vs. ascends (keys_of (changes_of version vs))) (sym c.self.view_is)
    ∙ ap (λ cs. ascends (keys_of cs)) (changes-versions version c.self.inside.trees.trees c.self.inside.roots)
    ∙ root_ascends version c.self.inside.trees.trees c.self.inside.roots c.self.invariant
