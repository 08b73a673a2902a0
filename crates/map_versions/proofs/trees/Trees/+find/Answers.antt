-- By how the key stands to that of the node.
use Rattle.std.proofs.Common.{Some, sym, ap, ◌∙◌, arith}
use Rattle.value_core.specs.Order.{order}
use Rattle.map_versions.proofs.ForestLaws.{find_left, find_right, find_top, sorted_left, sorted_right}
use Rattle.map_versions.proofs.trees.Trees.+find.Goals as goal

pub find-requires : goal.find-requires
find-requires t c =
    let n = c.in_ok-node.ensures.node in
    let below = n.left_below in
    (omega arith, sorted_left c.args.self.now c.args.tree c.in_ok-node.node n c.requires.sorted)

pub find-requires-in-Greater : goal.find-requires-in-Greater
find-requires-in-Greater t c =
    let n = c.in_ok-node.ensures.node in
    let below = n.right_below in
    (omega arith, sorted_right c.args.self.now c.args.tree c.in_ok-node.node n c.requires.sorted)

pub returns-in-Less : goal.returns-in-Less
returns-in-Less t c =
    c.find.ensures
    ∙ sym (find_left c.args.self.now c.args.tree c.in_ok-node.node c.in_ok-node.ensures.node c.requires.sorted c.args.key.now
    (ap (λ e. order c.args.key.now e.0) (sym c.change-change.ensures) ∙ sym c.compare.ensures ∙ c.in-Less.is))

pub returns-in-Equal : goal.returns-in-Equal
returns-in-Equal t c =
    ap (λ e. Some e.1) c.change-change.ensures
    ∙ sym (find_top c.args.self.now c.args.tree c.in_ok-node.node c.in_ok-node.ensures.node c.requires.sorted c.args.key.now
    (ap (λ e. order c.args.key.now e.0) (sym c.change-change.ensures) ∙ sym c.compare.ensures ∙ c.in-Equal.is))

pub returns-in-Greater : goal.returns-in-Greater
returns-in-Greater t c =
    c.find-in-Greater.ensures
    ∙ sym (find_right c.args.self.now c.args.tree c.in_ok-node.node c.in_ok-node.ensures.node c.requires.sorted c.args.key.now
    (ap (λ e. order c.args.key.now e.0) (sym c.change-change.ensures) ∙ sym c.compare.ensures ∙ c.in-Greater.is))
