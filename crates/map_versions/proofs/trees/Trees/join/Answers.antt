-- A node more, behind its sides.
use Rattle.map_versions.proofs.NodeLaws.{joined_grows, joined_stand, joined_tree}
use Rattle.map_versions.proofs.trees.Trees.join.Goals as goal

pub invariant_of-self-2 : goal.invariant_of-self-2
invariant_of-self-2 c =
    joined_stand c.self.inside.changes c.self.inside.nodes c.push.new.self _ c.args.self.now c.self.view_is c.in_ok-push.ensures.ok c.self.invariant c.requires

pub returns-clause-grows : goal.returns-clause-grows
returns-clause-grows c = joined_grows c.self.inside.changes c.self.inside.nodes c.push.new.self _ c.args.self.now c.self.view_is c.in_ok-push.ensures.ok

pub returns-clause-tree : goal.returns-clause-tree
returns-clause-tree c =
    joined_tree c.self.inside.changes c.self.inside.nodes c.push.new.self _ c.args.self.now c.self.view_is c.in_ok-push.ensures.ok c.len.result c.len.ensures
