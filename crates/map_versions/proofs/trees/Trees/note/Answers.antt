-- One change more leaves the nodes and their trees.
use Rattle.map_versions.proofs.NodeLaws.{noted_stand, noted_trees}
use Rattle.map_versions.proofs.trees.Trees.note.Goals as goal

pub invariant_of-self-2 : goal.invariant_of-self-2
invariant_of-self-2 c = noted_stand c.self.inside.changes c.push.new.self (c.args.key, c.args.choice) c.self.inside.nodes c.in_ok-push.ensures.ok c.self.invariant

pub returns-clause-trees : goal.returns-clause-trees
returns-clause-trees c =
    noted_trees c.self.inside.changes c.push.new.self (c.args.key, c.args.choice) c.self.inside.nodes c.in_ok-push.ensures.ok c.self.invariant c.args.self.now c.self.view_is
