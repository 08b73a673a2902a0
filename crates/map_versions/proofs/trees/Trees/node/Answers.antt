-- The node of a tree says what its tree has.
use Rattle.std.proofs.Common.{◌-◌, sym, arith}
use Rattle.map_versions.proofs.NodeLaws.{node_seen, none_seen}
use Rattle.map_versions.proofs.trees.Trees.node.Goals as goal

pub returns-in-Some-clause-node : goal.returns-in-Some-clause-node
returns-in-Some-clause-node c =
    node_seen c.self.inside.changes c.self.inside.nodes c.args.self.now c.self.view_is c.self.invariant c.args.tree (c.args.tree - 1) c.in-Some.node.now (omega arith) (sym c.in-Some.ensures.value)

pub returns-in-None-clause-empty : goal.returns-in-None-clause-empty
returns-in-None-clause-empty c none =
    none_seen c.self.inside.changes c.self.inside.nodes c.args.self.now c.self.view_is c.args.tree (c.args.tree - 1) (omega arith) (sym c.in-None.ensures.value)
