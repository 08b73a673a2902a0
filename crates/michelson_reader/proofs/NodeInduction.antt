-- Induction on the parts of a node.
pub use Rattle.data_nodes.proofs.NodeInduction.{Each, induction, out-roll, parts_of, roll-out}
