-- The nodes of pairs and of entries.
use Rattle.std.specs.Prelude.{[], ◌∷◌, codes}
use Rattle.value_core.specs.declared.val.Val.{Val}
use Rattle.micheline_text.specs.declared.node.Node.{Node}
use Rattle.data_nodes.specs.Nodes.{applied}
use Rattle.data_nodes.specs.Printed.{node_of}

-- the node of a pair of two parts
abbrev pub paired : Node → Node → Node
paired a b = applied (codes "Pair") (a ∷ b ∷ [])

-- the node of an entry
abbrev pub entry_of : Val × Val → Node
entry_of e = applied (codes "Elt") (node_of e.0 ∷ node_of e.1 ∷ [])
