-- By how the key stands to that of the node.
use Rattle.std.proofs.Common.{arith}
use Rattle.map_versions.proofs.ForestLaws.{as_read, changed_left, changed_right, changed_top, made_same, sorted_left, sorted_right}
use Rattle.map_versions.proofs.trees.Trees.+put.Goals as goal

pub put-requires : goal.put-requires
put-requires t c =
    let n = c.in-Some.ensures.node in
    let within = n.within in let below = n.left_below in
    (omega arith, (omega arith, (c.requires.change, sorted_left c.args.self.now c.args.tree c.in-Some.node n c.requires.sorted)))

pub put-requires-in-Greater : goal.put-requires-in-Greater
put-requires-in-Greater t c =
    let n = c.in-Some.ensures.node in
    let within = n.within in let below = n.right_below in
    (omega arith, (omega arith, (c.requires.change, sorted_right c.args.self.now c.args.tree c.in-Some.node n c.requires.sorted)))

pub returns-in_ok-left-in-Less-clause-tree : goal.returns-in_ok-left-in-Less-clause-tree
returns-in_ok-left-in-Less-clause-tree t c =
    made_same c.balance.result c.balance.new.self _ _
    (changed_left c.args.self.now c.args.tree c.in-Some.node c.in-Some.ensures.node c.requires.sorted c.args.change c.put.new.self c.in_ok-left-in-Less.left c.put.ensures.grows
    c.in_ok-left-in-Less.ensures.tree (as_read _ _ _ _ _ _ c.change.ensures c.change-2.ensures c.compare.ensures c.in-Less.is))
    c.balance.ensures.tree

pub returns-in-Equal-clause-tree : goal.returns-in-Equal-clause-tree
returns-in-Equal-clause-tree t c =
    made_same c.join-in-Equal.result c.join-in-Equal.new.self _ _
    (changed_top c.args.self.now c.args.tree c.in-Some.node c.in-Some.ensures.node c.requires.sorted c.args.change
    (as_read _ _ _ _ _ _ c.change.ensures c.change-2.ensures c.compare.ensures c.in-Equal.is))
    c.join-in-Equal.ensures.tree

pub returns-in_ok-right-in-Greater-clause-tree : goal.returns-in_ok-right-in-Greater-clause-tree
returns-in_ok-right-in-Greater-clause-tree t c =
    made_same c.balance-in-Greater.result c.balance-in-Greater.new.self _ _
    (changed_right c.args.self.now c.args.tree c.in-Some.node c.in-Some.ensures.node c.requires.sorted c.args.change c.put-in-Greater.new.self c.in_ok-right-in-Greater.right
    c.put-in-Greater.ensures.grows c.in_ok-right-in-Greater.ensures.tree (as_read _ _ _ _ _ _ c.change.ensures c.change-2.ensures c.compare.ensures c.in-Greater.is))
    c.balance-in-Greater.ensures.tree
