-- The arguments but the last one are less deep than the word, and so is the last one.
use Rattle.std.proofs.Common.{◌<◌, arith, rules}
use denote.Param.Weighed.{most}
use Rattle.micheline_text.specs.declared.node.Body.{size-Body}
use Rattle.micheline_text.specs.declared.node.Body.TheViews.{size-Node}
use Rattle.micheline_text.proofs.LastParts.{shallower_rest, smaller_last}
use Rattle.micheline_text.proofs.+dropping.Goals as goal

pub node::Body::drop-drop-requires-in-Prim-2 : goal.node::Body::drop-drop-requires-in-Prim-2
node::Body::drop-drop-requires-in-Prim-2 t c =
    let rest : most size-Node c.pop-last.new.self < size-Body c.loop-self.self =
    shallower_rest c.loop-self.self c.in-Prim.name c.in-Prim.notes c.in-Prim.args c.pop-last.new.self c.pop-last.result c.in-Prim.is c.pop-last.ensures in
    search (rules, rest)

pub node::Body::drop-loop-self-preserved : goal.node::Body::drop-loop-self-preserved
node::Body::drop-loop-self-preserved t c =
    let last = smaller_last c.loop-self.self c.in-Prim.name c.in-Prim.notes c.in-Prim.args c.pop-last.new.self c.in-Some.field-0 c.in-Prim.is c.in-Some.ensures in
    omega (arith, last, c.loop-self.invariant)
