-- What is left to drop is no deeper than the node.
use Rattle.std.proofs.Common.{◌≤◌}
use Rattle.micheline_text.specs.declared.node.Body.{size-Body}
use Rattle.micheline_text.proofs.+dropping.Given as goal

abbrev pub invariant-node::Body::drop-loop-self : goal.invariant-node::Body::drop-loop-self
invariant-node::Body::drop-loop-self l = size-Body l.self ≤ size-Body l.initial.self
