-- What is left to look at decides; nodes so far are lawful.
use Rattle.std.proofs.Common.{◌≡◌, ◌≤◌, true, take}
use Rattle.std.specs.Prelude.{IsTrue}
use Rattle.std.specs.List.{list_all}
use Rattle.micheline_text.specs.declared.node.Body.{size-Body}
use Rattle.micheline_text.specs.Lawful.{is_lawful, is_lawful_body}
use Rattle.micheline_text.proofs.lawfulness.+lawful.Given as goal

abbrev pub invariant-body_is_lawful-loop-rest : goal.invariant-body_is_lawful-loop-rest
invariant-body_is_lawful-loop-rest l = record {
  lawful : is_lawful_body l.rest ≡ true → is_lawful_body l.fn.body ≡ true;
  no_deeper : size-Body l.rest ≤ size-Body l.fn.body;
}

abbrev pub invariant-nodes_are_lawful-loop-node : goal.invariant-nodes_are_lawful-loop-node
invariant-nodes_are_lawful-loop-node l = IsTrue (list_all is_lawful (take l.node-index l.nodes))
