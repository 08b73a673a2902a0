-- Arguments are lawful where those in front and the last one are.
use Rattle.std.proofs.Common.{◌∙◌, sym, arith}
use Rattle.micheline_text.proofs.LastParts.{lawful_last, smaller_last}
use Rattle.micheline_text.proofs.lawfulness.+lawful.Goals as goal

pub body_is_lawful-loop-rest-preserved : goal.body_is_lawful-loop-rest-preserved
body_is_lawful-loop-rest-preserved t c =
    let last = c.in-Some.last.now in
    let before = c.in-Some.before.now in
    let ends = c.as_slice-in-Prim.ensures in
    let is = c.in-Prim.is in
    let small = smaller_last c.loop-rest.rest.now c.in-Prim.name c.in-Prim.notes c.in-Prim.args before last is (sym ends ∙ c.in-Some.ensures) in
    record {
      lawful = λ here. c.loop-rest.invariant.lawful
          (lawful_last c.loop-rest.rest.now c.in-Prim.name c.in-Prim.notes c.in-Prim.args before last is (sym ends ∙ c.in-Some.ensures) c.nodes_are_lawful-in-Prim.ensures here);
      no_deeper = omega (arith, small, c.loop-rest.invariant.no_deeper);
    }
