-- Braces are one deeper than what stands in them.
use Rattle.std.proofs.Common.{◌≡◌, ◌-◌, ◌<◌, ◌∙◌, List, ap, arith}
use Rattle.std.specs.Prelude.{nat_le}
use Rattle.std.specs.List.{list_all}
use Rattle.micheline_text.specs.declared.node.Node.{Node}
use Rattle.micheline_text.specs.declared.node.Body.TheVariants as variant
use Rattle.micheline_text.specs.Again.{depth_of_node}
use Rattle.micheline_text.proofs.BracketTests.{within_braces}
use Rattle.micheline_text.proofs.brackets.+bracketing.Goals as goal

pub body_within-returns-then-most-gt0 : goal.body_within-returns-then-most-gt0
body_within-returns-then-most-gt0 t c =
    let is : c.args.body.now ≡ variant.Seq c.in-Seq.nodes = cc in
    let some : 0 < c.args.most = omega arith in
    c.items_within.ensures ∙ ap (λ (x : List Node). list_all (λ n. nat_le (depth_of_node n).0 (c.args.most - 1)) x) c.as_slice-then-most-gt0.ensures
    ∙ within_braces c.args.body.now c.in-Seq.nodes c.args.most is some
