-- One more node is printed.
use Rattle.std.proofs.Common.{◌++◌, ◌∙◌, ◌<◌, List, ℕ, length, take, map, ap, sym, append_assoc}
use Rattle.std.specs.Prelude.{◌==◌}
use Rattle.micheline_text.specs.Printed.{items, item, print, print_body, Print}
use Rattle.micheline_text.proofs.PrintLemmas.{items_step, print_is}
use Rattle.micheline_text.proofs.printer.+printing.Goals as goal

pub put_items-loop-i-preserved : goal.put_items-loop-i-preserved
put_items-loop-i-preserved t c =
    let n = c.index-nodes-i.result in
    let before : List ℕ = items (map print (take c.loop-i.i c.args.nodes.now)) in
    let within : c.loop-i.i < length c.args.nodes.now = c.loop-i-test.true in
    let step = items_step c.args.nodes.now c.loop-i.i n within (sym c.index-nodes-i.is) in
    c.in_ok-put_item.ensures ∙ ap (λ (x : List ℕ). x ++ item (c.loop-i.i == 0) (print_body n.body)) c.loop-i.invariant
    ∙ append_assoc c.args.out.now.items before (item (c.loop-i.i == 0) (print_body n.body))
    ∙ ap (λ (x : Print). c.args.out.now.items ++ (before ++ item (c.loop-i.i == 0) x)) (sym (print_is n))
    ∙ ap (λ (x : List ℕ). c.args.out.now.items ++ x) (sym step)
