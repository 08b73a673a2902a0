-- What is printed so far, and what it lacks of the whole.
use Rattle.std.proofs.Common.{◌≡◌, ◌≤◌, ◌++◌, length, take, map}
use Rattle.std.specs.List.{flat_map}
use Rattle.micheline_text.specs.declared.node.Body.{size-Body}
use Rattle.micheline_text.specs.Printed.{argument, items, print, print_body}
use Rattle.micheline_text.specs.Printing.{closings}
use Rattle.micheline_text.proofs.printer.+printing.Given as goal

abbrev pub invariant-put_arguments-loop-arg : goal.invariant-put_arguments-loop-arg
invariant-put_arguments-loop-arg l =
    l.out.items ≡ l.fn.out.items ++ flat_map argument (map print (take l.arg-index l.args))

abbrev pub invariant-put_items-loop-i : goal.invariant-put_items-loop-i
invariant-put_items-loop-i l = l.out.items ≡ l.fn.out.items ++ items (map print (take l.i l.nodes))

abbrev pub invariant-put_body-loop-last : goal.invariant-put_body-loop-last
invariant-put_body-loop-last l = record {
  text : l.out.items ++ ((print_body l.rest).0 ++ closings l.opened) ≡ l.fn.out.items ++ (print_body l.fn.body).0;
  counted : l.opened ≤ length l.out.items;
  no_deeper : size-Body l.rest ≤ size-Body l.fn.body;
}
