-- The printed text is plain, and read again.
use Rattle.std.proofs.Common.{◌≡◌, ◌++◌, ◌∙◌, ap, subst, sym, List, ℕ}
use Rattle.micheline_text.specs.Printed.{print_body, printed}
use Rattle.micheline_text.proofs.AgainLaws.{printed_is, read_again}
use Rattle.micheline_text.proofs.FitDepths.{sound_is_printable}
use Rattle.micheline_text.proofs.PlainTexts.{IsPlain, printed_is_plain}
use Rattle.micheline_text.proofs.printer.print_node.Goals as goal

pub returns-clause-plain : goal.returns-clause-plain
returns-clause-plain c = λ named.
    let is : c.put_body.new.out.items ≡ printed c.args.n.now = c.in_ok-put_body.ensures ∙ ap (λ (x : List ℕ). x ++ (print_body c.args.n.now.body).0) c.new-out.ensures.items ∙ printed_is c.args.n.now in
    subst IsPlain (sym is) (printed_is_plain c.args.n.now c.leaves_are_lawful.ensures named)

pub returns-clause-again : goal.returns-clause-again
returns-clause-again c = λ named deep.
    let is : c.put_body.new.out.items ≡ printed c.args.n.now = c.in_ok-put_body.ensures ∙ ap (λ (x : List ℕ). x ++ (print_body c.args.n.now.body).0) c.new-out.ensures.items ∙ printed_is c.args.n.now in
    read_again c.put_body.new.out.items c.args.n.now is (sound_is_printable c.args.n.now c.leaves_are_lawful.ensures named deep)
