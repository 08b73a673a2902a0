-- A part that is no `or`.
use Rattle.std.proofs.Common.{◌≡◌, ℕ, List, IfOk, map, sym, ap, subst, ◌∙◌}
use Rattle.micheline_text.specs.declared.node.Node.{Node}
use Rattle.michelson_reader.specs.Printing.{annotated, entry_of}
use Rattle.michelson_reader.proofs.ParameterNodes.{part_other}
use Rattle.michelson_reader.proofs.parameter_nodes.+part_node.Goals as goal

pub returns-in_default : goal.returns-in_default
returns-in_default t c =
    let with_notes = ap (λ (ns : List (List ℕ)). annotated ns c.args.t.now) c.in_ok-notes.ensures in
    let other = part_other c.args.t.now (map entry_of c.args.entries.now) c.in_default.not-Or in
    subst (λ (x : Node). IfOk c.annotated_type.result (λ n. n ≡ x)) (with_notes ∙ sym other) c.annotated_type.ensures
