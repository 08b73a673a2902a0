-- The text of the node that is printed is one of the type.
use Rattle.std.proofs.Common.{Result, Ok, Err, List, ℕ, ◌≡◌, ◌≤◌}
use Rattle.std.specs.Prelude.{IfOk, IsTrue}
use Rattle.value_core.specs.declared.ty.Ty.{Ty}
use Rattle.value_core.specs.Depth.{depth_of_type}
use Rattle.micheline_text.specs.declared.node.Node.{Node}
use Rattle.micheline_text.specs.Again.{IsTextOfOne, brackets, is_well_named}
use Rattle.michelson_reader.specs.Printed.{type_node}
use Rattle.michelson_reader.specs.Types.{IsTypeText}
use Rattle.michelson_reader.proofs.TypeAnswers.{again}
use Rattle.michelson_reader.proofs.type_texts.print_type.Goals as goal

answered : {A E : Type 0} (items : A → List ℕ) (r : Result A E) (t : Ty) (n : Node) → n ≡ type_node t →
    IfOk r (λ a. IsTrue (is_well_named n) → brackets n ≤ 256 → IsTextOfOne (items a) n) → IfOk r (λ a. depth_of_type t ≤ 258 → IsTypeText (items a) t)
answered items (Ok a) t n is reads = again (items a) t n is reads
answered items (Err e) t n is reads = tt

pub returns-clause-again : goal.returns-clause-again
returns-clause-again c = answered (λ v. v.items) c.print_node.result c.args.t.now c.in_ok-node.node c.in_ok-node.ensures c.print_node.ensures.again
