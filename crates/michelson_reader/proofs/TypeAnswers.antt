-- What is told of a node from what is read of it as a type, and that the text of a type is read again.
use Rattle.std.proofs.Common.{◌≡◌, ◌≤◌, ◌-◌, ℕ, true, List, Result, Ok, Err, subst, ap, ◌∙◌, arith}
use Rattle.std.specs.Prelude.{IfOk, IsTrue}
use Rattle.value_core.specs.declared.ty.Ty.{Ty}
use Rattle.value_core.specs.Depth.{depth_of_type}
use Rattle.micheline_text.specs.declared.node.Node.{Node}
use Rattle.micheline_text.specs.Again.{IsTextOfOne, brackets, is_well_named, unplaced}
use Rattle.data_nodes.proofs.Unplaced.{same_answer}
use Rattle.michelson_reader.specs.declared.fault.ReadFault.{ReadFault}
use Rattle.micheline_text.specs.Told.{AnswersUnlessFull}
use Rattle.michelson_reader.specs.Answers.{read_fault}
use Rattle.michelson_reader.specs.Printed.{type_node}
use Rattle.michelson_reader.specs.TypeFaults.{type_read}
use Rattle.michelson_reader.specs.Types.{IsTypeText, is_type}
use Rattle.michelson_reader.proofs.PrintedTypes.{type_is_written}
use Rattle.michelson_reader.proofs.TypeDepths.{type_brackets, type_is_named}
use Rattle.michelson_reader.proofs.TypeLaws.{type-read}
use Rattle.michelson_reader.proofs.UnplacedTypes.{is_type-unplaced}

pub found : (n : Node) (r : Result Ty ReadFault) → AnswersUnlessFull read_fault (λ t. t) r (type_read n) → IfOk r (λ t. IsTrue (is_type t n))
found n (Ok t) answers = (type-read n t).0 answers
found n (Err e) answers = tt

pub only : (n : Node) (r : Result Ty ReadFault) (t : Ty) → AnswersUnlessFull read_fault (λ t. t) r (type_read n) → IsTrue (is_type t n) → AnswersUnlessFull read_fault (λ t. t) r (Ok t)
only n r t answers written = subst (AnswersUnlessFull read_fault (λ t. t) r) ((type-read n t).1 written) answers

-- a text of the node of a type is one of the type
pub again : (text : List ℕ) (t : Ty) (n : Node) → n ≡ type_node t →
    (IsTrue (is_well_named n) → brackets n ≤ 256 → IsTextOfOne text n) → depth_of_type t ≤ 258 → IsTypeText text t
again text t n is reads deep =
    let named : is_well_named n ≡ true = ap is_well_named is ∙ type_is_named t in
    let nested : brackets n ≡ depth_of_type t - 2 = ap brackets is ∙ type_brackets t in
    let one = reads named (omega (arith, nested, deep)) in
    (one.0, one.1, same_answer (is_type t) (is_type-unplaced t) one.0 (type_node t) (subst (λ (m : Node). unplaced one.0 ≡ unplaced m) is one.2) ∙ type_is_written t)
