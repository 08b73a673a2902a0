-- What is printed for a value is read again as data of each of its types.
use Rattle.std.proofs.Common.{◌≡◌, ◌≤◌, ℕ, List, true, Result, Ok, Err, arith, ap, sym, subst, ◌∙◌}
use Rattle.std.specs.Prelude.{IsTrue, IfOk}
use Rattle.std.proofs.lemmas.Bool.{and_parts}
use Rattle.value_core.specs.declared.ty.Ty.{Ty}
use Rattle.value_core.specs.BigMaps.{has_no_big_map}
use Rattle.value_core.specs.Sound.{is_plain}
use Rattle.value_core.specs.Typed.{has_type}
use Rattle.data_nodes.specs.Data.{IsData}
use Rattle.value_core.specs.declared.val.Val.{Val}
use Rattle.value_core.specs.Depth.{depth_of}
use Rattle.value_core.specs.Lawful.{is_lawful}
use Rattle.micheline_text.specs.declared.node.Node.{Node}
use Rattle.micheline_text.specs.Again.{IsTextOfOne, brackets, is_well_named, unplaced}
use Rattle.micheline_text.specs.Fits.{IsPrintable}
use Rattle.micheline_text.proofs.FitDepths.{printable_is_named}
use Rattle.data_nodes.specs.Printed.{IsReadAgain, is_printed_whole, node_of}
use Rattle.data_nodes.proofs.FitNodes.{printed_fits}
use Rattle.data_nodes.proofs.WholeStorages.{whole_storage}
use Rattle.data_nodes.proofs.WrittenNodes.{same_is_written}

-- of a text of the node that is printed
pub text_again : (text : List ℕ) (v : Val) (n : Node) → n ≡ node_of v → is_lawful v ≡ true → (IsTrue (is_well_named n) → brackets n ≤ 256 → IsTextOfOne text n) → is_printed_whole v ≡ true → depth_of v ≤ 128 → IsReadAgain text v
text_again text v n is lawful reads printable deep =
    let fit : IsPrintable n = subst IsPrintable (sym is) (printed_fits v printable lawful (omega (arith, deep))) in
    let named = printable_is_named n fit in
    let one = reads named.0 named.1 in
    let parts = and_parts (is_plain v) (has_no_big_map v) printable in
    let data_of : (t : Ty) → IsTrue (has_type v t) → IsData t one.0 v = λ t typed. (typed, same_is_written v one.0 printable lawful (one.2 ∙ ap unplaced is)) in
    (one.0, one.1, λ t typed. (data_of t typed, whole_storage t one.0 v parts.0 parts.1 (data_of t typed)))

-- the same of an answer with such a text, if it is one
pub answer_again : {A E : Type 0} (items : A → List ℕ) (r : Result A E) (v : Val) (n : Node) → n ≡ node_of v → is_lawful v ≡ true →
    IfOk r (λ a. IsTrue (is_well_named n) → brackets n ≤ 256 → IsTextOfOne (items a) n) → IfOk r (λ a. IsTrue (is_printed_whole v) → depth_of v ≤ 128 → IsReadAgain (items a) v)
answer_again items (Ok a) v n is lawful reads = text_again (items a) v n is lawful reads
answer_again items (Err e) v n is lawful reads = tt
