-- What is told of the bytes of a text, from what is read of its nodes.
use Rattle.std.proofs.Common.{◌≡◌, ◌⊎◌, inl, inr, ℕ, List, length, Result, Ok, Err, refl, ap, sym, subst, ◌∙◌}
use Rattle.std.specs.Prelude.{IfErr, IfOk}
use Rattle.std.specs.Result.{IsErrAnd}
use Rattle.micheline_text.specs.declared.fault.TextFault.{TextFault}
use Rattle.micheline_text.specs.declared.fault.TextFault.TheVariants as text
use Rattle.micheline_text.specs.declared.node.Node.{Node}
use Rattle.micheline_text.specs.Told.{AnswersUnlessFull, IsTold, text_fault}
use Rattle.micheline_text.specs.Faults.{IsFaultOf}
use Rattle.micheline_text.specs.Text.{IsTextOf}
use Rattle.michelson_code.specs.declared.script.Script.{Script}
use Rattle.michelson_reader.specs.declared.fault.ReadFault.{ReadFault}
use Rattle.michelson_reader.specs.declared.fault.ReadFault.TheVariants as fault
use Rattle.michelson_reader.specs.Answers.{IsReadFault, read_fault}
use Rattle.michelson_reader.specs.Returned.{of_text}
use Rattle.michelson_reader.specs.Script.{AreSections, IsScriptOf, unbraced}
use Rattle.michelson_reader.specs.ScriptFaults.{script_read}
use Rattle.michelson_reader.proofs.ReadLaws.{script-read}
use Rattle.michelson_reader.proofs.NodeFaults.{of_nodes}
use Rattle.michelson_reader.proofs.ToldFirst.{script_fault}

-- ---- nodes that are written for a script

module _ (end : ℕ) (ns given : List Node) (s : Script) (are : AreSections (unbraced ns) s) (same : given ≡ ns) where
  read_as : script_read end given ≡ Ok s
  read_as = ap (script_read end) same ∙ (script-read end ns s).1 are

-- ---- what was told, where nodes of the text were read

module _ (bytes : List ℕ) (nodes given : List Node) (same : given ≡ nodes) where
  pub told_found : (told : Result Script ReadFault) → IsTextOf bytes nodes → AnswersUnlessFull read_fault (λ s. s) told (script_read (length bytes) given) → IfOk told (λ s. IsScriptOf bytes s)
  told_found (Ok s) spelt e = (nodes, spelt, (script-read (length bytes) nodes s).0 (ap (script_read (length bytes)) (sym same) ∙ e))
  told_found (Err e) spelt refused = tt

  abbrev OnlyThese : Type 0
  OnlyThese = (ns : List Node) → IsTextOf bytes ns → AnswersUnlessFull text_fault (λ ns. ns) (Ok nodes) (Ok ns)

  same_nodes : OnlyThese → (ns : List Node) → IsTextOf bytes ns → given ≡ ns
  same_nodes only ns spelt = let these = only ns spelt in same ∙ cc

  pub told_only : (told : Result Script ReadFault) → OnlyThese → AnswersUnlessFull read_fault (λ s. s) told (script_read (length bytes) given) → (s : Script) → IsScriptOf bytes s → AnswersUnlessFull read_fault (λ s. s) told (Ok s)
  told_only told only e s is =
      subst (AnswersUnlessFull read_fault (λ s. s) told) (read_as (length bytes) is.0 given s is.2 (same_nodes only is.0 is.1)) e

  pub fault_of_nodes : (e : ReadFault) → IsTextOf bytes nodes → script_read (length bytes) given ≡ Err e → IsReadFault bytes e
  fault_of_nodes fault.NoMemory spelt is = tt
  fault_of_nodes (fault.Text f) spelt is = absurd (of_nodes (length bytes) given (fault.Text f) is)
  fault_of_nodes e spelt is = (nodes, spelt, (script_fault (length bytes) nodes e).0 (ap (script_read (length bytes)) (sym same) ∙ is))

  pub told_fault : (told : Result Script ReadFault) → IsTextOf bytes nodes → AnswersUnlessFull read_fault (λ s. s) told (script_read (length bytes) given) → IfErr told (IsReadFault bytes)
  told_fault (Ok s) spelt e = tt
  told_fault (Err fault.NoMemory) spelt is = tt
  told_fault (Err e) spelt is = fault_of_nodes e spelt is

-- ---- what was told of a text that isn't one

module _ (bytes : List ℕ) where
  text_only : (f : TextFault) → ((ns : List Node) → IsTextOf bytes ns → AnswersUnlessFull text_fault (λ ns. ns) (Err f) (Ok ns)) → (s : Script) → IsScriptOf bytes s → of_text f ≡ fault.NoMemory
  text_only text.NoMemory only s is = refl
  text_only f only s is = absurd (let refused = only is.0 is.1 in cc)

  pub told_text : (f : TextFault) (told : Result Script ReadFault) → IsErrAnd told (λ e. e ≡ of_text f) →
      ((ns : List Node) → IsTextOf bytes ns → AnswersUnlessFull text_fault (λ ns. ns) (Err f) (Ok ns)) → (s : Script) → IsScriptOf bytes s → AnswersUnlessFull read_fault (λ s. s) told (Ok s)
  told_text f (Ok read) is only s script = absurd is
  told_text f (Err e) is only s script =
      subst (λ (x : ReadFault). IsTold {Y = Script} (read_fault x) (Ok s)) (sym (is ∙ text_only f only s script)) tt

  fault_of_text : (f : TextFault) → (f ≡ text.NoMemory) ⊎ IsFaultOf bytes f → IsReadFault bytes (of_text f)
  fault_of_text text.NoMemory h = tt
  fault_of_text f (inl memory) = absurd cc
  fault_of_text f (inr is) = is

  pub told_text_fault : (f : TextFault) (told : Result Script ReadFault) → IsErrAnd told (λ e. e ≡ of_text f) → (f ≡ text.NoMemory) ⊎ IsFaultOf bytes f → IfErr told (IsReadFault bytes)
  told_text_fault f (Ok read) is h = absurd is
  told_text_fault f (Err e) is h = subst (IsReadFault bytes) (sym is) (fault_of_text f h)
