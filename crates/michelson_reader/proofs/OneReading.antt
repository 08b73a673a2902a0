-- Bytes are the text of a script, or have one fault.
use Rattle.std.proofs.Common.{◌≡◌, ◌⊎◌, inl, inr, ℕ, List, length, Ok, Err, refl, ap, sym, subst, ◌∙◌}
use Rattle.std.specs.Prelude.{◌≢◌}
use Rattle.micheline_text.specs.declared.fault.TextFault.{TextFault}
use Rattle.micheline_text.specs.declared.node.Node.{Node}
use Rattle.micheline_text.specs.Faults.{IsFaultOf}
use Rattle.micheline_text.specs.Text.{IsTextOf}
use Rattle.michelson_code.specs.declared.script.Script.{Script}
use Rattle.michelson_reader.specs.declared.fault.ReadFault.{ReadFault}
use Rattle.michelson_reader.specs.declared.fault.ReadFault.TheVariants as fault
use Rattle.michelson_reader.specs.Answers.{IsReadFault}
use Rattle.michelson_reader.specs.FirstFault.{IsScriptFault}
use Rattle.michelson_reader.specs.Script.{IsScriptOf}
use Rattle.michelson_reader.specs.ScriptFaults.{script_read}
use Rattle.michelson_reader.specs.TypeFaults.{Read}
use Rattle.michelson_reader.proofs.ReadLaws.{script-read}
use Rattle.michelson_reader.proofs.NodeFaults.{IsOfNodes, of_nodes}
use Rattle.michelson_reader.proofs.ScriptAnswers.{fault_of_nodes}
use Rattle.michelson_reader.proofs.ToldFirst.{none_in_script, one_script_fault}

-- what bytes are as a text
pub record TextLaws : Type 0 where
  pub either : (bytes : List ℕ) → ((ns : List Node) × IsTextOf bytes ns) ⊎ ((f : TextFault) × IsFaultOf bytes f)
  pub never_both : (bytes : List ℕ) (ns : List Node) (f : TextFault) → IsTextOf bytes ns → IsFaultOf bytes f → ⊥
  pub one_text : (bytes : List ℕ) (ns ms : List Node) → IsTextOf bytes ns → IsTextOf bytes ms → ns ≡ ms
  pub one_fault : (bytes : List ℕ) (f g : TextFault) → IsFaultOf bytes f → IsFaultOf bytes g → f ≡ g

-- a fault is want of memory, one of the text, or one of its nodes
Kinds : ReadFault → Type 0
Kinds f = (f ≡ fault.NoMemory) ⊎ (((t : TextFault) × (f ≡ fault.Text t)) ⊎ IsOfNodes f)

kind_of : (f : ReadFault) → Kinds f
unfolding Kinds
kind_of fault.NoMemory = inl refl
kind_of (fault.Text t) = inr (inl (t, refl))
kind_of _ = inr (inr tt)

FaultOfNodes : List ℕ → ReadFault → Type 0
FaultOfNodes bytes f = (ns : List Node) × IsTextOf bytes ns × IsScriptFault (length bytes) ns f

in_nodes : (bytes : List ℕ) (f : ReadFault) → IsOfNodes f → IsReadFault bytes f → FaultOfNodes bytes f
unfolding FaultOfNodes
in_nodes bytes fault.NoMemory free is = absurd free
in_nodes bytes (fault.Text t) free is = absurd free
in_nodes bytes _ free is = is

module _ (texts : TextLaws) (bytes : List ℕ) where
  read_or_fault : (ns : List Node) → IsTextOf bytes ns → (r : Read Script) → script_read (length bytes) ns ≡ r →
      ((s : Script) × IsScriptOf bytes s) ⊎ ((f : ReadFault) × (IsReadFault bytes f × (f ≢ fault.NoMemory)))
  read_or_fault ns spelt (Ok s) is = inl (s, (ns, spelt, (script-read (length bytes) ns s).0 is))
  read_or_fault ns spelt (Err f) is =
      inr (f, (fault_of_nodes bytes ns ns refl f spelt is, λ memory. subst IsOfNodes memory (of_nodes (length bytes) ns f is)))

  pub script_or_fault : ((s : Script) × IsScriptOf bytes s) ⊎ ((f : ReadFault) × (IsReadFault bytes f × (f ≢ fault.NoMemory)))
  script_or_fault =
      elim (texts.either bytes) [
        | inl (ns, spelt) ↦ read_or_fault ns spelt (script_read (length bytes) ns) refl
        | inr (t, is) ↦ inr (fault.Text t, (is, λ memory. absurd cc))
      ]

  no_text_fault : (ns : List Node) (t : TextFault) (f : ReadFault) → IsTextOf bytes ns → f ≡ fault.Text t → IsReadFault bytes f → ⊥
  no_text_fault ns t f spelt e is = texts.never_both bytes ns t spelt (subst (IsReadFault bytes) e is)

  no_fault_of_nodes : (s : Script) (f : ReadFault) → IsScriptOf bytes s → FaultOfNodes bytes f → ⊥
  unfolding FaultOfNodes
  no_fault_of_nodes s f (ns, spelt, are) (ms, spelt', first) =
      let same : IsScriptFault (length bytes) ns f = subst (λ (ks : List Node). IsScriptFault (length bytes) ks f) (texts.one_text bytes ms ns spelt' spelt) first in
      none_in_script (length bytes) ns s are same.0 f same.1

  pub script_has_no_fault : (s : Script) (f : ReadFault) → IsScriptOf bytes s → IsReadFault bytes f → f ≢ fault.NoMemory → ⊥
  unfolding Kinds
  script_has_no_fault s f script is told =
      elim (kind_of f) [
        | inl memory ↦ told memory
        | inr (inl (t, e)) ↦ no_text_fault script.0 t f script.1 e is
        | inr (inr free) ↦ no_fault_of_nodes s f script (in_nodes bytes f free is)
      ]

  one_of_texts : (t u : TextFault) (f g : ReadFault) → f ≡ fault.Text t → g ≡ fault.Text u → IsReadFault bytes f → IsReadFault bytes g → f ≡ g
  one_of_texts t u f g e e' is is' =
      e ∙ ap fault.Text (texts.one_fault bytes t u (subst (IsReadFault bytes) e is) (subst (IsReadFault bytes) e' is')) ∙ sym e'

  one_of_nodes : (f g : ReadFault) → FaultOfNodes bytes f → FaultOfNodes bytes g → f ≡ g
  unfolding FaultOfNodes
  one_of_nodes f g (ns, spelt, first) (ms, spelt', other) =
      one_script_fault (length bytes) ns f g first (subst (λ (ks : List Node). IsScriptFault (length bytes) ks g) (texts.one_text bytes ms ns spelt' spelt) other)

  text_of : (f : ReadFault) → FaultOfNodes bytes f → (ns : List Node) × IsTextOf bytes ns
  unfolding FaultOfNodes
  text_of f (ns, spelt, first) = (ns, spelt)

  pub one_read_fault : (f g : ReadFault) → IsReadFault bytes f → IsReadFault bytes g → f ≢ fault.NoMemory → g ≢ fault.NoMemory → f ≡ g
  unfolding Kinds
  one_read_fault f g is is' told told' =
      elim (kind_of f) [
        | inl memory ↦ absurd (told memory)
        | inr (inl (t, e)) ↦ elim (kind_of g) [
          | inl memory ↦ absurd (told' memory)
          | inr (inl (u, e')) ↦ one_of_texts t u f g e e' is is'
          | inr (inr free) ↦ let text = text_of g (in_nodes bytes g free is') in absurd (no_text_fault text.0 t f text.1 e is)
        ]
        | inr (inr free) ↦ elim (kind_of g) [
          | inl memory ↦ absurd (told' memory)
          | inr (inl (u, e')) ↦ let text = text_of f (in_nodes bytes f free is) in absurd (no_text_fault text.0 u g text.1 e' is')
          | inr (inr free') ↦ one_of_nodes f g (in_nodes bytes f free is) (in_nodes bytes g free' is')
        ]
      ]
