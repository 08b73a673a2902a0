-- Any bytes are found to be a script that may run, one that isn't typed, or none, and in one way.
use Rattle.std.proofs.Common.{◌≡◌, ℕ, List, ap, subst, inl, inr, ◌⊎◌}
use Rattle.std.specs.Prelude.{◌≢◌}
use Rattle.std.proofs.Math.Logic.{∥∥₁_elim}
use Rattle.michelson_code.specs.declared.script.Script.{Script}
use Rattle.michelson_code.specs.declared.type_fault.TypeKind.{TypeKind}
use Rattle.michelson_code.specs.FirstFault.{ScriptFault}
use Rattle.michelson_code.specs.TypedScript.{IsTypedScript}
use Rattle.michelson_reader.specs.declared.fault.ReadFault.{ReadFault}
use Rattle.michelson_reader.specs.declared.fault.ReadFault.TheVariants as read
use Rattle.michelson_reader.specs.Answers.{IsReadFault}
use Rattle.michelson_reader.specs.Script.{IsScriptOf}
use Rattle.block_cli.specs.Checking.{Finding, HaveAFinding, HaveOneFinding, IsFinding, MayRun, NoScript, Untyped}

-- what a text is, by the laws of reading
pub record ReadingLaws : Type 0 where
  pub either : (bytes : List ℕ) → ((s : Script) × IsScriptOf bytes s) ⊎ ((f : ReadFault) × (IsReadFault bytes f × (f ≢ read.NoMemory)))
  pub never_both : (bytes : List ℕ) (s : Script) (f : ReadFault) → IsScriptOf bytes s → IsReadFault bytes f → f ≢ read.NoMemory → ⊥
  pub one_script : (bytes : List ℕ) (s t : Script) → IsScriptOf bytes s → IsScriptOf bytes t → s ≡ t
  pub one_fault : (bytes : List ℕ) (f g : ReadFault) → IsReadFault bytes f → IsReadFault bytes g → f ≢ read.NoMemory → g ≢ read.NoMemory → f ≡ g

-- what a script is, by the laws of typing
pub record TypingLaws : Type 0 where
  pub either : (s : Script) → IsTypedScript s ⊎ ((path : List ℕ) × ((k : TypeKind) × ScriptFault s path k))
  pub never_both : (s : Script) (path : List ℕ) (k : TypeKind) → IsTypedScript s → ScriptFault s path k → ⊥
  pub one_fault : (s : Script) (path path' : List ℕ) (k k' : TypeKind) → ScriptFault s path k → ScriptFault s path' k' → (path ≡ path') × (k ≡ k')

module _ (reading : ReadingLaws) (typing : TypingLaws) where
  of_script : (bytes : List ℕ) (s : Script) → IsScriptOf bytes s → (found : Finding) × IsFinding bytes found
  of_script bytes s is =
      elim (typing.either s) [
        | inl typed ↦ (MayRun s, (is, ∣ typed ∣₁))
        | inr (path, (k, fault)) ↦ (Untyped path k, (s, is, fault))
      ]

  pub a_finding : HaveAFinding
  a_finding bytes =
      elim (reading.either bytes) [
        | inl (s, is) ↦ of_script bytes s is
        | inr (f, (is, told)) ↦ (NoScript f, (is, told))
      ]

  same_fault : (bytes : List ℕ) (s t : Script) (path path' : List ℕ) (k k' : TypeKind) → IsScriptOf bytes s → IsScriptOf bytes t →
      ScriptFault s path k → ScriptFault t path' k' → (path ≡ path') × (k ≡ k')
  same_fault bytes s t path path' k k' is is' fault fault' =
      typing.one_fault s path path' k k' fault (subst (λ (u : Script). ScriptFault u path' k') (reading.one_script bytes t s is' is) fault')

  typed_has_none : (bytes : List ℕ) (s t : Script) (path : List ℕ) (k : TypeKind) → IsScriptOf bytes s → IsScriptOf bytes t →
      ScriptFault s path k → ∥ IsTypedScript t ∥₁ → ⊥
  typed_has_none bytes s t path k is is' fault typed =
      ∥∥₁_elim typed (λ x y. absurd x) (λ it. typing.never_both t path k it (subst (λ (u : Script). ScriptFault u path k) (reading.one_script bytes s t is is') fault))

  pub one_finding : HaveOneFinding
  one_finding bytes (NoScript f) (NoScript g) (is, told) (is', told') = ap NoScript (reading.one_fault bytes f g is is' told told')
  one_finding bytes (NoScript f) (Untyped path k) (is, told) (s, is', fault) = absurd (reading.never_both bytes s f is' is told)
  one_finding bytes (NoScript f) (MayRun s) (is, told) (is', typed) = absurd (reading.never_both bytes s f is' is told)
  one_finding bytes (Untyped path k) (NoScript f) (s, is, fault) (is', told) = absurd (reading.never_both bytes s f is is' told)
  one_finding bytes (Untyped path k) (Untyped path' k') (s, is, fault) (t, is', fault') =
      let same = same_fault bytes s t path path' k k' is is' fault fault' in λ i. Untyped (same.0 i) (same.1 i)
  one_finding bytes (Untyped path k) (MayRun t) (s, is, fault) (is', typed) = absurd (typed_has_none bytes s t path k is is' fault typed)
  one_finding bytes (MayRun s) (NoScript f) (is, typed) (is', told) = absurd (reading.never_both bytes s f is is' told)
  one_finding bytes (MayRun s) (Untyped path k) (is, typed) (t, is', fault) = absurd (typed_has_none bytes t s path k is' is fault typed)
  one_finding bytes (MayRun s) (MayRun t) (is, typed) (is', typed') = ap MayRun (reading.one_script bytes s t is is')
