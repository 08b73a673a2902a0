-- From the answers of the check's calls to a script that is typed, or its first fault.
use Rattle.std.proofs.Common.{◌≡◌, ℕ, true, List, [], ◌∷◌, length, Option, None, Some, inl, inr, refl, ap, sym, subst}
use Rattle.std.specs.Prelude.{IfErr, IsErrAnd, MatchOption, Result, Ok, Err}
use Rattle.std.proofs.lemmas.Bool.{and_from, lt-ltb}
use Rattle.value_core.specs.declared.ty.Ty.{Ty}
use Rattle.value_core.specs.declared.ty.Ty.TheVariants as type
use Rattle.michelson_code.specs.declared.instr.Instr.{Instr}
use Rattle.michelson_code.specs.declared.script.Script.{Script}
use Rattle.michelson_code.specs.declared.type_fault.TypeKind.{TypeKind}
use Rattle.michelson_code.specs.FirstFault.{CodeFault, ScriptFault, WholeBreaks, of_the_code, of_the_end, of_the_whole}
use Rattle.michelson_code.specs.TypedScript.{IsTypedScript, first_stack, last_stack}
use Rattle.michelson_code.specs.Typing.{CodeTyped, EndsWith, Outcome, To}
use Rattle.michelson_code.proofs.DecidedScript.{script_answer}
use Rattle.michelson_code.proofs.FaultLaws.{code_none}
use Rattle.michelson_code.proofs.OutcomeLaws.{code_once}
use Rattle.michelson_typer.specs.Closed.{EndsAs, end_at, is_end_in}
use Rattle.michelson_typer.specs.Tables.{Grows, IsDistinct, IsTypeOf, types_at}
use Rattle.michelson_typer.proofs.ClosingLaws.{ends_so, ends_with}
use Rattle.michelson_typer.proofs.GrowLaws.{in_later, types_later}

-- ---- options that hold nothing

pub nothing : {T : Type 0} (P : Option T → Type 0) (o : Option T) → ((x : T) → o ≡ Some x → ⊥) → P o → P None
nothing P None never h = h
nothing P (Some x) never h = absurd (never x refl)

pub none_so : {T : Type 0} (P : Type 0) (Q : T → Type 0) (o : Option T) → ((x : T) → o ≡ Some x → ⊥) → MatchOption o P Q → P
none_so {T} P Q o never h = nothing (λ (p : Option T). MatchOption p P Q) o never h

-- what holds of an error that is handed on
pub err_so : {T E : Type 0} (Is P : E → Type 0) → ((e : E) → Is e → P e) → (r : Result T E) → IsErrAnd r Is → IfErr r P
err_so Is P step (Ok x) h = tt
err_so Is P step (Err e) h = step e h

-- ---- a script without a fault

module _ (s : Script) (sound : (k : TypeKind) → WholeBreaks s k → ⊥) (o : Outcome) (typed : CodeTyped s 0 s.code (first_stack s) o) (ends : EndsWith (last_stack s) o) where
  no_fault : (path : List ℕ) (k : TypeKind) → ScriptFault s path k → ⊥
  no_fault path k (of_the_whole j first) = sound j first.holds
  no_fault path k (of_the_code p j sound' fault) = code_none s 0 s.code (first_stack s) p j o fault typed
  no_fault path k (of_the_end o' sound' typed' other) =
      other (subst (EndsWith (last_stack s)) (code_once s 0 s.code (first_stack s) o o' typed typed') ends)

  -- whose code ends with the last stack
  pub script_typed : IsTypedScript s
  script_typed = elim (script_answer s) [ inl is ↦ is | inr fault ↦ absurd (no_fault fault.0 fault.1.0 fault.1.1) ]

-- ---- the stack on which the code begins

module _ (s : Script) (table : List Ty) (first : ℕ) (is : IsTypeOf table first (type.Pair s.param s.storage)) (code : List Instr) (same : code ≡ s.code) where
  first_is : types_at table (first ∷ []) ≡ first_stack s
  first_is = λ i. is.is i ∷ []

  pub code_typed : (o : Outcome) → CodeTyped s 0 code (types_at table (first ∷ [])) o → CodeTyped s 0 s.code (first_stack s) o
  code_typed o typed =
      subst (λ (b : List Ty). CodeTyped s 0 s.code b o) first_is
      (subst (λ (c : List Instr). CodeTyped s 0 c (types_at table (first ∷ [])) o) same typed)

  pub code_fault : ((k : TypeKind) → WholeBreaks s k → ⊥) → (path : List ℕ) (k : TypeKind) → CodeFault s 0 code (types_at table (first ∷ [])) path k → ScriptFault s path k
  code_fault sound path k fault =
      of_the_code path k sound (subst (λ (b : List Ty). CodeFault s 0 s.code b path k) first_is
      (subst (λ (c : List Instr). CodeFault s 0 c (types_at table (first ∷ [])) path k) same fault))

-- ---- the stack with which it ends

end_later : (old new : List Ty) → Grows old new → (e : Option (List ℕ)) → is_end_in old e ≡ true → end_at new e ≡ end_at old e
end_later old new grows None within = refl
end_later old new grows (Some ids) within = ap To (types_later old new grows ids within)

end_in_later : (old new : List Ty) → Grows old new → (e : Option (List ℕ)) → is_end_in old e ≡ true → is_end_in new e ≡ true
end_in_later old new grows None within = refl
end_in_later old new grows (Some ids) within = in_later old new grows ids within

module _ (s : Script) (old new : List Ty) (grows : Grows old new) (e : Option (List ℕ)) (within : is_end_in old e ≡ true) (last : ℕ)
    (is : IsTypeOf new last (type.Pair (type.List type.Operation) s.storage)) where
  last_is : types_at new (last ∷ []) ≡ last_stack s
  last_is = λ i. is.is i ∷ []

  pub ends_last : EndsAs (last ∷ []) e → EndsWith (last_stack s) (end_at old e)
  ends_last so =
      subst (λ (z : List Ty). EndsWith z (end_at old e)) last_is
      (subst (EndsWith (types_at new (last ∷ []))) (end_later old new grows e within) (ends_with new (last ∷ []) e so))

  pub ends_otherwise : IsDistinct new → (EndsAs (last ∷ []) e → ⊥) → EndsWith (last_stack s) (end_at old e) → ⊥
  ends_otherwise apart other ended =
      other (ends_so new apart (last ∷ []) e (and_from _ _ (lt-ltb last (length new) is.within) refl) (end_in_later old new grows e within)
      (subst (EndsWith (types_at new (last ∷ []))) (sym (end_later old new grows e within)) (subst (λ (z : List Ty). EndsWith z (end_at old e)) (sym last_is) ended)))
