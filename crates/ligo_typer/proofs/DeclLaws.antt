-- A declaration is followed by one state, and breaks no rule where it is followed by one.
use Rattle.std.proofs.Common.{◌≡◌, Bool, true, false, Some, List, [], ◌∷◌, ◌++◌, refl, sym, ap, subst, ◌∙◌}
use Rattle.ligo_syntax.specs.declared.program.Decl.{Decl}
use Rattle.ligo_syntax.specs.declared.program.ValueDecl.{ValueDecl}
use Rattle.ligo_typer.specs.declared.source_type.SrcTy.{SrcTy}
use Rattle.ligo_typer.specs.declared.fault.LigoFault.{LigoFault}
use Rattle.ligo_typer.specs.declared.fault.LigoKind.{LigoKind}
use Rattle.ligo_typer.specs.Entries.{Above, BreaksEntry, IsEntry, a_rule, entry_kinds, entry_result, no_two_params, other_result, other_storage}
use Rattle.ligo_typer.specs.Faults.{IsOneOf}
use Rattle.ligo_typer.specs.Programs.{BreaksIn, IsDeclared, a_type, a_value, an_entry, as_an_entry, behind_value, in_a_body, in_a_head, in_a_type}
use Rattle.ligo_typer.specs.Typing.{Expects}
use Rattle.ligo_typer.proofs.Unique.{none_among, unbroken, unique}

first_is : {A : Type 0} {a b : A} {as' bs : List A} → a ∷ as' ≡ b ∷ bs → a ≡ b
first_is e = cc

one_param : {ts : List SrcTy} {p q s t : SrcTy} → ts ≡ p ∷ s ∷ [] → ts ≡ q ∷ t ∷ [] → p ≡ q
one_param h k = let e = sym h ∙ k in cc

one_storage : {ts : List SrcTy} {p q s t : SrcTy} → ts ≡ p ∷ s ∷ [] → ts ≡ q ∷ t ∷ [] → s ≡ t
one_storage h k = let e = sym h ∙ k in cc

differ : {P : Type 0} {b : Bool} → b ≡ true → b ≡ false → P
differ h k = absurd (cc)

module _ (a : Above) where
  -- an entry breaks no rule of entries
  entry_unbroken : (d : ValueDecl) (result p s : SrcTy) (k : LigoKind) → IsEntry a d result p s → BreaksEntry a d result k → ⊥
  entry_unbroken d result p s k is (no_two_params none_so) = none_so p s is.params
  entry_unbroken d result p s k is (other_result t u two other) =
      other (is.result_is ∙ ap entry_result (one_storage is.params two))
  entry_unbroken d result p s k is (other_storage t u two other) = other (subst (Expects a.storage) (one_storage is.params two) is.one_storage)
  entry_unbroken d result p s k is (a_rule t u k' two one) =
      none_among (entry_kinds d.name.word a.params p s) k is.rules
      (subst (λ v. IsOneOf (entry_kinds d.name.word a.params p v) k) (sym (one_storage is.params two))
      (subst (λ v. IsOneOf (entry_kinds d.name.word a.params v u) k) (sym (one_param is.params two)) one))

  -- one declaration is followed by one state
  pub declared_once : {d : Decl} {b c : Above} → IsDeclared a d b → IsDeclared a d c → b ≡ c
  declared_once (a_type d whole) (a_type d' whole') = refl
  declared_once (a_value d x entry head typed) (a_value d' y entry' head' typed') =
      ap (λ z. behind_value a d z a.storage a.params) (unique a.known typed typed')
  declared_once (a_value d x entry head typed) (an_entry d' y p s entry' head' typed' is) = differ entry' entry
  declared_once (an_entry d x p s entry head typed is) (a_value d' y entry' head' typed') = differ entry entry'
  declared_once (an_entry d x p s entry head typed is) (an_entry d' y q t entry' head' typed' is') =
      λ i. behind_value a d (unique a.known typed typed' i) (Some (one_storage is.params is'.params i))
      (a.params ++ one_param is.params is'.params i ∷ [])

  -- what is followed by a state breaks no rule
  pub declared_unbroken : {d : Decl} {b : Above} {f : LigoFault} → IsDeclared a d b → BreaksIn a d f → ⊥
  declared_unbroken (a_type d whole) (in_a_type d' f one) = none_among _ f whole one
  declared_unbroken (a_value d x entry head typed) (in_a_head d' f one) = none_among _ f head one
  declared_unbroken (a_value d x entry head typed) (in_a_body d' f head' broken) = unbroken a.known typed broken
  declared_unbroken (a_value d x entry head typed) (as_an_entry d' y k entry' head' typed' broken) = differ entry' entry
  declared_unbroken (an_entry d x p s entry head typed is) (in_a_head d' f one) = none_among _ f head one
  declared_unbroken (an_entry d x p s entry head typed is) (in_a_body d' f head' broken) = unbroken a.known typed broken
  declared_unbroken (an_entry d x p s entry head typed is) (as_an_entry d' y k entry' head' typed' broken) =
      entry_unbroken d x.of p s k is (subst (λ z. BreaksEntry a d z.of k) (sym (unique a.known typed typed')) broken)
