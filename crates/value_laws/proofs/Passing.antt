-- What passes a test with its parts passes it always: induction, told of tests.
use Rattle.std.proofs.Common.{◌≡◌, true, Bool, List, [], ◌∷◌, refl}
use Rattle.std.specs.List.{list_all}
use Rattle.value_core.specs.declared.val.Val.{Val}
use Rattle.value_core.specs.declared.val.Val.TheViews.{out-Val}
use Rattle.value_core.specs.declared.ty.Ty.{Ty}
use Rattle.value_core.specs.declared.ty.Ty.TheViews.{out-Ty}
use Rattle.value_core.specs.Layer.{parts_of}
use Rattle.value_core.specs.TypeLevels as type
use Rattle.value_core.specs.TypeLevels.{types_in}
use Rattle.value_core.proofs.Bools.{both_true}
use Rattle.value_core.proofs.Levels as value

module _ (test : Val → Bool) where
  values_pass : (vs : List Val) → value.Each (λ v. test v ≡ true) vs → list_all test vs ≡ true
  values_pass [] pass = refl
  values_pass (v ∷ vs) pass = both_true (test v) _ pass.0 (values_pass vs pass.1)

  pub every_value_passes : ((v : Val) → list_all test (parts_of (out-Val v)) ≡ true → test v ≡ true) → (v : Val) → test v ≡ true
  every_value_passes step = value.induction (λ v. test v ≡ true) (λ v pass. step v (values_pass (parts_of (out-Val v)) pass))

module _ (test : Ty → Bool) where
  types_pass : (ts : List Ty) → type.Each (λ t. test t ≡ true) ts → list_all test ts ≡ true
  types_pass [] pass = refl
  types_pass (t ∷ ts) pass = both_true (test t) _ pass.0 (types_pass ts pass.1)

  pub every_type_passes : ((t : Ty) → list_all test (types_in (out-Ty t)) ≡ true → test t ≡ true) → (t : Ty) → test t ≡ true
  every_type_passes step = type.induction (λ t. test t ≡ true) (λ t pass. step t (types_pass (types_in (out-Ty t)) pass))
