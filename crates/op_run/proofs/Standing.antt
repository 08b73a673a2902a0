-- An entry stands as a contract value where its type is the one that was asked for.
use Rattle.std.proofs.Common.{◌≡◌, ◌≢◌, Bool, Option, Some, None, sym, ap, ◌∙◌}
use Rattle.std.specs.Prelude.{Result, Ok, if◌then◌else◌}
use Rattle.std.proofs.lemmas.Bool.{false_from_ne_true}
use Rattle.value_core.specs.declared.ty.Ty.{Ty}
use Rattle.value_core.specs.declared.val.Val.{Val}
use Rattle.code_book.specs.declared.fault.NoEntry.{NoEntry}
use Rattle.op_rules.specs.SameType.{is_same_type}
use Rattle.op_rules.specs.Worlds.{is_of_type}
use Rattle.op_rules.proofs.SameTypes.{same_types}

module _ (t takes : Ty) (r : Result Ty NoEntry) (found : r ≡ Ok takes) (v : Val) where
  abbrev value_of : Bool → Option Val
  value_of b = if b then Some v else None

  pub stands_same : takes ≡ t → Some v ≡ value_of (is_of_type t r)
  stands_same same = sym (ap (λ x. value_of (is_of_type t x)) found ∙ ap value_of ((same_types takes t).1 same))

  pub stands_other : takes ≢ t → None ≡ value_of (is_of_type t r)
  stands_other other =
      sym (ap (λ x. value_of (is_of_type t x)) found ∙ ap value_of (false_from_ne_true (is_same_type takes t) (λ same. other ((same_types takes t).0 same))))
