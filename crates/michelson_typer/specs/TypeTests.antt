-- Tests of types that a caller passes.
use Rattle.std.specs.Prelude.{◌≡◌, Bool}
use Rattle.std.specs.Borrow.{Bor}
use Rattle.std.specs.Fn.{FnReturnsAt, Shared}
use Rattle.value_core.specs.declared.ty.Ty.{Ty}

-- each answer of a test is that of a predicate
abbrev pub Tells : {F : Type 0} → Shared F (Bor Ty × Unit {0}) Bool → F → (Ty → Bool) → Type 0
Tells g f p = (t : Ty) (r : Bool) → FnReturnsAt g f t r → r ≡ p t
