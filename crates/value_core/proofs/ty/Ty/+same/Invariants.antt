-- The types are equal where what is left of them is.
use Rattle.std.proofs.Common.{◌≡◌, ◌↔◌, ◌≤◌}
use Rattle.value_core.specs.declared.ty.Ty.{size-Ty}
use Rattle.value_core.proofs.ty.Ty.+same.Given as goal

abbrev pub invariant-loop-a : goal.invariant-loop-a
invariant-loop-a l = ((l.fn.self ≡ l.fn.other) ↔ (l.a ≡ l.b)) × (size-Ty l.a ≤ size-Ty l.fn.self)
