-- What is left to drop is no deeper than the value.
use Rattle.std.proofs.Common.{◌≤◌}
use Rattle.value_core.specs.declared.val.Val.{size-Val}
use Rattle.value_core.proofs.+dropping.Given as goal

abbrev pub invariant-val::Val::drop-loop-self : goal.invariant-val::Val::drop-loop-self
invariant-val::Val::drop-loop-self l = size-Val l.self ≤ size-Val l.initial.self
