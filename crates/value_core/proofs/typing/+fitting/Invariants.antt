-- All of a list fit where all that is left of it fit; a value fits where what is left of it does.
use Rattle.std.proofs.Common.{◌≡◌, ◌≤◌, drop}
use Rattle.std.specs.Prelude.{◌&&◌}
use Rattle.std.specs.List.{list_all}
use Rattle.value_core.specs.declared.val.Val.{size-Val}
use Rattle.value_core.specs.Typed.{fits}
use Rattle.value_core.proofs.typing.+fitting.Given as goal

abbrev pub invariant-all_fit-loop-item : goal.invariant-all_fit-loop-item
invariant-all_fit-loop-item l = list_all (λ v. fits v l.t) l.items ≡ list_all (λ v. fits v l.t) (drop l.item-index l.items)

abbrev pub invariant-entries_fit-loop-entry : goal.invariant-entries_fit-loop-entry
invariant-entries_fit-loop-entry l =
    list_all (λ e. fits e.0 l.k && fits e.1 l.v) l.entries ≡ list_all (λ e. fits e.0 l.k && fits e.1 l.v) (drop l.entry-index l.entries)

abbrev pub invariant-fits-loop-v : goal.invariant-fits-loop-v
invariant-fits-loop-v l = (fits l.fn.v l.fn.t ≡ fits l.v l.t) × (size-Val l.v ≤ size-Val l.fn.v)
