-- All of a list are sound where all that is left of it are; a value is where what is left of it is.
use Rattle.std.proofs.Common.{◌≡◌, ◌≤◌, drop}
use Rattle.std.specs.List.{list_all}
use Rattle.value_core.specs.declared.val.Val.{size-Val}
use Rattle.value_core.specs.Layer.{flat}
use Rattle.value_core.specs.Sound.{is_sound}
use Rattle.value_core.proofs.soundness.+sounding.Given as goal

abbrev pub invariant-all_sound-loop-item : goal.invariant-all_sound-loop-item
invariant-all_sound-loop-item l = list_all is_sound l.items ≡ list_all is_sound (drop l.item-index l.items)

abbrev pub invariant-entries_sound-loop-entry : goal.invariant-entries_sound-loop-entry
invariant-entries_sound-loop-entry l = list_all is_sound (flat l.entries) ≡ list_all is_sound (flat (drop l.entry-index l.entries))

abbrev pub invariant-is_sound-loop-v : goal.invariant-is_sound-loop-v
invariant-is_sound-loop-v l = (is_sound l.fn.v ≡ is_sound l.v) × (size-Val l.v ≤ size-Val l.fn.v)
