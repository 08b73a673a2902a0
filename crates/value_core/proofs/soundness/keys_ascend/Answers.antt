-- At the end no more than one is left.
use Rattle.std.proofs.Common.{sym, ◌∙◌, ◌-◌, drop, arith}
use Rattle.std.proofs.lemmas.List.{length-drop}
use Rattle.value_core.proofs.SoundLemmas.{keys_ascend-end}
use Rattle.value_core.proofs.soundness.keys_ascend.Goals as goal

pub returns : goal.returns
returns c = sym (c.loop-i.invariant ∙ keys_ascend-end (drop (c.loop-i.i - 1) c.args.entries.now) (omega (arith, length-drop (c.loop-i.i - 1) c.args.entries.now)))
