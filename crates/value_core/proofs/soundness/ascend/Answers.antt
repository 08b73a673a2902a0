-- At the end no more than one is left.
use Rattle.std.proofs.Common.{sym, ◌∙◌, ◌-◌, drop, arith}
use Rattle.std.proofs.lemmas.List.{length-drop}
use Rattle.value_core.proofs.SoundLemmas.{ascends-end}
use Rattle.value_core.proofs.soundness.ascend.Goals as goal

pub returns : goal.returns
returns c = sym (c.loop-i.invariant ∙ ascends-end (drop (c.loop-i.i - 1) c.args.items.now) (omega (arith, length-drop (c.loop-i.i - 1) c.args.items.now)))
