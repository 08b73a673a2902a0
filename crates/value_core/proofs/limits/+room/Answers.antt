-- The second part of a pair takes what the first leaves.
use Rattle.std.proofs.Common.{◌<◌, ◌+◌, ap, sym, ◌∙◌, arith}
use Rattle.value_core.specs.declared.val.Val.{size-Val}
use Rattle.value_core.specs.Counting.{after, room_behind}
use Rattle.value_core.specs.Size.{size_of}
use Rattle.value_core.proofs.SizeLaws.{size-pair, size_of-≥1}
use Rattle.value_core.proofs.Smaller.{smaller_pair}
use Rattle.value_core.proofs.limits.+room.Goals as goal

pub room_behind-returns-in-None : goal.room_behind-returns-in-None
room_behind-returns-in-None t c =
    sym (c.loop-rest.invariant.same ∙ ap (λ w. room_behind (size_of w) c.loop-rest.left) c.in-Pair.is
    ∙ ap (λ n. room_behind n c.loop-rest.left) (size-pair c.in-Pair.a c.in-Pair.b)
    ∙ ap (λ w. room_behind (size_of w + size_of c.in-Pair.b) c.loop-rest.left) (sym c.get.ensures)
    ∙ c.room_behind_first.ensures (size_of c.in-Pair.b) (size_of-≥1 c.in-Pair.b)
    ∙ ap (after (size_of c.in-Pair.b)) c.in-None.is)

pub room_behind-loop-rest-preserved-in-Pair-1 : goal.room_behind-loop-rest-preserved-in-Pair-1
room_behind-loop-rest-preserved-in-Pair-1 t c =
    let smaller : size-Val c.in-Pair.b < size-Val c.loop-rest.rest.now = smaller_pair _ _ _ c.in-Pair.is in
    record {
      same = c.loop-rest.invariant.same ∙ ap (λ w. room_behind (size_of w) c.loop-rest.left) c.in-Pair.is
          ∙ ap (λ n. room_behind n c.loop-rest.left) (size-pair c.in-Pair.a c.in-Pair.b)
          ∙ ap (λ w. room_behind (size_of w + size_of c.in-Pair.b) c.loop-rest.left) (sym c.get.ensures)
          ∙ c.room_behind_first.ensures (size_of c.in-Pair.b) (size_of-≥1 c.in-Pair.b)
          ∙ ap (after (size_of c.in-Pair.b)) c.in-Some-room_behind_first.is
          ∙ ap (λ w. room_behind (size_of w) c.in-Some-room_behind_first.room) (sym c.get-rest.ensures);
      no_deeper = omega (arith, smaller, ap size-Val c.get-rest.ensures, c.loop-rest.invariant.no_deeper);
    }
