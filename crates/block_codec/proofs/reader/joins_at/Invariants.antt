-- What was read, and with it what is still read, is the whole.
use Rattle.std.proofs.Common.{◌≡◌, ◌-◌, ℕ, map}
use Rattle.std.specs.Global.{Vec}
use Rattle.byte_fields.specs.Readers.{many}
use Rattle.block_codec.specs.Reading.{list}
use Rattle.byte_fields.proofs.Loops.{with_front}
use Rattle.block_codec.proofs.reader.joins_at.Given as goal

abbrev pub invariant-loop : goal.invariant-loop
invariant-loop l = with_front (map (λ (list : Vec ℕ). list.items) l.lists.items) (many list (l.count - l.counter) l.rest) ≡ many list l.count l.bytes
