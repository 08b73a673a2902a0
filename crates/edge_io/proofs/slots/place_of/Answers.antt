use Rattle.std.proofs.Common.{◌≡◌, true, sym, ◌∙◌}
use Rattle.edge_io.proofs.SlotMaps.{found_there, none_there}
use Rattle.std.specs.Str.{bytes_eq}
use Rattle.edge_io.proofs.slots.place_of.Goals as goal

pub returns-then-is_named-clause-found : goal.returns-then-is_named-clause-found
returns-then-is_named-clause-found c =
    let s = c.index-slots-i.result in
    let named : bytes_eq c.args.name.now s.name ≡ true = sym c.is_named.ensures ∙ c.if-is_named.true in
    found_there c.args.slots.now c.args.name.now c.loop-i.i s c.loop-i-test.true c.loop-i.invariant (rw (← c.index-slots-i.is) named)

pub returns-clause-none : goal.returns-clause-none
returns-clause-none c = none_there c.args.slots.now c.args.name.now c.loop-i.i c.loop-i-test.false c.loop-i.invariant
