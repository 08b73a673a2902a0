use Rattle.std.proofs.Common.{sym, ◌∙◌}
use Rattle.edge_io.proofs.SlotMaps.{Stands, file_there, no_file}
use Rattle.edge_io.proofs.slots.file_of.Goals as goal

pub returns-in-Some : goal.returns-in-Some
returns-in-Some c =
    let here : Stands c.args.slots.now c.args.name.now c.in-Some.i c.index-slots-i.result = record { at = c.in-Some.ensures.found; is = c.index-slots-i.is } in
    c.file.ensures ∙ sym (file_there here)

pub returns-in-None : goal.returns-in-None
returns-in-None c = sym (no_file c.args.slots.now c.args.name.now c.in-None.ensures.none)
