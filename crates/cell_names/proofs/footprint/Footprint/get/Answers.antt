-- The mode at the place of the cell, or none at its gap.
use Rattle.std.proofs.Common.{List, ap, ◌∙◌}
use Rattle.cell_names.specs.declared.cell.Cell.{Cell}
use Rattle.cell_names.specs.declared.mode.Mode.{Mode}
use Rattle.cell_names.specs.Footprints.{mode_of}
use Rattle.cell_names.proofs.Touches.{mode_of-place, mode_of-gap}
use Rattle.cell_names.proofs.footprint.Footprint.get.Goals as goal

pub returns-in-Ok : goal.returns-in-Ok
returns-in-Ok c =
    mode_of-place c.as_slice.result.now c.self.inside.touches.items c.args.c.now c.in-Ok.i c.index.result.now c.as_slice.ensures.value c.self.invariant c.in-Ok.ensures c.index.ensures
    ∙ ap (λ (f : List (Cell × Mode)). mode_of f c.args.c.now) c.self.view_is

pub returns-in-Err : goal.returns-in-Err
returns-in-Err c =
    mode_of-gap c.as_slice.result.now c.self.inside.touches.items c.args.c.now c.in-Err.field-0 c.as_slice.ensures.value c.in-Err.ensures
    ∙ ap (λ (f : List (Cell × Mode)). mode_of f c.args.c.now) c.self.view_is
