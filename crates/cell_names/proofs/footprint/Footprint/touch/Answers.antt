-- A touch changes one mode at its place, or puts the cell into its gap.
use Rattle.std.proofs.Common.{◌≡◌, List, subst, sym, ap, ◌∙◌}
use Rattle.std.specs.Prelude.{IsTrue}
use Rattle.cell_names.specs.declared.cell.Cell.{Cell}
use Rattle.cell_names.specs.declared.mode.Mode.{Mode}
use Rattle.cell_names.specs.Footprints.{ascends, touched}
use Rattle.cell_names.proofs.Touches.{touched-ascends, touched-place, touched-gap}
use Rattle.cell_names.proofs.footprint.Footprint.touch.Goals as goal

kept : (f new : List (Cell × Mode)) (c : Cell) (m : Mode) → IsTrue (ascends f) → new ≡ touched f c m → IsTrue (ascends new)
kept f new c m up is = subst (λ (l : List (Cell × Mode)). IsTrue (ascends l)) (sym is) (touched-ascends f c m up)

pub returns-in-Ok-clause-touched : goal.returns-in-Ok-clause-touched
returns-in-Ok-clause-touched c =
    touched-place c.as_slice.result.now c.self.inside.touches.items c.args.c.now c.in-Ok.i c.index.result.now c.index_mut.result.now c.args.m c.join.result
    c.as_slice.ensures.value c.self.invariant c.in-Ok.ensures c.index.ensures c.index_mut.ensures.value c.join.ensures
    ∙ ap (λ (f : List (Cell × Mode)). touched f c.args.c.now c.args.m) c.self.view_is

pub returns-in_ok-insert-in-Err-clause-touched : goal.returns-in_ok-insert-in-Err-clause-touched
returns-in_ok-insert-in-Err-clause-touched c =
    touched-gap c.as_slice.result.now c.self.inside.touches.items c.insert.new.self.items c.args.c.now c.in_ok-cell-in-Err.cell c.in-Err.i c.args.m
    c.as_slice.ensures.value c.in-Err.ensures c.in_ok-cell-in-Err.ensures c.in_ok-insert-in-Err.ensures.items
    ∙ ap (λ (f : List (Cell × Mode)). touched f c.args.c.now c.args.m) c.self.view_is

pub invariant_of-self : goal.invariant_of-self
invariant_of-self c =
    kept c.self.inside.touches.items _ c.args.c.now c.args.m c.self.invariant
    (touched-place c.as_slice.result.now c.self.inside.touches.items c.args.c.now c.in-Ok.i c.index.result.now c.index_mut.result.now c.args.m c.join.result
    c.as_slice.ensures.value c.self.invariant c.in-Ok.ensures c.index.ensures c.index_mut.ensures.value c.join.ensures)

pub invariant_of-self-in-Err : goal.invariant_of-self-in-Err
invariant_of-self-in-Err c =
    kept c.self.inside.touches.items _ c.args.c.now c.args.m c.self.invariant
    (touched-gap c.as_slice.result.now c.self.inside.touches.items c.insert.new.self.items c.args.c.now c.in_ok-cell-in-Err.cell c.in-Err.i c.args.m
    c.as_slice.ensures.value c.in-Err.ensures c.in_ok-cell-in-Err.ensures c.in_ok-insert-in-Err.ensures.items)
