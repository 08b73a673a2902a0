-- A part that doesn't fit is the first of those that are left, and one that fits leaves it to those behind.
use Rattle.std.proofs.Common.{◌+◌, sym, ap, ◌∙◌, arith}
use Rattle.std.specs.Prelude.{slice_get}
use Rattle.ligo_syntax.specs.declared.pattern.Pattern.{Pattern}
use Rattle.ligo_typer.specs.declared.source_type.SrcTy.{SrcTy}
use Rattle.ligo_typer.specs.Faults.{Faults}
use Rattle.ligo_typer.specs.Patterns.{misfits}
use Rattle.ligo_typer.proofs.PatternLaws.{found, misfits_from, no_type, passed, turn}
use Rattle.ligo_typer.proofs.patterns.+misfitting.Goals as goal

pub part_misfit-returns-then-i-types : goal.part_misfit-returns-then-i-types
part_misfit-returns-then-i-types t c =
    sym (c.loop-i.invariant ∙ no_type c.loop-i.i c.args.parts.now c.args.types.now (omega arith))

pub part_misfit-returns-in-Some : goal.part_misfit-returns-in-Some
part_misfit-returns-in-Some t c =
    let part : Pattern = c.index-parts-i.result in
    let of : SrcTy = c.index-types-i.result in
    let here = turn c.loop-i.i c.args.parts.now c.args.types.now part of (omega arith) (omega arith) c.index-parts-i.is c.index-types-i.is in
    sym (c.loop-i.invariant ∙ (ap (λ (fs : Faults). slice_get fs 0) here
    ∙ found (misfits part of) (misfits_from (c.loop-i.i + 1) c.args.parts.now c.args.types.now) c.in-Some.fault (sym c.in-Some.ensures)))

pub part_misfit-loop-i-preserved : goal.part_misfit-loop-i-preserved
part_misfit-loop-i-preserved t c =
    let part : Pattern = c.index-parts-i.result in
    let of : SrcTy = c.index-types-i.result in
    let here = turn c.loop-i.i c.args.parts.now c.args.types.now part of (omega arith) (omega arith) c.index-parts-i.is c.index-types-i.is in
    c.loop-i.invariant ∙ (ap (λ (fs : Faults). slice_get fs 0) here
    ∙ passed (misfits part of) (misfits_from (c.loop-i.i + 1) c.args.parts.now c.args.types.now) (sym c.in_default.ensures))
