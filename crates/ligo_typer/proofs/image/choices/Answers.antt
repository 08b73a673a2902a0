-- What is taken from the end is joined before what was taken.
use Rattle.std.proofs.Common.{◌≡◌, List, [], ◌∷◌, ◌++◌, sym, ap, ◌∙◌}
use Rattle.value_core.specs.declared.ty.Ty.{Ty}
use Rattle.value_core.specs.declared.ty.Ty.TheVariants as image
use Rattle.value_core.specs.Combs.{comb}
use Rattle.ligo_typer.specs.Image.{right_comb}
use Rattle.ligo_typer.proofs.ImageLaws.{comb-end, right_comb-end}
use Rattle.ligo_typer.proofs.image.choices.Goals as goal

pub loop-first-init : goal.loop-first-init
loop-first-init c =
    let left : List Ty = c.pop.new.self in
    let whole : c.in_ok-whole.whole ≡ c.in-Some.last = c.in_ok-whole.ensures in
    let parts : c.args.parts ≡ left ++ c.in-Some.last ∷ [] = c.in-Some.ensures in
    ap (comb image.Or left) whole ∙ (sym (right_comb-end image.Or left c.in-Some.last) ∙ ap (right_comb image.Or) (sym parts))

pub loop-first-preserved : goal.loop-first-preserved
loop-first-preserved c =
    let left : List Ty = c.pop-in-loop-first.new.self in
    let behind : Ty = c.loop-first.whole in
    let first : c.in_ok-first.first ≡ c.in-Some-pop.first = c.in_ok-first.ensures in
    let whole : c.in_ok-whole-2.whole ≡ image.Or c.in_ok-first.first behind = c.in_ok-whole-2.ensures in
    let parts : c.loop-first.parts ≡ left ++ c.in-Some-pop.first ∷ [] = c.in-Some-pop.ensures in
    ap (comb image.Or left) (whole ∙ ap (λ (t : Ty). image.Or t behind) first)
    ∙ (sym (comb-end image.Or left c.in-Some-pop.first behind) ∙ (ap (λ (ts : List Ty). comb image.Or ts behind) (sym parts) ∙ c.loop-first.invariant))
