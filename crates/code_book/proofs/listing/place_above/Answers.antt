-- The addresses above the given one begin behind its place, or in its gap.
use Rattle.std.proofs.Common.{◌+◌, sym, subst}
use Rattle.std.specs.Option.{option_copied}
use Rattle.code_book.specs.Listing.{IsCut}
use Rattle.code_book.proofs.Cuts.{cut_place, cut_gap}
use Rattle.code_book.proofs.listing.place_above.Goals as goal

pub returns-in-Ok : goal.returns-in-Ok
returns-in-Ok c =
    subst (λ a. IsCut c.args.row.now (option_copied a) (c.in-Ok.i + 1)) (sym c.in-Some.is)
    (cut_place c.args.row.now c.in-Some.a.now c.in-Ok.i c.requires c.in-Ok.ensures)

pub returns-in-Err : goal.returns-in-Err
returns-in-Err c =
    subst (λ a. IsCut c.args.row.now (option_copied a) c.in-Err.i) (sym c.in-Some.is)
    (cut_gap c.args.row.now c.in-Some.a.now c.in-Err.i c.in-Err.ensures)
