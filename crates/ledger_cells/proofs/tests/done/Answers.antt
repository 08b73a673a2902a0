-- What is fit and covered may be asked.
use Rattle.std.proofs.Common.{sym, ap, ◌∙◌, subst}
use Rattle.cell_names.specs.Conditions.{IsCovered}
use Rattle.code_book.specs.Books.{Contracts}
use Rattle.code_book.specs.Fits.{fits_access}
use Rattle.ledger_cells.proofs.Retaking.{may_be_asked}
use Rattle.ledger_cells.proofs.tests.done.Goals as goal

pub access-requires : goal.access-requires
access-requires c =
    may_be_asked c.args.cells.now c.args.a.now
    (ap (λ (b : Contracts). fits_access b c.args.a.now) (sym c.book.ensures) ∙ sym c.fits_access.ensures ∙ c.if-not-fits_access.false)
    (subst (λ f. IsCovered f c.args.a.now) c.flight.ensures (c.is_covered.ensures c.if-not-is_covered.false))
