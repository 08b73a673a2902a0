-- What was fit and done may be taken back where its undo is fit.
use Rattle.std.proofs.Common.{◌≡◌, true, sym, ap, ◌∙◌, subst}
use Rattle.cell_names.specs.Conditions.{IsCovered}
use Rattle.code_book.specs.Books.{Contracts}
use Rattle.code_book.specs.Fits.{fits_access, fits_undo}
use Rattle.ledger_cells.proofs.Retaking.{may_be_asked, may_be_taken_back}
use Rattle.ledger_cells.proofs.tests.there_and_back.Goals as goal

pub access-requires : goal.access-requires
access-requires c =
    may_be_asked c.args.cells.now c.args.a.now
    (ap (λ (b : Contracts). fits_access b c.args.a.now) (sym c.book.ensures) ∙ sym c.fits_access.ensures ∙ c.if-not-fits_access.false)
    (subst (λ f. IsCovered f c.args.a.now) c.flight.ensures (c.is_covered.ensures c.if-not-is_covered.false))

pub take_back-requires : goal.take_back-requires
take_back-requires c =
    may_be_taken_back c.args.cells.now c.access.new.self c.args.a.now c.in-Ok.reply c.in-Ok.undo c.len-lawful.ensures.lawful
    (may_be_asked c.args.cells.now c.args.a.now
    (ap (λ (b : Contracts). fits_access b c.args.a.now) (sym c.book.ensures) ∙ sym c.fits_access.ensures ∙ c.if-not-fits_access.false)
    (subst (λ f. IsCovered f c.args.a.now) c.flight.ensures (c.is_covered.ensures c.if-not-is_covered.false)))
    c.in-Ok.ensures
    (subst (λ (b : Contracts). fits_undo b c.in-Ok.undo ≡ true) c.book-2.ensures (c.in_ok-fit.ensures c.if-not-fit.false))
