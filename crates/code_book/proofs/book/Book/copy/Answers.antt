-- A row of equal scripts keeps what the row keeps.
use Rattle.std.proofs.Common.{map, ap, ◌∙◌}
use Rattle.code_book.specs.Listing.{Row, script_entry}
use Rattle.code_book.proofs.Keeping.{same_row_kept}
use Rattle.code_book.proofs.book.Book.copy.Goals as goal

pub invariant_of-result : goal.invariant_of-result
invariant_of-result c =
    same_row_kept c.self.inside.contracts.items c.in_ok-contracts.contracts.items c.self.inside.unit c.self.invariant
    (c.in_ok-contracts.ensures ∙ ap (λ (r : Row). map script_entry r) c.as_slice.ensures.value)
