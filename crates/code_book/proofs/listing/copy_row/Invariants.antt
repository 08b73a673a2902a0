-- The contracts so far are copied.
use Rattle.std.proofs.Common.{◌≡◌, map, take}
use Rattle.code_book.specs.Listing.{script_entry}
use Rattle.code_book.proofs.listing.copy_row.Given as goal

abbrev pub invariant-loop-e : goal.invariant-loop-e
invariant-loop-e l = map script_entry l.copied.items ≡ map script_entry (take l.e-index l.row)
