-- The contracts so far are the same.
use Rattle.std.proofs.Common.{◌≡◌, map, take}
use Rattle.code_book.specs.Listing.{script_entry}
use Rattle.code_book.proofs.listing.same_row.Given as goal

abbrev pub invariant-loop-i : goal.invariant-loop-i
invariant-loop-i l = map script_entry (take l.i l.a) ≡ map script_entry (take l.i l.b)
