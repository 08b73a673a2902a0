-- Two contracts that differ tell two rows apart.
use Rattle.std.proofs.Common.{◌<◌, length, sym, ◌∙◌, arith}
use Rattle.code_book.specs.Listing.{script_entry}
use Rattle.code_book.proofs.RowSteps.{same_items}
use Rattle.code_book.proofs.listing.same_row.Goals as goal

pub returns-then-not-same_entry : goal.returns-then-not-same_entry
returns-then-not-same_entry c = (
  λ is. absurd cc,
  λ same.
      let within : c.loop-i.i < length c.args.b.now = omega arith in
      sym c.if-not-same_entry.true ∙ c.same_entry.ensures.1 (same_items script_entry c.args.a.now c.args.b.now c.loop-i.i c.index-a-i.result c.index-b-i.result c.loop-i-test.true within c.index-a-i.is c.index-b-i.is same),
)
