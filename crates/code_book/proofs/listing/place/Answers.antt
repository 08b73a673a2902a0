-- A binary search among ascending addresses finds the place or the gap.
use Rattle.std.proofs.Common.{rules}
use Rattle.std.proofs.lemmas.Fn.{always_returns_same}
use Rattle.value_core.proofs.PlaceLemmas.{stands, sorted_by}
use Rattle.code_book.proofs.Rows.{by_bytes, total, ties}
use Rattle.code_book.proofs.listing.place.Goals as goal

pub returns : goal.returns
returns c =
    stands total ties (λ e. e.0) c.args.row.now c.args.a.now c.binary_search_by.result (sorted_by total c.args.row.now c.requires) c.binary_search_by.ensures.bound
    (c.binary_search_by.ensures.position (λ e. by_bytes e.0 c.args.a.now) (always_returns_same _ _ _ (λ a r f' k. search rules)))
