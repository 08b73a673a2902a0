-- The first cell, and those that fill the shelf.
use Rattle.std.proofs.Common.{[], ◌∷◌, ◌++◌, ap, refl, ◌∙◌}
use Rattle.std.specs.Option.{option_copied}
use Rattle.state_digest.specs.Digest.{bucket_of}
use Rattle.state_digest.proofs.Passing.{on_shelf}
use Rattle.state_digest.proofs.shelves.next_shelf.Goals as goal

pub returns : goal.returns
returns c =
    on_shelf (option_copied c.args.bound) c.in-Some.row c.args.rows.now c.next_under.new.self c.fill.new.rows c.args.buckets.now c.number_row.new.buckets c.fill.new.buckets
    c.number_row.new.numbers.items c.fill.new.numbers.items (record { first = c.in_ok-first.first; numbers = c.fill.new.numbers })
    c.in-Some.ensures.row.0 c.in-Some.ensures.row.1 c.in_ok-number_row.ensures.texts
    (c.in_ok-number_row.ensures.numbers ∙ ap (λ l. l ++ bucket_of c.in-Some.row.0 ∷ []) c.new-numbers.ensures.items)
    c.in_ok-fill.ensures (c.in_ok-first.ensures ∙ c.cell.ensures) refl
