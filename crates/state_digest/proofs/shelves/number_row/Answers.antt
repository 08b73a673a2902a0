-- The bucket is the cell's own.
use Rattle.std.proofs.Common.{ap, ◌∙◌}
use Rattle.state_digest.specs.Digest.{bucket_of}
use Rattle.state_digest.proofs.shelves.number_row.Goals as goal

pub returns-clause-texts : goal.returns-clause-texts
returns-clause-texts c = λ marks passed hold. c.in_ok-put_row.ensures marks passed (c.in_ok-number.ensures ∙ ap bucket_of c.cell.ensures) hold
