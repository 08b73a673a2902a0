use Rattle.std.proofs.Common.{ap, ◌∙◌}
use Rattle.std.specs.FinSet.{from_list, insert}
use Rattle.chain_text.proofs.SeenAddresses.{more}
use Rattle.chain_text.proofs.seen.Seen.add.Goals as goal

pub returns-clause-added : goal.returns-clause-added
returns-clause-added c =
    ap from_list c.in_ok-insert.ensures.keys
    ∙ more c.self.inside.addresses.keys c.args.address
    ∙ ap (λ s. insert s c.args.address) c.self.view_is
