use Rattle.chain_text.proofs.SeenAddresses.{has as has_keys}
use Rattle.chain_text.proofs.seen.Seen.has.Goals as goal

pub returns : goal.returns
returns c =
    let keys = has_keys c.self.inside.addresses.keys c.args.address.now in
    cc (c.contains.ensures, c.self.view_is, keys)
