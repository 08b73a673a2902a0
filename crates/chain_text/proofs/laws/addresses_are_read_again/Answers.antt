-- By the digits of each byte.
use Rattle.chain_text.proofs.AddressLemmas.{read_again}
use Rattle.chain_text.proofs.laws.addresses_are_read_again.Goals as goal

pub returns : goal.returns
returns c = read_again
