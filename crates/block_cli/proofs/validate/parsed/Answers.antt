use Rattle.std.proofs.Common.{◌≡◌, ℕ, List, subst}
use Rattle.std.specs.Prelude.{IfOk}
use Rattle.plain_ledger.specs.Spelling.{IsLedger, spelling}
use Rattle.block_cli.proofs.Sizes.{few_read}
use Rattle.block_cli.proofs.validate.parsed.Goals as goal

pub returns-clause-few : goal.returns-clause-few
returns-clause-few c = few_read c.args.bytes.items c.read_state.result (subst (λ (b : List ℕ). IfOk c.read_state.result (λ s. IsLedger s × (b ≡ spelling s))) c.deref.ensures.value c.read_state.ensures.found)
