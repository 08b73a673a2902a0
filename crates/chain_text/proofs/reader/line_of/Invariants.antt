-- The contracts that are left have the same line.
use Rattle.std.proofs.Common.{◌≡◌, drop}
use Rattle.chain_text.specs.Reading.{line_at}
use Rattle.chain_text.proofs.reader.line_of.Given as goal

abbrev pub invariant-loop-contract : goal.invariant-loop-contract
invariant-loop-contract l = line_at l.address (drop l.contract-index l.lines) ≡ line_at l.address l.lines
