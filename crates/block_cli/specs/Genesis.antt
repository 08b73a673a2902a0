-- What `genesis` means: the answer to the bytes of a state's text.
use Rattle.std.specs.Prelude.{ℕ, List, Result, Ok, Err}
use Rattle.ledger_state.specs.Ledger.{Ledger}
use Rattle.state_digest.specs.Digest.{digest_of}
use Rattle.chain_text.specs.declared.fault.ChainFault.{ChainFault}
use Rattle.chain_text.specs.Reading.{genesis_of}
use Rattle.block_cli.specs.Commands.{FileName}
use Rattle.block_cli.specs.Report.{state_line}
use Rattle.block_cli.specs.Faulty.{chain_fault}
use Rattle.block_cli.specs.Answer.{Answer, bad_input, saving}

-- the answer to a text that says this state, or has this first fault
abbrev pub founding : FileName → FileName → Result Ledger ChainFault → Answer
founding text state (Ok s) = saving (state_line (digest_of s)) state s
founding text state (Err fault) = bad_input text (chain_fault fault)

-- the answer to the bytes of TEXT: STATE is written exactly where they say a state
abbrev pub genesis_answer : FileName → FileName → List ℕ → Answer
genesis_answer text state bytes = founding text state (genesis_of bytes)
