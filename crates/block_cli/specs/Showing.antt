-- What `show` means: the answer to the bytes of a state.
use Rattle.std.specs.Prelude.{ℕ, List, [], Result, Ok, Err}
use Rattle.byte_fields.specs.Stops.{Stop, Stopped}
use Rattle.ledger_state.specs.Ledger.{Ledger}
use Rattle.ledger_state.specs.Reading.{ledger_of}
use Rattle.chain_text.specs.Printed.{genesis_text}
use Rattle.block_cli.specs.Commands.{FileName}
use Rattle.block_cli.specs.Report.{malformed}
use Rattle.block_cli.specs.Answer.{Answer, done, bad_input}

-- the answer to a state that is read so
abbrev pub showing : FileName → Result Ledger Stop → Answer
showing state (Ok s) = done (genesis_text s) []
showing state (Err (Stopped kind p)) = bad_input state (malformed p)

-- the answer to the bytes of STATE
abbrev pub show_answer : FileName → List ℕ → Answer
show_answer state bytes = showing state (ledger_of bytes)
