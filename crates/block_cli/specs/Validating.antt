-- What `validate` means: the answer to the bytes of a state and of a block.
use Rattle.std.specs.Prelude.{◌≡◌, ℕ, List, [], ◌∷◌, Result, Ok, Err}
use Rattle.byte_fields.specs.Stops.{Stop}
use Rattle.byte_fields.specs.Stops as stops
use Rattle.plain_ledger.specs.Ledger.{Ledger}
use Rattle.plain_ledger.specs.Spelling.{spelling}
use Rattle.plain_ledger.specs.Reading.{ledger_of}
use Rattle.block_cli.specs.Commands.{FileName}
use Rattle.block_cli.specs.Report.{accepted_line, malformed, not_yet, refusal_text}
use Rattle.block_cli.specs.Answer.{Answer, done, bad_input, refused}
use Rattle.block_cli.specs.Verdict.{Verdict, Refused, Accepted, IsVerdict}

-- a verdict's answer: NEXT is written exactly where the block is accepted
abbrev pub answer_to : FileName → Verdict → Answer
answer_to next (Refused why) = refused (refusal_text why)
answer_to next (Accepted s) = done (accepted_line s) ((next, spelling s) ∷ [])

-- the answer to a state that is read so, and to the bytes of a block
abbrev pub ValidatesOn : FileName → FileName → Result Ledger Stop → List ℕ → Answer → Type 0
ValidatesOn state next (Err (stops.Stopped stops.Faulty p)) block answer = answer ≡ bad_input state (malformed p)
ValidatesOn state next (Err (stops.Stopped stops.NotYet p)) block answer = answer ≡ bad_input state (not_yet p)
ValidatesOn state next (Ok s) block answer = (v : Verdict) × IsVerdict s block v × (answer ≡ answer_to next v)

-- the answer to the bytes of STATE and of BLOCK, which names STATE where that is at fault
abbrev pub Validates : FileName → FileName → List ℕ → List ℕ → Answer → Type 0
Validates state next spelt block answer = ValidatesOn state next (ledger_of spelt) block answer
