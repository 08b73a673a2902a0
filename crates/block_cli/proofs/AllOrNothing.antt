-- An answer writes each file of its command under Done, and none under any other status.
use Rattle.std.proofs.Common.{◌≡◌, ℕ, ◌^◌, Bool, true, false, List, [], ◌∷◌, Option, Some, None, Result, Ok, Err, refl, sym, subst, inl, inr}
use Rattle.std.specs.Prelude.{nat_lt, if◌then◌else◌}
use Rattle.std.specs.FinMap.{len}
use Rattle.byte_fields.specs.Stops.{Stop}
use Rattle.byte_fields.specs.Stops as stops
use Rattle.edge_io.specs.Outside.{Outside}
use Rattle.plain_ledger.specs.Ledger.{Ledger}
use Rattle.plain_ledger.specs.Reading.{ledger_of}
use Rattle.ledger_state.specs.Ledger.{Ledger as State}
use Rattle.ledger_state.specs.Spelling.{spelling}
use Rattle.ledger_state.specs.Reading.{ledger_of as state_of}
use Rattle.state_digest.specs.Digest.{digest_of}
use Rattle.chain_text.specs.declared.fault.ChainFault.{ChainFault}
use Rattle.chain_text.specs.Reading.{genesis_of}
use Rattle.block_cli.specs.Commands.{FileName, Command, Check, Genesis, Show, Validate}
use Rattle.block_cli.specs.Report.{malformed, not_yet, state_line}
use Rattle.block_cli.specs.Answer.{File, Answer, bad_input, done, first_too_long, limited_by, limited, too_long, WritesUnder}
use Rattle.block_cli.specs.Verdict.{Verdict, Refused, Accepted}
use Rattle.block_cli.specs.Validating.{answer_to, ValidatesOn}
use Rattle.block_cli.specs.Checking.{Finding, MayRun, NoScript, Untyped, answer_of}
use Rattle.block_cli.specs.Genesis.{founding, genesis_answer}
use Rattle.block_cli.specs.Showing.{show_answer, showing}
use Rattle.block_cli.specs.Meaning.{Means}
use Rattle.block_cli.specs.Runs.{Answered}

-- the answer is this one
is_one : (c : Command) (answer one : Answer) → answer ≡ one → WritesUnder c one.status one.written → WritesUnder c answer.status answer.written
is_one c answer one e h = subst (λ (a : Answer). WritesUnder c a.status a.written) (sym e) h

by_verdict : (state block next : FileName) (workers : ℕ) (v : Verdict) → WritesUnder (Validate state block next workers) (answer_to next v).status (answer_to next v).written
by_verdict state block next workers (Refused why) = refl
by_verdict state block next workers (Accepted s) = refl

by_state : (state block next : FileName) (workers : ℕ) (read : Result Ledger Stop) (bytes : List ℕ) (answer : Answer) → ValidatesOn state next read bytes answer → WritesUnder (Validate state block next workers) answer.status answer.written
by_state state block next workers (Ok s) bytes answer (v, is, e) = is_one (Validate state block next workers) answer (answer_to next v) e (by_verdict state block next workers v)
by_state state block next workers (Err (stops.Stopped stops.Faulty p)) bytes answer e = is_one (Validate state block next workers) answer (bad_input state (malformed p)) e refl
by_state state block next workers (Err (stops.Stopped stops.NotYet p)) bytes answer e = is_one (Validate state block next workers) answer (bad_input state (not_yet p)) e refl

by_finding : (code : FileName) (found : Finding) → WritesUnder (Check code) (answer_of code found).status (answer_of code found).written
by_finding code (NoScript f) = refl
by_finding code (Untyped path k) = refl
by_finding code (MayRun s) = refl

by_size : (text state : FileName) (line bytes : List ℕ) (few : Bool) →
    WritesUnder (Genesis text state) (if few then done line ((state, bytes) ∷ []) else too_long state).status (if few then done line ((state, bytes) ∷ []) else too_long state).written
by_size text state line bytes true = refl
by_size text state line bytes false = refl

by_text : (text state : FileName) (read : Result State ChainFault) → WritesUnder (Genesis text state) (founding text state read).status (founding text state read).written
by_text text state (Ok s) = by_size text state (state_line (digest_of s)) (spelling s) (nat_lt (len s.cells) (2 ^ 32))
by_text text state (Err fault) = refl

by_shown : (state : FileName) (read : Result State Stop) → WritesUnder (Show state) (showing state read).status (showing state read).written
by_shown state (Ok s) = refl
by_shown state (Err (stops.Stopped kind p)) = refl

pub all_or_nothing : (c : Command) (contents : List (List ℕ)) (answer : Answer) → Means c contents answer → WritesUnder c answer.status answer.written
all_or_nothing (Validate state block next workers) (spelt ∷ bytes ∷ []) answer means = by_state state block next workers (ledger_of spelt) bytes answer means
all_or_nothing (Validate state block next workers) [] answer means = absurd means
all_or_nothing (Validate state block next workers) (x ∷ []) answer means = absurd means
all_or_nothing (Validate state block next workers) (x ∷ y ∷ z ∷ zs) answer means = absurd means
all_or_nothing (Check code) (bytes ∷ []) answer (found, is, e) = is_one (Check code) answer (answer_of code found) e (by_finding code found)
all_or_nothing (Check code) [] answer means = absurd means
all_or_nothing (Check code) (x ∷ y ∷ zs) answer means = absurd means
all_or_nothing (Genesis text state) (bytes ∷ []) answer means = is_one (Genesis text state) answer (genesis_answer text state bytes) means (by_text text state (genesis_of bytes))
all_or_nothing (Genesis text state) [] answer means = absurd means
all_or_nothing (Genesis text state) (x ∷ y ∷ zs) answer means = absurd means
all_or_nothing (Show state) (bytes ∷ []) answer means = is_one (Show state) answer (show_answer state bytes) means (by_shown state (state_of bytes))
all_or_nothing (Show state) [] answer means = absurd means
all_or_nothing (Show state) (x ∷ y ∷ zs) answer means = absurd means

-- the limit of a file's length leaves it so
limits : (c : Command) (answer : Answer) (file : Option File) → WritesUnder c answer.status answer.written → WritesUnder c (limited_by answer file).status (limited_by answer file).written
limits c answer None h = h
limits c answer (Some file) h = refl

pub answered_writes : (c : Command) (answer : Answer) (old new : Outside) → Answered c answer old new → WritesUnder c answer.status answer.written
answered_writes c answer old new (inl of) = is_one c answer (limited of.meant) of.is (limits c of.meant (first_too_long of.meant.written) (all_or_nothing c of.contents of.meant of.means))
answered_writes c answer old new (inr of) = is_one c answer _ of.is refl
