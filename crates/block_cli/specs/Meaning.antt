-- What each command means: its answers to the contents of the files that it reads. It knows no file and no sink.
use Rattle.std.specs.Prelude.{◌≡◌, ℕ, List, [], ◌∷◌, length}
use Rattle.std.specs.List.{AllByRecursion}
use Rattle.byte_fields.specs.Laws.{IsBytes}
use Rattle.block_cli.specs.Commands.{Command, Check, Genesis, Show, Validate, reads}
use Rattle.block_cli.specs.Answer.{Answer, WritesUnder}
use Rattle.block_cli.specs.Validating.{Validates}
use Rattle.block_cli.specs.Checking.{Checks}
use Rattle.block_cli.specs.Genesis.{genesis_answer}
use Rattle.block_cli.specs.Showing.{show_answer}

-- an answer to these contents, which stand in the order of the files
abbrev pub Means : Command → List (List ℕ) → Answer → Type 0
Means (Validate state block next workers) (spelt ∷ bytes ∷ []) answer = Validates state next spelt bytes answer
Means (Validate state block next workers) _ answer = ⊥
Means (Check code) (bytes ∷ []) answer = Checks code bytes answer
Means (Check code) _ answer = ⊥
Means (Genesis text state) (bytes ∷ []) answer = answer ≡ genesis_answer text state bytes
Means (Genesis text state) _ answer = ⊥
Means (Show state) (bytes ∷ []) answer = answer ≡ show_answer state bytes
Means (Show state) _ answer = ⊥

-- every command has an answer to the bytes of all files that it reads
abbrev pub ContentsHaveAnAnswer : Type 0
ContentsHaveAnAnswer =
    (c : Command) (contents : List (List ℕ)) → length contents ≡ length (reads c) → AllByRecursion IsBytes contents →
    (answer : Answer) × Means c contents answer

-- an answer writes each file of its command under Done, and none under any other status
abbrev pub AnswersWriteAllOrNothing : Type 0
AnswersWriteAllOrNothing = (c : Command) (contents : List (List ℕ)) (answer : Answer) → Means c contents answer → WritesUnder c answer.status answer.written
