-- What `check` means: the answer to the bytes of a script's text.
use Rattle.std.specs.Prelude.{◌≡◌, ◌≢◌, ℕ, List, [], ◌++◌, codes}
use Rattle.std.specs.Fmt.{decimal}
use Rattle.michelson_code.specs.declared.script.Script.{Script}
use Rattle.michelson_code.specs.declared.type_fault.TypeKind.{TypeKind}
use Rattle.michelson_code.specs.FirstFault.{ScriptFault}
use Rattle.michelson_code.specs.TypedScript.{IsTypedScript}
use Rattle.michelson_code.specs.Weight.{code_count, code_weight}
use Rattle.michelson_reader.specs.declared.fault.ReadFault.{ReadFault}
use Rattle.michelson_reader.specs.declared.fault.ReadFault.TheVariants as read
use Rattle.michelson_reader.specs.Answers.{IsReadFault}
use Rattle.michelson_reader.specs.Script.{IsScriptOf}
use Rattle.block_cli.specs.Commands.{FileName}
use Rattle.block_cli.specs.Report.{line}
use Rattle.block_cli.specs.Faulty.{read_fault, type_fault}
use Rattle.block_cli.specs.Answer.{Answer, done, bad_input}

-- what a text is found to be: no script, a script that isn't typed, or one that may run
pub data Finding : Type 0 where
  NoScript : ReadFault → Finding
  Untyped : List ℕ → TypeKind → Finding
  MayRun : Script → Finding

-- the bytes are so
abbrev pub IsFinding : List ℕ → Finding → Type 0
IsFinding bytes (NoScript fault) = IsReadFault bytes fault × (fault ≢ read.NoMemory)
IsFinding bytes (Untyped path kind) = (s : Script) × IsScriptOf bytes s × ScriptFault s path kind
IsFinding bytes (MayRun s) = IsScriptOf bytes s × ∥ IsTypedScript s ∥₁

-- what the code costs once through, and how many instructions it has
abbrev pub typed_line : Script → List ℕ
typed_line s = line (codes "ok: weight " ++ decimal (code_weight s.code) ++ codes ", instructions " ++ decimal (code_count s.code))

-- a finding's answer, which names CODE where that is at fault
abbrev pub answer_of : FileName → Finding → Answer
answer_of code (NoScript fault) = bad_input code (read_fault fault)
answer_of code (Untyped path kind) = bad_input code (type_fault path kind)
answer_of code (MayRun s) = done (typed_line s) []

-- the answer to the bytes of CODE
abbrev pub Checks : FileName → List ℕ → Answer → Type 0
Checks code bytes answer = (found : Finding) × IsFinding bytes found × (answer ≡ answer_of code found)

-- any bytes are found to be something, and in one way
abbrev pub HaveAFinding : Type 0
HaveAFinding = (bytes : List ℕ) → (found : Finding) × IsFinding bytes found

abbrev pub HaveOneFinding : Type 0
HaveOneFinding = (bytes : List ℕ) (found other : Finding) → IsFinding bytes found → IsFinding bytes other → found ≡ other
