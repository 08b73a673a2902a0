-- The script that a text is: one that may run, printed.
use Rattle.std.specs.Prelude.{◌≡◌, ℕ, Bool, true, false, ◌&&◌, ◌⊎◌, bytes_eq, if◌then◌else◌, List, length, Option, Some, None, Ok, Err}
use Rattle.std.proofs.Common.{inl, inr}
use Rattle.micheline_text.specs.declared.node.Node.{Node}
use Rattle.micheline_text.proofs.Answered as texts
use Rattle.michelson_code.specs.declared.script.Script.{Script}
use Rattle.michelson_code.specs.TypedScript.{IsTypedScript}
use Rattle.michelson_code.proofs.DecidedScript.{script_answer}
use Rattle.michelson_reader.specs.Printed.{script_text}
use Rattle.michelson_reader.specs.Script.{IsScriptOf}
use Rattle.michelson_reader.specs.ScriptFaults.{script_read}
use Rattle.michelson_reader.specs.TypeFaults.{Read}

-- which of two answers it is
abbrev pub is_first : {A B : Type 0} → A ⊎ B → Bool
is_first (inl a) = true
is_first (inr b) = false

-- whether a script may run: each script is typed, or else has a fault
unfoldable pub may_run : Script → Bool
may_run s = is_first (script_answer s)

-- what was read, if it was
abbrev pub script_or_none : Read Script → Option Script
script_or_none (Ok s) = Some s
script_or_none (Err fault) = None

-- the script that nodes are read as, where they are those of a text of so many bytes
abbrev pub script_in : {Is : List Node → Type 0} {Fault : Type 0} → ℕ → ((nodes : List Node) × Is nodes) ⊎ Fault → Option Script
script_in end (inl (nodes, is)) = script_or_none (script_read end nodes)
script_in end (inr fault) = None

-- the script that a text is read as: any bytes are a text of nodes, or else have a fault
unfoldable pub read_script_of : List ℕ → Option Script
read_script_of text = script_in (length text) (texts.either text)

-- the script, if this is its printed text and it may run
abbrev pub printed_as : List ℕ → Option Script → Option Script
printed_as text None = None
printed_as text (Some s) = if bytes_eq (script_text s) text && may_run s then Some s else None

-- the script that a text is
unfoldable pub script_of : List ℕ → Option Script
script_of text = printed_as text (read_script_of text)

-- the script may run, this is its printed text, and the text is read as it
pub record IsPrinted (text : List ℕ) (s : Script) : Type 0 where
  pub typed : ∥ IsTypedScript s ∥₁
  pub printed : script_text s ≡ text
  pub read : IsScriptOf text s
