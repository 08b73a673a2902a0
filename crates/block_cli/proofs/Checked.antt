-- The answer to a text, by what it is found to be.
use Rattle.std.proofs.Common.{◌≡◌, ℕ, List, [], sym, subst}
use Rattle.std.specs.Prelude.{◌≢◌}
use Rattle.michelson_code.specs.declared.script.Script.{Script}
use Rattle.michelson_code.specs.FirstFault.{ScriptFault}
use Rattle.michelson_code.specs.TypedScript.{IsTypedScript}
use Rattle.michelson_reader.specs.declared.fault.ReadFault.{ReadFault}
use Rattle.michelson_reader.specs.declared.fault.ReadFault.TheVariants as read
use Rattle.michelson_reader.specs.Answers.{IsReadFault}
use Rattle.michelson_reader.specs.Script.{IsScriptOf}
use Rattle.michelson_typer.specs.declared.fault.TypeFault.{TypeFault}
use Rattle.michelson_typer.specs.declared.fault.TypeRefusal.{TypeRefusal}
use Rattle.michelson_typer.specs.declared.fault.TypeRefusal.TheVariants as refusal
use Rattle.michelson_typer.specs.Told.{IsTold}
use Rattle.block_cli.specs.declared.status.Status.TheVariants.{BadInput}
use Rattle.block_cli.specs.Answer.{Answer, File, done}
use Rattle.block_cli.specs.Checking.{Checks, MayRun, NoScript, Untyped, typed_line}
use Rattle.block_cli.specs.Commands.{FileName}
use Rattle.block_cli.specs.Faulty.{read_fault, type_fault}
use Rattle.block_cli.specs.Report.{bad_input_line}

-- a line about a bad file
abbrev pub told : List ℕ → Answer
told text = record { status = BadInput; text = text; written = [] }

module _ (code : FileName) (bytes : List ℕ) where
  pub answer_may_run : (given s : Script) (text : List ℕ) (files : List File) → IsScriptOf bytes given → s ≡ given → ∥ IsTypedScript s ∥₁ →
      text ≡ typed_line s → files ≡ [] → Checks code bytes (done text files)
  answer_may_run given s text files is same typed line none =
      (MayRun s, (subst (λ (t : Script). IsScriptOf bytes t) (sym same) is, typed), λ i. done (line i) (none i))

  pub answer_untyped : (s : Script) (r : TypeRefusal) (f : TypeFault) (text : List ℕ) → IsScriptOf bytes s → r ≡ refusal.Fault f → IsTold (ScriptFault s) r →
      text ≡ bad_input_line code (type_fault f.path.items f.kind) → Checks code bytes (told text)
  answer_untyped s r f text is same fault line =
      (Untyped f.path.items f.kind, (s, is, subst (IsTold (ScriptFault s)) same fault), λ i. told (line i))

  pub answer_no_script : (f : ReadFault) (text : List ℕ) → IsReadFault bytes f → f ≢ read.NoMemory →
      text ≡ bad_input_line code (read_fault f) → Checks code bytes (told text)
  answer_no_script f text is other line = (NoScript f, (is, other), λ i. told (line i))
