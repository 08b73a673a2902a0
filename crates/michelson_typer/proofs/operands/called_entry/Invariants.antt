-- The entry of the name is that among the names that are left.
use Rattle.std.proofs.Common.{◌≡◌, drop}
use Rattle.std.specs.Option.{option_and_then}
use Rattle.michelson_code.specs.Entries.{entry_type, path_of, type_at}
use Rattle.michelson_code.specs.Typing.{called}
use Rattle.michelson_typer.proofs.operands.called_entry.Given as goal

abbrev pub invariant-loop-entry : goal.invariant-loop-entry
invariant-loop-entry l =
    entry_type l.script (called l.name) ≡
    option_and_then (λ path. type_at path l.script.param) (path_of (called l.name) (drop l.entry-index l.entry-items))
