use Rattle.std.proofs.Common.{◌≡◌, ◌-◌, length}
use Rattle.ligo_syntax.specs.Classes.{name_kinds}
use Rattle.ligo_syntax.specs.Phrases.{semicolons}
use Rattle.ligo_syntax.specs.Reading.{type_field_rule}
use Rattle.ligo_syntax.proofs.Turns.{with_front}
use Rattle.ligo_syntax.proofs.definition_reader.more_fields.Given as goal

abbrev pub invariant-loop : goal.invariant-loop
invariant-loop l =
    with_front l.items (semicolons name_kinds (type_field_rule l.depth) (length l.tokens - l.counter) l.rest)
    ≡ semicolons name_kinds (type_field_rule l.depth) (length l.tokens) l.tokens
