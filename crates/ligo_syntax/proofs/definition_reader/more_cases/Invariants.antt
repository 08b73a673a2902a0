use Rattle.std.proofs.Common.{◌≡◌, ◌∷◌, [], ◌-◌, length}
use Rattle.ligo_tokens.specs.declared.token.Kind.TheVariants as kind
use Rattle.ligo_syntax.specs.Readers.{loop}
use Rattle.ligo_syntax.specs.Phrases.{key}
use Rattle.ligo_syntax.specs.Reading.{type_case_rule}
use Rattle.ligo_syntax.proofs.Turns.{with_front}
use Rattle.ligo_syntax.proofs.definition_reader.more_cases.Given as goal

abbrev pub invariant-loop : goal.invariant-loop
invariant-loop l =
    with_front l.items (loop (kind.Bar ∷ []) (key kind.Bar (type_case_rule l.depth)) (length l.tokens - l.counter) l.rest)
    ≡ loop (kind.Bar ∷ []) (key kind.Bar (type_case_rule l.depth)) (length l.tokens) l.tokens
