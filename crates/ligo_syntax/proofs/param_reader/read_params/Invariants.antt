use Rattle.std.proofs.Common.{◌≡◌, ◌∷◌, [], ◌-◌, length}
use Rattle.ligo_tokens.specs.declared.token.Kind.TheVariants as kind
use Rattle.ligo_syntax.specs.Reading.{param_at}
use Rattle.ligo_syntax.specs.Readers.{loop}
use Rattle.ligo_syntax.proofs.Turns.{with_front}
use Rattle.ligo_syntax.proofs.param_reader.read_params.Given as goal

abbrev pub invariant-loop : goal.invariant-loop
invariant-loop l =
    with_front l.items (loop (kind.OpenParen ∷ []) (param_at l.depth) (length l.tokens - l.counter) l.rest)
    ≡ loop (kind.OpenParen ∷ []) (param_at l.depth) (length l.tokens) l.tokens
