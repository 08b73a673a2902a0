use Rattle.std.proofs.Common.{◌≡◌, ◌-◌, length}
use Rattle.ligo_syntax.specs.Classes.{decl_firsts}
use Rattle.ligo_syntax.specs.Reading.{decl_at}
use Rattle.ligo_syntax.specs.Readers.{loop}
use Rattle.ligo_syntax.proofs.Turns.{with_front}
use Rattle.ligo_syntax.proofs.decl_reader.read_decls.Given as goal

abbrev pub invariant-loop : goal.invariant-loop
invariant-loop l =
    with_front l.items (loop decl_firsts (decl_at l.depth) (length l.tokens - l.counter) l.rest)
    ≡ loop decl_firsts (decl_at l.depth) (length l.tokens) l.tokens
