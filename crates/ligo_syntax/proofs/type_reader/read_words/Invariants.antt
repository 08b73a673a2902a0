use Rattle.std.proofs.Common.{◌≡◌, ◌-◌, ◌≤◌, length}
use Rattle.ligo_syntax.specs.Classes.{postfix_kinds}
use Rattle.ligo_syntax.specs.Depth.{type_depth}
use Rattle.ligo_syntax.specs.Readers.{links}
use Rattle.ligo_syntax.specs.TypeReading.{token}
use Rattle.ligo_syntax.specs.TypeTrees.{postfixed}
use Rattle.ligo_syntax.proofs.type_reader.read_words.Given as goal

abbrev pub invariant-loop : goal.invariant-loop
invariant-loop l =
    (links type_depth l.depth postfixed postfix_kinds (token postfix_kinds) (length l.tokens - l.counter) l.made l.rest
    ≡ links type_depth l.depth postfixed postfix_kinds (token postfix_kinds) (length l.tokens) l.fn.first l.tokens)
    × (l.made.depth ≤ l.depth)
