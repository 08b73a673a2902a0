use Rattle.std.proofs.Common.{◌≡◌, map, take}
use Rattle.ligo_tokens.specs.declared.token.Token.{Token}
use Rattle.ligo_syntax.specs.ProgramTrees.{attribute_of}
use Rattle.ligo_syntax.proofs.decl_reader.attributes.Given as goal

abbrev pub invariant-loop-mark : goal.invariant-loop-mark
invariant-loop-mark l = l.all ≡ map (λ (m : Token). attribute_of m.kind) (take l.mark-index l.marks)
