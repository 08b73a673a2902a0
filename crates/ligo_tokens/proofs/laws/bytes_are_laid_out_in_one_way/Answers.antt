-- What is read of bytes is how they are laid out.
use Rattle.std.proofs.Common.{suc, length, arith}
use Rattle.ligo_tokens.proofs.LayoutLaws.{laid_as_read, read_as_laid}
use Rattle.ligo_tokens.proofs.laws.bytes_are_laid_out_in_one_way.Goals as goal

pub returns-clause-laid : goal.returns-clause-laid
returns-clause-laid c = λ bytes. laid_as_read (suc (length bytes)) 0 bytes (omega arith)

pub returns-clause-only : goal.returns-clause-only
returns-clause-only c = λ bytes ts. read_as_laid ts 0 bytes
