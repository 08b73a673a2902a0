-- No file so far is too long.
use Rattle.std.proofs.Common.{◌≡◌, None, take}
use Rattle.block_cli.specs.Answer.{first_too_long}
use Rattle.block_cli.specs.Inside.{files_in}
use Rattle.block_cli.proofs.output.first_too_long.Given as goal

abbrev pub invariant-loop-file : goal.invariant-loop-file
invariant-loop-file l = first_too_long (take l.file-index (files_in l.written)) ≡ None
