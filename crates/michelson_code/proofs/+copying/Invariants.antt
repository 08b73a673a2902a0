-- What has been copied so far is the front of the code.
use Rattle.std.proofs.Common.{◌≡◌, take}
use Rattle.michelson_code.proofs.+copying.Given as goal

abbrev pub invariant-copying::copy_code-loop-instr : goal.invariant-copying::copy_code-loop-instr
invariant-copying::copy_code-loop-instr l = l.made ≡ take l.instr-index l.code
