use Rattle.std.proofs.Common.{◌≡◌, ◌-◌, suc, arith}
use Rattle.ligo_syntax.proofs.LevelTurns.{arm_pattern_is}
use Rattle.ligo_syntax.proofs.arm_reader.read_arm_pattern.Goals as goal

pub returns-clause-read : goal.returns-clause-read
returns-clause-read c =
    let left : c.args.depth ≡ suc (c.args.depth - 1) = omega (arith, c.if-depth-eq0.false) in
    rw (arm_pattern_is c.args.depth (c.args.depth - 1) c.args.tokens.now left) c.arm_pattern.ensures.read
