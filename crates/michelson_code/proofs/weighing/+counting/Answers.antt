-- An instruction counts one more than what stands in its bodies.
use Rattle.std.proofs.Common.{arith}
use Rattle.michelson_code.specs.Shown.{shown}
use Rattle.michelson_code.specs.Inside.{one_count}
use Rattle.michelson_code.proofs.weighing.+counting.Goals as goal

pub count_of_one-returns : goal.count_of_one-returns
count_of_one-returns t c =
    grind (arith, one_count c.args.instr.now (shown c.form_of.result) c.form_of.ensures, c.count_inside.ensures, c.saturating_add.ensures)
