-- What an instruction weighs is its cost and the weight of its bodies.
use Rattle.std.proofs.Common.{arith}
use Rattle.michelson_code.specs.Shown.{shown}
use Rattle.michelson_code.specs.Inside.{one_weight}
use Rattle.michelson_code.proofs.weighing.+weighing.Goals as goal

pub weight_of_one-returns : goal.weight_of_one-returns
weight_of_one-returns t c =
    grind (arith, one_weight c.args.instr.now (shown c.form_of-form.result) c.form_of-form.ensures, c.weight_inside.ensures, c.saturating_add.ensures)
