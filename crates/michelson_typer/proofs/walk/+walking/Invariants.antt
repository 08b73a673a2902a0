-- What is read of the code so far is typed. Each call is of fewer instructions, or of less of what holds them.
use Rattle.std.proofs.Common.{◌≡◌, ◌+◌, ◌*◌, true, take, sum_by}
use Rattle.michelson_code.specs.Typing.{CodeTyped}
use Rattle.michelson_code.specs.Weight.{code_count, count_of}
use Rattle.michelson_typer.specs.Closed.{end_at, end_of, is_end_in}
use Rattle.michelson_typer.specs.Opened.{body_list}
use Rattle.michelson_typer.specs.Tables.{Grows, types_at}
use Rattle.michelson_typer.proofs.walk.+walking.Given as goal

abbrev pub invariant-code_ends-loop-number : goal.invariant-code_ends-loop-number
invariant-code_ends-loop-number l =
    Grows l.fn.types l.types
    × (CodeTyped l.script l.aside (take l.number l.code) (types_at l.fn.types l.stack) (end_at l.types (end_of l.ends))
    × (is_end_in l.types (end_of l.ends) ≡ true))

abbrev pub decreases-code_ends : goal.decreases-code_ends
decreases-code_ends l = 5 * code_count l.code.now + 2

abbrev pub decreases-instr_ends : goal.decreases-instr_ends
decreases-instr_ends l = 5 * count_of l.instr.now + 1

abbrev pub decreases-around : goal.decreases-around
decreases-around l = 5 * count_of l.instr.now

abbrev pub decreases-body_ends : goal.decreases-body_ends
decreases-body_ends l = 5 * sum_by code_count (body_list l.bodies) + 4

abbrev pub decreases-body_end : goal.decreases-body_end
decreases-body_end l = 5 * code_count l.code.now + 3
