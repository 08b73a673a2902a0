-- The number with which the process ends, by the status of the run.
use Rattle.std.specs.Prelude.{ℕ}
use Rattle.block_cli.specs.declared.status.Status.{Status}
use Rattle.block_cli.specs.declared.status.Status.TheVariants.{Done, Refused, Usage, ReadFault, WriteFault, NoMemory, BadInput}

abbrev pub exit_number : Status → ℕ
exit_number Done = 0
exit_number Refused = 1
exit_number Usage = 2
exit_number ReadFault = 3
exit_number WriteFault = 4
exit_number NoMemory = 5
exit_number BadInput = 6
