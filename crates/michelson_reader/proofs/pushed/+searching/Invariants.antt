-- What is found is found in what is left.
use Rattle.std.proofs.Common.{◌≡◌, drop, map}
use Rattle.michelson_reader.specs.CodeFaults.{first_found, left_out_in}
use Rattle.michelson_reader.proofs.pushed.+searching.Given as goal

abbrev pub invariant-first_left_out-loop-node : goal.invariant-first_left_out-loop-node
invariant-first_left_out-loop-node l = first_found (map left_out_in (drop l.node-index l.nodes)) ≡ first_found (map left_out_in l.nodes)
