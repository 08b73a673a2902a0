-- What a call refused, beside what a definition says.
use Rattle.std.specs.Prelude.{Option, None, Some}
use Rattle.data_nodes.specs.declared.fault.DataFault.{DataFault}
use Rattle.data_nodes.specs.declared.fault.DataRefusal.{DataRefusal}
use Rattle.data_nodes.specs.declared.fault.DataRefusal.TheVariants.{Fault, NoMemory}

-- the fault of a node that is told, and none where memory ran out
abbrev pub node_fault : DataRefusal → Option DataFault
node_fault NoMemory = None
node_fault (Fault fault) = Some fault

-- this holds of the fault that is told, unless memory ran out
abbrev pub Tells : (DataFault → Type 0) → DataRefusal → Type 0
Tells Holds NoMemory = Unit {0}
Tells Holds (Fault fault) = Holds fault
