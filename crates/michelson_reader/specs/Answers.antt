-- What a call returned, beside what a definition says.
use Rattle.std.specs.Prelude.{ℕ, List, length, Option, None, Some}
use Rattle.micheline_text.specs.declared.node.Node.{Node}
use Rattle.micheline_text.specs.Faults.{IsFaultOf}
use Rattle.micheline_text.specs.Text.{IsTextOf}
use Rattle.michelson_reader.specs.declared.fault.ReadFault.{ReadFault}
use Rattle.michelson_reader.specs.declared.fault.ReadFault.TheVariants as fault
use Rattle.michelson_reader.specs.FirstFault.{IsScriptFault}

-- the fault that is told, and none where memory ran out
abbrev pub read_fault : ReadFault → Option ReadFault
read_fault fault.NoMemory = None
read_fault f = Some f

-- a fault of the text itself, which is never want of memory, or else the first one of its nodes as a script
abbrev pub IsReadFault : List ℕ → ReadFault → Type 0
IsReadFault bytes fault.NoMemory = Unit {0}
IsReadFault bytes (fault.Text f) = IsFaultOf bytes f
IsReadFault bytes f = (ns : List Node) × IsTextOf bytes ns × IsScriptFault (length bytes) ns f
