-- The stops that answers about formats tell, and none where memory ran out.
use Rattle.std.specs.Prelude.{ℕ, ◌-◌, Option, Some, None}
use Rattle.byte_fields.specs.declared.fault.ReadStop.{ReadStop}
use Rattle.byte_fields.specs.declared.fault.ReadStop.TheVariants as reads
use Rattle.byte_fields.specs.Stops.{Faulty, NotYet, Stop, Stopped}
use Rattle.cell_names.specs.declared.fault.FieldStop.{FieldStop}
use Rattle.cell_names.specs.declared.fault.FieldStop.TheVariants as fields
use Rattle.cell_names.specs.declared.fault.FormatStop.{FormatStop}
use Rattle.cell_names.specs.declared.fault.FormatStop.TheVariants as stops
use Rattle.cell_names.specs.declared.fault.FormatFault.{FormatFault}
use Rattle.cell_names.specs.declared.fault.FormatFault.TheVariants as faults

-- ---- what an answer tells

-- of what takes no memory
abbrev pub field_stop : FieldStop → Stop
field_stop (fields.Left n) = Stopped Faulty n
field_stop (fields.NotYet n) = Stopped NotYet n

-- of what takes memory
abbrev pub format_stop : FormatStop → Option Stop
format_stop stops.NoMemory = None
format_stop (stops.Left n) = Some (Stopped Faulty n)
format_stop (stops.NotYet n) = Some (Stopped NotYet n)

-- for callers of a format, by its place
abbrev pub format_fault : FormatFault → Option Stop
format_fault faults.NoMemory = None
format_fault (faults.At at) = Some (Stopped Faulty at.0)
format_fault (faults.NotYet place) = Some (Stopped NotYet place)

-- ---- what one kind of stop is as another

-- of what takes no memory, as one of what does
abbrev pub of_field : FieldStop → FormatStop
of_field (fields.Left n) = stops.Left n
of_field (fields.NotYet n) = stops.NotYet n

-- of a format that is all built
abbrev pub of_read : ReadStop → FormatStop
of_read reads.NoMemory = stops.NoMemory
of_read (reads.Left n) = stops.Left n

-- the fault that a stop is in so many bytes
abbrev pub fault_of : ℕ → FormatStop → FormatFault
fault_of total stops.NoMemory = faults.NoMemory
fault_of total (stops.Left n) = faults.At (record { 0 = total - n })
fault_of total (stops.NotYet n) = faults.NotYet (total - n)
