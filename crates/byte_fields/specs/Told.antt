-- What a function of the program answers, against what its reader reads.
use Rattle.std.specs.Prelude.{◌≡◌, ℕ, ◌-◌, length, Option, Some, None, Result, Ok, Err}
use Rattle.byte_fields.specs.declared.fault.Left.{Left}
use Rattle.byte_fields.specs.declared.fault.ReadStop.{ReadStop}
use Rattle.byte_fields.specs.declared.fault.ReadStop.TheVariants as stops
use Rattle.byte_fields.specs.declared.fault.FieldFault.{FieldFault}
use Rattle.byte_fields.specs.declared.fault.FieldFault.TheVariants as faults
use Rattle.byte_fields.specs.Stops.{Faulty, Stop, Stopped}
use Rattle.byte_fields.specs.Readers.{Read}

-- ---- the stop that an answer tells, and none where memory ran out

-- of what takes no memory: always a faulty field
abbrev pub left_stop : Left → Stop
left_stop left = Stopped Faulty left.0

-- of what takes memory
abbrev pub read_stop : ReadStop → Option Stop
read_stop stops.NoMemory = None
read_stop (stops.Left n) = Some (Stopped Faulty n)

-- for callers of a format, by its place
abbrev pub field_fault : FieldFault → Option Stop
field_fault faults.NoMemory = None
field_fault (faults.At at) = Some (Stopped Faulty at.0)

-- ---- answers

-- seen by view, the answer is what is wanted, and so is its stop
abbrev pub Answers : {X Y E : Type 0} → (E → Stop) → (X → Y) → Result X E → Result Y Stop → Type 0
Answers stop view (Ok x) wanted = wanted ≡ Ok (view x)
Answers stop view (Err e) wanted = wanted ≡ Err (stop e)

-- the stop, where there is one, is what is wanted
abbrev pub IsStop : {Y : Type 0} → Option Stop → Result Y Stop → Type 0
IsStop None wanted = Unit {0}
IsStop (Some stop) wanted = wanted ≡ Err stop

-- the same as `Answers`, unless memory ran out
abbrev pub AnswersUnlessFull : {X Y E : Type 0} → (E → Option Stop) → (X → Y) → Result X E → Result Y Stop → Type 0
AnswersUnlessFull stop view (Ok x) wanted = wanted ≡ Ok (view x)
AnswersUnlessFull stop view (Err e) wanted = IsStop (stop e) wanted

-- ---- places

-- the stop of so many bytes, by its place
abbrev pub place_of : ℕ → Stop → Stop
place_of total (Stopped kind left) = Stopped kind (total - left)

-- what is read of so many bytes and the place after it, or the stop by its place
abbrev pub placed : {A : Type 0} → ℕ → Read A → Result (A × ℕ) Stop
placed total (Ok x) = Ok (x.0, total - length x.1)
placed total (Err stop) = Err (place_of total stop)

-- what is read of so many bytes without what is left, or the stop by its place
abbrev pub alone : {A : Type 0} → ℕ → Read A → Result A Stop
alone total (Ok x) = Ok x.0
alone total (Err stop) = Err (place_of total stop)

-- the fault that a stop is in so many bytes
abbrev pub fault_of : ℕ → ReadStop → FieldFault
fault_of total stops.NoMemory = faults.NoMemory
fault_of total (stops.Left n) = faults.At (record { 0 = total - n })
