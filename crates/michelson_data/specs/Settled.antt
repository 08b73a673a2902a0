-- What becomes of the stack where one value is made of operands on top.
use Rattle.std.specs.Prelude.{List, [], ◌∷◌, ◌++◌, Result, Ok, Err}
use Rattle.value_core.specs.declared.val.Val.{Val}
use Rattle.michelson_data.specs.declared.fault.DataEnd.{DataEnd}
use Rattle.michelson_data.specs.declared.fault.DataEnd.TheVariants as end

-- whether it was made
abbrev pub told : Result Val DataEnd → Result (Unit {0}) DataEnd
told (Ok v) = Ok tt
told (Err e) = Err e

-- the value above what stood below the operands, or that alone; where memory ran out, all as it was
abbrev pub left_by : Result Val DataEnd → List Val → List Val → List Val
left_by (Ok v) below old = below ++ v ∷ []
left_by (Err end.Overflow) below old = below
left_by (Err end.Shift) below old = below
left_by (Err end.TooLarge) below old = below
left_by (Err end.NoMemory) below old = old
