-- Reading how an operation ended: the tag, the gas and what stands behind them.
use Rattle.std.specs.Prelude.{ℕ, length, Option, Some, None, Err, nat_le, ◌==◌, if◌then◌else◌}
use Rattle.std.specs.Int.{w8, w32}
use Rattle.byte_fields.specs.Stops.{Faulty, Stopped}
use Rattle.byte_fields.specs.Readers.{Reader, given, number, made, checked}
use Rattle.michelson_code.specs.declared.why.Why.{Why}
use Rattle.michelson_code.specs.declared.why.Why.TheVariants as why
use Rattle.op_rules.specs.declared.receipt.Receipt.{Receipt}
use Rattle.block_codec.specs.Fields.{◌>>=◌}
use Rattle.block_codec.specs.Operation.{passed}

-- the tag of an end
abbrev pub tag : Reader ℕ
tag = checked (λ t. nat_le t 14) (number w8)

-- the end that has this tag: behind that of Raised stands a value
abbrev pub end_behind : ℕ → Reader (Option Why)
end_behind t =
    if t == 0 then given None else
    if t == 1 then given (Some why.BalanceTooLow) else
    if t == 2 then given (Some why.NoSuchContract) else
    if t == 3 then given (Some why.NoSuchEntry) else
    if t == 4 then given (Some why.WrongParameter) else
    if t == 5 then made (λ v. Some (why.Raised v)) passed else
    if t == 6 then given (Some why.Overflow) else
    if t == 7 then given (Some why.Shift) else
    if t == 8 then given (Some why.TooLarge) else
    if t == 9 then given (Some why.OutOfGas) else
    if t == 10 then given (Some why.OutOfTurns) else
    if t == 11 then given (Some why.BigMapMoved) else
    if t == 12 then given (Some why.TooManyCells) else
    if t == 13 then given (Some why.TooMuchData) else
    if t == 14 then given (Some why.TooManyCalls) else
    λ bytes. Err (Stopped Faulty (length bytes))

-- how an operation ended, and its gas
unfoldable pub receipt : Reader Receipt
receipt = do
  t ← tag
  gas ← number w32
  end ← end_behind t
  given (record { end = end; gas = gas })
