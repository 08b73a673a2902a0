-- Where reading stops, and at which kind of field.
use Rattle.std.specs.Prelude.{ℕ}

-- a field misses bytes or breaks its rule, or it is lawful and isn't built yet
pub data Kind : Type 0 where
  Faulty : Kind
  NotYet : Kind

-- the kind of the field, and how many bytes are left at its first byte or, for callers of a format, stand before it
pub data Stop : Type 0 where
  Stopped : Kind → ℕ → Stop
