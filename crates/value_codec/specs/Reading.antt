-- Reading values: which bytes are read, and where the fault of others is.
use Rattle.std.specs.Prelude.{ℕ, zero, suc, ℤ, pos, ◌^◌, ◌&&◌, List, length, Bool, true, false, Option, Some, None, Err, nat_lt, nat_le, int_le, ◌==◌, if◌then◌else◌}
use Rattle.std.specs.Int.{w8, w32, w64, w128}
use Rattle.byte_fields.specs.Stops.{Faulty, Stopped}
use Rattle.byte_fields.specs.Readers.{Reader, given, made, both, with, checked, chained, many, run, number, signed, tagged}
use Rattle.value_core.specs.declared.val.Val.{Val}
use Rattle.value_core.specs.declared.val.Val.TheVariants as variant
use Rattle.value_core.specs.Lawful.{is_number}
use Rattle.value_core.specs.Leaves.{is_text, is_blob, is_address}
use Rattle.value_core.specs.Lasts.{is_above}

-- a number in sixteen bytes
abbrev pub num : Reader ℤ
num = checked is_number (signed w128)

-- a number that is not below 0
abbrev pub nat : Reader ℤ
nat = checked (λ n. int_le (pos 0) n) num

-- an amount below 2^63
abbrev pub mutez : Reader ℕ
mutez = checked (λ n. nat_lt n (2 ^ 63)) (number w64)

-- the length of a text
abbrev pub text_length : Reader ℕ
text_length = checked (λ n. nat_le n 131071) (number w32)

-- a length, and so many bytes that pass a test: two fields
abbrev pub measured : (List ℕ → Bool) → Reader (List ℕ)
measured test = with text_length (λ n. checked test (run n))

-- an address is one field
abbrev pub address : Reader (List ℕ)
address = checked is_address (run 22)

-- the place of a big map
abbrev pub place : Reader ℕ
place = checked (λ n. nat_lt n 16) (number w8)

-- items that ascend; one that doesn't is told at its tag, once it is read
abbrev pub ascending : Reader Val → Option Val → ℕ → Reader (List Val)
ascending read = chained (λ last. checked (is_above last) read) (λ last v. Some v)

-- entries whose keys ascend; a key that doesn't is told at its tag, before its value is read
abbrev pub entries : Reader Val → Option Val → ℕ → Reader (List (Val × Val))
entries read = chained (λ last. both (checked (is_above last) read) read) (λ last e. Some e.0)

-- the tags of values, up to the greatest that may stand
abbrev pub is_tag : ℕ → ℕ → Bool
is_tag most t = nat_le t most && nat_le t 18

-- what stands behind each tag, where each part is read by `read`
abbrev pub behind : Reader Val → ℕ → Reader Val
behind read t =
    if t == 0 then given variant.Unit else
    if t == 1 then given (variant.Bool false) else
    if t == 2 then given (variant.Bool true) else
    if t == 3 then made variant.Int num else
    if t == 4 then made variant.Nat nat else
    if t == 5 then made variant.Mutez mutez else
    if t == 6 then made variant.Time num else
    if t == 7 then made variant.Text (measured is_text) else
    if t == 8 then made variant.Bytes (measured is_blob) else
    if t == 9 then made variant.Addr address else
    if t == 10 then given variant.Nothing else
    if t == 11 then made variant.Some read else
    if t == 12 then made variant.Left read else
    if t == 13 then made variant.Right read else
    if t == 14 then made (λ p. variant.Pair p.0 p.1) (both read read) else
    if t == 15 then made variant.List (with (number w32) (many read)) else
    if t == 16 then made variant.Set (with (number w32) (ascending read None)) else
    if t == 17 then made variant.Map (with (number w32) (entries read None)) else
    if t == 18 then made (λ n. variant.BigMap n 0) place else
    λ bytes. Err (Stopped Faulty (length bytes))

-- a value with no tag above most, and at most d deep: the first part that is deeper, or has a greater tag, is told at its tag
unfoldable pub value : ℕ → ℕ → Reader Val
value most zero bytes = Err (Stopped Faulty (length bytes))
value most (suc d) bytes = tagged (is_tag most) (behind (value most d)) bytes
