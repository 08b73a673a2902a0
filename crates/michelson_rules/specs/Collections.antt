-- Instructions on strings, lists, sets and maps: one equation for each line of the table of operands.
use Rattle.std.specs.Prelude.{ℕ, pos, List, [], ◌∷◌, ◌++◌, length, true, false, Option, Some, None, is_some, if◌then◌else◌}
use Rattle.sha2.specs.Sha256.{sha256}
use Rattle.value_core.specs.declared.val.Val.{Val}
use Rattle.value_core.specs.declared.val.Val.TheOpen as is
use Rattle.value_core.specs.declared.val.Val.TheVariants as value
use Rattle.value_core.specs.declared.val.Val.TheViews.{out-Val}
use Rattle.value_core.specs.Layer.{Layer}
use Rattle.value_core.specs.Order.{order}
use Rattle.value_core.specs.Sorted.{find, has, keys_of, put, with_key, without, without_key}
use Rattle.value_core.specs.Sound.{ascends}
use Rattle.michelson_rules.specs.Answers.{Answer, Gives, Misses, gives, sized}

-- an option of what may be there
abbrev pub option : Option Val → Val
option None = value.Nothing
option (Some v) = value.Some v

-- what may be there, of an option
abbrev pub chosen : Layer Val → Option (Option Val)
chosen is.Nothing = Some None
chosen (is.Some v) = Some (Some v)
chosen _ = None

-- ---- strings, bytes and lists

-- `CONS`
abbrev pub in_front : Val → Layer Val → Answer
in_front x (is.List items) = sized (value.List (x ∷ items))
in_front x _ = Misses

-- a string before a row of strings
abbrev pub string_before : Layer Val → Option (List ℕ) → Option (List ℕ)
string_before (is.Text bytes) (Some more) = Some (bytes ++ more)
string_before _ _ = None

-- the strings of a list, one after another
abbrev pub strings : List Val → Option (List ℕ)
strings [] = Some []
strings (x ∷ xs) = string_before (out-Val x) (strings xs)

-- a row of strings
abbrev pub row_of : Option (List ℕ) → Answer
row_of (Some bytes) = sized (value.Text bytes)
row_of None = Misses

-- `CONCAT` of a list of strings
abbrev pub all_in_a_row : Layer Val → Answer
all_in_a_row (is.List items) = row_of (strings items)
all_in_a_row _ = Misses

-- `CONCAT` of two
abbrev pub in_a_row : Layer Val → Layer Val → Answer
in_a_row (is.Text x) (is.Text y) = sized (value.Text (x ++ y))
in_a_row (is.Bytes x) (is.Bytes y) = sized (value.Bytes (x ++ y))
in_a_row _ _ = Misses

-- `SIZE`
abbrev pub count : Layer Val → Answer
count (is.Text bytes) = gives (value.Nat (pos (length bytes)))
count (is.Bytes bytes) = gives (value.Nat (pos (length bytes)))
count (is.List items) = gives (value.Nat (pos (length items)))
count (is.Set items) = gives (value.Nat (pos (length items)))
count (is.Map entries) = gives (value.Nat (pos (length entries)))
count _ = Misses

-- `SHA256`
abbrev pub hashed : Layer Val → Answer
hashed (is.Bytes bytes) = gives (value.Bytes (sha256 bytes))
hashed _ = Misses

-- ---- sets and maps

-- of a set, whose items ascend
abbrev pub of_set : List Val → Answer → Answer
of_set items answer = if ascends items then answer else Misses

-- of a map, whose keys ascend
abbrev pub of_map : List (Val × Val) → Answer → Answer
of_map entries answer = if ascends (keys_of entries) then answer else Misses

-- `MEM`
abbrev pub member : Val → Layer Val → Answer
member key (is.Set items) = of_set items (gives (value.Bool (has order key items)))
member key (is.Map entries) = of_map entries (gives (value.Bool (is_some (find order key entries))))
member key _ = Misses

-- `GET`
abbrev pub found : Val → Layer Val → Answer
found key (is.Map entries) = of_map entries (gives (option (find order key entries)))
found key _ = Misses

-- a map with this value at the key, or without the key
abbrev pub changed : Val → Option Val → List (Val × Val) → List (Val × Val)
changed key None entries = without order key entries
changed key (Some v) entries = put order key v entries

-- a map with the change; without a choice there is no line
abbrev pub updated_map : Val → Option (Option Val) → List (Val × Val) → Answer
updated_map key None entries = Misses
updated_map key (Some choice) entries = of_map entries (sized (value.Map (changed key choice entries)))

-- `UPDATE`
abbrev pub updated : Val → Layer Val → Layer Val → Answer
updated key (is.Bool true) (is.Set items) = of_set items (sized (value.Set (with_key order key items)))
updated key (is.Bool false) (is.Set items) = of_set items (sized (value.Set (without_key order key items)))
updated key choice (is.Map entries) = updated_map key (chosen choice) entries
updated key _ _ = Misses

-- this value in front of what is given
abbrev pub with_old : Val → Answer → Answer
with_old old (Gives vs) = Gives (old ∷ vs)
with_old old answer = answer

-- `GET_AND_UPDATE`: the old value on top
abbrev pub updated_with_old : Val → Layer Val → Layer Val → Answer
updated_with_old key choice (is.Map entries) = with_old (option (find order key entries)) (updated_map key (chosen choice) entries)
updated_with_old key _ _ = Misses
