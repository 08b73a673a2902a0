-- What numerals, byte literals and strings in quotes stand for.
use Rattle.std.specs.Prelude.{ℕ, zero, suc, ◌+◌, ◌-◌, ◌*◌, ◌%◌, ℤ, pos, negsuc, Bool, true, false, List, [], ◌∷◌, length, nat_le, ◌==◌, ◌&&◌, ◌||◌, if◌then◌else◌, fold, Option, Some, None}
use Rattle.value_core.specs.Leaves.{is_blob}
use Rattle.micheline_text.specs.Kinds.{is_plain}
use Rattle.micheline_text.specs.declared.text.Part.{Part}
use Rattle.micheline_text.specs.declared.text.Part.TheVariants as part
use Rattle.micheline_text.specs.declared.text.Ending.{Ending}
use Rattle.micheline_text.specs.declared.text.Ending.TheVariants as ending

-- ---- numerals

-- the number that decimal digits stand for
abbrev pub decimal_value : List ℕ → ℕ
decimal_value digits = fold (λ n b. 10 * n + (b - 48)) 0 digits

-- the number, below zero or not
abbrev pub signed : Bool → ℕ → ℤ
signed false n = pos n
signed true zero = pos 0
signed true (suc n) = negsuc n

-- ---- byte literals

-- the number that a hexadecimal digit stands for
abbrev pub hex_value : ℕ → ℕ
hex_value b =
    if nat_le 48 b && nat_le b 57 then b - 48
    else if nat_le 65 b && nat_le b 70 then b - 55
    else if nat_le 97 b && nat_le b 102 then b - 87 else 0

-- the bytes that pairs of digits stand for, after the first digit of a pair or between pairs
abbrev pub unhex : Option ℕ → List ℕ → List ℕ
unhex high [] = []
unhex None (b ∷ digits) = unhex (Some (hex_value b)) digits
unhex (Some high) (b ∷ digits) = (16 * high + hex_value b) ∷ unhex None digits

-- the bytes that the digits stand for, if they are pairs and not too many
abbrev pub hexadecimal : List ℕ → Option (List ℕ)
hexadecimal digits =
    if (length digits % 2 == 0) && is_blob (unhex None digits) then Some (unhex None digits) else None

-- ---- strings

-- what a byte of a string says, after a `\` or not
abbrev pub part_at : Bool → ℕ → Part
part_at false b =
    if b == 34 then part.End else if b == 92 then part.Escape
    else if is_plain b then part.Byte b else part.Wrong
part_at true b =
    if b == 110 then part.Byte 10 else if (b == 34) || (b == 92) then part.Byte b else part.Wrong

-- a string behind its quote: what it says, how many bytes it takes, and how it ends; a `\` at the
-- end says one byte more
abbrev pub Quoted : Type 0
Quoted = List ℕ × ℕ × Ending

-- one byte more was taken, which says nothing
abbrev pub one_more : Quoted → Quoted
one_more q = (q.0, 1 + q.1, q.2)

-- one byte more was taken, which says this one
abbrev pub said : ℕ → Quoted → Quoted
said b q = (b ∷ q.0, 1 + q.1, q.2)

-- what a byte says, and what stands behind it
abbrev pub after_part : Part → (Bool → Quoted) → Quoted
after_part (part.Byte b) rest = said b (rest false)
after_part part.Escape rest = one_more (rest true)
after_part part.End rest = ([], 1, ending.Closed)
after_part part.Wrong rest = ([], 0, ending.Wrong)

-- from here on, behind a `\` or not
abbrev pub quoted : Bool → List ℕ → Quoted
quoted false [] = ([], 0, ending.Open)
quoted true [] = (10 ∷ [], 0, ending.Open)
quoted escaped (b ∷ bytes) = after_part (part_at escaped b) (λ e. quoted e bytes)
