-- The bytes of values: which they are, and which values have any.
use Rattle.std.specs.Prelude.{ℕ, ℤ, ◌≤◌, List, [], ◌∷◌, ◌++◌, Bool, if◌then◌else◌, IsTrue, nat_le, length}
use Rattle.std.specs.List.{flat_map}
use Rattle.std.specs.Int.{w8, w32, w64, w128, to_be_bytes, cast_unsigned}
use Rattle.value_core.specs.declared.val.Val.{Val}
use Rattle.value_core.specs.declared.val.Val.TheOpen as one
use Rattle.value_core.specs.Layer.{Layer, by_level, tag_of}
use Rattle.value_core.specs.Everywhere.{everywhere}
use Rattle.value_core.specs.Lawful.{is_lawful}
use Rattle.value_core.specs.Sound.{is_plain}
use Rattle.value_core.specs.Depth.{depth_of}

-- ---- the spelling

-- a length or a count
abbrev pub word : ℕ → List ℕ
word n = to_be_bytes w32 n

-- a length, and so many bytes
abbrev pub measured_text : List ℕ → List ℕ
measured_text bytes = word (length bytes) ++ bytes

-- a number in two's complement
abbrev pub signed_word : ℤ → List ℕ
signed_word n = to_be_bytes w128 (cast_unsigned w128 n)

-- one level of a value, with the bytes of each part in its place; contracts and operations have none
abbrev pub spell_level : Layer (List ℕ) → List ℕ
spell_level one.Unit = 0 ∷ []
spell_level (one.Bool b) = (if b then 2 else 1) ∷ []
spell_level (one.Int n) = 3 ∷ signed_word n
spell_level (one.Nat n) = 4 ∷ signed_word n
spell_level (one.Mutez n) = 5 ∷ to_be_bytes w64 n
spell_level (one.Time n) = 6 ∷ signed_word n
spell_level (one.Text bytes) = 7 ∷ measured_text bytes
spell_level (one.Bytes bytes) = 8 ∷ measured_text bytes
spell_level (one.Addr address) = 9 ∷ address
spell_level one.Nothing = 10 ∷ []
spell_level (one.Some part) = 11 ∷ part
spell_level (one.Left part) = 12 ∷ part
spell_level (one.Right part) = 13 ∷ part
spell_level (one.Pair a b) = 14 ∷ (a ++ b)
spell_level (one.List items) = 15 ∷ (word (length items) ++ flat_map (λ item. item) items)
spell_level (one.Set items) = 16 ∷ (word (length items) ++ flat_map (λ item. item) items)
spell_level (one.Map entries) = 17 ∷ (word (length entries) ++ flat_map (λ e. e.0 ++ e.1) entries)
spell_level (one.BigMap place version) = 18 ∷ to_be_bytes w8 place
spell_level (one.Contract address entry) = []
spell_level (one.Operation emit) = []

-- the one spelling of a value
abbrev pub spell : Val → List ℕ
spell = by_level spell_level

-- the bytes of a map's entry
abbrev pub spell_entry : Val × Val → List ℕ
spell_entry e = spell e.0 ++ spell e.1

-- ---- which values have one

-- no level of it has a greater tag
abbrev pub has_tags : ℕ → Val → Bool
has_tags most = everywhere (λ x. nat_le (tag_of x) most)

-- a plain value that the program can hold, with no tag above most, and at most so deep, has a spelling
pub record IsSpelt (most depth : ℕ) (v : Val) : Type 0 where
  pub leaves : IsTrue (is_lawful v)
  pub plain : IsTrue (is_plain v)
  pub tags : IsTrue (has_tags most v)
  pub deep : depth_of v ≤ depth
