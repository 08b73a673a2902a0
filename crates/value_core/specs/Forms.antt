-- Canonical forms: what values of each type are.
use Rattle.std.specs.Prelude.{◌≡◌, ℕ, ℤ, pos, ◌^◌, ◌⊎◌, Bool, ◌&&◌, IsTrue, List, int_le, map, nat_lt}
use Rattle.std.specs.List.{list_all}
use Rattle.value_core.specs.declared.val.Val.{Val}
use Rattle.value_core.specs.declared.val.Val.TheVariants as value
use Rattle.value_core.specs.declared.ty.Ty.{Ty}
use Rattle.value_core.specs.Sound.{ascends, is_countable}
use Rattle.value_core.specs.Typed.{has_type}

-- a number that isn't below 0
abbrev pub IsNat : Val → Type 0
IsNat v = (n : ℤ) × (v ≡ value.Nat n) × IsTrue (int_le (pos 0) n)

-- an amount below 2^63
abbrev pub IsMutez : Val → Type 0
IsMutez v = (n : ℕ) × (v ≡ value.Mutez n) × IsTrue (nat_lt n (2 ^ 63))

-- Nothing, or Some of a value of the type
abbrev pub IsOptionOf : Ty → Val → Type 0
IsOptionOf t v = (v ≡ value.Nothing) ⊎ ((part : Val) × (v ≡ value.Some part) × IsTrue (has_type part t))

-- Left of a value of the first type, or Right of one of the second
abbrev pub IsOrOf : Ty → Ty → Val → Type 0
IsOrOf s t v =
    ((part : Val) × (v ≡ value.Left part) × IsTrue (has_type part s)) ⊎ ((part : Val) × (v ≡ value.Right part) × IsTrue (has_type part t))

-- a pair of values of both types
abbrev pub IsPairOf : Ty → Ty → Val → Type 0
IsPairOf s t v = (a b : Val) × (v ≡ value.Pair a b) × IsTrue (has_type a s) × IsTrue (has_type b t)

-- each has the type
abbrev pub are_of : Ty → List Val → Bool
are_of t items = list_all (λ item. has_type item t) items

-- the keys have one type, and the values the other
abbrev pub are_entries_of : Ty → Ty → List (Val × Val) → Bool
are_entries_of k w entries = list_all (λ e. has_type e.0 k && has_type e.1 w) entries

-- a list of fewer than 2^32 values of the type
abbrev pub IsListOf : Ty → Val → Type 0
IsListOf t v = (items : List Val) × (v ≡ value.List items) × IsTrue (is_countable items) × IsTrue (are_of t items)

-- the same, in ascending order
abbrev pub IsSetOf : Ty → Val → Type 0
IsSetOf t v = (items : List Val) × (v ≡ value.Set items) × IsTrue (is_countable items) × IsTrue (ascends items) × IsTrue (are_of t items)

-- fewer than 2^32 entries of keys and values of both types, in ascending order of the keys
abbrev pub IsMapOf : Ty → Ty → Val → Type 0
IsMapOf k w v =
    (entries : List (Val × Val)) × (v ≡ value.Map entries) × IsTrue (is_countable entries) ×
    IsTrue (ascends (map (λ e. e.0) entries)) × IsTrue (are_entries_of k w entries)

-- one of the 16 places, and a version
abbrev pub IsBigMap : Val → Type 0
IsBigMap v = (place version : ℕ) × (v ≡ value.BigMap place version) × IsTrue (nat_lt place 16)
