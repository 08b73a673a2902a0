-- One level of a value: its tag, what stands in it and its parts; and recursion by levels.
use Rattle.std.specs.Prelude.{ℕ, ℤ, pos, List, [], ◌∷◌, if◌then◌else◌}
use Rattle.value_core.specs.declared.val.Val.{Val}
use Rattle.value_core.specs.declared.val.Val.TheOpen as one
use Rattle.value_core.specs.declared.val.Val.TheOpen.{Val-F, Emit-F}
use Rattle.value_core.specs.declared.val.Val.TheFolds.{fold-Val, map-Val}

-- one level of a value, with an A in the place of each part
abbrev pub Layer : Type 0 → Type 0
Layer A = Val-F A (Emit-F A (Unit {0}))

module _ {A : Type 0} where
  -- the number that goes before all else in the order of values
  abbrev pub tag_of : Layer A → ℕ
  tag_of one.Unit = 0
  tag_of (one.Bool b) = if b then 2 else 1
  tag_of (one.Int n) = 3
  tag_of (one.Nat n) = 4
  tag_of (one.Mutez n) = 5
  tag_of (one.Time n) = 6
  tag_of (one.Text bytes) = 7
  tag_of (one.Bytes bytes) = 8
  tag_of (one.Addr address) = 9
  tag_of one.Nothing = 10
  tag_of (one.Some part) = 11
  tag_of (one.Left part) = 12
  tag_of (one.Right part) = 13
  tag_of (one.Pair a b) = 14
  tag_of (one.List items) = 15
  tag_of (one.Set items) = 16
  tag_of (one.Map entries) = 17
  tag_of (one.BigMap place version) = 18
  tag_of (one.Contract address entry) = 19
  tag_of (one.Operation emit) = 20

  -- the number that stands before the parts, or 0
  abbrev pub number_of : Layer A → ℤ
  number_of (one.Int n) = n
  number_of (one.Nat n) = n
  number_of (one.Mutez n) = pos n
  number_of (one.Time n) = n
  number_of (one.BigMap place version) = pos place
  number_of _ = pos 0

  -- the texts, bytes, addresses and names that stand before the parts
  abbrev pub texts_of : Layer A → List (List ℕ)
  texts_of (one.Text bytes) = bytes ∷ []
  texts_of (one.Bytes bytes) = bytes ∷ []
  texts_of (one.Addr address) = address ∷ []
  texts_of (one.Contract address entry) = address ∷ entry ∷ []
  texts_of (one.Operation emit) = emit.dest ∷ emit.entry ∷ []
  texts_of _ = []

  -- keys and values, one after another
  abbrev pub flat : List (A × A) → List A
  flat [] = []
  flat (e ∷ es) = e.0 ∷ e.1 ∷ flat es

  -- the parts, from the left
  abbrev pub parts_of : Layer A → List A
  parts_of (one.Some part) = part ∷ []
  parts_of (one.Left part) = part ∷ []
  parts_of (one.Right part) = part ∷ []
  parts_of (one.Pair a b) = a ∷ b ∷ []
  parts_of (one.List items) = items
  parts_of (one.Set items) = items
  parts_of (one.Map entries) = flat entries
  parts_of (one.Operation emit) = emit.param ∷ []
  parts_of _ = []

  -- the number that stands after the parts, or 0
  abbrev pub last_of : Layer A → ℕ
  last_of (one.BigMap place version) = version
  last_of (one.Operation emit) = emit.amount
  last_of _ = 0

-- an operation of a level
abbrev pub as_emit : {A B : Type 0} → Emit-F A B → Emit-F A (Unit {0})
as_emit emit = record { dest = emit.dest; entry = emit.entry; param = emit.param; amount = emit.amount }

-- the level with f of each part in its place
abbrev pub on_parts : {A B : Type 0} → (A → B) → Layer A → Layer B
on_parts {A} {B} f x = map-Val A (Emit-F A (Unit {0})) B (Emit-F B (Unit {0})) f
    (λ emit. record { dest = emit.dest; entry = emit.entry; param = f emit.param; amount = emit.amount }) x

-- recursion: what a level makes of the answers of its parts
abbrev pub by_level : {A : Type 0} → (Layer A → A) → Val → A
by_level {A} f = fold-Val A (Emit-F A (Unit {0})) f as_emit
