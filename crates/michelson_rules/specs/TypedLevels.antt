-- Typing by levels: what a value of a type is at its level, where its parts and its big maps are typed in some way.
use Rattle.std.specs.Prelude.{ℕ, pos, ◌^◌, IsTrue, List, int_le, nat_lt, ⊤}
use Rattle.std.specs.List.{AllByRecursion}
use Rattle.value_core.specs.declared.val.Val.{Val}
use Rattle.value_core.specs.declared.val.Val.TheOpen as is
use Rattle.value_core.specs.declared.val.Val.TheViews.{out-Val}
use Rattle.value_core.specs.declared.ty.Ty.{Ty}
use Rattle.value_core.specs.declared.ty.Ty.TheOpen as ty
use Rattle.value_core.specs.declared.ty.Ty.TheOpen.{Ty-F}
use Rattle.value_core.specs.declared.ty.Ty.TheViews.{out-Ty}
use Rattle.value_core.specs.Layer.{Layer}
use Rattle.value_core.specs.Sorted.{keys_of}
use Rattle.value_core.specs.Sound.{ascends, is_countable, is_sound}

-- which values have which type, and which places and versions are those of a big map from keys to values
module _ (Has : Val → Ty → Type 0) (HasMap : ℕ → ℕ → Ty → Ty → Type 0) where
  -- each has the type
  abbrev pub AllHave : Ty → List Val → Type 0
  AllHave t vs = AllByRecursion (λ v. Has v t) vs

  -- the keys have one type, and the values the other
  abbrev pub EntriesHave : Ty → Ty → List (Val × Val) → Type 0
  EntriesHave k w entries = AllByRecursion (λ e. Has e.0 k × Has e.1 w) entries

  -- one level of a value against one level of a type
  abbrev pub Fits : Layer Val → Ty-F Ty → Type 0
  Fits is.Unit ty.Unit = ⊤
  Fits (is.Bool b) ty.Bool = ⊤
  Fits (is.Int n) ty.Int = ⊤
  Fits (is.Nat n) ty.Nat = IsTrue (int_le (pos 0) n)
  Fits (is.Mutez n) ty.Mutez = IsTrue (nat_lt n (2 ^ 63))
  Fits (is.Time n) ty.Time = ⊤
  Fits (is.Text bytes) ty.Text = ⊤
  Fits (is.Bytes bytes) ty.Bytes = ⊤
  Fits (is.Addr address) ty.Addr = ⊤
  Fits is.Nothing (ty.Option t) = ⊤
  Fits (is.Some part) (ty.Option t) = Has part t
  Fits (is.Left part) (ty.Or s t) = Has part s
  Fits (is.Right part) (ty.Or s t) = Has part t
  Fits (is.Pair a b) (ty.Pair s t) = Has a s × Has b t
  Fits (is.List items) (ty.List t) = IsTrue (is_countable items) × AllHave t items
  Fits (is.Set items) (ty.Set t) = IsTrue (is_countable items) × IsTrue (ascends items) × AllHave t items
  Fits (is.Map entries) (ty.Map k w) = IsTrue (is_countable entries) × IsTrue (ascends (keys_of entries)) × EntriesHave k w entries
  Fits (is.BigMap place version) (ty.BigMap k w) = HasMap place version k w
  Fits (is.Contract address entry) (ty.Contract t) = ⊤
  Fits (is.Operation emit) ty.Operation = IsTrue (nat_lt emit.amount (2 ^ 63)) × IsTrue (is_sound emit.param)
  Fits _ _ = ⊥

  -- a value has a type where it fits at its level
  pub record GoesByLevels : Type 0 where
    pub parts : (v : Val) (t : Ty) → Has v t → Fits (out-Val v) (out-Ty t)
    pub whole : (v : Val) (t : Ty) → Fits (out-Val v) (out-Ty t) → Has v t
