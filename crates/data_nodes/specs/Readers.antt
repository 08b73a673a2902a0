-- Literals, pairs, lists, sets and maps read from the left, and what is faulty in them.
use Rattle.std.specs.Prelude.{ℕ, ℤ, pos, ◌^◌, Bool, true, false, ◌&&◌, int_le, int_lt, nat_abs, List, [], ◌∷◌, if◌then◌else◌, Option, Some, Result, Ok, Err}
use Rattle.value_core.specs.declared.ty.Ty.{Ty}
use Rattle.value_core.specs.declared.ty.Ty.TheOpen as ty
use Rattle.value_core.specs.declared.ty.Ty.TheOpen.{Ty-F}
use Rattle.value_core.specs.declared.ty.Ty.TheViews.{out-Ty}
use Rattle.value_core.specs.declared.val.Val.{Val}
use Rattle.value_core.specs.declared.val.Val.TheVariants as value
use Rattle.value_core.specs.Leaves.{is_address}
use Rattle.data_nodes.specs.declared.fault.DataFault.{DataFault}
use Rattle.data_nodes.specs.declared.fault.DataKind.{DataKind}
use Rattle.data_nodes.specs.declared.fault.DataKind.TheVariants.{Shape, Range, Order}
use Rattle.value_core.specs.Lasts.{is_above}

-- what is read, or the first fault
abbrev pub Read : Type 0 → Type 0
Read A = Result A DataFault

-- this kind of fault, told at this place
abbrev pub fault : {A : Type 0} → DataKind → ℕ → Read A
fault kind at = Err (record { at = at; kind = kind })

-- one thing, and by it the next, whatever kind of fault there is
abbrev pub then_read : {A B E : Type 0} → Result A E → (A → Result B E) → Result B E
then_read (Ok x) f = f x
then_read (Err e) f = Err e

-- what can be read of a node: data of a type, and an entry of a map, behind the key before it
pub record Reader : Type 0 where
  pub place : ℕ
  pub value : Ty → Read Val
  pub entry : Option Val → Ty → Ty → Read (Val × Val)

-- ---- literals, each at its place

-- a number
abbrev pub number : ℕ → ℤ → Ty-F Ty → Read Val
number at z ty.Int = Ok (value.Int z)
number at z ty.Time = Ok (value.Time z)
number at z ty.Nat = if int_le (pos 0) z then Ok (value.Nat z) else fault Range at
number at z ty.Mutez = if int_le (pos 0) z && int_lt z (pos (2 ^ 63)) then Ok (value.Mutez (nat_abs z)) else fault Range at
number at z _ = fault Shape at

-- a string
abbrev pub string : ℕ → List ℕ → Ty-F Ty → Read Val
string at s ty.Text = Ok (value.Text s)
string at s _ = fault Shape at

-- a byte literal
abbrev pub bytes : ℕ → List ℕ → Ty-F Ty → Read Val
bytes at b ty.Bytes = Ok (value.Bytes b)
bytes at b ty.Addr = if is_address b then Ok (value.Addr b) else fault Shape at
bytes at b _ = fault Shape at

-- ---- pairs, lists, sets and maps

-- by the second type of a pair, if the type is one
abbrev pub at_second : {A : Type 0} → A → (Ty → A) → Ty-F Ty → A
at_second else_ f (ty.Pair s t) = f t
at_second else_ f _ = else_

-- at most one item more than the type has pairs to its right
abbrev pub is_comb_of : List Reader → Ty → Bool
is_comb_of [] t = false
is_comb_of (x ∷ []) t = true
is_comb_of (x ∷ y ∷ more) t = at_second false (is_comb_of (y ∷ more)) (out-Ty t)

-- a pair, by how its second part is read
abbrev pub pair_of : ℕ → Reader → (Ty → Read Val) → Ty-F Ty → Read Val
pair_of at x rest (ty.Pair s t) = then_read (x.value s) (λ a. then_read (rest t) (λ b. Ok (value.Pair a b)))
pair_of at x rest _ = fault Shape at

-- the first item at the pair's first type, and the others at its second
abbrev pub comb : ℕ → List Reader → Ty → Read Val
comb at [] t = fault Shape at
comb at (x ∷ []) t = x.value t
comb at (x ∷ y ∷ more) t = pair_of at x (comb at (y ∷ more)) (out-Ty t)

-- the items of a list
abbrev pub items : Ty → List Reader → Read (List Val)
items t [] = Ok []
items t (x ∷ more) = then_read (x.value t) (λ v. then_read (items t more) (λ vs. Ok (v ∷ vs)))

-- the items of a set, each above the one before
abbrev pub ascending : Ty → Option Val → List Reader → Read (List Val)
ascending t last [] = Ok []
ascending t last (x ∷ more) = then_read (x.value t) (λ v.
    if is_above last v then then_read (ascending t (Some v) more) (λ vs. Ok (v ∷ vs)) else fault Order x.place)

-- the entries of a map, each key above the one before
abbrev pub entries : Ty → Ty → Option Val → List Reader → Read (List (Val × Val))
entries k v last [] = Ok []
entries k v last (x ∷ more) = then_read (x.entry last k v) (λ e. then_read (entries k v (Some e.0) more) (λ es. Ok (e ∷ es)))

-- two items or more, where there aren't too many
abbrev pub pair : ℕ → List Reader → Ty → Read Val
pair at [] t = fault Shape at
pair at (x ∷ []) t = fault Shape at
pair at (x ∷ y ∷ more) t = if is_comb_of (x ∷ y ∷ more) t then comb at (x ∷ y ∷ more) t else fault Shape at

-- a value made of what is read
abbrev pub made : {A : Type 0} → (A → Val) → Read A → Read Val
made f r = then_read r (λ x. Ok (f x))
