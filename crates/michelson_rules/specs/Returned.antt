-- What a contract returns: its operations, its storage without versions, and the changes of the big maps in it.
use Rattle.std.specs.Prelude.{ℕ, List, [], ◌∷◌, map, Option, Some, None, if◌then◌else◌}
use Rattle.std.specs.List.{flat_map}
use Rattle.std.specs.Option.{option_map}
use Rattle.std.specs.Ordering.{is_gt, nat_cmp, ordering_then}
use Rattle.std.specs.declared.cmp.Ordering.{Ordering}
use Rattle.value_core.specs.declared.val.Val.{Val}
use Rattle.value_core.specs.declared.val.Val.TheOpen as is
use Rattle.value_core.specs.declared.val.Val.TheVariants as value
use Rattle.value_core.specs.declared.val.Val.TheOpen.{Val-F}
use Rattle.value_core.specs.declared.val.Val.TheFolds.{fold-Val}
use Rattle.value_core.specs.declared.val.Val.TheViews.{out-Val, roll-Emit, roll-Val}
use Rattle.value_core.specs.declared.val.Emit.{Emit}
use Rattle.value_core.specs.Layer.{Layer, by_level, parts_of}
use Rattle.value_core.specs.Order.{order}
use Rattle.michelson_rules.specs.Runs.{Changes, changes_of}

-- a place, a key, and what is there from now on
abbrev pub Change : Type 0
Change = ℕ × Val × Option Val

-- what is returned
pub record Returned : Type 0 where
  pub ops : List Emit
  pub storage : Val
  pub changes : List Change

-- an operation before others
abbrev pub emit_before : Layer Val → Option (List Emit) → Option (List Emit)
emit_before (is.Operation emit) (Some more) = Some (emit ∷ more)
emit_before _ _ = None

-- the operations of a list
abbrev pub emits_of : List Val → Option (List Emit)
emits_of [] = Some []
emits_of (v ∷ vs) = emit_before (out-Val v) (emits_of vs)

-- the big maps of one level of a value, whose parts tell their own
abbrev pub big_maps_here : Layer (List (ℕ × ℕ)) → List (ℕ × ℕ)
big_maps_here (is.BigMap place version) = (place, version) ∷ []
big_maps_here x = flat_map (λ ms. ms) (parts_of x)

-- the big maps in a value from the left, each its place and its version
abbrev pub big_maps_in : Val → List (ℕ × ℕ)
big_maps_in = by_level big_maps_here

-- the changes of one big map
abbrev pub changes_in : List Changes → ℕ × ℕ → List Change
changes_in versions (place, version) = map (λ c. (place, c.0, c.1)) (changes_of version versions)

-- by place, then by key
abbrev pub change_order : Change → Change → Ordering
change_order a b = ordering_then (nat_cmp a.0 b.0) (order a.1 b.1)

-- a change before the first that isn't below it
abbrev pub insert_change : Change → List Change → List Change
insert_change a [] = a ∷ []
insert_change a (b ∷ bs) = if is_gt (change_order a b) then b ∷ insert_change a bs else a ∷ b ∷ bs

-- in order; of equal ones the one that came first stays first
abbrev pub in_order : List Change → List Change
in_order [] = []
in_order (a ∷ more) = insert_change a (in_order more)

-- ---- what stands on the stack at the end

-- one level of a storage, its big maps without versions
abbrev pub unversioned_level : Val-F Val Emit → Val
unversioned_level (is.BigMap place version) = value.BigMap place 0
unversioned_level x = roll-Val x

-- a storage, its big maps without versions
abbrev pub unversioned : Val → Val
unversioned = fold-Val Val Emit unversioned_level (λ e. roll-Emit e)

-- a list of operations
abbrev pub operations : Layer Val → Option (List Emit)
operations (is.List vs) = emits_of vs
operations _ = None

-- operations and a storage, with the changes of the versions in it
abbrev pub of_pair : List Changes → Layer Val → Option Returned
of_pair versions (is.Pair ops storage) = option_map
    (λ emits. record { ops = emits; storage = unversioned storage; changes = in_order (flat_map (changes_in versions) (big_maps_in storage)) })
    (operations (out-Val ops))
of_pair versions _ = None

-- what the one pair on the stack returns
abbrev pub returned : List Changes → List Val → Option Returned
returned versions (v ∷ []) = of_pair versions (out-Val v)
returned versions _ = None
