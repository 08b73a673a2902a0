-- The order of values: by tag, then by the number in it, its texts, its parts from the left and the number after them.
use Rattle.std.specs.Prelude.{◌≡◌}
use Rattle.std.specs.declared.cmp.Ordering.{Ordering}
use Rattle.std.specs.declared.cmp.Ordering.TheVariants.{Equal}
use Rattle.std.specs.Ordering.{int_cmp, nat_cmp, ordering_then}
use Rattle.std.specs.Cmp.Lexicographic.{slice_cmp}
use Rattle.std.specs.Cmp.{IsTotalOrder}
use Rattle.value_core.specs.declared.val.Val.{Val}
use Rattle.value_core.specs.declared.val.Emit.{Emit}
use Rattle.value_core.specs.declared.val.Val.TheViews.{out-Val}
use Rattle.value_core.specs.Layer.{Layer, by_level, last_of, number_of, parts_of, tag_of, texts_of}

-- two levels, where the parts are compared by `by`; a list goes after each of its proper prefixes
abbrev pub layer_cmp : {A B : Type 0} → (A → B → Ordering) → Layer A → Layer B → Ordering
layer_cmp by x y =
    ordering_then (nat_cmp (tag_of x) (tag_of y))
    (ordering_then (int_cmp (number_of x) (number_of y))
    (ordering_then (slice_cmp (slice_cmp nat_cmp) (texts_of x) (texts_of y))
    (ordering_then (slice_cmp by (parts_of x) (parts_of y)) (nat_cmp (last_of x) (last_of y)))))

-- the order of two values
abbrev pub order : Val → Val → Ordering
order = by_level {A = Val → Ordering} (λ x w. layer_cmp (λ f v. f v) x (out-Val w))

-- the order of two operations, by their fields as they are written
abbrev pub order_emit : Emit → Emit → Ordering
order_emit d e =
    ordering_then (slice_cmp nat_cmp d.dest e.dest)
    (ordering_then (slice_cmp nat_cmp d.entry e.entry)
    (ordering_then (order d.param e.param) (nat_cmp d.amount e.amount)))

-- a total order, which answers Equal at equal values alone
abbrev pub IsOrder : (Val → Val → Ordering) → Type 0
IsOrder R = IsTotalOrder R × ((a b : Val) → R a b ≡ Equal → a ≡ b)
