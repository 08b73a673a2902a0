-- Instructions with bodies: how often a body runs, and on which stack.
use Rattle.std.specs.Prelude.{ℕ, zero, suc, ◌+◌, List, [], ◌∷◌, ◌++◌, length, map, take, drop, true, false, nat_le, Option, Some, None, if◌then◌else◌}
use Rattle.value_core.specs.declared.val.Val.{Val}
use Rattle.value_core.specs.declared.val.Val.TheOpen as is
use Rattle.value_core.specs.declared.val.Val.TheVariants as value
use Rattle.value_core.specs.declared.val.Val.TheViews.{out-Val}
use Rattle.value_core.specs.Layer.{Layer}
use Rattle.michelson_rules.specs.Runs.{Beside, Missed, Return, Run, ends, in_a_turn, then_do}

-- what a code makes of a stack, its top first
abbrev pub Meaning : Type 0
Meaning = List Val → Beside → Run (List Val)

-- an operand isn't there
abbrev pub misses : Meaning
misses stack beside = ends Missed

-- one after another
abbrev pub in_turn : List Meaning → Meaning
in_turn [] stack beside = ends (Return stack beside)
in_turn (m ∷ ms) stack beside = then_do (m stack beside) (in_turn ms)

-- below n items
abbrev pub below : ℕ → Meaning → Meaning
below n body stack beside =
    if nat_le n (length stack) then then_do (body (drop n stack) beside) (λ s b. ends (Return (take n stack ++ s) b)) else ends Missed

-- ---- branches, by the item on top

-- `IF`
abbrev pub by_bool : Meaning → Meaning → Layer Val → Meaning
by_bool c d (is.Bool true) stack = c stack
by_bool c d (is.Bool false) stack = d stack
by_bool c d _ stack = misses stack

-- `IF_NONE`
abbrev pub by_none : Meaning → Meaning → Layer Val → Meaning
by_none c d is.Nothing stack = c stack
by_none c d (is.Some v) stack = d (v ∷ stack)
by_none c d _ stack = misses stack

-- `IF_LEFT`
abbrev pub by_side : Meaning → Meaning → Layer Val → Meaning
by_side c d (is.Left v) stack = c (v ∷ stack)
by_side c d (is.Right v) stack = d (v ∷ stack)
by_side c d _ stack = misses stack

-- `IF_CONS`
abbrev pub by_first : Meaning → Meaning → Layer Val → Meaning
by_first c d (is.List []) stack = d stack
by_first c d (is.List (x ∷ items)) stack = c (x ∷ value.List items ∷ stack)
by_first c d _ stack = misses stack

-- what is made of the top and the stack below it
abbrev pub on_top : (Layer Val → Meaning) → Meaning
on_top f (x ∷ stack) = f (out-Val x) stack
on_top f [] = misses []

-- ---- loops

-- whether a loop goes on, and with what on the stack; or it ends so; or the top is of no kind
pub data Again : Type 0 where
  On : List Val → Again
  Off : List Val → Again
  Neither : Again

-- `LOOP`: while the top is true
abbrev pub while_true : Layer Val → List Val → Again
while_true (is.Bool true) stack = On stack
while_true (is.Bool false) stack = Off stack
while_true _ stack = Neither

-- `LOOP_LEFT`: while the top is left
abbrev pub while_left : Layer Val → List Val → Again
while_left (is.Left v) stack = On (v ∷ stack)
while_left (is.Right v) stack = Off (v ∷ stack)
while_left _ stack = Neither

-- the body once for a turn, and then the next time
abbrev pub once_more : Meaning → Meaning → Again → Beside → Run (List Val)
once_more body next (On stack) beside = in_a_turn (λ b. then_do (body stack b) next) beside
once_more body next (Off stack) beside = ends (Return stack beside)
once_more body next Neither beside = ends Missed

-- by the top, where there is one
abbrev pub by_top : (Layer Val → List Val → Again) → List Val → Again
by_top while (x ∷ stack) = while (out-Val x) stack
by_top while [] = Neither

-- so many times at most
abbrev pub repeated : ℕ → (Layer Val → List Val → Again) → Meaning → Meaning
repeated zero while body stack beside = ends Missed
repeated (suc n) while body stack beside = once_more body (repeated n while body) (by_top while stack) beside

-- each time takes a turn, so one time more than there are turns is enough
abbrev pub looped : (Layer Val → List Val → Again) → Meaning → Meaning
looped while body stack beside = repeated (beside.turns + 1) while body stack beside

-- ---- each item

-- a key and its value as a pair
abbrev pub entry_pair : Val × Val → Val
entry_pair e = value.Pair e.0 e.1

-- the items of a list, set or map, from the least
abbrev pub items_of : Layer Val → Option (List Val)
items_of (is.List items) = Some items
items_of (is.Set items) = Some items
items_of (is.Map entries) = Some (map entry_pair entries)
items_of _ = None

-- `ITER`: the body on each
abbrev pub each : Meaning → List Val → Meaning
each body [] stack beside = ends (Return stack beside)
each body (x ∷ items) stack beside = in_a_turn (λ b. then_do (body (x ∷ stack) b) (each body items)) beside

-- of the items that are there, if there can be any
abbrev pub each_of : Meaning → Option (List Val) → Meaning
each_of body (Some items) stack beside = each body items stack beside
each_of body None stack beside = ends Missed

-- a result on top of what the next ones make of the stack below it
abbrev pub with_result : (List Val → Beside → Run (List Val × List Val)) → List Val → Beside → Run (List Val × List Val)
with_result next (y ∷ stack) beside = then_do (next stack beside) (λ r b. ends (Return (y ∷ r.0, r.1) b))
with_result next [] beside = ends Missed

-- `MAP`: the body on each, with what it leaves on top; the results, and the stack below
abbrev pub results : Meaning → List Val → List Val → Beside → Run (List Val × List Val)
results body [] stack beside = ends (Return ([], stack) beside)
results body (x ∷ items) stack beside = in_a_turn (λ b. then_do (body (x ∷ stack) b) (with_result (results body items))) beside

-- keys with these values
abbrev pub with_values : List (Val × Val) → List Val → List (Val × Val)
with_values [] vs = []
with_values (e ∷ es) [] = []
with_values (e ∷ es) (v ∷ vs) = (e.0, v) ∷ with_values es vs

-- a list or map with results in the place of its items or values
abbrev pub remade : Layer Val → List Val → Option Val
remade (is.List items) vs = Some (value.List vs)
remade (is.Map entries) vs = Some (value.Map (with_values entries vs))
remade _ vs = None
