-- What an instruction makes of its operands: results in their place, or a failure.
use Rattle.std.specs.Prelude.{List, [], ◌∷◌, Bool, nat_le, if◌then◌else◌}
use Rattle.value_core.specs.declared.val.Val.{Val}
use Rattle.value_core.specs.declared.val.Val.TheViews.{out-Val}
use Rattle.value_core.specs.Layer.{Layer}
use Rattle.value_core.specs.Size.{size_of}
use Rattle.michelson_code.specs.declared.why.Why.{Why}
use Rattle.michelson_code.specs.declared.why.Why.TheVariants as why

-- results, the top first; the cause of a failure; or the table has no line for such operands
pub data Answer : Type 0 where
  Gives : List Val → Answer
  Ends : Why → Answer
  Misses : Answer

-- one result
abbrev pub gives : Val → Answer
gives v = Gives (v ∷ [])

-- a result that is tested for its size: at most 4,096 leaves
abbrev pub sized : Val → Answer
sized v = if nat_le (size_of v) 4096 then gives v else Ends why.TooLarge

-- a result in its range
abbrev pub in_range : Bool → Val → Answer
in_range within v = if within then gives v else Ends why.Overflow

-- what is made of the operands on top, and what stands below them
abbrev pub Answered : Type 0
Answered = Answer × List Val

-- there aren't as many operands
abbrev pub missed : Answered
missed = (Misses, [])

-- what is made of no operand
abbrev pub on_none : Val → List Val → Answered
on_none v below = (gives v, below)

-- of the one on top
abbrev pub on_one : (Layer Val → Answer) → List Val → Answered
on_one f (x ∷ below) = (f (out-Val x), below)
on_one f _ = missed

-- of two
abbrev pub on_two : (Layer Val → Layer Val → Answer) → List Val → Answered
on_two f (x ∷ y ∷ below) = (f (out-Val x) (out-Val y), below)
on_two f _ = missed

-- of a value, whatever it is
abbrev pub on_any : (Val → Answer) → List Val → Answered
on_any f (x ∷ below) = (f x, below)
on_any f _ = missed

-- of two values, whatever they are
abbrev pub on_both : (Val → Val → Answer) → List Val → Answered
on_both f (x ∷ y ∷ below) = (f x y, below)
on_both f _ = missed

-- of a value, whatever it is, and one below it
abbrev pub on_key : (Val → Layer Val → Answer) → List Val → Answered
on_key f (x ∷ y ∷ below) = (f x (out-Val y), below)
on_key f _ = missed

-- of a value, whatever it is, and two below it
abbrev pub on_entry : (Val → Layer Val → Layer Val → Answer) → List Val → Answered
on_entry f (x ∷ y ∷ z ∷ below) = (f x (out-Val y) (out-Val z), below)
on_entry f _ = missed
