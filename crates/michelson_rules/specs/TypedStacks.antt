-- What operands of the right types are answered: results of their types above the rest of the stack, or a failure.
use Rattle.std.specs.Prelude.{Bool, true, false, List, [], ◌∷◌, ◌++◌, ⊤}
use Rattle.std.specs.List.{list_any}
use Rattle.value_core.specs.declared.ty.Ty.{Ty}
use Rattle.value_core.specs.declared.ty.Ty.TheOpen as ty
use Rattle.value_core.specs.declared.ty.Ty.TheOpen.{Ty-F}
use Rattle.value_core.specs.declared.ty.Ty.TheViews.{out-Ty}
use Rattle.value_core.specs.declared.val.Val.{Val}
use Rattle.michelson_code.specs.declared.instr.Instr.TheOpen as one
use Rattle.michelson_code.specs.declared.instr.Instr.TheOpen.{Instr-F}
use Rattle.michelson_code.specs.declared.operands.Level.TheVariants as level
use Rattle.michelson_code.specs.declared.operands.Line.{Line}
use Rattle.michelson_code.specs.declared.operands.Slot.{Slot}
use Rattle.michelson_code.specs.declared.operands.Slot.TheVariants as slot
use Rattle.michelson_code.specs.declared.why.Why.{Why}
use Rattle.michelson_code.specs.declared.why.Why.TheVariants as why
use Rattle.michelson_code.specs.Printable.{is_pushed}
use Rattle.michelson_code.specs.Typing.{slot_list}
use Rattle.michelson_rules.specs.Answers.{Answered, Gives, Ends, Misses}

-- a cause for which an instruction on its operands alone fails
abbrev pub IsDataCause : Why → Type 0
IsDataCause why.Overflow = ⊤
IsDataCause why.Shift = ⊤
IsDataCause why.TooLarge = ⊤
IsDataCause y = ⊥

module _ (Has : Val → Ty → Type 0) where
  -- each item has the type that stands at its place
  abbrev pub StackHas : List Val → List Ty → Type 0
  StackHas [] [] = ⊤
  StackHas (v ∷ vs) (t ∷ ts) = Has v t × StackHas vs ts
  StackHas _ _ = ⊥

  -- the stack is then of these types, or the run fails for such a cause
  abbrev pub IsAnswered : List Ty → Answered → Type 0
  IsAnswered after (Gives vs, below) = StackHas (vs ++ below) after
  IsAnswered after (Ends y, below) = IsDataCause y
  IsAnswered after (Misses, below) = ⊥

-- a big map
abbrev pub is_big_map : Slot → Bool
is_big_map (slot.Of (level.BigMap p q)) = true
is_big_map _ = false

-- the ledger is asked for what stands on such a line
abbrev pub asks : {A : Type 0} → Instr-F A → Line → Bool
asks one.Balance l = true
asks (one.Contract e t) l = true
asks x l = list_any is_big_map (slot_list l.0)

-- a type of big maps
abbrev pub is_big_map_type : Ty-F Ty → Bool
is_big_map_type (ty.BigMap k w) = true
is_big_map_type _ = false

-- the ledger is asked for what stands on a stack of such types
abbrev pub asks_on : {A : Type 0} → Instr-F A → List Ty → Bool
asks_on one.Balance before = true
asks_on (one.Contract e t) before = true
asks_on one.Mem (k ∷ t ∷ below) = is_big_map_type (out-Ty t)
asks_on one.Get (k ∷ t ∷ below) = is_big_map_type (out-Ty t)
asks_on one.Update (k ∷ choice ∷ t ∷ below) = is_big_map_type (out-Ty t)
asks_on one.GetAndUpdate (k ∷ choice ∷ t ∷ below) = is_big_map_type (out-Ty t)
asks_on x before = false

-- a value that an instruction pushes may be pushed
abbrev pub pushes_well : {A : Type 0} → Instr-F A → Bool
pushes_well (one.Push t v) = is_pushed t v
pushes_well x = true
