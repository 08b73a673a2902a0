-- The rules: what a code makes of a stack in a world, by cases on the instruction. What a charge leaves among the marks is a parameter.
use Rattle.std.specs.Prelude.{ℕ, List, [], ◌∷◌, ◌++◌, map, is_some, Option, Some, None}
use Rattle.value_core.specs.declared.val.Val.{Val}
use Rattle.value_core.specs.declared.val.Val.TheOpen as is
use Rattle.value_core.specs.declared.val.Val.TheVariants as value
use Rattle.value_core.specs.Layer.{Layer}
use Rattle.michelson_code.specs.declared.instr.Instr.{Instr}
use Rattle.michelson_code.specs.declared.instr.Instr.TheOpen as one
use Rattle.michelson_code.specs.declared.instr.Instr.TheOpen.{Instr-F}
use Rattle.michelson_code.specs.declared.instr.Instr.TheFolds.{fold-Instr}
use Rattle.michelson_code.specs.declared.script.Script.{Script}
use Rattle.michelson_code.specs.Forms.{form_at}
use Rattle.michelson_code.specs.Typing.{called}
use Rattle.value_core.specs.declared.ty.Ty.{Ty}
use Rattle.michelson_rules.specs.declared.ask.Ask.TheVariants as ask
use Rattle.michelson_rules.specs.declared.ask.Env.{Env}
use Rattle.michelson_rules.specs.World.{World, reply_of}
use Rattle.michelson_rules.specs.Runs.{Beside, Charge, Failed, Look, Mark, Missed, Return, Run, Take, ends, prefixed, then_do}
use Rattle.michelson_rules.specs.Answers.{Answered, Gives, Ends, Misses, sized}
use Rattle.michelson_rules.specs.Collections.{option}
use Rattle.michelson_rules.specs.Plain.{plain_at}
use Rattle.michelson_rules.specs.BigMaps.{Keyed, change_on_top, key_on_top, looked_up, with_change}
use Rattle.michelson_rules.specs.Bodies.{Meaning, below, by_bool, by_first, by_none, by_side, each_of, in_turn, items_of, looped, on_top, remade, results, while_left, while_true}

-- results in the place of the operands, or the failure
abbrev pub answered : Answered → Beside → Run (List Val)
answered (Gives vs, below) beside = ends (Return (vs ++ below) beside)
answered (Ends y, below) beside = ends (Failed y)
answered (Misses, below) beside = ends Missed

-- `ITER`
abbrev pub iterated : Meaning → Layer Val → Meaning
iterated body x = each_of body (items_of x)

-- what is made of the results of `MAP`
abbrev pub gathered : Layer Val → (List Val × List Val) → Beside → Run (List Val)
gathered x (vs, stack) beside = finished (remade x vs)
  where
    finished : Option Val → Run (List Val)
    finished (Some v) = answered (sized v, stack) beside
    finished None = ends Missed

-- the items of a list, and those of a map, each a key and its value; a set isn't mapped
abbrev pub mapped_items : Layer Val → Option (List Val)
mapped_items (is.Set items) = None
mapped_items x = items_of x

-- `MAP`
abbrev pub mapped : Meaning → Layer Val → Meaning
mapped body x stack beside = of_items (mapped_items x)
  where
    of_items : Option (List Val) → Run (List Val)
    of_items (Some items) = then_do (results body items stack beside) (gathered x)
    of_items None = ends Missed

-- on a big map where one is there, else by the table of plain instructions
abbrev pub or_plain : {K : Type 0} → Answered → Option K → (K → Beside → Run (List Val)) → Beside → Run (List Val)
or_plain plain (Some k) on_big beside = on_big k beside
or_plain plain None on_big beside = answered plain beside

module _ (w : World) where
  -- what a big map has at a key, as the instruction tells it
  abbrev pub looked_up_as : (Option Val → Val) → Keyed → Beside → Run (List Val)
  looked_up_as tell k beside = then_do (looked_up w k beside) (λ v b. ends (Return (tell v ∷ k.below) b))

  -- a big map with a change
  abbrev pub changed_map : Keyed × Option Val → Beside → Run (List Val)
  changed_map (k, choice) beside = then_do (with_change k choice beside) (λ m b. ends (Return (m ∷ k.below) b))

  -- the same, with what was there before on top
  abbrev pub changed_map_with_old : Keyed × Option Val → Beside → Run (List Val)
  changed_map_with_old (k, choice) beside =
      then_do (looked_up w k beside) (λ old b. then_do (with_change k choice b) (λ m c. ends (Return (option old ∷ m ∷ k.below) c)))

  -- `BALANCE`
  abbrev pub balance : Meaning
  balance stack beside = record { marks = Look ask.Balance ∷ Take 1 ∷ []; ending = Return (value.Mutez w.balance ∷ stack) beside }

  -- `CONTRACT`
  abbrev pub contract : List ℕ → Ty → Layer Val → Meaning
  contract entry ty (is.Addr address) stack beside =
      record { marks = Look (ask.Contract address entry ty) ∷ []; ending = Return (option (reply_of w (ask.Contract address entry ty)) ∷ stack) beside }
  contract entry ty _ stack beside = ends Missed

module _ (price : ℕ → List Mark) (s : Script) (env : Env) (w : World) where
  -- what an instruction without bodies makes of its operands
  abbrev pub plain : Instr-F Meaning → List Val → Answered
  plain = plain_at s env

  -- an instruction that is paid for, with the meaning of each instruction of a body in its place
  abbrev pub act : Instr-F Meaning → Meaning
  act (one.Dip c) stack = below 1 (in_turn c) stack
  act (one.DipN n c) stack = below n (in_turn c) stack
  act (one.If c d) stack = on_top (by_bool (in_turn c) (in_turn d)) stack
  act (one.IfNone c d) stack = on_top (by_none (in_turn c) (in_turn d)) stack
  act (one.IfLeft c d) stack = on_top (by_side (in_turn c) (in_turn d)) stack
  act (one.IfCons c d) stack = on_top (by_first (in_turn c) (in_turn d)) stack
  act (one.Loop c) stack = looped while_true (in_turn c) stack
  act (one.LoopLeft c) stack = looped while_left (in_turn c) stack
  act (one.Iter c) stack = on_top (iterated (in_turn c)) stack
  act (one.Map c) stack = on_top (mapped (in_turn c)) stack
  act one.Mem stack = or_plain (plain one.Mem stack) (key_on_top stack) (looked_up_as w (λ v. value.Bool (is_some v)))
  act one.Get stack = or_plain (plain one.Get stack) (key_on_top stack) (looked_up_as w option)
  act one.Update stack = or_plain (plain one.Update stack) (change_on_top stack) (changed_map w)
  act one.GetAndUpdate stack = or_plain (plain one.GetAndUpdate stack) (change_on_top stack) (changed_map_with_old w)
  act one.Balance stack = balance w stack
  act (one.Contract e t) stack = on_top (contract w (called e) t) stack
  act i stack = answered (plain i stack)

  -- the cost comes first
  abbrev pub charged : Instr-F Meaning → Meaning
  charged i stack beside = prefixed (price (form_at i).cost) (act i stack beside)

  -- an instruction
  abbrev pub rule : Instr → Meaning
  rule = fold-Instr Meaning charged

  -- a code
  abbrev pub rules : List Instr → Meaning
  rules code = in_turn (map rule code)

-- each cost is a mark
abbrev pub charges : ℕ → List Mark
charges n = Charge n ∷ []

-- nobody counts gas
abbrev pub still : ℕ → List Mark
still n = []
