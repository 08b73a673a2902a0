-- What an instruction costs doesn't depend on its bodies.
use Rattle.std.proofs.Common.{◌≡◌, List, refl, ap, ◌∙◌}
use Rattle.value_core.specs.declared.val.Val.{Val}
use Rattle.michelson_code.specs.declared.instr.Instr.{Instr}
use Rattle.michelson_code.specs.declared.instr.Instr.TheOpen as one
use Rattle.michelson_code.specs.declared.instr.Instr.TheOpen.{Instr-F}
use Rattle.michelson_code.specs.declared.instr.Instr.TheFolds.{fold_out-Instr, map-Instr}
use Rattle.michelson_code.specs.declared.instr.Instr.TheViews.{out-Instr}
use Rattle.michelson_code.specs.declared.script.Script.{Script}
use Rattle.michelson_code.specs.Forms.{cost_of, form_at}
use Rattle.michelson_rules.specs.declared.ask.Env.{Env}
use Rattle.michelson_rules.specs.World.{World}
use Rattle.michelson_rules.specs.Runs.{Beside, prefixed}
use Rattle.michelson_rules.specs.Bodies.{Meaning}
use Rattle.michelson_rules.specs.Rules.{act, charged, charges, rule}

-- with whatever stands in the place of the instructions of bodies
cost_of_level : (f : Instr → Meaning) (x : Instr-F Instr) → (form_at (map-Instr Instr Meaning f x)).cost ≡ (form_at x).cost
cost_of_level f one.Drop = refl
cost_of_level f (one.DropN a) = refl
cost_of_level f one.Dup = refl
cost_of_level f (one.DupN a) = refl
cost_of_level f one.Swap = refl
cost_of_level f (one.Dig a) = refl
cost_of_level f (one.Dug a) = refl
cost_of_level f one.Unit = refl
cost_of_level f one.Pair = refl
cost_of_level f (one.PairN a) = refl
cost_of_level f one.Unpair = refl
cost_of_level f (one.UnpairN a) = refl
cost_of_level f one.Car = refl
cost_of_level f one.Cdr = refl
cost_of_level f one.Some = refl
cost_of_level f (one.None a) = refl
cost_of_level f (one.Left a) = refl
cost_of_level f (one.Right a) = refl
cost_of_level f (one.Nil a) = refl
cost_of_level f one.Cons = refl
cost_of_level f (one.Cast a) = refl
cost_of_level f one.Rename = refl
cost_of_level f (one.Push a b) = refl
cost_of_level f (one.Dip a) = refl
cost_of_level f (one.DipN a b) = refl
cost_of_level f (one.If a b) = refl
cost_of_level f (one.IfNone a b) = refl
cost_of_level f (one.IfLeft a b) = refl
cost_of_level f (one.IfCons a b) = refl
cost_of_level f (one.Loop a) = refl
cost_of_level f (one.LoopLeft a) = refl
cost_of_level f (one.Iter a) = refl
cost_of_level f (one.Map a) = refl
cost_of_level f (one.EmptySet a) = refl
cost_of_level f (one.EmptyMap a b) = refl
cost_of_level f one.Failwith = refl
cost_of_level f one.Add = refl
cost_of_level f one.Sub = refl
cost_of_level f one.SubMutez = refl
cost_of_level f one.Neg = refl
cost_of_level f one.Abs = refl
cost_of_level f one.IsNat = refl
cost_of_level f one.Int = refl
cost_of_level f one.Lsl = refl
cost_of_level f one.Lsr = refl
cost_of_level f one.And = refl
cost_of_level f one.Or = refl
cost_of_level f one.Xor = refl
cost_of_level f one.Not = refl
cost_of_level f one.Eq = refl
cost_of_level f one.Neq = refl
cost_of_level f one.Lt = refl
cost_of_level f one.Gt = refl
cost_of_level f one.Le = refl
cost_of_level f one.Ge = refl
cost_of_level f one.Size = refl
cost_of_level f one.Amount = refl
cost_of_level f one.Sender = refl
cost_of_level f one.Source = refl
cost_of_level f one.SelfAddress = refl
cost_of_level f one.Now = refl
cost_of_level f one.Level = refl
cost_of_level f (one.SelfEntry a) = refl
cost_of_level f one.Address = refl
cost_of_level f one.Compare = refl
cost_of_level f one.Mul = refl
cost_of_level f one.Ediv = refl
cost_of_level f one.Concat = refl
cost_of_level f one.Mem = refl
cost_of_level f one.Get = refl
cost_of_level f one.Update = refl
cost_of_level f one.GetAndUpdate = refl
cost_of_level f one.Sha256 = refl
cost_of_level f one.Balance = refl
cost_of_level f (one.Contract a b) = refl
cost_of_level f one.TransferTokens = refl

-- an instruction is its cost, and then what it does
pub rule_is : (s : Script) (env : Env) (w : World) (i : Instr) (stack : List Val) (beside : Beside) →
    rule charges s env w i stack beside ≡ prefixed (charges (cost_of i)) (act charges s env w (map-Instr Instr Meaning (rule charges s env w) (out-Instr i)) stack beside)
rule_is s env w i stack beside =
    let level : Instr-F Meaning = map-Instr Instr Meaning (rule charges s env w) (out-Instr i) in
    ap (λ (m : Meaning). m stack beside) (fold_out-Instr Meaning (charged charges s env w) i)
    ∙ ap (λ n. prefixed (charges n) (act charges s env w level stack beside)) (cost_of_level (rule charges s env w) (out-Instr i))
