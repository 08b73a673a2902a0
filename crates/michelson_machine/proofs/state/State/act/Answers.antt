use Rattle.std.proofs.Common.{ap, sym, ◌∙◌}
use Rattle.michelson_code.specs.declared.instr.Instr.TheVariants as instr
use Rattle.michelson_machine.proofs.Levels as level
use Rattle.michelson_machine.proofs.StepLaws.{acted_by}
use Rattle.michelson_machine.proofs.state.State.act.Goals as goal

pub returns-in-Drop-clause-same : goal.returns-in-Drop-clause-same
returns-in-Drop-clause-same c = acted_by c.args.self.now c.args.instr.now _ c.drop_top.new.self c.drop_top.result (level.at-Drop c.in-Drop.is) c.drop_top.ensures.same

pub returns-in-DropN-clause-same : goal.returns-in-DropN-clause-same
returns-in-DropN-clause-same c = acted_by c.args.self.now c.args.instr.now _ c.drop_top-in-DropN.new.self c.drop_top-in-DropN.result (level.at-DropN c.in-DropN.is) c.drop_top-in-DropN.ensures.same

pub returns-in-Dup-clause-same : goal.returns-in-Dup-clause-same
returns-in-Dup-clause-same c = acted_by c.args.self.now c.args.instr.now _ c.dup.new.self c.dup.result (level.at-Dup c.in-Dup.is) c.dup.ensures.same

pub returns-in-DupN-clause-same : goal.returns-in-DupN-clause-same
returns-in-DupN-clause-same c = acted_by c.args.self.now c.args.instr.now _ c.dup-in-DupN.new.self c.dup-in-DupN.result (level.at-DupN c.in-DupN.is) c.dup-in-DupN.ensures.same

pub returns-in-Swap-clause-same : goal.returns-in-Swap-clause-same
returns-in-Swap-clause-same c = acted_by c.args.self.now c.args.instr.now _ c.dig.new.self c.dig.result (level.at-Swap c.in-Swap.is) c.dig.ensures.same

pub returns-in-Dig-clause-same : goal.returns-in-Dig-clause-same
returns-in-Dig-clause-same c = acted_by c.args.self.now c.args.instr.now _ c.dig-in-Dig.new.self c.dig-in-Dig.result (level.at-Dig c.in-Dig.is) c.dig-in-Dig.ensures.same

pub returns-in-Dug-clause-same : goal.returns-in-Dug-clause-same
returns-in-Dug-clause-same c = acted_by c.args.self.now c.args.instr.now _ c.dug.new.self c.dug.result (level.at-Dug c.in-Dug.is) c.dug.ensures.same

pub returns-in-Unit-clause-same : goal.returns-in-Unit-clause-same
returns-in-Unit-clause-same c = acted_by c.args.self.now c.args.instr.now _ c.unit.new.self c.unit.result (level.at-Unit c.in-Unit.is) c.unit.ensures.same

pub returns-in-Pair-clause-same : goal.returns-in-Pair-clause-same
returns-in-Pair-clause-same c = acted_by c.args.self.now c.args.instr.now _ c.data.new.self c.data.result (level.at-Pair c.in-Pair.is) c.data.ensures.same

pub returns-in-PairN-clause-same : goal.returns-in-PairN-clause-same
returns-in-PairN-clause-same c = acted_by c.args.self.now c.args.instr.now _ c.data-in-PairN.new.self c.data-in-PairN.result (level.at-PairN c.in-PairN.is) c.data-in-PairN.ensures.same

pub returns-in-Unpair-clause-same : goal.returns-in-Unpair-clause-same
returns-in-Unpair-clause-same c = acted_by c.args.self.now c.args.instr.now _ c.data-in-Unpair.new.self c.data-in-Unpair.result (level.at-Unpair c.in-Unpair.is) c.data-in-Unpair.ensures.same

pub returns-in-UnpairN-clause-same : goal.returns-in-UnpairN-clause-same
returns-in-UnpairN-clause-same c = acted_by c.args.self.now c.args.instr.now _ c.data-in-UnpairN.new.self c.data-in-UnpairN.result (level.at-UnpairN c.in-UnpairN.is) c.data-in-UnpairN.ensures.same

pub returns-in-Car-clause-same : goal.returns-in-Car-clause-same
returns-in-Car-clause-same c = acted_by c.args.self.now c.args.instr.now _ c.car.new.self c.car.result (level.at-Car c.in-Car.is) c.car.ensures.same

pub returns-in-Cdr-clause-same : goal.returns-in-Cdr-clause-same
returns-in-Cdr-clause-same c = acted_by c.args.self.now c.args.instr.now _ c.cdr.new.self c.cdr.result (level.at-Cdr c.in-Cdr.is) c.cdr.ensures.same

pub returns-in-Some-clause-same : goal.returns-in-Some-clause-same
returns-in-Some-clause-same c = acted_by c.args.self.now c.args.instr.now _ c.some.new.self c.some.result (level.at-Some c.in-Some.is) c.some.ensures.same

pub returns-in-None-clause-same : goal.returns-in-None-clause-same
returns-in-None-clause-same c = acted_by c.args.self.now c.args.instr.now _ c.nothing.new.self c.nothing.result (level.at-None c.in-None.is) c.nothing.ensures.same

pub returns-in-Left-clause-same : goal.returns-in-Left-clause-same
returns-in-Left-clause-same c = acted_by c.args.self.now c.args.instr.now _ c.left.new.self c.left.result (level.at-Left c.in-Left.is) c.left.ensures.same

pub returns-in-Right-clause-same : goal.returns-in-Right-clause-same
returns-in-Right-clause-same c = acted_by c.args.self.now c.args.instr.now _ c.right.new.self c.right.result (level.at-Right c.in-Right.is) c.right.ensures.same

pub returns-in-Nil-clause-same : goal.returns-in-Nil-clause-same
returns-in-Nil-clause-same c = acted_by c.args.self.now c.args.instr.now _ c.nil.new.self c.nil.result (level.at-Nil c.in-Nil.is) c.nil.ensures.same

pub returns-in-Cons-clause-same : goal.returns-in-Cons-clause-same
returns-in-Cons-clause-same c = acted_by c.args.self.now c.args.instr.now _ c.data-in-Cons.new.self c.data-in-Cons.result (level.at-Cons c.in-Cons.is) c.data-in-Cons.ensures.same

pub returns-in-Cast-clause-same : goal.returns-in-Cast-clause-same
returns-in-Cast-clause-same c = acted_by c.args.self.now c.args.instr.now _ c.keep.new.self c.keep.result (level.at-Cast c.in-Cast.is) c.keep.ensures.same

pub returns-in-Rename-clause-same : goal.returns-in-Rename-clause-same
returns-in-Rename-clause-same c = acted_by c.args.self.now c.args.instr.now _ c.keep-in-Rename.new.self c.keep-in-Rename.result (level.at-Rename c.in-Rename.is) c.keep-in-Rename.ensures.same

pub returns-in-Push-clause-same : goal.returns-in-Push-clause-same
returns-in-Push-clause-same c = acted_by c.args.self.now c.args.instr.now _ c.push.new.self c.push.result (level.at-Push c.in-Push.is) c.push.ensures.same

pub returns-in-Dip-clause-same : goal.returns-in-Dip-clause-same
returns-in-Dip-clause-same c = acted_by c.args.self.now c.args.instr.now _ c.dip.new.self c.dip.result (level.at-Dip (c.in-Dip.is ∙ ap (λ x. instr.Dip x) (sym c.as_slice.ensures))) c.dip.ensures.same

pub returns-in-DipN-clause-same : goal.returns-in-DipN-clause-same
returns-in-DipN-clause-same c = acted_by c.args.self.now c.args.instr.now _ c.dip_all.new.self c.dip_all.result (level.at-DipN (c.in-DipN.is ∙ ap (λ x. instr.DipN c.in-DipN.n x) (sym c.as_slice-in-DipN.ensures))) c.dip_all.ensures.same

pub returns-in-If-clause-same : goal.returns-in-If-clause-same
returns-in-If-clause-same c = acted_by c.args.self.now c.args.instr.now _ c.branch-self.new.self c.branch-self.result (level.at-If (c.in-If.is ∙ ap (λ x. instr.If x c.in-If.d) (sym c.as_slice-in-If.ensures) ∙ ap (λ y. instr.If c.as_slice-in-If.result.now y) (sym c.as_slice-in-If-2.ensures))) c.branch-self.ensures.same

pub returns-in-IfNone-clause-same : goal.returns-in-IfNone-clause-same
returns-in-IfNone-clause-same c = acted_by c.args.self.now c.args.instr.now _ c.if_none.new.self c.if_none.result (level.at-IfNone (c.in-IfNone.is ∙ ap (λ x. instr.IfNone x c.in-IfNone.d) (sym c.as_slice-in-IfNone.ensures) ∙ ap (λ y. instr.IfNone c.as_slice-in-IfNone.result.now y) (sym c.as_slice-in-IfNone-2.ensures))) c.if_none.ensures.same

pub returns-in-IfLeft-clause-same : goal.returns-in-IfLeft-clause-same
returns-in-IfLeft-clause-same c = acted_by c.args.self.now c.args.instr.now _ c.if_left.new.self c.if_left.result (level.at-IfLeft (c.in-IfLeft.is ∙ ap (λ x. instr.IfLeft x c.in-IfLeft.d) (sym c.as_slice-in-IfLeft.ensures) ∙ ap (λ y. instr.IfLeft c.as_slice-in-IfLeft.result.now y) (sym c.as_slice-in-IfLeft-2.ensures))) c.if_left.ensures.same

pub returns-in-IfCons-clause-same : goal.returns-in-IfCons-clause-same
returns-in-IfCons-clause-same c = acted_by c.args.self.now c.args.instr.now _ c.if_cons.new.self c.if_cons.result (level.at-IfCons (c.in-IfCons.is ∙ ap (λ x. instr.IfCons x c.in-IfCons.d) (sym c.as_slice-in-IfCons.ensures) ∙ ap (λ y. instr.IfCons c.as_slice-in-IfCons.result.now y) (sym c.as_slice-in-IfCons-2.ensures))) c.if_cons.ensures.same

pub returns-in-Loop-clause-same : goal.returns-in-Loop-clause-same
returns-in-Loop-clause-same c = acted_by c.args.self.now c.args.instr.now _ c.begin_loop.new.self c.begin_loop.result (level.at-Loop (c.in-Loop.is ∙ ap (λ x. instr.Loop x) (sym c.as_slice-in-Loop.ensures))) c.begin_loop.ensures.same

pub returns-in-LoopLeft-clause-same : goal.returns-in-LoopLeft-clause-same
returns-in-LoopLeft-clause-same c = acted_by c.args.self.now c.args.instr.now _ c.begin_loop-in-LoopLeft.new.self c.begin_loop-in-LoopLeft.result (level.at-LoopLeft (c.in-LoopLeft.is ∙ ap (λ x. instr.LoopLeft x) (sym c.as_slice-in-LoopLeft.ensures))) c.begin_loop-in-LoopLeft.ensures.same

pub returns-in-Iter-clause-same : goal.returns-in-Iter-clause-same
returns-in-Iter-clause-same c = acted_by c.args.self.now c.args.instr.now _ c.iter.new.self c.iter.result (level.at-Iter (c.in-Iter.is ∙ ap (λ x. instr.Iter x) (sym c.as_slice-in-Iter.ensures))) c.iter.ensures.same

pub returns-in-Map-clause-same : goal.returns-in-Map-clause-same
returns-in-Map-clause-same c = acted_by c.args.self.now c.args.instr.now _ c.map.new.self c.map.result (level.at-Map (c.in-Map.is ∙ ap (λ x. instr.Map x) (sym c.as_slice-in-Map.ensures))) c.map.ensures.same

pub returns-in-EmptySet-clause-same : goal.returns-in-EmptySet-clause-same
returns-in-EmptySet-clause-same c = acted_by c.args.self.now c.args.instr.now _ c.empty_set.new.self c.empty_set.result (level.at-EmptySet c.in-EmptySet.is) c.empty_set.ensures.same

pub returns-in-EmptyMap-clause-same : goal.returns-in-EmptyMap-clause-same
returns-in-EmptyMap-clause-same c = acted_by c.args.self.now c.args.instr.now _ c.empty_map.new.self c.empty_map.result (level.at-EmptyMap c.in-EmptyMap.is) c.empty_map.ensures.same

pub returns-in-Failwith-clause-same : goal.returns-in-Failwith-clause-same
returns-in-Failwith-clause-same c = acted_by c.args.self.now c.args.instr.now _ c.fail.new.self c.fail.result (level.at-Failwith c.in-Failwith.is) c.fail.ensures.same

pub returns-in-Add-clause-same : goal.returns-in-Add-clause-same
returns-in-Add-clause-same c = acted_by c.args.self.now c.args.instr.now _ c.data-in-Add.new.self c.data-in-Add.result (level.at-Add c.in-Add.is) c.data-in-Add.ensures.same

pub returns-in-Sub-clause-same : goal.returns-in-Sub-clause-same
returns-in-Sub-clause-same c = acted_by c.args.self.now c.args.instr.now _ c.data-in-Sub.new.self c.data-in-Sub.result (level.at-Sub c.in-Sub.is) c.data-in-Sub.ensures.same

pub returns-in-SubMutez-clause-same : goal.returns-in-SubMutez-clause-same
returns-in-SubMutez-clause-same c = acted_by c.args.self.now c.args.instr.now _ c.data-in-SubMutez.new.self c.data-in-SubMutez.result (level.at-SubMutez c.in-SubMutez.is) c.data-in-SubMutez.ensures.same

pub returns-in-Neg-clause-same : goal.returns-in-Neg-clause-same
returns-in-Neg-clause-same c = acted_by c.args.self.now c.args.instr.now _ c.data-in-Neg.new.self c.data-in-Neg.result (level.at-Neg c.in-Neg.is) c.data-in-Neg.ensures.same

pub returns-in-Abs-clause-same : goal.returns-in-Abs-clause-same
returns-in-Abs-clause-same c = acted_by c.args.self.now c.args.instr.now _ c.data-in-Abs.new.self c.data-in-Abs.result (level.at-Abs c.in-Abs.is) c.data-in-Abs.ensures.same

pub returns-in-IsNat-clause-same : goal.returns-in-IsNat-clause-same
returns-in-IsNat-clause-same c = acted_by c.args.self.now c.args.instr.now _ c.data-in-IsNat.new.self c.data-in-IsNat.result (level.at-IsNat c.in-IsNat.is) c.data-in-IsNat.ensures.same

pub returns-in-Int-clause-same : goal.returns-in-Int-clause-same
returns-in-Int-clause-same c = acted_by c.args.self.now c.args.instr.now _ c.data-in-Int.new.self c.data-in-Int.result (level.at-Int c.in-Int.is) c.data-in-Int.ensures.same

pub returns-in-Lsl-clause-same : goal.returns-in-Lsl-clause-same
returns-in-Lsl-clause-same c = acted_by c.args.self.now c.args.instr.now _ c.data-in-Lsl.new.self c.data-in-Lsl.result (level.at-Lsl c.in-Lsl.is) c.data-in-Lsl.ensures.same

pub returns-in-Lsr-clause-same : goal.returns-in-Lsr-clause-same
returns-in-Lsr-clause-same c = acted_by c.args.self.now c.args.instr.now _ c.data-in-Lsr.new.self c.data-in-Lsr.result (level.at-Lsr c.in-Lsr.is) c.data-in-Lsr.ensures.same

pub returns-in-And-clause-same : goal.returns-in-And-clause-same
returns-in-And-clause-same c = acted_by c.args.self.now c.args.instr.now _ c.data-in-And.new.self c.data-in-And.result (level.at-And c.in-And.is) c.data-in-And.ensures.same

pub returns-in-Or-clause-same : goal.returns-in-Or-clause-same
returns-in-Or-clause-same c = acted_by c.args.self.now c.args.instr.now _ c.data-in-Or.new.self c.data-in-Or.result (level.at-Or c.in-Or.is) c.data-in-Or.ensures.same

pub returns-in-Xor-clause-same : goal.returns-in-Xor-clause-same
returns-in-Xor-clause-same c = acted_by c.args.self.now c.args.instr.now _ c.data-in-Xor.new.self c.data-in-Xor.result (level.at-Xor c.in-Xor.is) c.data-in-Xor.ensures.same

pub returns-in-Not-clause-same : goal.returns-in-Not-clause-same
returns-in-Not-clause-same c = acted_by c.args.self.now c.args.instr.now _ c.data-in-Not.new.self c.data-in-Not.result (level.at-Not c.in-Not.is) c.data-in-Not.ensures.same

pub returns-in-Eq-clause-same : goal.returns-in-Eq-clause-same
returns-in-Eq-clause-same c = acted_by c.args.self.now c.args.instr.now _ c.data-in-Eq.new.self c.data-in-Eq.result (level.at-Eq c.in-Eq.is) c.data-in-Eq.ensures.same

pub returns-in-Neq-clause-same : goal.returns-in-Neq-clause-same
returns-in-Neq-clause-same c = acted_by c.args.self.now c.args.instr.now _ c.data-in-Neq.new.self c.data-in-Neq.result (level.at-Neq c.in-Neq.is) c.data-in-Neq.ensures.same

pub returns-in-Lt-clause-same : goal.returns-in-Lt-clause-same
returns-in-Lt-clause-same c = acted_by c.args.self.now c.args.instr.now _ c.data-in-Lt.new.self c.data-in-Lt.result (level.at-Lt c.in-Lt.is) c.data-in-Lt.ensures.same

pub returns-in-Gt-clause-same : goal.returns-in-Gt-clause-same
returns-in-Gt-clause-same c = acted_by c.args.self.now c.args.instr.now _ c.data-in-Gt.new.self c.data-in-Gt.result (level.at-Gt c.in-Gt.is) c.data-in-Gt.ensures.same

pub returns-in-Le-clause-same : goal.returns-in-Le-clause-same
returns-in-Le-clause-same c = acted_by c.args.self.now c.args.instr.now _ c.data-in-Le.new.self c.data-in-Le.result (level.at-Le c.in-Le.is) c.data-in-Le.ensures.same

pub returns-in-Ge-clause-same : goal.returns-in-Ge-clause-same
returns-in-Ge-clause-same c = acted_by c.args.self.now c.args.instr.now _ c.data-in-Ge.new.self c.data-in-Ge.result (level.at-Ge c.in-Ge.is) c.data-in-Ge.ensures.same

pub returns-in-Size-clause-same : goal.returns-in-Size-clause-same
returns-in-Size-clause-same c = acted_by c.args.self.now c.args.instr.now _ c.data-in-Size.new.self c.data-in-Size.result (level.at-Size c.in-Size.is) c.data-in-Size.ensures.same

pub returns-in-Amount-clause-same : goal.returns-in-Amount-clause-same
returns-in-Amount-clause-same c = acted_by c.args.self.now c.args.instr.now _ c.amount.new.self c.amount.result (level.at-Amount c.in-Amount.is) c.amount.ensures.same

pub returns-in-Sender-clause-same : goal.returns-in-Sender-clause-same
returns-in-Sender-clause-same c = acted_by c.args.self.now c.args.instr.now _ c.sender.new.self c.sender.result (level.at-Sender c.in-Sender.is) c.sender.ensures.same

pub returns-in-Source-clause-same : goal.returns-in-Source-clause-same
returns-in-Source-clause-same c = acted_by c.args.self.now c.args.instr.now _ c.source.new.self c.source.result (level.at-Source c.in-Source.is) c.source.ensures.same

pub returns-in-SelfAddress-clause-same : goal.returns-in-SelfAddress-clause-same
returns-in-SelfAddress-clause-same c = acted_by c.args.self.now c.args.instr.now _ c.own_address.new.self c.own_address.result (level.at-SelfAddress c.in-SelfAddress.is) c.own_address.ensures.same

pub returns-in-Now-clause-same : goal.returns-in-Now-clause-same
returns-in-Now-clause-same c = acted_by c.args.self.now c.args.instr.now _ c.now.new.self c.now.result (level.at-Now c.in-Now.is) c.now.ensures.same

pub returns-in-Level-clause-same : goal.returns-in-Level-clause-same
returns-in-Level-clause-same c = acted_by c.args.self.now c.args.instr.now _ c.level.new.self c.level.result (level.at-Level c.in-Level.is) c.level.ensures.same

pub returns-in-SelfEntry-clause-same : goal.returns-in-SelfEntry-clause-same
returns-in-SelfEntry-clause-same c = acted_by c.args.self.now c.args.instr.now _ c.own_entry.new.self c.own_entry.result (level.at-SelfEntry c.in-SelfEntry.is) c.own_entry.ensures.same

pub returns-in-Address-clause-same : goal.returns-in-Address-clause-same
returns-in-Address-clause-same c = acted_by c.args.self.now c.args.instr.now _ c.address.new.self c.address.result (level.at-Address c.in-Address.is) c.address.ensures.same

pub returns-in-Compare-clause-same : goal.returns-in-Compare-clause-same
returns-in-Compare-clause-same c = acted_by c.args.self.now c.args.instr.now _ c.data-in-Compare.new.self c.data-in-Compare.result (level.at-Compare c.in-Compare.is) c.data-in-Compare.ensures.same

pub returns-in-Mul-clause-same : goal.returns-in-Mul-clause-same
returns-in-Mul-clause-same c = acted_by c.args.self.now c.args.instr.now _ c.data-in-Mul.new.self c.data-in-Mul.result (level.at-Mul c.in-Mul.is) c.data-in-Mul.ensures.same

pub returns-in-Ediv-clause-same : goal.returns-in-Ediv-clause-same
returns-in-Ediv-clause-same c = acted_by c.args.self.now c.args.instr.now _ c.data-in-Ediv.new.self c.data-in-Ediv.result (level.at-Ediv c.in-Ediv.is) c.data-in-Ediv.ensures.same

pub returns-in-Concat-clause-same : goal.returns-in-Concat-clause-same
returns-in-Concat-clause-same c = acted_by c.args.self.now c.args.instr.now _ c.data-in-Concat.new.self c.data-in-Concat.result (level.at-Concat c.in-Concat.is) c.data-in-Concat.ensures.same

pub returns-in-Mem-clause-same : goal.returns-in-Mem-clause-same
returns-in-Mem-clause-same c = acted_by c.args.self.now c.args.instr.now _ c.has.new.self c.has.result (level.at-Mem c.in-Mem.is) c.has.ensures.same

pub returns-in-Get-clause-same : goal.returns-in-Get-clause-same
returns-in-Get-clause-same c = acted_by c.args.self.now c.args.instr.now _ c.get.new.self c.get.result (level.at-Get c.in-Get.is) c.get.ensures.same

pub returns-in-Update-clause-same : goal.returns-in-Update-clause-same
returns-in-Update-clause-same c = acted_by c.args.self.now c.args.instr.now _ c.update.new.self c.update.result (level.at-Update c.in-Update.is) c.update.ensures.same

pub returns-in-GetAndUpdate-clause-same : goal.returns-in-GetAndUpdate-clause-same
returns-in-GetAndUpdate-clause-same c = acted_by c.args.self.now c.args.instr.now _ c.get_and_update.new.self c.get_and_update.result (level.at-GetAndUpdate c.in-GetAndUpdate.is) c.get_and_update.ensures.same

pub returns-in-Sha256-clause-same : goal.returns-in-Sha256-clause-same
returns-in-Sha256-clause-same c = acted_by c.args.self.now c.args.instr.now _ c.data-in-Sha256.new.self c.data-in-Sha256.result (level.at-Sha256 c.in-Sha256.is) c.data-in-Sha256.ensures.same

pub returns-in-Contract-clause-same : goal.returns-in-Contract-clause-same
returns-in-Contract-clause-same c = acted_by c.args.self.now c.args.instr.now _ c.contract.new.self c.contract.result (level.at-Contract c.in-Contract.is) c.contract.ensures.same

pub returns-in-TransferTokens-clause-same : goal.returns-in-TransferTokens-clause-same
returns-in-TransferTokens-clause-same c = acted_by c.args.self.now c.args.instr.now _ c.transfer.new.self c.transfer.result (level.at-TransferTokens c.in-TransferTokens.is) c.transfer.ensures.same
