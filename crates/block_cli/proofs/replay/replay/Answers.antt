use Rattle.std.proofs.Common.{◌≡◌, true, false, refl, arith}
use Rattle.block_cli.proofs.Replaying.{Turn, footprint_differs, receipt_differs, tells_on}
use Rattle.block_cli.proofs.replay.replay.Goals as goal

pub returns-then-not-same_footprint : goal.returns-then-not-same_footprint
returns-then-not-same_footprint c =
    let turn : Turn c.args.state c.args.block.now _ c.loop-i.i c.index.result.now c.loop-i.balances = record { same = c.block.view_is; lawful = c.requires; within = omega arith; op-is = c.index.ensures; here-is = c.loop-i.invariant.left; tells = c.loop-i.invariant.tells } in
    let other : c.in_ok-receipt.footprint ≡ c.index-in-loop-i.result.now → ⊥ = λ same. let no : false ≡ true = c.if-not-same_footprint.ensures.1 same in cc in
    footprint_differs c.args.state c.args.block.now _ c.loop-i.i c.index.result.now c.loop-i.balances turn c.in_ok-receipt.footprint c.index-in-loop-i.result.now c.in_ok-receipt.ensures.footprint c.index-in-loop-i.ensures other

pub returns-then-not-same_receipt : goal.returns-then-not-same_receipt
returns-then-not-same_receipt c =
    let turn : Turn c.args.state c.args.block.now _ c.loop-i.i c.index.result.now c.loop-i.balances = record { same = c.block.view_is; lawful = c.requires; within = omega arith; op-is = c.index.ensures; here-is = c.loop-i.invariant.left; tells = c.loop-i.invariant.tells } in
    let other : c.in_ok-receipt.receipt ≡ c.index-in-loop-i-2.result.now → ⊥ = λ alike. let no : false ≡ true = c.if-not-same_receipt.ensures.1 alike in cc in
    receipt_differs c.args.state c.args.block.now _ c.loop-i.i c.index.result.now c.loop-i.balances turn c.in_ok-receipt.footprint c.index-in-loop-i.result.now c.in_ok-receipt.ensures.footprint c.index-in-loop-i.ensures c.in_ok-receipt.receipt c.index-in-loop-i-2.result.now c.in_ok-receipt.ensures.receipt c.index-in-loop-i-2.ensures (c.if-not-same_footprint.ensures.0 refl) other

pub loop-i-preserved : goal.loop-i-preserved
loop-i-preserved c =
    let turn : Turn c.args.state c.args.block.now _ c.loop-i.i c.index.result.now c.loop-i.balances = record { same = c.block.view_is; lawful = c.requires; within = omega arith; op-is = c.index.ensures; here-is = c.loop-i.invariant.left; tells = c.loop-i.invariant.tells } in
    tells_on c.args.state c.args.block.now _ c.loop-i.i c.index.result.now c.loop-i.balances turn c.in_ok-receipt.footprint c.index-in-loop-i.result.now c.in_ok-receipt.ensures.footprint c.index-in-loop-i.ensures c.in_ok-receipt.receipt c.index-in-loop-i-2.result.now c.in_ok-receipt.ensures.receipt c.index-in-loop-i-2.ensures (c.if-not-same_footprint.ensures.0 refl) c.run.new.self c.in_ok-receipt.ensures.balances (c.if-not-same_receipt.ensures.0 refl)
