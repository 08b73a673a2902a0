use Rattle.std.proofs.Common.{◌≡◌, false, [], ◌∷◌, Some, None, length, drop, nat_le, refl, ap, rules}
use Rattle.std.specs.Prelude.{if◌then◌else◌}
use Rattle.michelson_code.specs.declared.instr.Instr.TheViews.{out-Instr}
use Rattle.michelson_typer.specs.Opened.{dips}
use Rattle.michelson_typer.proofs.OpeningLaws.{dips_n, dips_one, handed, nothing_begins, stays}
use Rattle.michelson_typer.proofs.opening.opened.Goals as goal

pub returns-in-Dip-clause-starts : goal.returns-in-Dip-clause-starts
unfolding out-Instr denote.Hole.Carrier.out
returns-in-Dip-clause-starts c =
    let stack = c.args.stack.now in
    handed c.args.types.now c.args.types.now c.args.instr.now stack c.below.result (if nat_le 1 (length stack) then Some ((1, drop 1 stack) ∷ []) else None) c.below.ensures
    (dips_one c.args.types.now c.args.instr.now _ stack c.requires (ap out-Instr c.in-Dip.is) (nat_le 1 (length stack)) refl)

pub returns-in-DipN-clause-starts : goal.returns-in-DipN-clause-starts
unfolding out-Instr denote.Hole.Carrier.out
returns-in-DipN-clause-starts c =
    let stack = c.args.stack.now in
    let n = c.in-DipN.n in
    handed c.args.types.now c.args.types.now c.args.instr.now stack c.below-in-DipN.result (if nat_le n (length stack) then Some ((n, drop n stack) ∷ []) else None) c.below-in-DipN.ensures
    (dips_n c.args.types.now c.args.instr.now n _ stack c.requires (ap out-Instr c.in-DipN.is) (nat_le n (length stack)) refl)

pub returns-in-empty : goal.returns-in-empty
returns-in-empty c =
    let other : dips (out-Instr c.args.instr.now) ≡ false = search rules in
    record { grows = stays c.args.types.now; starts = nothing_begins c.args.types.now c.args.instr.now c.args.stack.now c.in-empty.len_below other }
