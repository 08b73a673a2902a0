-- The pairs stand on top of what is left.
use Rattle.std.proofs.Common.{◌-◌, ◌<◌, ◌≤◌, ℕ, List, ◌∷◌, drop, length, take, ap, subst, sym, ◌∙◌, arith}
use Rattle.std.specs.Prelude.{slice_index}
use Rattle.michelson_code.specs.Typing.{comb_type}
use Rattle.michelson_typer.specs.Stacks.{IsStackOf}
use Rattle.michelson_typer.specs.Tables.{type_at, types_at}
use Rattle.michelson_typer.proofs.CombLaws.{in_drop, in_take}
use Rattle.michelson_typer.proofs.GrowLaws.{as_it_is, on_top, stack_later}
use Rattle.michelson_typer.proofs.LineApplies.{take_rest}
use Rattle.michelson_typer.proofs.numbered.pair_n.Goals as goal

pub comb-requires-clause-items : goal.comb-requires-clause-items
comb-requires-clause-items c = in_take c.args.types.now (c.args.n - 1) c.args.stack.now c.requires

pub returns-clause-made : goal.returns-clause-made
returns-clause-made c =
    let table = c.args.types.now in
    let new = c.comb.new.types in
    let below = drop c.args.n c.args.stack.now in
    let some : 0 < c.args.n = omega (arith, c.if-n-eq0.false) in
    let enough : c.args.n ≤ length c.args.stack.now = c.if-n-stack.false in
    let made = c.in_ok-joined.ensures ∙ ap (λ (ids : List ℕ). c.in_ok-comb.comb ∷ ids) (take_rest c.args.n c.args.stack.now) in (
      some,
      enough,
      subst (λ (ids : List ℕ). IsStackOf new ids (comb_type (types_at table (take (c.args.n - 1) c.args.stack.now)) (type_at table (slice_index c.args.stack.now (c.args.n - 1))) ∷ types_at table below)) (sym made)
          (on_top new c.in_ok-comb.comb _ below (types_at table below) c.in_ok-comb.ensures.made
          (stack_later table new c.comb.ensures.grows below (types_at table below) (as_it_is table below (in_drop table c.args.n c.args.stack.now c.requires)))),
    )
