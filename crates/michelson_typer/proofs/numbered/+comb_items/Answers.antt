-- One item more than the rest of the pairs has.
use Rattle.std.proofs.Common.{◌-◌, ℕ, List, ◌∷◌, length, ap, ◌∙◌}
use Rattle.std.proofs.lemmas.Bool.{and_parts, ltb-true}
use Rattle.michelson_typer.specs.Numbered.{HasItems}
use Rattle.michelson_typer.specs.Tables.{type_at}
use Rattle.michelson_typer.proofs.CombLaws.{none_case, some_case, no_comb, no_pair, one_item, one_item_less, one_item_more}
use Rattle.michelson_typer.proofs.numbered.+comb_items.Goals as goal

pub returns-then-n-eq1 : goal.returns-then-n-eq1
returns-then-n-eq1 t c = one_item c.args.types.now c.args.id c.args.n c.requires c.if-n-eq1.true c.in_ok-joined.field-0.items c.in_ok-joined.ensures

pub returns-in_ok-joined-in-Some : goal.returns-in_ok-joined-in-Some
returns-in_ok-joined-in-Some t c =
    let table = c.args.types.now in
    let rest : HasItems table (type_at table c.in-Pair.rest) (c.args.n - 1) c.in-Some.items.items =
    some_case _ _ c.in_ok-items-in-Pair.field-0 c.in-Some.items c.in-Some.is c.in_ok-items-in-Pair.ensures in
    one_item_more table c.args.id c.args.n c.in-Pair.first c.in-Pair.rest c.in-Pair.ensures.is c.if-n-eq0.false
    (ltb-true c.in-Pair.first (length table) (and_parts _ _ c.in-Pair.ensures.parts).0) c.in-Some.items.items rest c.in_ok-joined-in-Some.field-0.items
    (c.in_ok-joined-in-Some.ensures ∙ ap (λ (ids : List ℕ). c.in-Pair.first ∷ ids) c.as_slice.ensures.value)

pub returns-in-None : goal.returns-in-None
returns-in-None t c =
    let table = c.args.types.now in
    one_item_less table c.args.id c.args.n c.in-Pair.first c.in-Pair.rest c.in-Pair.ensures.is c.if-n-eq0.false c.if-n-eq1.false
    (none_case _ _ c.in_ok-items-in-Pair.field-0 c.in-None.is c.in_ok-items-in-Pair.ensures)

pub returns-in_default : goal.returns-in_default
returns-in_default t c =
    let table = c.args.types.now in
    no_comb table c.args.id c.args.n c.level.result c.level.ensures.is (no_pair table c.args.id c.args.n c.level.result c.in_default.not-Pair) c.if-n-eq0.false c.if-n-eq1.false
