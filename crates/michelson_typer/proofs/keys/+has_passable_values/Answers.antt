-- What is left of a big map is asked for its own values alone.
use Rattle.std.proofs.Common.{◌≡◌, ◌<◌, true, ap, sym, ◌∙◌, arith}
use Rattle.std.specs.Prelude.{◌&&◌}
use Rattle.value_core.specs.declared.ty.Ty.{size-Ty}
use Rattle.value_core.specs.Kinds.{is_passable}
use Rattle.michelson_code.specs.WrittenTypes.{has_passable_values}
use Rattle.michelson_typer.proofs.WrittenLaws.{smaller_big_map, values-big_map}
use Rattle.michelson_typer.proofs.keys.+has_passable_values.Goals as goal

pub loop-rest-preserved-in-BigMap-1 : goal.loop-rest-preserved-in-BigMap-1
loop-rest-preserved-in-BigMap-1 t c =
    let smaller : size-Ty c.in-BigMap.last < size-Ty c.loop-rest.rest.now = smaller_big_map _ _ _ c.in-BigMap.is in
    let passable : is_passable c.in-BigMap.last ≡ true =
    ap is_passable (sym c.get.ensures) ∙ sym c.is_passable.ensures ∙ c.if-not-is_passable.false in
    let values : has_passable_values c.in-BigMap.first ≡ true =
    ap has_passable_values (sym c.get-else-not-is_passable.ensures) ∙ sym c.has_passable_values.ensures
    ∙ c.if-not-has_passable_values.false in
    record {
      same = c.loop-rest.invariant.same ∙ ap has_passable_values c.in-BigMap.is ∙ values-big_map c.in-BigMap.first c.in-BigMap.last
          ∙ (λ i. passable i && (values i && has_passable_values c.in-BigMap.last)) ∙ ap has_passable_values (sym c.get-rest.ensures);
      no_deeper = omega (arith, smaller, ap size-Ty c.get-rest.ensures, c.loop-rest.invariant.no_deeper);
    }
