-- What is left of a set or of a map is asked for its own keys alone.
use Rattle.std.proofs.Common.{◌≡◌, ◌<◌, true, ap, sym, ◌∙◌, arith}
use Rattle.std.specs.Prelude.{◌&&◌}
use Rattle.value_core.specs.declared.ty.Ty.{size-Ty}
use Rattle.value_core.specs.Kinds.{is_comparable}
use Rattle.michelson_code.specs.WrittenTypes.{has_comparable_keys}
use Rattle.michelson_typer.proofs.WrittenLaws.{keys-entries, keys-set, smaller_set, smaller_values}
use Rattle.michelson_typer.proofs.keys.+has_comparable_keys.Goals as goal

pub loop-rest-preserved-in-Set-1 : goal.loop-rest-preserved-in-Set-1
loop-rest-preserved-in-Set-1 t c =
    let comparable : is_comparable c.in-Set.part ≡ true =
    ap is_comparable (sym c.get.ensures) ∙ sym c.is_comparable.ensures ∙ c.if-not-is_comparable.false in
    let smaller : size-Ty c.in-Set.part < size-Ty c.loop-rest.rest.now = smaller_set _ _ c.in-Set.is in
    record {
      same = c.loop-rest.invariant.same ∙ ap has_comparable_keys c.in-Set.is ∙ keys-set c.in-Set.part
          ∙ ap (λ b. b && has_comparable_keys c.in-Set.part) comparable ∙ ap has_comparable_keys (sym c.get-rest.ensures);
      no_deeper = omega (arith, smaller, ap size-Ty c.get-rest.ensures, c.loop-rest.invariant.no_deeper);
    }

pub loop-rest-preserved : goal.loop-rest-preserved
loop-rest-preserved t c =
    let smaller : size-Ty c.in-Map.last < size-Ty c.loop-rest.rest.now = smaller_values _ _ _ c.in-Map.is in
    let comparable : is_comparable c.in-Map.first ≡ true =
    ap is_comparable (sym c.get-in-Map.ensures) ∙ sym c.is_comparable-in-Map.ensures ∙ c.if-not-is_comparable-2.false in
    let keys : has_comparable_keys c.in-Map.first ≡ true =
    ap has_comparable_keys (sym c.get-else-not-is_comparable-2.ensures) ∙ sym c.has_comparable_keys-else-not-is_comparable-2.ensures
    ∙ c.if-not-has_comparable_keys-2.false in
    record {
      same = c.loop-rest.invariant.same ∙ keys-entries _ _ _ c.in-Map.is
          ∙ (λ i. comparable i && (keys i && has_comparable_keys c.in-Map.last)) ∙ ap has_comparable_keys (sym c.get-rest-in-Map.ensures);
      no_deeper = omega (arith, smaller, ap size-Ty c.get-rest-in-Map.ensures, c.loop-rest.invariant.no_deeper);
    }
