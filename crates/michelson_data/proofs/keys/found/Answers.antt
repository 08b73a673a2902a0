-- The value stands at the place of its key.
use Rattle.std.proofs.Common.{Ok, Err, sym, ap, ◌∙◌}
use Rattle.value_core.specs.declared.val.Val.TheVariants as value
use Rattle.michelson_rules.specs.Collections.{option}
use Rattle.value_core.proofs.SortedPlaces.{map_at, map_lacks}
use Rattle.michelson_data.proofs.KeyLaws.{map_gives}
use Rattle.michelson_data.proofs.keys.found.Goals as goal

pub returns-in_ok-some-in-Ok : goal.returns-in_ok-some-in-Ok
returns-in_ok-some-in-Ok c = map_gives c.args.key.now c.args.of.now c.in-Map.entries c.as_slice-entries.result.now (Ok c.in-Ok.at) c.in_ok-some-in-Ok.field-0
    c.in-Map.is c.as_slice-entries.ensures c.in-Ok.ensures.place
    (λ rises stands. ap option (sym (map_at c.as_slice-entries.result.now c.args.key.now c.in-Ok.at c.index-entries-at.result rises stands)) ∙
    sym (c.in_ok-some-in-Ok.ensures ∙ ap value.Some c.in_ok-copy-in-Ok.ensures))

pub returns-in-Err : goal.returns-in-Err
returns-in-Err c = map_gives c.args.key.now c.args.of.now c.in-Map.entries c.as_slice-entries.result.now (Err c.in-Err.field-0) _
    c.in-Map.is c.as_slice-entries.ensures c.in-Err.ensures.place
    (λ rises stands. ap option (sym (map_lacks c.as_slice-entries.result.now c.args.key.now c.in-Err.field-0 stands)))
