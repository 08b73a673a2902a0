-- A map without the key, by the key's place.
use Rattle.std.proofs.Common.{Ok, Err, refl}
use Rattle.michelson_data.proofs.ChangeLaws.{map_lacks_it}
use Rattle.michelson_data.proofs.changes.map_without.Goals as goal

pub returns-in-Ok : goal.returns-in-Ok
returns-in-Ok c = map_lacks_it (Ok c.in-Ok.at) c.args.entries c.as_slice.result.now c.remove.new.self c.args.key.now
    c.as_slice.ensures c.in-Ok.ensures.place c.remove.ensures.rest

pub returns-in_default : goal.returns-in_default
returns-in_default c = map_lacks_it (Err c.in_default.field-0) c.args.entries c.as_slice.result.now c.args.entries c.args.key.now
    c.as_slice.ensures c.in_default.ensures.place refl
