-- A map with the value at the key, by the key's place.
use Rattle.std.proofs.Common.{Ok, Err, refl}
use Rattle.michelson_data.proofs.ChangeLaws.{map_put_part}
use Rattle.michelson_data.proofs.changes.map_with.Goals as goal

pub returns-in-Ok-into_part-clause-changed : goal.returns-in-Ok-into_part-clause-changed
returns-in-Ok-into_part-clause-changed c = map_put_part (Ok c.in-Ok.at) c.args.entries c.as_slice.result.now c.set.new.self c.args.key c.in-Ok-into_part.value c.args.choice (Ok c.in-Ok-into_part.value)
    c.as_slice.ensures c.in-Ok.ensures.place c.set.ensures refl c.in-Ok-into_part.ensures.some

pub returns-in-Ok-into_part-2-clause-changed : goal.returns-in-Ok-into_part-2-clause-changed
returns-in-Ok-into_part-2-clause-changed c = map_put_part (Err c.in-Err.at) c.args.entries c.as_slice.result.now c.inserted.result c.args.key c.in-Ok-into_part-2.value c.args.choice (Ok c.in-Ok-into_part-2.value)
    c.as_slice.ensures c.in-Err.ensures.place c.inserted.ensures refl c.in-Ok-into_part-2.ensures.some
