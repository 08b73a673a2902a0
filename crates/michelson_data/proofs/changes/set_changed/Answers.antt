-- A set with its key or without it, by the key's place.
use Rattle.std.proofs.Common.{Ok, Err, true, false, refl}
use Rattle.michelson_data.proofs.ChangeLaws.{set_change}
use Rattle.michelson_data.proofs.changes.set_changed.Goals as goal

pub returns-in-Ok-clause-changed : goal.returns-in-Ok-clause-changed
returns-in-Ok-clause-changed c = set_change (Ok c.in-Ok.field-0) true c.args.there c.args.items c.as_slice.result.now c.args.items c.args.key
    c.if-there.true c.as_slice.ensures c.in-Ok.ensures.place refl

pub returns-in-Ok-2-clause-changed : goal.returns-in-Ok-2-clause-changed
returns-in-Ok-2-clause-changed c = set_change (Ok c.in-Ok.field-0) false c.args.there c.args.items c.as_slice.result.now c.remove.new.self c.args.key
    c.if-there.false c.as_slice.ensures c.in-Ok.ensures.place c.remove.ensures.rest

pub returns-in-Ok-room_for-clause-changed : goal.returns-in-Ok-room_for-clause-changed
returns-in-Ok-room_for-clause-changed c = set_change (Err c.in-Err.at) true c.args.there c.args.items c.as_slice.result.now c.inserted.result c.args.key
    c.if-there-2.true c.as_slice.ensures c.in-Err.ensures.place c.inserted.ensures

pub returns-clause-changed : goal.returns-clause-changed
returns-clause-changed c = set_change (Err c.in-Err.at) false c.args.there c.args.items c.as_slice.result.now c.args.items c.args.key
    c.if-there-2.false c.as_slice.ensures c.in-Err.ensures.place refl
