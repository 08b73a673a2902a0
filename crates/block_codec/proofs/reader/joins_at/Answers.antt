-- One list more, or the stop that it meets.
use Rattle.std.proofs.Common.{ℕ, List, [], ◌∷◌, map, ap, ◌∙◌}
use Rattle.std.specs.Global.{Vec}
use Rattle.std.proofs.lemmas.List.{map-append}
use Rattle.block_codec.specs.Reading.{list}
use Rattle.byte_fields.specs.Told.{read_stop}
use Rattle.block_codec.proofs.Items.{one_more, stops_all}
use Rattle.block_codec.proofs.reader.joins_at.Goals as goal

abbrev items_of : List (Vec ℕ) → List (List ℕ)
items_of = map (λ (list : Vec ℕ). list.items)

pub returns-in-Err : goal.returns-in-Err
returns-in-Err c = stops_all list (items_of c.loop.lists.items) c.args.count c.loop.counter c.loop.rest.now _ c.loop-test.true c.loop.invariant (read_stop c.in-Err.stop) c.in-Err.ensures

pub loop-preserved : goal.loop-preserved
loop-preserved c =
    one_more list (items_of c.loop.lists.items) c.args.count c.loop.counter c.loop.rest.now _ c.loop-test.true c.loop.invariant (items_of c.push.new.self.items) c.in-Ok.list.items c.in-Ok.after.now
    (ap items_of c.in_ok-push-in-Ok.ensures.items ∙ map-append (λ (list : Vec ℕ). list.items) c.loop.lists.items (c.in-Ok.list ∷ [])) c.in-Ok.ensures
