-- One touch more, or the stop that it meets.
use Rattle.std.proofs.Common.{◌≡◌, ◌<◌, ◌-◌, ◌+◌, ◌∷◌, ◌++◌, [], List, ℕ, Ok, Option, ap, sym, subst, ◌∙◌}
use Rattle.std.specs.Prelude.{IsTrue}
use Rattle.byte_fields.specs.Stops.{Stop}
use Rattle.byte_fields.specs.Told.{IsStop, read_stop}
use Rattle.byte_fields.specs.Readers.{Read, chained}
use Rattle.byte_fields.proofs.Loops.{with_front, goes_on, ends}
use Rattle.cell_names.specs.declared.cell.Cell.{Cell}
use Rattle.cell_names.specs.declared.mode.Mode.{Mode}
use Rattle.cell_names.specs.Footprints.{ascends}
use Rattle.cell_names.specs.Reading.{touch, next_last, last_cell}
use Rattle.cell_names.proofs.Later.{last_cell-push, read_is_above}
use Rattle.cell_names.proofs.Rising.{ascends-push}
use Rattle.cell_names.proofs.reader.touches_at.Goals as goal

module _ (front slice : List (Cell × Mode)) (last : Option Cell) (count i : ℕ) (bytes : List ℕ) (total : Read (List (Cell × Mode))) (same : slice ≡ front) (is : last ≡ last_cell slice) (lt : i < count)
    (so_far : with_front front (chained touch next_last (last_cell front) (count - i) bytes) ≡ total) where
  stopped : (stop : Option Stop) → IsStop stop (touch last bytes) → IsStop stop total
  stopped stop at =
      ends stop touch next_last (last_cell front) front count i bytes total lt (subst (λ (o : Option Cell). IsStop stop (touch o bytes)) (is ∙ ap last_cell same) at) so_far

  pushed : (new : List (Cell × Mode)) (t : Cell × Mode) (rest : List ℕ) → IsTrue (ascends front) → touch last bytes ≡ Ok (t, rest) → new ≡ front ++ t ∷ [] →
      IsTrue (ascends new) × (with_front new (chained touch next_last (last_cell new) (count - (i + 1)) rest) ≡ total)
  pushed new t rest up at made =
      let here : touch (last_cell front) bytes ≡ Ok (t, rest) = subst (λ (o : Option Cell). touch o bytes ≡ Ok (t, rest)) (is ∙ ap last_cell same) at in
      subst (λ (f : List (Cell × Mode)). IsTrue (ascends f) × (with_front f (chained touch next_last (last_cell f) (count - (i + 1)) rest) ≡ total)) (sym made) (
        ascends-push front t up (read_is_above (last_cell front) bytes t rest here),
        goes_on touch next_last (last_cell front) (last_cell (front ++ t ∷ [])) front count i bytes t rest total lt here (sym (last_cell-push front t)) so_far,
      )

pub returns-in-Err : goal.returns-in-Err
returns-in-Err c =
    stopped c.loop.touches.items c.as_slice.result.now _ c.args.count c.loop.counter c.loop.rest.now _ c.as_slice.ensures.value c.last_of.ensures c.loop-test.true c.loop.invariant.so_far
    (read_stop c.in-Err.stop) c.in-Err.ensures

pub loop-preserved : goal.loop-preserved
loop-preserved c =
    let p = pushed c.loop.touches.items c.as_slice.result.now _ c.args.count c.loop.counter c.loop.rest.now _ c.as_slice.ensures.value c.last_of.ensures c.loop-test.true c.loop.invariant.so_far
    c.push.new.self.items c.in-Ok.touch c.in-Ok.after.now c.loop.invariant.ascending c.in-Ok.ensures c.in_ok-push-in-Ok.ensures.items in
    record { ascending = p.0; so_far = p.1 }
