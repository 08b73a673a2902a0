-- Each result has the type of its slot, also in the table that grew for those below it.
use Rattle.michelson_typer.proofs.GrowLaws.{grows_more, typed_later}
use Rattle.michelson_typer.proofs.ResultLaws.{one_on_top, slot_later, three_on_top, two_on_top, with_ok}
use Rattle.michelson_typer.proofs.results.results.Goals as goal

pub returns-in_ok-x-in-One-clause-made : goal.returns-in_ok-x-in-One-clause-made
returns-in_ok-x-in-One-clause-made c =
    with_ok _ _ (λ stack made. one_on_top c.args.chosen c.args.below.now c.args.types.now c.slot_id.new.types c.slot_id.ensures.grows c.requires.below
    _ c.args.slots c.in-One.x c.in_ok-x-in-One.x c.in-One.is c.in_ok-x-in-One.ensures.made made) c.joined.result c.joined.ensures

pub returns-in_ok-y-in-Two-clause-made : goal.returns-in_ok-y-in-Two-clause-made
returns-in_ok-y-in-Two-clause-made c =
    let old = c.args.types.now in
    let mid = c.slot_id-in-Two.new.types in
    let new = c.slot_id-in-Two-2.new.types in
    let first = c.slot_id-in-Two.ensures.grows in
    let second = c.slot_id-in-Two-2.ensures.grows in
    with_ok _ _ (λ stack made. two_on_top c.args.chosen c.args.below.now old new (grows_more old mid new first second) c.requires.below
    _ c.args.slots c.in-Two.x c.in-Two.y c.in_ok-x-in-Two.x c.in_ok-y-in-Two.y c.in-Two.is
    (typed_later mid new second _ _ c.in_ok-x-in-Two.ensures.made)
    (slot_later c.args.chosen c.args.below.now old mid new c.in-Two.y c.in_ok-y-in-Two.y first c.requires.chosen c.in_ok-y-in-Two.ensures.made)
    made) c.joined-in-Two.result c.joined-in-Two.ensures

pub returns-in_ok-z-in-Three-clause-made : goal.returns-in_ok-z-in-Three-clause-made
returns-in_ok-z-in-Three-clause-made c =
    let old = c.args.types.now in
    let mid = c.slot_id-in-Three.new.types in
    let late = c.slot_id-in-Three-2.new.types in
    let new = c.slot_id-in-Three-3.new.types in
    let first = c.slot_id-in-Three.ensures.grows in
    let second = c.slot_id-in-Three-2.ensures.grows in
    let third = c.slot_id-in-Three-3.ensures.grows in
    let before = grows_more old mid late first second in
    with_ok _ _ (λ stack made. three_on_top c.args.chosen c.args.below.now old new (grows_more old late new before third) c.requires.below
    _ c.args.slots c.in-Three.x c.in-Three.y c.in-Three.z c.in_ok-x-in-Three.x c.in_ok-y-in-Three.y c.in_ok-z-in-Three.z c.in-Three.is
    (typed_later mid new (grows_more mid late new second third) _ _ c.in_ok-x-in-Three.ensures.made)
    (typed_later late new third _ _ (slot_later c.args.chosen c.args.below.now old mid late c.in-Three.y c.in_ok-y-in-Three.y first c.requires.chosen c.in_ok-y-in-Three.ensures.made))
    (slot_later c.args.chosen c.args.below.now old late new c.in-Three.z c.in_ok-z-in-Three.z before c.requires.chosen c.in_ok-z-in-Three.ensures.made)
    made) c.joined-in-Three.result c.joined-in-Three.ensures
