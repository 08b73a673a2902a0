use Rattle.std.proofs.Common.{◌≡◌, false, [], ◌∷◌, Some, refl, ap, rules}
use Rattle.michelson_code.specs.declared.instr.Instr.TheViews.{out-Instr}
use Rattle.michelson_typer.proofs.OpeningLaws.{handed, is_iter, no_set, over_list, over_map, opens_iter_set, shut_over, shut_set}
use Rattle.michelson_typer.proofs.opening.over_items.Goals as goal

pub returns-in-List-clause-starts : goal.returns-in-List-clause-starts
returns-in-List-clause-starts c =
    handed c.args.types.now c.args.types.now c.args.instr.now (c.args.top ∷ c.args.rest.now) c.one_body.result (Some ((0, c.in-List.a ∷ c.args.rest.now) ∷ [])) c.one_body.ensures
    (over_list c.args.types.now c.args.instr.now c.args.top c.args.rest.now c.requires.stack (out-Instr c.args.instr.now) c.in-List.a refl c.requires.over c.in-List.ensures.is c.in-List.ensures.parts)

pub returns-in-Iter-clause-starts : goal.returns-in-Iter-clause-starts
unfolding out-Instr denote.Hole.Carrier.out
returns-in-Iter-clause-starts c =
    handed c.args.types.now c.args.types.now c.args.instr.now (c.args.top ∷ c.args.rest.now) c.one_body-in-Iter.result (Some ((0, c.in-Set.a ∷ c.args.rest.now) ∷ [])) c.one_body-in-Iter.ensures
    (opens_iter_set c.args.types.now c.args.instr.now c.args.top c.args.rest.now c.requires.stack _ c.in-Set.a (ap out-Instr c.in-Iter.is) c.in-Set.ensures.is c.in-Set.ensures.parts)

pub returns-in_ok-pair-in-Map-clause-starts : goal.returns-in_ok-pair-in-Map-clause-starts
returns-in_ok-pair-in-Map-clause-starts c =
    handed c.args.types.now c.intern.new.self c.args.instr.now (c.args.top ∷ c.args.rest.now) c.one_body-in-Map.result (Some ((0, c.in_ok-pair-in-Map.pair ∷ c.args.rest.now) ∷ [])) c.one_body-in-Map.ensures
    (over_map c.args.types.now c.args.instr.now c.args.top c.args.rest.now c.requires.stack c.intern.new.self (out-Instr c.args.instr.now) c.in-Map.k c.in-Map.v c.in_ok-pair-in-Map.pair refl c.requires.over c.in-Map.ensures.is
    c.intern.ensures.grows c.in_ok-pair-in-Map.ensures.number)

pub returns-in_default-clause-starts : goal.returns-in_default-clause-starts
returns-in_default-clause-starts c =
    shut_over c.args.types.now c.args.instr.now c.args.top c.args.rest.now c.requires.stack (out-Instr c.args.instr.now) c.level.result refl c.requires.over c.level.ensures.is
    c.in_default.not-List c.in_default.not-Set c.in_default.not-Map

pub returns-in_default-instr-clause-starts : goal.returns-in_default-instr-clause-starts
returns-in_default-instr-clause-starts c =
    let other : is_iter (out-Instr c.args.instr.now) ≡ false = search rules in
    shut_set c.args.types.now c.args.instr.now c.args.top c.args.rest.now c.requires.stack c.in-Set.a c.in-Set.ensures.is
    (no_set (out-Instr c.args.instr.now) c.requires.over other)
