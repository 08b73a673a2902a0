-- A level stands where its parts do.
use Rattle.michelson_typer.proofs.MatchLaws.{one_contract, one_list, one_option, one_set, two_big_map, two_map, two_or, two_pair}
use Rattle.michelson_typer.proofs.lines.level_stands.Goals as goal

pub returns-in-Option-Option-clause-answer : goal.returns-in-Option-Option-clause-answer
returns-in-Option-Option-clause-answer c =
    one_option c.args.types.now c.args.written c.args.letters c.part_stands.result c.args.level c.args.found _ _ c.in-Option-Option.is-0 c.in-Option-Option.is-1
    c.part_stands.ensures.answer

pub returns-in-List-List-clause-answer : goal.returns-in-List-List-clause-answer
returns-in-List-List-clause-answer c =
    one_list c.args.types.now c.args.written c.args.letters c.part_stands-in-List-List.result c.args.level c.args.found _ _ c.in-List-List.is-0 c.in-List-List.is-1
    c.part_stands-in-List-List.ensures.answer

pub returns-in-Set-Set-clause-answer : goal.returns-in-Set-Set-clause-answer
returns-in-Set-Set-clause-answer c =
    one_set c.args.types.now c.args.written c.args.letters c.part_stands-in-Set-Set.result c.args.level c.args.found _ _ c.in-Set-Set.is-0 c.in-Set-Set.is-1
    c.part_stands-in-Set-Set.ensures.answer

pub returns-in-Contract-Contract-clause-answer : goal.returns-in-Contract-Contract-clause-answer
returns-in-Contract-Contract-clause-answer c =
    one_contract c.args.types.now c.args.written c.args.letters c.part_stands-in-Contract-Contract.result c.args.level c.args.found _ _ c.in-Contract-Contract.is-0 c.in-Contract-Contract.is-1
    c.part_stands-in-Contract-Contract.ensures.answer

pub returns-in-Or-Or-clause-answer : goal.returns-in-Or-Or-clause-answer
returns-in-Or-Or-clause-answer c =
    two_or c.args.types.now c.args.written c.args.letters c.parts_stand.result c.args.level c.args.found _ _ _ _ c.in-Or-Or.is-0 c.in-Or-Or.is-1
    c.parts_stand.ensures.answer

pub returns-in-Pair-Pair-clause-answer : goal.returns-in-Pair-Pair-clause-answer
returns-in-Pair-Pair-clause-answer c =
    two_pair c.args.types.now c.args.written c.args.letters c.parts_stand-in-Pair-Pair.result c.args.level c.args.found _ _ _ _ c.in-Pair-Pair.is-0 c.in-Pair-Pair.is-1
    c.parts_stand-in-Pair-Pair.ensures.answer

pub returns-in-Map-Map-clause-answer : goal.returns-in-Map-Map-clause-answer
returns-in-Map-Map-clause-answer c =
    two_map c.args.types.now c.args.written c.args.letters c.parts_stand-in-Map-Map.result c.args.level c.args.found _ _ _ _ c.in-Map-Map.is-0 c.in-Map-Map.is-1
    c.parts_stand-in-Map-Map.ensures.answer

pub returns-in-BigMap-BigMap-clause-answer : goal.returns-in-BigMap-BigMap-clause-answer
returns-in-BigMap-BigMap-clause-answer c =
    two_big_map c.args.types.now c.args.written c.args.letters c.parts_stand-in-BigMap-BigMap.result c.args.level c.args.found _ _ _ _ c.in-BigMap-BigMap.is-0 c.in-BigMap-BigMap.is-1
    c.parts_stand-in-BigMap-BigMap.ensures.answer
