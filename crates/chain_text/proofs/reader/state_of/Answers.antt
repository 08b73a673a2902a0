-- By the cells that the rows make.
use Rattle.chain_text.proofs.SettledLemmas.{is_of_whole, refused_as, settled_as}
use Rattle.chain_text.proofs.reader.state_of.Goals as goal

pub returns-in-Ok : goal.returns-in-Ok
returns-in-Ok c =
    let s = c.standing.inside in
    settled_as c.args.head.level c.args.head.now s.book s.lines.items s.balanced s.stored s.rows.items s.supply c.standing.invariant c.args.standing c.in-Ok.state c.standing.view_is
    c.in-Ok.ensures.level c.in-Ok.ensures.now c.in-Ok.ensures.book c.in-Ok.ensures.cells

pub refusal_of-requires : goal.refusal_of-requires
refusal_of-requires c =
    let s = c.standing.inside in
    is_of_whole c.args.head.level c.args.head.now s.book s.lines.items s.balanced s.stored s.rows.items s.supply c.standing.invariant c.in-Err.fault c.in-Err.ensures.told

pub returns : goal.returns
returns c =
    let s = c.standing.inside in
    refused_as c.args.head.level c.args.head.now s.book s.lines.items s.balanced s.stored s.rows.items s.supply c.standing.invariant c.args.standing c.in-Err.fault c.as_slice.result.now c.refusal_of.result
    c.standing.view_is c.in-Err.ensures.told c.as_slice.ensures.value c.refusal_of.ensures
