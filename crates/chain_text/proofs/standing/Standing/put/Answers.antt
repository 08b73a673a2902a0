-- One row more.
use Rattle.std.proofs.Common.{refl}
use Rattle.chain_text.proofs.StandingViews.{row_kept, row_seen}
use Rattle.chain_text.proofs.standing.Standing.put.Goals as goal

pub invariant_of-self-2 : goal.invariant_of-self-2
invariant_of-self-2 c =
    let self = c.self.inside in
    row_kept c.args.self.now self.book self.lines.items self.balanced self.stored self.rows.items self.supply c.self.view_is c.self.invariant
    c.args.cell c.args.value c.args.amount _ c.push.new.self.items c.in_ok-push.ensures.items refl c.requires.fits c.requires.free c.requires.seen c.requires.amount c.requires.within

pub returns : goal.returns
returns c =
    let self = c.self.inside in
    row_seen c.args.self.now self.book self.lines.items self.balanced self.stored self.rows.items self.supply c.self.view_is c.self.invariant c.args.cell c.args.value c.push.new.self.items c.in_ok-push.ensures.items
