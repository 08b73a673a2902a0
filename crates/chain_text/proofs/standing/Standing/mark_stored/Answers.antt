-- One address more.
use Rattle.chain_text.proofs.StandingViews.{storage_kept, storage_marked}
use Rattle.chain_text.proofs.standing.Standing.mark_stored.Goals as goal

pub invariant_of-self-2 : goal.invariant_of-self-2
invariant_of-self-2 c =
    let self = c.self.inside in
    storage_kept c.args.self.now self.book self.lines.items self.balanced self.stored self.rows.items self.supply c.self.view_is c.self.invariant c.args.address c.add.new.self c.in_ok-add.ensures.added

pub returns : goal.returns
returns c =
    let self = c.self.inside in
    storage_marked c.args.self.now self.book self.lines.items self.balanced self.stored self.rows.items self.supply c.self.view_is c.self.invariant c.args.address c.add.new.self c.in_ok-add.ensures.added
