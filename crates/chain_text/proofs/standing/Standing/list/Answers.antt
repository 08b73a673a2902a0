-- One contract more.
use Rattle.chain_text.proofs.StandingViews.{contract_kept}
use Rattle.chain_text.proofs.standing.Standing.list.Goals as goal

pub invariant_of-self : goal.invariant_of-self
invariant_of-self c =
    let self = c.self.inside in
    contract_kept c.args.self.now self.book self.lines.items self.balanced self.stored self.rows.items self.supply c.self.view_is c.self.invariant c.args.address c.args.typed.script c.add.new.self c.in-Ok.ensures.added c.requires.free

pub invariant_of-self-in-Ok : goal.invariant_of-self-in-Ok
invariant_of-self-in-Ok c =
    let self = c.self.inside in
    contract_kept c.args.self.now self.book self.lines.items self.balanced self.stored self.rows.items self.supply c.self.view_is c.self.invariant c.args.address c.args.typed.script c.add.new.self c.in-Ok.ensures.added c.requires.free
