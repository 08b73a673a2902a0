-- The shelf of the cells under the bound stays.
use Rattle.std.proofs.Common.{sym, ◌∙◌}
use Rattle.std.specs.Option.{option_copied}
use Rattle.state_digest.proofs.Passing.{shelf_kept}
use Rattle.state_digest.proofs.shelves.renew_shelf.Goals as goal

pub returns : goal.returns
returns c =
    shelf_kept (option_copied c.args.bound) c.args.rows.now c.pass.new.rows c.args.buckets.now c.pass.new.buckets c.args.shelves.now.items c.push_back.new.self.items c.args.shelf
    c.requires.sorted (c.requires.kept (sym c.first_is_under.ensures ∙ c.if-first_is_under.false))
    (λ run rest cut are. c.in_ok-pass.ensures run rest cut (are ∙ sym c.deref.ensures.value)) c.in_ok-push_back.ensures.items
