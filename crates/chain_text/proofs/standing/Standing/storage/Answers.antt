-- By the contract's script, whose storage was read.
use Rattle.std.proofs.Common.{◌≡◌, false, Some, sym, ap, ◌∙◌}
use Rattle.std.specs.FinMap.{get}
use Rattle.std.specs.FinSet as set
use Rattle.std.specs.Option.{option_map}
use Rattle.chain_text.specs.Standing.{Standing}
use Rattle.chain_text.proofs.EntryLemmas.{kept_fits, kept_is_free}
use Rattle.chain_text.proofs.LineSaid.{few_maps, kept_of_line}
use Rattle.chain_text.proofs.StandingViews.{no_entry}
use Rattle.chain_text.proofs.standing.Standing.storage.Goals as goal

pub storage_of-requires-clause-few : goal.storage_of-requires-clause-few
storage_of-requires-clause-few c = few_maps c.script.result.now c.script.ensures.typed

pub keep-requires-clause-fits : goal.keep-requires-clause-fits
keep-requires-clause-fits c =
    let known : get c.args.self.now.book c.in_ok-address.address ≡ Some c.in-Some.typed.now.script = ap (λ (t : Standing). get t.book c.in_ok-address.address) (sym c.self.view_is) ∙ sym c.in-Some.ensures.script in
    kept_fits c.args.self.now.book c.in_ok-address.address c.in-Some.typed.now.script (c.in-Some-2.kept.0, c.in-Some-2.kept.1.items) known
    (kept_of_line c.in-Some.typed.now.script c.script.result.now c.left.result.now (c.in-Some-2.kept.0, c.in-Some-2.kept.1.items) c.script.ensures.script c.script.ensures.typed
    (ap (option_map (λ kept. (kept.0, kept.1.items))) (sym c.in-Some-2.is) ∙ c.in_ok-kept.ensures))

pub keep-requires-clause-entries : goal.keep-requires-clause-entries
keep-requires-clause-entries c =
    let self = c.self.inside in
    let known : get c.args.self.now.book c.in_ok-address.address ≡ Some c.in-Some.typed.now.script = ap (λ (t : Standing). get t.book c.in_ok-address.address) (sym c.self.view_is) ∙ sym c.in-Some.ensures.script in
    let unseen : set.contains c.args.self.now.stored c.in_ok-address.address ≡ false = ap (λ (t : Standing). set.contains t.stored c.in_ok-address.address) (sym c.self.view_is) ∙ sym c.has.ensures ∙ c.if-has.false in
    kept_is_free c.args.self.now.book c.args.self.now.cells c.in_ok-address.address c.in-Some.typed.now.script (c.in-Some-2.kept.0, c.in-Some-2.kept.1.items) known
    (kept_of_line c.in-Some.typed.now.script c.script.result.now c.left.result.now (c.in-Some-2.kept.0, c.in-Some-2.kept.1.items) c.script.ensures.script c.script.ensures.typed
    (ap (option_map (λ kept. (kept.0, kept.1.items))) (sym c.in-Some-2.is) ∙ c.in_ok-kept.ensures))
    (no_entry c.args.self.now self.book self.lines.items self.balanced self.stored self.rows.items self.supply c.self.view_is c.self.invariant c.in_ok-address.address unseen)
