-- The shelves are renewed, and the buckets of the touched cells are hashed.
use Rattle.std.proofs.Common.{◌≡◌, ℕ, List, [], length, ap, refl, subst, sym, ◌∙◌, arith}
use Rattle.std.specs.Prelude.{slice_get}
use Rattle.std.specs.FinMap.{entries}
use Rattle.std.proofs.lemmas.List.{with_items_is}
use Rattle.state_digest.specs.Digest.{book_digest}
use Rattle.state_digest.specs.Digests.{AreShelved, is_touched}
use Rattle.state_digest.specs.Shelving.{Held}
use Rattle.state_digest.specs.Texts.{AreHashed, HoldTexts}
use Rattle.state_digest.specs.Touched.{cells_of}
use Rattle.state_digest.proofs.Kept.{each_updated, fit_for}
use Rattle.state_digest.proofs.digests.Digests.update.Goals as goal

pub renew-requires-clause-fit : goal.renew-requires-clause-fit
renew-requires-clause-fit g c =
    fit_for c.args.s.now c.args.touched.now (cells_of c.in_ok-order.order.items) (cells_of c.deref.result.now) c.args.self.now c.replace-old.result.items c.of-rows.result
    (c.requires c.if-self.false) c.in_ok-order.ensures (ap cells_of c.deref.ensures.value) (ap (λ q. q.items) c.replace-old.ensures.value) c.of-rows.ensures

pub returns-clause-digests : goal.returns-clause-digests
returns-clause-digests g c =
    let is = c.requires c.if-self.false in
    let marks = is_touched c.args.touched.now in
    let cells = entries c.args.s.now.cells in
    let blank : HoldTexts marks [] c.deref_mut.result.now = subst (HoldTexts marks []) (sym c.deref_mut.ensures.value) c.in_ok-texts.ensures in
    let texts : HoldTexts marks cells c.renew.new.buckets = subst (λ (l : List Held). HoldTexts marks l c.renew.new.buckets) c.of-rows.ensures (c.in_ok-self.ensures.texts marks blank) in
    let whole = with_items_is c.in_ok-texts.texts c.renew.new.buckets (omega (arith, c.renew.auto.buckets, c.deref_mut.ensures.len)) in
    let hold : HoldTexts marks cells c.deref-2.result.now = subst (HoldTexts marks cells) (sym (c.deref-2.ensures.value ∙ whole)) texts in
    let old : c.deref_mut-2.result.now ≡ c.args.self.now.buckets.items = c.deref_mut-2.ensures.value in
    let before : length c.args.self.now.buckets.items ≡ 256 = is.digests.count in
    let count : length c.hash_marked.new.digests ≡ 256 = omega (arith, c.hash_marked.auto.digests, ap length old) in
    let all = with_items_is c.args.self.now.buckets c.hash_marked.new.digests (omega (arith, c.hash_marked.auto.digests, c.deref_mut-2.ensures.len)) in
    record {
      kept = refl;
      book = is.digests.book ∙ ap book_digest is.book;
      count = ap length all ∙ count;
      each = λ k lt.
          ap (λ (l : List (List ℕ)). slice_get l k) all
          ∙ each_updated c.args.s.now c.args.touched.now c.args.self.now c.hash_marked.new.digests is count
          (subst (λ (l : List (List ℕ)). AreHashed marks cells l c.hash_marked.new.digests) old (c.hash_marked.ensures.digests marks cells hold)) k lt;
      shelves = subst (λ (l : List Held). AreShelved l c.in_ok-self.field-0.items) c.of-rows.ensures c.in_ok-self.ensures.shelved;
    }

pub returns-clause-steps : goal.returns-clause-steps
returns-clause-steps g c =
    let marks = is_touched c.args.touched.now in
    let cells = entries c.args.s.now.cells in
    let blank : HoldTexts marks [] c.deref_mut.result.now = subst (HoldTexts marks []) (sym c.deref_mut.ensures.value) c.in_ok-texts.ensures in
    let texts : HoldTexts marks cells c.renew.new.buckets = subst (λ (l : List Held). HoldTexts marks l c.renew.new.buckets) c.of-rows.ensures (c.in_ok-self.ensures.texts marks blank) in
    let whole = with_items_is c.in_ok-texts.texts c.renew.new.buckets (omega (arith, c.renew.auto.buckets, c.deref_mut.ensures.len)) in
    let hold : HoldTexts marks cells c.deref-2.result.now = subst (HoldTexts marks cells) (sym (c.deref-2.ensures.value ∙ whole)) texts in
    c.hash_marked.ensures.steps marks cells hold
