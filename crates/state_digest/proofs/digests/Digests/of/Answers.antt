-- All cells are on shelves, and all buckets are hashed.
use Rattle.std.proofs.Common.{◌≡◌, ℕ, ◌+◌, Bool, true, List, [], length, ap, refl, subst, sym, ◌∙◌, arith}
use Rattle.std.specs.Prelude.{slice_get}
use Rattle.std.specs.FinMap.{entries}
use Rattle.std.proofs.lemmas.List.{with_items_is}
use Rattle.state_digest.specs.Digest.{book_digest}
use Rattle.state_digest.specs.Texts.{HoldTexts}
use Rattle.state_digest.proofs.Gathering.{all_counted}
use Rattle.state_digest.proofs.Kept.{each_digest}
use Rattle.state_digest.proofs.Renewing.{all_new}
use Rattle.state_digest.proofs.digests.Digests.of.Goals as goal

abbrev always : ℕ → Bool
always k = true

pub returns-clause-digests : goal.returns-clause-digests
returns-clause-digests g c =
    let cells = entries c.args.s.now.cells in
    let made = all_new cells c.of-rows.result c.shelve.new.rows c.deref_mut.result.now c.shelve.new.buckets c.shelve.new.shelves.items c.new-shelves.result.items
    c.of-rows.ensures c.new-shelves.ensures.items c.in_ok-shelve.ensures in
    let blank : HoldTexts always [] c.deref_mut.result.now = subst (HoldTexts always []) (sym c.deref_mut.ensures.value) c.in_ok-texts.ensures in
    let whole = with_items_is c.in_ok-texts.texts c.shelve.new.buckets (omega (arith, c.shelve.auto.buckets, c.deref_mut.ensures.len)) in
    let hold : HoldTexts always cells c.deref.result.now = subst (HoldTexts always cells) (sym (c.deref.ensures.value ∙ whole)) (made.texts always blank) in
    let count : length c.hash_marked.new.digests ≡ 256 = omega (arith, c.hash_marked.auto.digests, ap length c.deref_mut-2.ensures.value, c.in_ok-buckets.ensures.len) in
    let all = with_items_is c.in_ok-buckets.buckets c.hash_marked.new.digests (omega (arith, c.hash_marked.auto.digests, c.deref_mut-2.ensures.len)) in
    record {
      kept = refl;
      book = c.in_ok-book.ensures ∙ ap book_digest c.book.ensures;
      count = ap length all ∙ count;
      each = λ k lt. ap (λ (l : List (List ℕ)). slice_get l k) all ∙ each_digest c.args.s.now.cells c.deref_mut-2.result.now c.hash_marked.new.digests count (c.hash_marked.ensures.digests always cells hold) k lt;
      shelves = made.shelved;
    }

pub returns-clause-steps : goal.returns-clause-steps
returns-clause-steps g c =
    let cells = entries c.args.s.now.cells in
    let made = all_new cells c.of-rows.result c.shelve.new.rows c.deref_mut.result.now c.shelve.new.buckets c.shelve.new.shelves.items c.new-shelves.result.items
    c.of-rows.ensures c.new-shelves.ensures.items c.in_ok-shelve.ensures in
    let blank : HoldTexts always [] c.deref_mut.result.now = subst (HoldTexts always []) (sym c.deref_mut.ensures.value) c.in_ok-texts.ensures in
    let whole = with_items_is c.in_ok-texts.texts c.shelve.new.buckets (omega (arith, c.shelve.auto.buckets, c.deref_mut.ensures.len)) in
    let hold : HoldTexts always cells c.deref.result.now = subst (HoldTexts always cells) (sym (c.deref.ensures.value ∙ whole)) (made.texts always blank) in
    c.hash_marked.ensures.steps always cells hold ∙ ap (λ n. c.args.steps.now + n) (all_counted 256)
