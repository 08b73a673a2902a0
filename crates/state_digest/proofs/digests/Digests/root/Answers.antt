-- One more bucket's digest stands behind those that went by.
use Rattle.std.proofs.Common.{◌≡◌, ℕ, ◌+◌, ◌<◌, List, [], ◌++◌, length, get_or, ap, subst, sym, ◌∙◌, add-one, append_assoc, arith}
use Rattle.std.proofs.lemmas.List.{append-nil}
use Rattle.std.proofs.lemmas.Option.{get_or_from_slice_get}
use Rattle.sha2.specs.Hashers.{Holds256}
use Rattle.ledger_state.specs.Ledger.{Ledger}
use Rattle.state_digest.specs.Digest.{book_digest, bucket_digest, bucket_digests}
use Rattle.state_digest.proofs.digests.Digests.root.Goals as goal

none_yet : (s : Ledger) → book_digest s.book ≡ book_digest s.book ++ bucket_digests 0 s.cells
unfolding bucket_digests
none_yet s = sym (append-nil (book_digest s.book))

one_more : (s : Ledger) (n : ℕ) → (book_digest s.book ++ bucket_digests n s.cells) ++ bucket_digest n s.cells ≡ book_digest s.book ++ bucket_digests (n + 1) s.cells
unfolding bucket_digests
one_more s n = append_assoc (book_digest s.book) (bucket_digests n s.cells) (bucket_digest n s.cells) ∙ ap (λ m. book_digest s.book ++ bucket_digests m s.cells) (sym (add-one n))

pub loop-digest-init : goal.loop-digest-init
loop-digest-init c = λ s are.
    subst (Holds256 c.update.new.self) (are.book ∙ none_yet s) (c.update.ensures [] c.new-hasher.ensures)

pub loop-digest-preserved : goal.loop-digest-preserved
loop-digest-preserved c = λ s are.
    let i = c.loop-digest.digest-index in
    let items : c.deref-digest-items.result.now ≡ c.args.self.now.buckets.items = c.deref-digest-items.ensures.value in
    let count : length c.args.self.now.buckets.items ≡ 256 = are.count in
    let below : i < 256 = omega (arith, ap length items) in
    let digest : get_or c.deref-digest-items.result.now i [] ≡ bucket_digest i s.cells =
    ap (λ (l : List (List ℕ)). get_or l i []) items ∙ get_or_from_slice_get c.args.self.now.buckets.items i (bucket_digest i s.cells) [] (are.each i below) in
    subst (Holds256 c.update-in-loop-digest.new.self) (ap (λ d. (book_digest s.book ++ bucket_digests i s.cells) ++ d) digest ∙ one_more s i)
    (c.update-in-loop-digest.ensures (book_digest s.book ++ bucket_digests i s.cells) (c.loop-digest.invariant s are))
