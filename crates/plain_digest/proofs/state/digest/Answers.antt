-- One more cell went by.
use Rattle.std.proofs.Common.{◌≡◌, ℕ, ◌+◌, ◌<◌, List, map, take, ◌++◌, ◌∷◌, [], length, get_or, subst, add-one}
use Rattle.std.proofs.Math.Seq.{take-suc}
use Rattle.std.proofs.lemmas.List.{map-append}
use Rattle.plain_ledger.specs.Ledger.{pair}
use Rattle.plain_digest.specs.Buckets.{HoldBuckets}
use Rattle.plain_digest.proofs.state.digest.Goals as goal

map_take-more : {A B : Type 0} (f : A → B) (xs : List A) (i : ℕ) (x d : A) → x ≡ get_or xs i d → i < length xs → map f (take i xs) ++ f x ∷ [] ≡ map f (take (i + 1) xs)
map_take-more f xs i x d is below = rw (is, add-one, take-suc xs i d below, map-append)

pub loop-holding-preserved : goal.loop-holding-preserved
loop-holding-preserved c =
    let hs = c.holdings-holding-items.result.now in
    let i = c.loop-holding.holding-index in
    subst (HoldBuckets c.put_cell.new.hashers.items) (map_take-more pair hs i c.holding-item.result _ c.holding-item.is c.loop-holding-test.true)
    (c.put_cell.ensures (map pair (take i hs)) c.loop-holding.invariant)
