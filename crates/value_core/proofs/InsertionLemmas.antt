-- Items that move from the end of one list to the end of another, and what an insertion leaves.
use Rattle.std.proofs.Common.{◌≡◌, ℕ, zero, suc, ◌<◌, true, false, not, List, [], ◌∷◌, ◌++◌, reverse, length, get_or, set, sym, ap, subst, ◌∙◌, append_assoc, arith}
use Rattle.std.specs.Prelude.{insert}
use Rattle.std.proofs.lemmas.List.{reverse-append}
use Rattle.std.specs.declared.cmp.Ordering.TheVariants.{Less, Greater}
use Rattle.std.specs.Ordering.{ordering_reverse}
use Rattle.std.specs.Cmp.{tied_itself}
use Rattle.std.specs.FinMap.{put}
use Rattle.std.specs.FinMap.Entries.{by_order}
use Rattle.value_core.specs.declared.val.Val.{Val}
use Rattle.value_core.specs.Order.{order}
use Rattle.value_core.specs.Places.{IsGap, IsPlace}
use Rattle.value_core.specs.Sorted.{has, keys_of, with_key}
use Rattle.value_core.specs.Sound.{ascends}
use Rattle.value_core.proofs.PlaceLemmas.{has-gap, has-place, put-gap, put-place, with-gap}
use Rattle.value_core.proofs.SortedPlaces.{in_order, set_rises}
use Rattle.value_core.proofs.SortedValues.{total}

-- the last item moves
pub one_moved : {A : Type 0} (all old new moved : List A) (last : A) → all ≡ old ++ reverse moved → old ≡ new ++ last ∷ [] → all ≡ new ++ reverse (moved ++ last ∷ [])
one_moved all old new moved last is popped =
    is ∙ ap (λ l. l ++ reverse moved) popped ∙ append_assoc new (last ∷ []) (reverse moved) ∙ ap (λ l. new ++ l) (sym (reverse-append moved (last ∷ [])))

-- ---- sets and maps

pub set_inserted : (vs : List Val) (k : Val) (i : ℕ) → IsGap (λ v. v) order vs k i → insert vs i k ≡ with_key order k vs
set_inserted vs k i g = sym (with-gap total vs k i g)

pub map_inserted : (es : List (Val × Val)) (k v : Val) (i : ℕ) → IsGap (λ e. e.0) order es k i → insert es i (k, v) ≡ put order k v es
map_inserted es k v i g = sym (put-gap total es k i v g)

pub map_changed : (es : List (Val × Val)) (k v : Val) (i : ℕ) → ascends (keys_of es) ≡ true → IsPlace (λ e. e.0) es k i → set es i (k, v) ≡ put order k v es
map_changed es k v i up p = sym (put-place total es k i v (in_order es up) p)

-- a key that is there already changes nothing
with-at : (vs : List Val) (i : ℕ) (d : Val) → ((j k : ℕ) → j < k → k < length vs → order (get_or vs j d) (get_or vs k d) ≡ Less) → i < length vs → with_key order (get_or vs i d) vs ≡ vs
with-at [] i d up lt = absurd (omega arith)
with-at (v ∷ vs) zero d up lt = ap (λ r. by_order r (v ∷ v ∷ vs) (v ∷ vs) (v ∷ with_key order v vs)) (tied_itself total v)
with-at (v ∷ vs) (suc i) d up lt =
    let x = get_or vs i d in
    let above : order x v ≡ Greater = total.antisymm x v ∙ ap ordering_reverse (up 0 (suc i) (omega arith) lt) in
    ap (λ r. by_order r (x ∷ v ∷ vs) (v ∷ vs) (v ∷ with_key order x vs)) above
    ∙ ap (λ l. v ∷ l) (with-at vs i d (λ j k less small. up (suc j) (suc k) (omega arith) (omega arith)) (omega arith))

pub set_kept : (vs : List Val) (k : Val) (i : ℕ) → ascends vs ≡ true → IsPlace (λ v. v) vs k i → vs ≡ with_key order k vs
set_kept vs k i up p = sym (subst (λ x. with_key order x vs ≡ vs) (p.here k) (with-at vs i k (λ j l less small. set_rises vs j l k up less small) p.within))

pub set_new : (vs : List Val) (k : Val) (i : ℕ) → IsGap (λ v. v) order vs k i → true ≡ not (has order k vs)
set_new vs k i g = ap not (sym (has-gap total vs k i g))

pub set_old : (vs : List Val) (k : Val) (i : ℕ) → IsPlace (λ v. v) vs k i → false ≡ not (has order k vs)
set_old vs k i p = ap not (sym (has-place total vs k i p))
