-- One turn of each loop of the reader, and the reader at its tag.
use Rattle.std.proofs.Common.{◌≡◌, ℕ, zero, suc, ◌+◌, ◌-◌, ◌<◌, true, List, [], ◌∷◌, ◌++◌, Some, Ok, refl, sym, ap, arith}
use Rattle.std.specs.Int.{w8}
use Rattle.byte_fields.specs.Readers.{Read, Reader, after, checked, number, many}
use Rattle.byte_fields.proofs.Loops.{with_front, goes_on}
use Rattle.value_core.specs.declared.val.Val.{Val}
use Rattle.value_core.specs.Lasts.{is_above, last_item, last_key}
use Rattle.value_codec.specs.Reading.{ascending, entries, is_tag, behind, value}
use Rattle.value_core.proofs.LastLemmas.{last_item-more, last_key-more}

pub one_more : (read : Reader Val) (front : List Val) (count i : ℕ) (bytes : List ℕ) (v : Val) (rest : List ℕ) (total : Read (List Val)) →
    i < count → read bytes ≡ Ok (v, rest) → with_front front (many read (count - i) bytes) ≡ total →
    with_front (front ++ v ∷ []) (many read (count - (i + 1)) rest) ≡ total
one_more read front count i bytes v rest total lt was so_far = goes_on {S = Unit {0}} (λ state. read) (λ state v. state) tt tt front count i bytes v rest total lt was refl so_far

pub one_above : (read : Reader Val) (front : List Val) (count i : ℕ) (bytes : List ℕ) (v : Val) (rest : List ℕ) (total : Read (List Val)) →
    i < count → read bytes ≡ Ok (v, rest) → is_above (last_item front) v ≡ true → with_front front (ascending read (last_item front) (count - i) bytes) ≡ total →
    with_front (front ++ v ∷ []) (ascending read (last_item (front ++ v ∷ [])) (count - (i + 1)) rest) ≡ total
one_above read front count i bytes v rest total lt was above so_far =
    goes_on (λ last. checked (is_above last) read) (λ last v. Some v) (last_item front) (last_item (front ++ v ∷ [])) front count i bytes v rest total lt
    (rw (was, above) refl) (sym (last_item-more front v)) so_far

pub one_entry : (read : Reader Val) (front : List (Val × Val)) (count i : ℕ) (bytes : List ℕ) (k v : Val) (mid rest : List ℕ) (total : Read (List (Val × Val))) →
    i < count → read bytes ≡ Ok (k, mid) → is_above (last_key front) k ≡ true → read mid ≡ Ok (v, rest) → with_front front (entries read (last_key front) (count - i) bytes) ≡ total →
    with_front (front ++ (k, v) ∷ []) (entries read (last_key (front ++ (k, v) ∷ [])) (count - (i + 1)) rest) ≡ total
one_entry read front count i bytes k v mid rest total lt was above second so_far =
    goes_on _ (λ last e. Some e.0) (last_key front) (last_key (front ++ (k, v) ∷ [])) front count i bytes (k, v) rest total lt
    (rw (was, above, second) refl) (sym (last_key-more front (k, v))) so_far

-- what is read is what stands behind the tag
pub value_is : (most d : ℕ) (bytes : List ℕ) (t : ℕ) (rest : List ℕ) → (d ≡ 0 → ⊥) → number w8 bytes ≡ Ok (t, rest) → is_tag most t ≡ true → value most d bytes ≡ behind (value most (d - 1)) t rest
unfolding value
value_is most zero bytes t rest deep was stands = absurd (deep refl)
value_is most (suc d) bytes t rest deep was stands =
    let below : suc d - 1 ≡ d = omega arith in
    let one : checked (is_tag most) (number w8) bytes ≡ Ok (t, rest) = rw (was, stands) refl in
    rw below (ap (λ (y : Read ℕ). after y (behind (value most d))) one)
