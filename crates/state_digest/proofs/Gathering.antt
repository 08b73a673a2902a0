-- Texts of buckets when one more cell goes by, and their digests.
use Rattle.std.proofs.Common.{◌≡◌, ◌≢◌, ℕ, zero, suc, ◌+◌, ◌<◌, ◌≤◌, Bool, true, false, cond, ◌||◌, ◌==◌, List, [], ◌∷◌, ◌++◌, length, get_or, set, take, refl, sym, ap, subst, ◌∙◌, ◌⊎◌, inl, inr, arith, add_assoc, add-one, get_or-set_same, get_or-set_other, length-set}
use Rattle.std.specs.Prelude.{if◌then◌else◌, filter}
use Rattle.std.specs.List.{flat_map}
use Rattle.std.proofs.lemmas.Bool.{cases_lt, eq-eqb, eqb-true}
use Rattle.std.proofs.lemmas.Grind.{flat_map-append}
use Rattle.std.proofs.lemmas.List.{append-nil}
use Rattle.std.proofs.lemmas.List.Elements.{filter-append}
use Rattle.std.proofs.lemmas.List.Folds.{list_any_more}
use Rattle.sha2.specs.Sha256.{sha256}
use Rattle.ledger_state.specs.Spelling.{spell_held}
use Rattle.cell_names.specs.declared.cell.Cell.{Cell}
use Rattle.state_digest.specs.declared.buckets.Bucket.{Bucket}
use Rattle.state_digest.specs.Digest.{bucket_of, text_of}
use Rattle.state_digest.specs.Digests.{how_many, is_touched}
use Rattle.state_digest.specs.Shelving.{Held}
use Rattle.state_digest.specs.Texts.{HoldTexts, HoldsText, kept}

-- ---- one more cell

of_one : (b : Bool) (e : Held) → flat_map spell_held (cond b (e ∷ []) []) ≡ cond b (spell_held e) []
of_one true e = append-nil (spell_held e)
of_one false e = refl

text_of-more : (k : ℕ) (passed : List Held) (e : Held) → text_of k (passed ++ e ∷ []) ≡ text_of k passed ++ cond (bucket_of e.0 == k) (spell_held e) []
text_of-more k passed e =
    ap (flat_map spell_held) (filter-append (λ x. bucket_of x.0 == k) passed (e ∷ []))
    ∙ flat_map-append spell_held (filter (λ x. bucket_of x.0 == k) passed) (cond (bucket_of e.0 == k) (e ∷ []) [])
    ∙ ap (λ l. text_of k passed ++ l) (of_one (bucket_of e.0 == k) e)

kept-append : (m : Bool) (xs ys : List ℕ) → kept m xs ++ kept m ys ≡ kept m (xs ++ ys)
kept-append true xs ys = refl
kept-append false xs ys = refl

pub kept-nil : (m : Bool) → kept m [] ≡ []
kept-nil true = refl
kept-nil false = refl

-- in its own bucket
goes_in : (m : Bool) (k : ℕ) (passed : List Held) (e : Held) (b b' : Bucket) → HoldsText m (text_of k passed) b → (bucket_of e.0 == k) ≡ true → b'.marked ≡ b.marked → b'.text.items ≡ b.text.items ++ kept b.marked (spell_held e) → HoldsText m (text_of k (passed ++ e ∷ [])) b'
goes_in m k passed e b b' was here same written = record {
  mark = same ∙ was.mark;
  holds =
      written
      ∙ (λ i. was.holds i ++ kept (was.mark i) (spell_held e))
      ∙ kept-append m (text_of k passed) (spell_held e)
      ∙ ap (kept m) (ap (λ t. text_of k passed ++ cond t (spell_held e) []) (sym here) ∙ sym (text_of-more k passed e));
}

-- and in no other
stays_out : (m : Bool) (k : ℕ) (passed : List Held) (e : Held) (b : Bucket) → HoldsText m (text_of k passed) b → (bucket_of e.0 == k) ≡ false → HoldsText m (text_of k (passed ++ e ∷ [])) b
stays_out m k passed e b was other = record {
  mark = was.mark;
  holds =
      was.holds
      ∙ ap (kept m) (sym (append-nil (text_of k passed)) ∙ ap (λ t. text_of k passed ++ cond t (spell_held e) []) (sym other) ∙ sym (text_of-more k passed e));
}

is_apart : (a b : ℕ) → (a == b) ≡ false → b ≢ a
is_apart a b e same = let both : false ≡ true = sym e ∙ eq-eqb a b (sym same) in cc

pub one_more : (marks : ℕ → Bool) (passed : List Held) (e : Held) (buckets : List Bucket) (number : ℕ) (b' x : Bucket) → number ≡ bucket_of e.0 → number < 256 → b'.marked ≡ (get_or buckets number x).marked → b'.text.items ≡ (get_or buckets number x).text.items ++ kept (get_or buckets number x).marked (spell_held e) →
    HoldTexts marks passed buckets → HoldTexts marks (passed ++ e ∷ []) (set buckets number b')
one_more marks passed e buckets number b' x its small same written old =
    let b : Bucket = get_or buckets number x in
    let count : length buckets ≡ 256 = old.count in
    record {
      count = length-set buckets number b' ∙ old.count;
      each = λ k d lt. elim (bucket_of e.0 == k) as (λ t. (bucket_of e.0 == k) ≡ t → HoldsText (marks k) (text_of k (passed ++ e ∷ [])) (get_or (set buckets number b') k d)) [
        | true ↦ λ here.
            let at : k ≡ number = sym (eqb-true _ _ here) ∙ sym its in
            let within : number < length buckets = omega arith in
            let read : get_or (set buckets number b') k d ≡ b' = ap (λ j. get_or (set buckets number b') j d) at ∙ get_or-set_same buckets number b' d within in
            let was : HoldsText (marks k) (text_of k passed) b = subst (HoldsText (marks k) (text_of k passed)) (ap (λ j. get_or buckets j x) at) (old.each k x lt) in
            subst (HoldsText (marks k) (text_of k (passed ++ e ∷ []))) (sym read) (goes_in (marks k) k passed e b b' was here same written)
        | false ↦ λ other.
            let far : k ≢ number = λ at. is_apart _ _ other (at ∙ its) in
            subst (HoldsText (marks k) (text_of k (passed ++ e ∷ []))) (sym (get_or-set_other buckets number k b' d far)) (stays_out (marks k) k passed e (get_or buckets k d) (old.each k d lt) other)
      ] refl;
    }

-- ---- marks

pub marked_alike : (marks others : ℕ → Bool) (passed : List Held) (buckets : List Bucket) → ((k : ℕ) → marks k ≡ others k) → HoldTexts marks passed buckets → HoldTexts others passed buckets
marked_alike marks others passed buckets alike hold = record {
  count = hold.count;
  each = λ k d lt. subst (λ (m : Bool). HoldsText m (text_of k passed) (get_or buckets k d)) (alike k) (hold.each k d lt);
}

either : (a b : Bool) → (a || b) ≡ (b || a)
either true true = refl
either true false = refl
either false true = refl
either false false = refl

pub one_touched : (touched : List Cell) (i number : ℕ) (c : Cell) (k : ℕ) → i < length touched → c ≡ get_or touched i c → number ≡ bucket_of c → (number == k || is_touched (take i touched) k) ≡ is_touched (take (i + 1) touched) k
one_touched touched i number c k lt is its =
    either (number == k) (is_touched (take i touched) k)
    ∙ ap (λ n. is_touched (take i touched) k || (n == k)) (its ∙ ap bucket_of is)
    ∙ sym (list_any_more (λ x. bucket_of x == k) touched i c lt)

-- ---- digests

if_marked : (m n : Bool) (text of_it : List ℕ) (old : List ℕ) → n ≡ m → text ≡ kept m of_it → (if n then sha256 text else old) ≡ (if m then sha256 of_it else old)
if_marked true n text of_it old same is = (λ i. if same i then sha256 (is i) else old)
if_marked false n text of_it old same is = ap (λ b. if b then sha256 text else old) same

-- the digests of the buckets before a number are theirs, and the others are as before
pub record AreHashedTo (marks : ℕ → Bool) (cells : List Held) (n : ℕ) (old new : List (List ℕ)) : Type 0 where
  pub done : (k : ℕ) (d : List ℕ) → k < n → get_or new k d ≡ (if marks k then sha256 (text_of k cells) else get_or old k d)
  pub others : (k : ℕ) (d : List ℕ) → n ≤ k → get_or new k d ≡ get_or old k d

pub none_hashed : (marks : ℕ → Bool) (cells : List Held) (old : List (List ℕ)) → AreHashedTo marks cells 0 old old
none_hashed marks cells old = record { done = λ k d lt. absurd (omega arith); others = λ k d le. refl }

at_or_before : (k n : ℕ) → k < n + 1 → (k ≡ n) ⊎ (k < n)
at_or_before k n lt = elim (cases_lt k n) [ inl before ↦ inr before | inr le ↦ inl (omega arith) ]

read_so : (xs : List (List ℕ)) (i : ℕ) (d e : List ℕ) → i < length xs → get_or xs i d ≡ get_or xs i e
read_so [] i d e lt = absurd (omega arith)
read_so (x ∷ xs) zero d e lt = refl
read_so (x ∷ xs) (suc i) d e lt = read_so xs i d e (omega arith)

pub one_hashed : (marks : ℕ → Bool) (cells : List Held) (n : ℕ) (old new : List (List ℕ)) (b : Bucket) (is x : List ℕ) → AreHashedTo marks cells n old new → HoldsText (marks n) (text_of n cells) b → n < length new →
    is ≡ (if b.marked then sha256 b.text.items else get_or new n x) → AreHashedTo marks cells (n + 1) old (set new n is)
one_hashed marks cells n old new b is x so_far holds within hashed = record {
  done = λ k d lt. elim (at_or_before k n lt) [
    | inl at ↦
        ap (λ j. get_or (set new n is) j d) at
        ∙ get_or-set_same new n is d within
        ∙ hashed
        ∙ if_marked (marks n) b.marked b.text.items (text_of n cells) (get_or new n x) holds.mark holds.holds
        ∙ ap (λ (l : List ℕ). if marks n then sha256 (text_of n cells) else l) (read_so new n x d within ∙ so_far.others n d (omega arith))
        ∙ sym (ap (λ j. if marks j then sha256 (text_of j cells) else get_or old j d) at)
    | inr before ↦ let far : k ≢ n = omega arith in get_or-set_other new n k is d far ∙ so_far.done k d before
  ];
  others = λ k d le. let far : k ≢ n = omega arith in get_or-set_other new n k is d far ∙ so_far.others k d (omega arith);
}

pub one_counted : (marks : ℕ → Bool) (n : ℕ) (steps before start : ℕ) (text : List ℕ) (b : Bucket) → HoldsText (marks n) text b → before ≡ start + how_many marks n → steps ≡ before + (if b.marked then 1 else 0) → steps ≡ start + how_many marks (n + 1)
unfolding how_many
one_counted marks n steps before start text b holds so_far one =
    one
    ∙ (λ i. so_far i + (if holds.mark i then 1 else 0))
    ∙ add_assoc start (how_many marks n) (if marks n then 1 else 0)
    ∙ ap (λ m. start + how_many marks m) (sym (add-one n))

pub none_counted : (marks : ℕ → Bool) (start : ℕ) → start ≡ start + how_many marks 0
unfolding how_many
none_counted marks start = omega arith

pub all_counted : (n : ℕ) → how_many (λ k. true) n ≡ n
unfolding how_many
all_counted zero = refl
all_counted (suc n) = ap (λ m. m + 1) (all_counted n) ∙ add-one n
