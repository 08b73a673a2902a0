-- One more contract, or one more cell, behind all that were read.
use Rattle.std.proofs.Common.{◌≡◌, ℕ, ◌+◌, ◌-◌, ◌<◌, true, List, [], ◌∷◌, ◌++◌, length, Option, Some, None, Result, Ok, Err, refl, sym, ap, ◌∙◌, arith}
use Rattle.std.specs.FinMap.{empty, entries, entries-from_sorted, entries_sorted, from_sorted, get, insert, len-empty, len-entries, same_entries_map, FinMap}
use Rattle.std.specs.declared.cmp.Ordering.{Ordering}
use Rattle.value_core.proofs.PlaceLemmas.{is_Less}
use Rattle.byte_fields.specs.Stops.{Stop}
use Rattle.byte_fields.specs.Readers.{Read, Reader, after, chained, made}
use Rattle.byte_fields.specs.Told.{AnswersUnlessFull, IsStop}
use Rattle.byte_fields.proofs.Loops.{goes_on, with_front}
use Rattle.value_core.specs.declared.val.Val.{Val}
use Rattle.michelson_code.specs.declared.script.Script.{Script}
use Rattle.cell_names.specs.declared.cell.Cell.{Cell}
use Rattle.cell_names.specs.Cells.{cell_cmp}
use Rattle.cell_names.specs.CellOrder.{cell_cmp-total}
use Rattle.cell_names.specs.Contents.{Contents}
use Rattle.cell_names.specs.Reading.{is_above}
use Rattle.cell_names.specs.Supply.{money_of, supply}
use Rattle.code_book.specs.Books.{Contracts}
use Rattle.ledger_state.specs.BookReading.{contract, is_above_address, next_address}
use Rattle.ledger_state.proofs.BookLaws.{Row, by_bytes, total}
use Rattle.ledger_state.proofs.CellLaws.{Held, money, money-cons}
use Rattle.ledger_state.proofs.Entries.{are_below, are_below-less, are_below-push, insert_last, none_held}

no_items : {A : Type 0} (es : List A) → length es ≡ 0 → es ≡ []
no_items [] e = refl
no_items (x ∷ es) e = absurd (omega arith)

pub nothing : {K X : Type 0} (R : K → K → Ordering) → entries (empty {X = X} {R = R}) ≡ []
nothing {K} {X} R = no_items (entries (empty {X = X} {R = R})) (sym (len-entries (empty {X = X} {R = R})) ∙ len-empty R X)

-- ---- as loops begin and go on

front_none : {A : Type 0} (front : List A) (read : Read (List A)) → front ≡ [] → with_front front read ≡ read
front_none front (Ok x) none = ap (λ l. Ok (l ++ x.0, x.1)) none
front_none front (Err stop) none = refl

pub begins : {S A : Type 0} (read : S → Reader A) (next : S → A → S) (state : S) (front : List A) (count : ℕ) (bytes : List ℕ) → front ≡ [] →
    with_front front (chained read next state (count - 0) bytes) ≡ chained read next state count bytes
begins read next state front count bytes none =
    let all : count - 0 ≡ count = omega arith in
    ap (λ n. with_front front (chained read next state n bytes)) all ∙ front_none front (chained read next state count bytes) none

-- ---- contracts

-- each address above the last one is above all that are there
pub record AreBelow (last : Option (List ℕ)) (book : Contracts) : Type 0 where
  pub below : (a : List ℕ) → is_above_address last a ≡ true → are_below by_bytes a (entries book) ≡ true

pub none_below : (book : Contracts) (last : Option (List ℕ)) → entries book ≡ [] → AreBelow last book
none_below book last none = record { below = λ a above. ap (are_below by_bytes a) none }

pub one_listed : (book book' : Contracts) (last : Option (List ℕ)) (a : List ℕ) (s : Script) → AreBelow last book → is_above_address last a ≡ true → book' ≡ insert book a s → entries book' ≡ entries book ++ (a, s) ∷ []
one_listed book book' last a s below above is = ap entries is ∙ insert_last total book a s (below.below a above)

pub still_below : (book book' : Contracts) (last : Option (List ℕ)) (a : List ℕ) (s : Script) → AreBelow last book → is_above_address last a ≡ true → book' ≡ insert book a s → AreBelow (Some a) book'
still_below book book' last a s below above is = record {
  below = λ b over.
      let less = is_Less (by_bytes a b) over in
      ap (are_below by_bytes b) (one_listed book book' last a s below above is)
      ∙ are_below-push total b (entries book) a s less (are_below-less total a b (entries book) less (below.below a above));
}

pub one_contract : (last : Option (List ℕ)) (old new : Contracts) (a : List ℕ) (s : Script) (count i : ℕ) (bytes rest : List ℕ) (whole : Read (List Row)) →
    AreBelow last old → is_above_address last a ≡ true → new ≡ insert old a s → contract last bytes ≡ Ok ((a, s), rest) → i < count →
    with_front (entries old) (chained contract next_address last (count - i) bytes) ≡ whole → with_front (entries new) (chained contract next_address (Some a) (count - (i + 1)) rest) ≡ whole
one_contract last old new a s count i bytes rest whole below above grown was lt so_far =
    ap (λ (es : List Row). with_front es (chained contract next_address (Some a) (count - (i + 1)) rest)) (one_listed old new last a s below above grown)
    ∙ goes_on contract next_address last (Some a) (entries old) count i bytes (a, s) rest whole lt was refl so_far

-- ---- cells

-- each cell above the last one is above all that are there
abbrev AreUnder : Option Cell → Contents → Type 0
AreUnder last m = (c : Cell) → is_above last c ≡ true → are_below cell_cmp c (entries m) ≡ true

pub one_held : (m m' : Contents) (last : Option Cell) (c : Cell) (v : Val) → AreUnder last m → is_above last c ≡ true → m' ≡ insert m c v → entries m' ≡ entries m ++ (c, v) ∷ []
one_held m m' last c v below above is = ap entries is ∙ insert_last cell_cmp-total m c v (below c above)

pub still_under : (m m' : Contents) (last : Option Cell) (c : Cell) (v : Val) → AreUnder last m → is_above last c ≡ true → m' ≡ insert m c v → AreUnder (Some c) m'
still_under m m' last c v below above is d over =
    let less = is_Less (cell_cmp c d) over in
    ap (are_below cell_cmp d) (one_held m m' last c v below above is)
    ∙ are_below-push cell_cmp-total d (entries m) c v less (are_below-less cell_cmp-total c d (entries m) less (below c above))

pub not_held : (m : Contents) (last : Option Cell) (c : Cell) → AreUnder last m → is_above last c ≡ true → get m c ≡ None
not_held m last c below above = none_held cell_cmp-total m c (below c above)

pub money-push : (es : List Held) (e : Held) → money (es ++ e ∷ []) ≡ money es + money_of e
money-push [] e = omega (arith, money-cons e [])
money-push (x ∷ es) e = omega (arith, money-push es e, money-cons x es, money-cons x (es ++ e ∷ []))

pub supply_grows : (m m' : Contents) (last : Option Cell) (c : Cell) (v : Val) → AreUnder last m → is_above last c ≡ true → m' ≡ insert m c v → supply m + money_of (c, v) ≡ supply m'
supply_grows m m' last c v below above is = sym (ap money (one_held m m' last c v below above is) ∙ money-push (entries m) (c, v))

-- ---- maps of what is read

pub back_again : {K X : Type 0} (R : K → K → Ordering) (m : FinMap R X) → from_sorted (entries m) ≡ m
back_again R m = same_entries_map _ _ (entries-from_sorted R (entries m) (entries_sorted m))

-- what is told of what is read is told of what is made of it
pub made_told : {A B X E : Type 0} (stop : E → Option Stop) (view : X → A × List ℕ) (f : A → B) (g : X → B) (read : Reader A) (bytes : List ℕ) (r : Result X E) → ((x : X) → f (view x).0 ≡ g x) →
    AnswersUnlessFull stop view r (read bytes) → AnswersUnlessFull stop (λ x. (g x, (view x).1)) r (made f read bytes)
made_told stop view f g read bytes (Ok x) same told = ap (λ y. after y (λ a rest. Ok (f a, rest))) told ∙ ap (λ b. Ok (b, (view x).1)) (same x)
made_told {A} {B} stop view f g read bytes (Err e) same told = stops (stop e) told
  where
    stops : (s : Option Stop) → IsStop s (read bytes) → IsStop s (made f read bytes)
    stops None is = tt
    stops (Some s) is = ap (λ (y : Read A). after y (λ a rest. let z : Read B = Ok (f a, rest) in z)) is
