-- A contract that is read behind those of a book may be added to it.
use Rattle.std.proofs.Common.{◌≡◌, ℕ, ◌+◌, ◌<◌, ◌^◌, Bool, true, false, List, [], ◌∷◌, length, Option, Some, None, Result, Ok, Err, refl, ap, arith, length-append}
use Rattle.std.specs.Prelude.{IfOk, nat_le, is_some, if◌then◌else◌}
use Rattle.std.specs.FinMap.{contains_key, entries, insert, len, len-entries}
use Rattle.std.proofs.lemmas.Bool.{lt-leb}
use Rattle.byte_fields.specs.Laws.{IsBytes}
use Rattle.byte_fields.specs.Stops.{Stop}
use Rattle.byte_fields.specs.Told.{AnswersUnlessFull}
use Rattle.michelson_code.specs.declared.script.Script.{Script}
use Rattle.code_book.specs.Adding.{is_too_long, refusal}
use Rattle.code_book.specs.Books.{Contracts, IsListed, text_length}
use Rattle.code_book.specs.declared.fault.BookEnd.{BookEnd}
use Rattle.code_book.specs.declared.fault.BookEnd.TheVariants.{NotContract, Taken, Full, TooLong}
use Rattle.ledger_state.specs.BookReading.{contract, is_above_address}
use Rattle.ledger_state.proofs.BookLaws.{Row, contract_reads, listed_from, total}
use Rattle.ledger_state.proofs.Entries.{none_held}
use Rattle.ledger_state.proofs.Growing.{AreBelow, one_listed}

-- the first of four reasons, by their tests
abbrev reason : Bool → Bool → Bool → Bool → Option BookEnd
reason a b c d = if a then Some NotContract else if b then Some Taken else if c then Some Full else if d then Some TooLong else None

none_refused : (book : Contracts) (a : List ℕ) (s : Script) → IsListed a s → contains_key book a ≡ false → len book < 1024 → refusal book a s ≡ None
none_refused book a s listed new room =
    let full : nat_le 1024 (len book) ≡ false = lt-leb 1024 (len book) room in
    let long : is_too_long s ≡ false = lt-leb (2 ^ 32) (text_length s) listed.short in
    λ i. reason (listed.contract i) (new i) (full i) (long i)

-- what is read as a contract may stand in a book
read_is_listed : (last : Option (List ℕ)) (a : List ℕ) (s : Script) (bytes rest : List ℕ) → IsBytes bytes → contract last bytes ≡ Ok ((a, s), rest) → IsListed a s
read_is_listed last a s bytes rest fits was = listed_from last (a, s) ((contract_reads last).takes bytes (a, s) rest fits was).1

pub listed_told : {X E : Type 0} (stop : E → Option Stop) (view : X → Row × List ℕ) (last : Option (List ℕ)) (bytes : List ℕ) (r : Result X E) → IsBytes bytes → AnswersUnlessFull stop view r (contract last bytes) →
    IfOk r (λ x. IsListed (view x).0.0 (view x).0.1)
listed_told stop view last bytes (Ok x) fits told = read_is_listed last (view x).0.0 (view x).0.1 bytes (view x).1 fits told
listed_told stop view last bytes (Err e) fits told = tt

pub may_be_added : (last : Option (List ℕ)) (book : Contracts) (a : List ℕ) (s : Script) → AreBelow last book → is_above_address last a ≡ true → len book < 1024 → IsListed a s → refusal book a s ≡ None
may_be_added last book a s below above room listed = none_refused book a s listed (ap is_some (none_held total book a (below.below a above))) room

-- and then there is one more
pub one_more : (last : Option (List ℕ)) (book book' : Contracts) (a : List ℕ) (s : Script) (n : ℕ) → AreBelow last book → is_above_address last a ≡ true → book' ≡ insert book a s → len book ≡ n → len book' ≡ n + 1
one_more last book book' a s n below above is count =
    let one : length {A = Row} ((a, s) ∷ []) ≡ 1 = refl in
    omega (arith, len-entries book, len-entries book', ap length (one_listed book book' last a s below above is), length-append (entries book) ((a, s) ∷ []))
