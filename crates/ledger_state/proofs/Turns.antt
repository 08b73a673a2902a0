-- What is left behind a contract or a cell, as loops go from one to the next.
use Rattle.std.proofs.Common.{◌≡◌, ℕ, ◌+◌, ◌≤◌, true, false, List, [], ◌∷◌, ◌++◌, length, Option, Some, None, refl, sym, ap, subst, ◌∙◌, append_assoc, arith}
use Rattle.std.specs.Prelude.{if◌then◌else◌, is_some}
use Rattle.std.specs.List.{flat_map, AllByRecursion}
use Rattle.std.specs.Ordering.{is_lt}
use Rattle.std.specs.Int.{w32, to_be_bytes}
use Rattle.std.specs.FinMap.{contains_key, entries, get-entries, len, len-entries}
use Rattle.std.proofs.lemmas.List.{append-nil}
use Rattle.std.proofs.lemmas.List.Concat.{flat_map-cons}
use Rattle.value_core.proofs.PlaceLemmas.{is_Less}
use Rattle.michelson_code.specs.declared.script.Script.{Script}
use Rattle.cell_names.specs.declared.cell.Cell.TheVariants.{Storage}
use Rattle.cell_names.specs.Contents.{Contents}
use Rattle.code_book.specs.Books.{Contracts}
use Rattle.code_book.specs.Successors.{IsAbove, IsNext, NoneAbove}
use Rattle.michelson_reader.specs.Printed.{script_text}
use Rattle.michelson_reader.specs.Script.{IsScriptOf}
use Rattle.ledger_state.specs.Spelling.{AreWritable, spell_book, spell_contract}
use Rattle.ledger_state.specs.Storages.{first_bare, least_bare}
use Rattle.ledger_state.proofs.BookLaws.{Row, by_bytes, total, ties}
use Rattle.ledger_state.proofs.Entries.{each_held, from_none, from_over, is_over, least_is, none_is, sorted}

-- ---- what is written

-- one more is written, and is left no more
pub one_written : {A : Type 0} (f : A → List ℕ) (out out' whole : List ℕ) (e : A) (rest rest' : List A) → rest ≡ e ∷ rest' → out' ≡ out ++ f e → out ++ flat_map f rest ≡ whole → out' ++ flat_map f rest' ≡ whole
one_written f out out' whole e rest rest' is written so_far =
    ap (λ (l : List ℕ). l ++ flat_map f rest') written
    ∙ append_assoc out (f e) (flat_map f rest')
    ∙ ap (λ (l : List ℕ). out ++ l) (sym (flat_map-cons f e rest') ∙ ap (flat_map f) (sym is))
    ∙ so_far

-- nothing is left
pub all_written : {A : Type 0} (f : A → List ℕ) (out whole : List ℕ) (rest : List A) → rest ≡ [] → out ++ flat_map f rest ≡ whole → out ≡ whole
all_written f out whole rest none so_far = sym (append-nil out) ∙ ap (λ l. out ++ flat_map f l) (sym none) ∙ so_far

-- what holds of all where it holds of what is left
pub one_holds : {A : Type 0} (P : A → Type 0) (all : List A) (e : A) (rest rest' : List A) → rest ≡ e ∷ rest' → P e → (AllByRecursion P rest → AllByRecursion P all) → AllByRecursion P rest' → AllByRecursion P all
one_holds P all e rest rest' is here so_far later = so_far (subst (AllByRecursion P) (sym is) (here, later))

pub all_hold : {A : Type 0} (P : A → Type 0) (all rest : List A) → rest ≡ [] → (AllByRecursion P rest → AllByRecursion P all) → AllByRecursion P all
all_hold P all rest none so_far = so_far (subst (AllByRecursion P) (sym none) tt)

pub none_left : {A : Type 0} (rest : List A) (n i : ℕ) → length rest + i ≤ n → n ≤ i → rest ≡ []
none_left [] n i le done = refl
none_left (x ∷ rest) n i le done = absurd (omega arith)

-- ---- contracts

-- those above the last one
abbrev pub rest_of : Contracts → Option (List ℕ) → List Row
rest_of book last = from_over by_bytes last (entries book)

over_from : (last : Option (List ℕ)) (a : List ℕ) → IsAbove last a → is_over by_bytes last a ≡ true
over_from None a above = refl
over_from (Some l) a above = ap is_lt above

above_from : (last : Option (List ℕ)) (a : List ℕ) → is_over by_bytes last a ≡ true → IsAbove last a
above_from None a over = tt
above_from (Some l) a over = is_Less (by_bytes l a) over

pub all_left : (book : Contracts) → rest_of book None ≡ entries book
all_left book = from_none total (entries book)

pub next_left : (book : Contracts) (last : Option (List ℕ)) (a : List ℕ) (s : Script) → IsNext book last a s → rest_of book last ≡ (a, s) ∷ rest_of book (Some a)
next_left book last a s is = least_is total ties last (entries book) a s (sorted total book) (record {
  found = sym (get-entries book a) ∙ is.stands;
  over = over_from last a is.above;
  least = λ q w e over less. is.least q (ap is_some (get-entries book q ∙ e)) (above_from last q over) less;
})

pub nothing_left : (book : Contracts) (last : Option (List ℕ)) → NoneAbove book last → rest_of book last ≡ []
nothing_left book last none = none_is total last (entries book) (sorted total book) (λ q w e over. none q (ap is_some (get-entries book q ∙ e)) (above_from last q over))

pub fewer_left : (book : Contracts) (last : Option (List ℕ)) (a : List ℕ) (s : Script) (n i : ℕ) → IsNext book last a s → length (rest_of book last) + i ≤ n → length (rest_of book (Some a)) + (i + 1) ≤ n
fewer_left book last a s n i is le = let one : length (rest_of book last) ≡ length ((a, s) ∷ rest_of book (Some a)) = ap length (next_left book last a s is) in omega arith

-- its printed text is one of it
abbrev pub IsAgain : Row → Type 0
IsAgain c = IsScriptOf (script_text c.1) c.1

-- nothing is written yet but the number
pub begun : (book : Contracts) (out front out' : List ℕ) (n : ℕ) → out' ≡ out ++ front → front ≡ to_be_bytes w32 n → n ≡ len book → out' ++ flat_map spell_contract (rest_of book None) ≡ out ++ spell_book book
begun book out front out' n written is count =
    ap (λ (l : List ℕ). l ++ flat_map spell_contract (rest_of book None)) written
    ∙ append_assoc out front (flat_map spell_contract (rest_of book None))
    ∙ (λ i. out ++ ((is ∙ ap (to_be_bytes w32) count) i ++ flat_map spell_contract (all_left book i)))

pub all_writable : (book : Contracts) → AllByRecursion IsAgain (entries book) → AreWritable book
all_writable book all address s e = each_held total IsAgain ties book all address s e

pub all_begun : (book : Contracts) → AllByRecursion IsAgain (rest_of book None) → AllByRecursion IsAgain (entries book)
all_begun book = subst (AllByRecursion IsAgain) (all_left book)

pub few_begun : (book : Contracts) (n : ℕ) → n ≡ len book → length (rest_of book None) + 0 ≤ n
few_begun book n count = let all : length (rest_of book None) ≡ n = ap length (all_left book) ∙ sym (len-entries book) ∙ sym count in omega arith

-- ---- contracts without a storage

pub bare_here : (book : Contracts) (cells : Contents) (last : Option (List ℕ)) (a : List ℕ) (s : Script) → IsNext book last a s → contains_key cells (Storage a) ≡ false →
    first_bare cells (rest_of book last) ≡ least_bare book cells → Some a ≡ least_bare book cells
bare_here book cells last a s is none so_far =
    sym (ap (λ b. if b then first_bare cells (rest_of book (Some a)) else Some a) none) ∙ sym (ap (first_bare cells) (next_left book last a s is)) ∙ so_far

pub bare_later : (book : Contracts) (cells : Contents) (last : Option (List ℕ)) (a : List ℕ) (s : Script) → IsNext book last a s → contains_key cells (Storage a) ≡ true →
    first_bare cells (rest_of book last) ≡ least_bare book cells → first_bare cells (rest_of book (Some a)) ≡ least_bare book cells
bare_later book cells last a s is there so_far =
    sym (ap (λ b. if b then first_bare cells (rest_of book (Some a)) else Some a) there) ∙ sym (ap (first_bare cells) (next_left book last a s is)) ∙ so_far

pub none_bare : (book : Contracts) (cells : Contents) (rest : List Row) → rest ≡ [] → first_bare cells rest ≡ least_bare book cells → None ≡ least_bare book cells
none_bare book cells rest none so_far = sym (ap (first_bare cells) none) ∙ so_far
