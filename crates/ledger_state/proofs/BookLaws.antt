-- The law of contracts: what is read is a book of scripts that may run, and is spelt so.
use Rattle.std.proofs.Common.{◌≡◌, ℕ, ◌<◌, ◌≤◌, ◌^◌, Bool, true, false, List, [], ◌∷◌, ◌++◌, length, Option, Some, None, refl, sym, ap, subst, ◌∙◌, arith}
use Rattle.std.specs.Prelude.{IsTrue, not, nat_le}
use Rattle.std.specs.List.{flat_map, AllByRecursion}
use Rattle.std.specs.Int.{w32, to_be_bytes}
use Rattle.std.specs.Ordering.{nat_cmp}
use Rattle.std.specs.Cmp.{IsTotalOrder}
use Rattle.std.specs.Cmp.Lexicographic.{slice_cmp, nat_list_cmp_total}
use Rattle.std.specs.declared.cmp.Ordering.{Ordering}
use Rattle.std.specs.FinMap.{IsAntisymmetric, nat_cmp-IsAntisymmetric, slice_cmp-IsAntisymmetric, len, entries, entries_sorted, entries-from_sorted, from_sorted, is_sorted, len-entries, same_entries_map}
use Rattle.std.proofs.lemmas.Bool.{leb-true, le-leb}
use Rattle.byte_fields.specs.Laws.{AllAlong, Reads}
use Rattle.byte_fields.proofs.Digits.{wide32}
use Rattle.byte_fields.proofs.Joined.{both_reads, checked_reads, made_reads, with_reads}
use Rattle.byte_fields.proofs.Lists.{GoodItems, chained_reads}
use Rattle.byte_fields.proofs.Numbers.{number_reads}
use Rattle.value_core.proofs.Bools.{T_of, both_true, first_true, second_true}
use Rattle.value_core.specs.Lawful.{is_lawful_address}
use Rattle.value_codec.proofs.Rows.{address_reads}
use Rattle.michelson_code.specs.declared.script.Script.{Script}
use Rattle.michelson_reader.specs.Printed.{script_text}
use Rattle.michelson_reader.specs.Script.{IsScriptOf}
use Rattle.cell_names.specs.Accounts.{is_implicit}
use Rattle.code_book.specs.Books.{Contracts, IsBook, IsListed, text_length}
use Rattle.ledger_state.specs.Scripts.{may_run, script_of}
use Rattle.ledger_state.specs.Spelling.{AreWritable, spell_book, spell_contract, spell_text}
use Rattle.ledger_state.specs.BookReading.{book, contract, contracts, is_above_address, is_next, next_address, script}
use Rattle.ledger_state.proofs.Entries.{is_over, are_over, are_over-nil, are_over-cons, first_over, each_held, held_each, sorted}
use Rattle.ledger_state.proofs.FoundLaws.{found_reads, text_reads}
use Rattle.ledger_state.proofs.ScriptTexts.{run_is_typed, typed_again, script_is_written, written_is_script}

abbrev pub by_bytes : List ℕ → List ℕ → Ordering
by_bytes = slice_cmp nat_cmp

pub total : IsTotalOrder by_bytes
total = nat_list_cmp_total

pub ties : IsAntisymmetric by_bytes
ties = slice_cmp-IsAntisymmetric nat_cmp-IsAntisymmetric

-- a contract with its address
abbrev pub Row : Type 0
Row = List ℕ × Script

-- ---- one script

-- a script that may run, and that its printed text is read as
pub record IsStored (s : Script) : Type 0 where
  pub runs : may_run s ≡ true
  pub short : length (script_text s) < 2 ^ 32
  pub read : IsScriptOf (script_text s) s

pub script_reads : Reads script (λ s. spell_text (script_text s)) IsStored
script_reads = found_reads script_of script_text IsStored
    (λ text s short e.
    let w = script_is_written text s e in (
      w.printed,
      record {
        runs = w.runs;
        short = subst (λ (t : List ℕ). length t < 2 ^ 32) (sym w.printed) short;
        read = subst (λ (t : List ℕ). IsScriptOf t s) (sym w.printed) w.read;
      },
    ))
    (λ s good. (good.short, written_is_script (script_text s) s (record { runs = good.runs; printed = refl; read = good.read })))
    text_reads

-- ---- one contract

-- the address is a contract's and above the last one, and the script is one
abbrev pub IsContract : Option (List ℕ) → Row → Type 0
IsContract last c = (IsTrue (is_lawful_address c.0) × IsTrue (is_next last c.0)) × IsStored c.1

pub contract_reads : (last : Option (List ℕ)) → Reads (contract last) spell_contract (IsContract last)
contract_reads last = both_reads (checked_reads (is_next last) address_reads) script_reads

over_is : (last : Option (List ℕ)) (a : List ℕ) → is_above_address last a ≡ is_over by_bytes last a
over_is None a = refl
over_is (Some last) a = refl

not_true : (b : Bool) → not b ≡ true → b ≡ false
not_true true h = absurd cc
not_true false h = refl

-- ---- contracts in a row

-- a contract that may stand in a book, whose script is the one that its printed text is read as
abbrev pub IsKept : Row → Type 0
IsKept c = IsListed c.0 c.1 × IsScriptOf (script_text c.1) c.1

pub listed_from : (last : Option (List ℕ)) (c : Row) → IsContract last c → IsListed c.0 c.1
unfolding text_length
listed_from last c good = record {
  lawful = good.0.0;
  contract = not_true (is_implicit c.0) (first_true (not (is_implicit c.0)) _ good.0.1);
  typed = ∣ run_is_typed c.1 good.1.runs ∣₁;
  short = good.1.short;
}

stored_from : (c : Row) → IsKept c → IsStored c.1
unfolding text_length
stored_from c kept = record { runs = typed_again c.1 kept.0.typed; short = kept.0.short; read = kept.1 }

-- contracts that follow each other
record Together (last : Option (List ℕ)) (rows : List Row) : Type 0 where
  ascend : is_sorted by_bytes rows ≡ true
  over : are_over by_bytes last rows ≡ true
  kept : AllByRecursion IsKept rows

together : (last : Option (List ℕ)) (rows : List Row) → AllAlong IsContract next_address last rows → Together last rows
together last [] h = record { ascend = refl; over = are_over-nil Script by_bytes last; kept = tt }
together last (c ∷ rows) h =
    let t = together (Some c.0) rows h.1 in
    let above : is_over by_bytes last c.0 ≡ true = sym (over_is last c.0) ∙ second_true (not (is_implicit c.0)) _ h.0.0.1 in
    record {
      ascend = both_true _ _ t.over t.ascend;
      over = are_over-cons total last c rows above t.over;
      kept = ((listed_from last c h.0, h.0.1.read), t.kept);
    }

along : (last : Option (List ℕ)) (rows : List Row) → is_sorted by_bytes rows ≡ true → are_over by_bytes last rows ≡ true → AllByRecursion IsKept rows → AllAlong IsContract next_address last rows
along last [] up over kept = tt
along last (c ∷ rows) up over kept =
    let first : not (is_implicit c.0) ≡ true = ap not kept.0.0.contract in
    let above : is_above_address last c.0 ≡ true = over_is last c.0 ∙ first_over total last c rows over in
    (((kept.0.0.lawful, both_true _ _ first above), stored_from c kept.0), along (Some c.0) rows (second_true _ _ up) (first_true _ _ up) kept.1)

abbrev row_bytes : List Row → List ℕ
row_bytes rows = to_be_bytes w32 (length rows) ++ flat_map spell_contract rows

abbrev AreRows : List Row → Type 0
AreRows rows = ((length rows < 2 ^ 32) × IsTrue (nat_le (length rows) 1024)) × GoodItems IsContract next_address None (length rows) rows

contracts_reads : Reads contracts row_bytes AreRows
contracts_reads =
    with_reads (checked_reads (λ n. nat_le n 1024) (number_reads w32 (2 ^ 32) wide32)) (λ n. chained_reads next_address contract_reads None n) length (λ n rows good. good.0)

-- ---- books

-- a book whose scripts are those that their printed texts are read as
pub record IsStoredBook (contracts : Contracts) : Type 0 where
  pub book : IsBook contracts
  pub writable : AreWritable contracts

book_from : (rows : List Row) → AreRows rows → (row_bytes rows ≡ spell_book (from_sorted rows)) × IsStoredBook (from_sorted rows)
book_from rows good =
    let t = together None rows good.1.1 in
    let m : Contracts = from_sorted rows in
    let is : entries m ≡ rows = entries-from_sorted by_bytes rows (T_of _ t.ascend) in
    let count : len m ≡ length rows = len-entries m ∙ ap length is in
    let kept : AllByRecursion IsKept (entries m) = subst (AllByRecursion IsKept) (sym is) t.kept in
    let few : length rows ≤ 1024 = leb-true (length rows) 1024 good.0.1 in (
      (λ i. to_be_bytes w32 (sym count i) ++ flat_map spell_contract (sym is i)),
      record {
        book = record {
          few = subst (λ n. n ≤ 1024) (sym count) few;
          listed = λ address s e. (each_held total IsKept ties m kept address s e).0;
        };
        writable = λ address s e. (each_held total IsKept ties m kept address s e).1;
      },
    )

from_book : (m : Contracts) → IsStoredBook m → AreRows (entries m) × (from_sorted (entries m) ≡ m)
from_book m good =
    let kept : AllByRecursion IsKept (entries m) = held_each total IsKept m (λ address s e. (good.book.listed address s e, good.writable address s e)) in
    let few : len m ≤ 1024 = good.book.few in
    let count : length (entries m) ≡ len m = sym (len-entries m) in
    let small : length (entries m) ≤ 1024 = omega arith in (
      ((omega arith, le-leb (length (entries m)) 1024 small), (refl, along None (entries m) (sorted total m) refl kept)),
      same_entries_map _ _ (entries-from_sorted by_bytes (entries m) (entries_sorted m)),
    )

pub book_reads : Reads book spell_book IsStoredBook
book_reads = made_reads from_sorted entries spell_book IsStoredBook book_from from_book contracts_reads
