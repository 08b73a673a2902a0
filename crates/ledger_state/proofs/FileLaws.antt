-- The law of the whole file: what is read can be stored and is spelt so, and what can be stored is read from its spelling.
use Rattle.std.proofs.Common.{◌≡◌, ℕ, ◌<◌, ◌^◌, ◌++◌, refl, sym}
use Rattle.std.specs.Prelude.{IsTrue}
use Rattle.std.specs.Int.{w32, w64, to_be_bytes}
use Rattle.byte_fields.specs.Readers.{number, with}
use Rattle.byte_fields.specs.Laws.{Reads, ReadsWhole}
use Rattle.byte_fields.proofs.Digits.{wide32, wide64}
use Rattle.byte_fields.proofs.Joined.{checked_reads, made_reads, reads_as, with_reads}
use Rattle.byte_fields.proofs.Numbers.{behind_reads, number_reads}
use Rattle.byte_fields.proofs.Whole.{whole_reads}
use Rattle.cell_names.specs.Contents.{Contents}
use Rattle.code_book.specs.Books.{Contracts}
use Rattle.ledger_state.specs.Ledger.{Ledger, AreCells}
use Rattle.ledger_state.specs.BookReading.{book}
use Rattle.ledger_state.specs.Reading.{cells, ledger, with_cells}
use Rattle.ledger_state.specs.Spelling.{CanBeStored, magic, spell_book, spell_cells, spelling}
use Rattle.ledger_state.specs.Storages.{has_storages}
use Rattle.ledger_state.proofs.BookLaws.{IsStoredBook, book_reads}
use Rattle.ledger_state.proofs.CellLaws.{AreFit, contents_reads}
use Rattle.ledger_state.proofs.FitLaws.{tidy_from}
use Rattle.ledger_state.proofs.StorageLaws.{housed_from, housed_to}

abbrev AreHeld : Contracts → Contents → Type 0
AreHeld contracts m = AreFit contracts m × IsTrue (has_storages contracts m)

pub cells_reads : (contracts : Contracts) → Reads (cells contracts) spell_cells (AreHeld contracts)
cells_reads contracts = checked_reads (has_storages contracts) (contents_reads contracts)

-- these are the cells of a state
pub are_cells : (contracts : Contracts) (m : Contents) → AreHeld contracts m → AreCells contracts m
are_cells contracts m good = record {
  values = good.0.fit;
  storages = housed_from contracts m good.1;
  tidy = tidy_from contracts m good.0.fit;
  supply = good.0.within;
}

abbrev state_of : ℕ → ℕ → Contracts → Contents → Ledger
state_of level now contracts m = record { level = level; now = now; book = contracts; cells = m }

-- the state has this head and this book
record IsAt (level now : ℕ) (contracts : Contracts) (s : Ledger) : Type 0 where
  at_level : s.level ≡ level
  at_now : s.now ≡ now
  of_book : s.book ≡ contracts

-- and its cells are those of the book
abbrev IsWith : ℕ → ℕ → Contracts → Ledger → Type 0
IsWith level now contracts s = IsAt level now contracts s × AreHeld contracts s.cells

with_cells_reads : (level now : ℕ) (contracts : Contracts) → Reads (with_cells level now contracts) (λ s. spell_cells s.cells) (IsWith level now contracts)
with_cells_reads level now contracts =
    made_reads (state_of level now contracts) (λ (s : Ledger). s.cells) (λ s. spell_cells s.cells) (IsWith level now contracts)
    (λ m good. (refl, (record { at_level = refl; at_now = refl; of_book = refl }, good)))
    (λ s good. (good.1, (λ i. state_of (sym good.0.at_level i) (sym good.0.at_now i) (sym good.0.of_book i) s.cells)))
    (cells_reads contracts)

abbrev WithBook : ℕ → ℕ → Ledger → Type 0
WithBook level now s = IsStoredBook s.book × IsWith level now s.book s

with_book_reads : (level now : ℕ) → Reads (with book (λ contracts. with_cells level now contracts)) (λ s. spell_book s.book ++ spell_cells s.cells) (WithBook level now)
with_book_reads level now = with_reads book_reads (with_cells_reads level now) (λ (s : Ledger). s.book) (λ contracts s good. good.0.of_book)

abbrev WithNow : ℕ → Ledger → Type 0
WithNow level s = (s.now < 2 ^ 64) × WithBook level s.now s

with_now_reads : (level : ℕ) → Reads (with (number w64) (λ now. with book (λ contracts. with_cells level now contracts))) (λ s. to_be_bytes w64 s.now ++ (spell_book s.book ++ spell_cells s.cells)) (WithNow level)
with_now_reads level = with_reads (number_reads w64 (2 ^ 64) wide64) (with_book_reads level) (λ (s : Ledger). s.now) (λ now s good. good.1.0.at_now)

abbrev WithLevel : Ledger → Type 0
WithLevel s = (s.level < 2 ^ 32) × WithNow s.level s

stored_from : (s : Ledger) → WithLevel s → CanBeStored s
stored_from s good =
    let cells = good.1.1.1.1 in
    record {
      lawful = record { level = good.0; now = good.1.0; book = good.1.1.0.book; cells = are_cells s.book s.cells cells };
      few = cells.0.few;
      scripts = good.1.1.0.writable;
      cells = cells.0.spelt;
    }

from_stored : (s : Ledger) → CanBeStored s → WithLevel s
from_stored s good = (
  good.lawful.level,
  (
    good.lawful.now,
    (
      record { book = good.lawful.book; writable = good.scripts },
      (
        record { at_level = refl; at_now = refl; of_book = refl },
        (
          record { few = good.few; fit = good.lawful.cells.values; spelt = good.cells; within = good.lawful.cells.supply },
          housed_to s.book s.cells good.lawful.cells.storages,
        ),
      ),
    ),
  ),
)

pub ledger_reads : ReadsWhole ledger spelling CanBeStored
unfolding ledger
ledger_reads = whole_reads (reads_as spelling CanBeStored (λ s good. (refl, stored_from s good)) from_stored (behind_reads magic
    (with_reads (number_reads w32 (2 ^ 32) wide32) with_now_reads (λ (s : Ledger). s.level) (λ level s good. good.1.1.0.at_level))))
