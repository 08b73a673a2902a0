-- The digest of a state: each cell falls into one of 256 buckets, and the buckets are hashed one after the other.
use Rattle.std.specs.Prelude.{ℕ, zero, suc, ◌==◌, List, [], ◌++◌, filter, slice_index}
use Rattle.std.specs.List.{flat_map}
use Rattle.std.specs.FinMap.{entries}
use Rattle.sha2.specs.Sha256.{sha256}
use Rattle.value_core.specs.declared.val.Val.{Val}
use Rattle.cell_names.specs.declared.cell.Cell.{Cell}
use Rattle.cell_names.specs.Spelling.{spell_cell}
use Rattle.cell_names.specs.Contents.{Contents}
use Rattle.code_book.specs.Books.{Contracts}
use Rattle.ledger_state.specs.Ledger.{Ledger}
use Rattle.ledger_state.specs.Spelling.{spell_book, spell_held}

-- the number of a cell's bucket: the first byte of the hash of its name
unfoldable pub bucket_of : Cell → ℕ
bucket_of c = slice_index (sha256 (spell_cell c)) 0

-- the text of a bucket among these cells: those in it in their order, each its name and its value
abbrev pub text_of : ℕ → List (Cell × Val) → List ℕ
text_of k cells = flat_map spell_held (filter (λ e. bucket_of e.0 == k) cells)

-- the digest of a bucket
abbrev pub bucket_digest : ℕ → Contents → List ℕ
bucket_digest k cells = sha256 (text_of k (entries cells))

-- the digests of the first n buckets
unfoldable pub bucket_digests : ℕ → Contents → List ℕ
bucket_digests zero cells = []
bucket_digests (suc n) cells = bucket_digests n cells ++ bucket_digest n cells

-- the digest of a book: of its bytes in the file of a state
unfoldable pub book_digest : Contracts → List ℕ
book_digest book = sha256 (spell_book book)

-- the digest of a state; its level and `now` aren't in it
unfoldable pub digest_of : Ledger → List ℕ
digest_of s = sha256 (book_digest s.book ++ bucket_digests 256 s.cells)
