-- The digest of a state: each cell falls into one of 256 buckets, and the buckets are hashed one after the other.
use Rattle.std.specs.Prelude.{ℕ, zero, suc, ◌==◌, List, [], ◌∷◌, ◌++◌, filter, slice_index}
use Rattle.std.specs.List.{flat_map}
use Rattle.std.specs.FinMap.{entries}
use Rattle.sha2.specs.Sha256.{sha256}
use Rattle.plain_ledger.specs.Ledger.{Ledger, BalanceEntry}
use Rattle.plain_ledger.specs.Spelling.{cell}

-- the name of a balance's cell: the tag of a balance, and the address
abbrev pub cell_name : List ℕ → List ℕ
cell_name address = 0 ∷ address

-- the number of a cell's bucket: the first byte of the hash of the cell's name
unfoldable pub bucket_of : List ℕ → ℕ
bucket_of address = slice_index (sha256 (cell_name address)) 0

-- the cells of a bucket in order, each its name and its value
abbrev pub bucket_text : ℕ → List BalanceEntry → List ℕ
bucket_text k es = flat_map cell (filter (λ e. bucket_of e.0 == k) es)

-- the digests of the first n buckets
unfoldable pub bucket_digests : ℕ → List BalanceEntry → List ℕ
bucket_digests zero es = []
bucket_digests (suc n) es = bucket_digests n es ++ sha256 (bucket_text n es)

-- the digest of a book without contracts: of their number, 0, in four bytes
unfoldable pub book_digest : List ℕ
book_digest = sha256 (0 ∷ 0 ∷ 0 ∷ 0 ∷ [])

-- the digest of a state; its level and now aren't in it
unfoldable pub digest_of : Ledger → List ℕ
digest_of s = sha256 (book_digest ++ bucket_digests 256 (entries s.balances))
