-- The lines that the program prints.
use Rattle.std.specs.Prelude.{ℕ, List, [], ◌∷◌, ◌++◌, codes}
use Rattle.std.specs.Fmt.{decimal}
use Rattle.hex.specs.Hex.{encode_lower}
use Rattle.value_codec.specs.Spelling.{spell}
use Rattle.cell_names.specs.declared.cell.Cell.{Cell}
use Rattle.cell_names.specs.declared.cell.Cell.TheVariants.{Balance, Storage, Entry}
use Rattle.plain_ledger.specs.Ledger.{Ledger}
use Rattle.plain_digest.specs.Digest.{digest_of}
use Rattle.block_cli.specs.declared.refusal.Refusal.{Refusal}
use Rattle.block_cli.specs.declared.refusal.Refusal.TheVariants.{Malformed, NotYet, WrongParent, BadJoin, Unordered, FootprintDiffers, ReceiptDiffers, StateDiffers}

-- a line ends with a newline
abbrev pub line : List ℕ → List ℕ
line text = text ++ 10 ∷ []

abbrev pub usage_line : List ℕ
usage_line = line (codes "usage: compile SRC OUT | check CODE | genesis TEXT STATE | mine STATE OPS BLOCK NEXT WORKERS | validate STATE BLOCK NEXT WORKERS | show STATE | load NUMBER COUNT WORKERS")

abbrev pub cannot_read_line : List ℕ → List ℕ
cannot_read_line name = line (codes "cannot read " ++ name)

abbrev pub cannot_write_line : List ℕ → List ℕ
cannot_write_line name = line (codes "cannot write " ++ name)

abbrev pub memory_line : List ℕ
memory_line = line (codes "out of memory")

-- what is wrong with the file of that name
abbrev pub bad_input_line : List ℕ → List ℕ → List ℕ
bad_input_line name why = line (name ++ codes ": " ++ why)

-- why a block is refused
abbrev pub refused_line : List ℕ → List ℕ
refused_line why = line (codes "refused: " ++ why)

-- the level and the digest of the state after the block
abbrev pub accepted_line : Ledger → List ℕ
accepted_line s = line (codes "accepted, level " ++ decimal s.level ++ codes ", state " ++ encode_lower (digest_of s))

-- the digest of a state
abbrev pub state_line : List ℕ → List ℕ
state_line digest = line (codes "state " ++ encode_lower digest)

-- ---- what stands in a line of a bad file or a refused block

-- where bytes break their format, or hold what isn't built yet
abbrev pub malformed : ℕ → List ℕ
malformed p = codes "Malformed at " ++ decimal p

abbrev pub not_yet : ℕ → List ℕ
not_yet p = codes "NotYet at " ++ decimal p

-- the operation with the first bad list of joins
abbrev pub bad_join : ℕ → List ℕ
bad_join j = codes "BadJoin " ++ decimal j

-- the kind of a cell and its address; of an entry also the place and the bytes of the key
abbrev pub cell_text : Cell → List ℕ
cell_text (Balance address) = codes "balance 0x" ++ encode_lower address
cell_text (Storage address) = codes "storage 0x" ++ encode_lower address
cell_text (Entry address place key) =
    codes "entry 0x" ++ encode_lower address ++ codes " " ++ decimal place ++ codes " 0x" ++ encode_lower (spell key)

-- two operations that conflict without an order, and the cell
abbrev pub unordered : ℕ → ℕ → Cell → List ℕ
unordered i j c = codes "Unordered " ++ decimal i ++ codes " " ++ decimal j ++ codes " " ++ cell_text c

-- the first operation of which something else is published than its run leaves
abbrev pub footprint_differs : ℕ → List ℕ
footprint_differs i = codes "FootprintDiffers " ++ decimal i

abbrev pub receipt_differs : ℕ → List ℕ
receipt_differs i = codes "ReceiptDiffers " ++ decimal i

-- why a block is refused
abbrev pub refusal_text : Refusal → List ℕ
refusal_text (Malformed p) = malformed p
refusal_text (NotYet p) = not_yet p
refusal_text WrongParent = codes "WrongParent"
refusal_text (BadJoin j) = bad_join j
refusal_text (Unordered i j c) = unordered i j c
refusal_text (FootprintDiffers i) = footprint_differs i
refusal_text (ReceiptDiffers i) = receipt_differs i
refusal_text StateDiffers = codes "StateDiffers"
