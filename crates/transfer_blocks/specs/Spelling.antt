-- The one spelling of a block as bytes.
use Rattle.std.specs.Prelude.{ℕ, List, [], ◌∷◌, ◌++◌, length, if◌then◌else◌}
use Rattle.std.specs.List.{flat_map}
use Rattle.std.specs.Int.{w32, w64, to_be_bytes}
use Rattle.cell_names.specs.Spelling.{spell_footprint}
use Rattle.transfer_blocks.specs.declared.transfer.Transfer.{Transfer}
use Rattle.transfer_blocks.specs.declared.transfer.Receipt.{Receipt}
use Rattle.transfer_blocks.specs.Block.{BlockView}

-- 'FJB1'
abbrev pub magic : List ℕ
magic = 0x46 ∷ 0x4a ∷ 0x42 ∷ 0x31 ∷ []

-- 'default'
abbrev pub default_name : List ℕ
default_name = 0x64 ∷ 0x65 ∷ 0x66 ∷ 0x61 ∷ 0x75 ∷ 0x6c ∷ 0x74 ∷ []

-- the entry behind its length, and the tag of Unit
abbrev pub call_bytes : List ℕ
call_bytes = (7 ∷ []) ++ default_name ++ (0 ∷ [])

-- source, destination, the call, amount, gas and turns
abbrev pub op_bytes : Transfer → List ℕ
op_bytes t =
    t.source ++ t.dest ++ call_bytes ++ to_be_bytes w64 t.amount
    ++ to_be_bytes w32 t.gas ++ to_be_bytes w32 t.turns

-- the number of joins, and each
abbrev pub list_bytes : List ℕ → List ℕ
list_bytes list = to_be_bytes w32 (length list) ++ flat_map (to_be_bytes w32) list

-- Applied or BalanceTooLow, and the gas
abbrev pub receipt_bytes : Receipt → List ℕ
receipt_bytes r = ((if r.applied then 0 else 1) ∷ []) ++ to_be_bytes w32 r.gas

-- the number of operations; all operations, all their join lists, all footprints, all receipts
abbrev pub published_bytes : BlockView → List ℕ
published_bytes b =
    to_be_bytes w32 (length b.ops) ++ flat_map op_bytes b.ops ++ flat_map list_bytes b.joins
    ++ flat_map spell_footprint b.footprints ++ flat_map receipt_bytes b.receipts

-- magic, parent, level, now, what is published, and the digest of the state
abbrev pub spelling : BlockView → List ℕ
spelling b =
    magic ++ b.parent ++ to_be_bytes w32 b.level ++ to_be_bytes w64 b.now
    ++ published_bytes b ++ b.state
