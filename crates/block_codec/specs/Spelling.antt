-- The one spelling of a block as bytes.
use Rattle.std.specs.Prelude.{ℕ, List, [], ◌∷◌, ◌++◌, length, Option, Some, None}
use Rattle.std.specs.List.{flat_map}
use Rattle.std.specs.Int.{w32, w64, to_be_bytes}
use Rattle.value_codec.specs.Spelling.{spell}
use Rattle.michelson_code.specs.declared.why.Why.{Why}
use Rattle.michelson_code.specs.declared.why.Why.TheVariants as why
use Rattle.cell_names.specs.Spelling.{spell_footprint}
use Rattle.op_rules.specs.declared.op.Op.{Op}
use Rattle.op_rules.specs.declared.receipt.Receipt.{Receipt}
use Rattle.block_codec.specs.Block.{BlockView}

-- 'FJB1'
abbrev pub magic : List ℕ
magic = 0x46 ∷ 0x4a ∷ 0x42 ∷ 0x31 ∷ []

-- a name behind its length in one byte
abbrev pub name_bytes : List ℕ → List ℕ
name_bytes name = (length name ∷ []) ++ name

-- source, destination, entry, param, amount, gas and turns
abbrev pub op_bytes : Op → List ℕ
op_bytes op =
    op.source
    ++ op.dest
    ++ name_bytes op.entry
    ++ spell op.param
    ++ to_be_bytes w64 op.amount
    ++ to_be_bytes w32 op.gas
    ++ to_be_bytes w32 op.turns

-- the number of joins, and each
abbrev pub list_bytes : List ℕ → List ℕ
list_bytes list = to_be_bytes w32 (length list) ++ flat_map (to_be_bytes w32) list

-- the tag of an end; that of an operation that was applied is 0
abbrev pub tag_of : Option Why → ℕ
tag_of None = 0
tag_of (Some why.BalanceTooLow) = 1
tag_of (Some why.NoSuchContract) = 2
tag_of (Some why.NoSuchEntry) = 3
tag_of (Some why.WrongParameter) = 4
tag_of (Some (why.Raised v)) = 5
tag_of (Some why.Overflow) = 6
tag_of (Some why.Shift) = 7
tag_of (Some why.TooLarge) = 8
tag_of (Some why.OutOfGas) = 9
tag_of (Some why.OutOfTurns) = 10
tag_of (Some why.BigMapMoved) = 11
tag_of (Some why.TooManyCells) = 12
tag_of (Some why.TooMuchData) = 13
tag_of (Some why.TooManyCalls) = 14

-- the value that was raised, if one was
abbrev pub raised_bytes : Option Why → List ℕ
raised_bytes (Some (why.Raised v)) = spell v
raised_bytes _ = []

-- the tag, the gas, and the value that was raised
abbrev pub receipt_bytes : Receipt → List ℕ
receipt_bytes r = (tag_of r.end ∷ []) ++ to_be_bytes w32 r.gas ++ raised_bytes r.end

-- all operations, all their join lists, all footprints, all receipts
abbrev pub published_bytes : BlockView → List ℕ
published_bytes b =
    to_be_bytes w32 (length b.ops)
    ++ flat_map op_bytes b.ops
    ++ flat_map list_bytes b.joins
    ++ flat_map spell_footprint b.footprints
    ++ flat_map receipt_bytes b.receipts

-- magic, parent, level, now, what is published behind the number of operations, and the digest of the state
abbrev pub spelling : BlockView → List ℕ
spelling b =
    magic
    ++ b.parent
    ++ to_be_bytes w32 b.level
    ++ to_be_bytes w64 b.now
    ++ published_bytes b
    ++ b.state
