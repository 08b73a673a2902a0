-- The law of blocks: what is read is a block and is spelt so, and every block is read by its spelling.
use Rattle.std.proofs.Common.{◌≡◌, ℕ, ◌+◌, ◌<◌, ◌≤◌, ◌^◌, List, [], ◌∷◌, ◌++◌, length, refl, sym, ap, append_assoc, arith}
use Rattle.std.specs.Prelude.{nat_le, map}
use Rattle.std.specs.Int.{w32, w64, to_be_bytes}
use Rattle.std.specs.List.{flat_map, AllByRecursion}
use Rattle.std.proofs.lemmas.Bool.{leb-true, le-leb}
use Rattle.std.proofs.lemmas.List.{append-nil}
use Rattle.std.proofs.lemmas.List.Sums.{sum_by-cons}
use Rattle.byte_fields.specs.Laws.{AllAlong, Reads, ReadsWhole}
use Rattle.byte_fields.proofs.Joined.{checked_reads, given_reads, reads_as, with_reads}
use Rattle.byte_fields.proofs.Lists.{chained_reads, many_reads}
use Rattle.byte_fields.proofs.Whole.{whole_reads}
use Rattle.byte_fields.proofs.Digits.{wide32, wide64}
use Rattle.byte_fields.proofs.Numbers.{mark_reads, number_reads, run_reads}
use Rattle.cell_names.specs.declared.cell.Cell.{Cell}
use Rattle.cell_names.specs.declared.mode.Mode.{Mode}
use Rattle.cell_names.specs.Spelling.{spell_footprint, IsFootprint}
use Rattle.cell_names.proofs.Grammar.{footprint_reads}
use Rattle.op_rules.specs.declared.op.Op.{Op}
use Rattle.op_rules.specs.declared.receipt.Receipt.{Receipt}
use Rattle.block_codec.specs.declared.limits.TheConstants.{MOST_BLOCK_GAS, MOST_OPS}
use Rattle.block_codec.specs.Block.{BlockView, IsBlock, IsList, IsOp, IsReceipt, gas_of}
use Rattle.block_codec.specs.Spelling.{list_bytes, magic, op_bytes, receipt_bytes, spelling}
use Rattle.block_codec.specs.Operation.{gas_up_to}
use Rattle.block_codec.specs.Reading.{block, fields, list, ops, small}
use Rattle.block_codec.proofs.OperationLaw.{IsNextOp, op_reads}
use Rattle.block_codec.proofs.ReceiptLaw.{receipt_reads}

-- ---- operations

-- at most so much gas, where those before have no more than that
record WithinGas (total : ℕ) (all : List Op) : Type 0 where
  lawful : AllByRecursion IsOp all
  within : total ≤ 1000000000 → total + gas_of all ≤ 1000000000

gas_of-cons : (o : Op) (all : List Op) → gas_of (o ∷ all) ≡ o.gas + gas_of all
gas_of-cons o all = sum_by-cons (λ n. n) o.gas (map (λ (o : Op). o.gas) all)

within_gas : (total : ℕ) (all : List Op) → AllAlong IsNextOp gas_up_to total all → WithinGas total all
within_gas total [] along = record { lawful = tt; within = λ le. omega arith }
within_gas total (o ∷ all) along =
    let rest = within_gas (total + o.gas) all along.1 in
    let sum_is : gas_of (o ∷ all) ≡ o.gas + gas_of all = gas_of-cons o all in
    record { lawful = (along.0.0, rest.lawful); within = λ le. let last : (total + o.gas) + gas_of all ≤ 1000000000 = rest.within along.0.1 in omega arith }

along_gas : (total : ℕ) (all : List Op) → AllByRecursion IsOp all → total + gas_of all ≤ 1000000000 → AllAlong IsNextOp gas_up_to total all
along_gas total [] lawful le = tt
along_gas total (o ∷ all) lawful le =
    let sum_is : gas_of (o ∷ all) ≡ o.gas + gas_of all = gas_of-cons o all in
    ((lawful.0, omega arith), along_gas (total + o.gas) all lawful.1 (omega arith))

-- n operations within a block's gas
record AreOps (n : ℕ) (all : List Op) : Type 0 where
  number_is : length all ≡ n
  lawful : AllByRecursion IsOp all
  within : gas_of all ≤ MOST_BLOCK_GAS

ops_reads : (n : ℕ) → Reads (ops n) (flat_map op_bytes) (AreOps n)
ops_reads n =
    reads_as (flat_map op_bytes) (AreOps n)
    (λ all good. let w = within_gas 0 all good.1 in let least : 0 + gas_of all ≤ 1000000000 = w.within (omega arith) in (refl, record { number_is = good.0; lawful = w.lawful; within = omega arith }))
    (λ all good. let most : gas_of all ≤ 1000000000 = good.within in (good.number_is, along_gas 0 all good.lawful (omega arith)))
    (chained_reads gas_up_to op_reads 0 n)

-- ---- lists

small_reads : Reads small (to_be_bytes w32) (λ n. n ≤ MOST_OPS)
small_reads =
    reads_as (to_be_bytes w32) (λ n. n ≤ MOST_OPS) (λ n good. (refl, leb-true n MOST_OPS good.1)) (λ n le. let few : n ≤ 512 = le in (omega arith, le-leb n MOST_OPS le))
    (checked_reads (λ n. nat_le n MOST_OPS) (number_reads w32 (2 ^ 32) wide32))

list_reads : Reads list list_bytes IsList
list_reads =
    reads_as list_bytes IsList
    (λ all good. (refl, record { few = good.0; numbers = good.1.1 }))
    (λ all good. (good.few, (refl, good.numbers)))
    (with_reads small_reads (λ n. many_reads (number_reads w32 (2 ^ 32) wide32) n) length (λ n all good. good.0))

-- ---- blocks

abbrev made_of : List ℕ → ℕ → ℕ → List Op → List (List ℕ) → List (List (Cell × Mode)) → List Receipt → List ℕ → BlockView
made_of parent level now ops joins footprints receipts state = record {
  parent = parent;
  level = level;
  now = now;
  ops = ops;
  joins = joins;
  footprints = footprints;
  receipts = receipts;
  state = state;
}

-- n good items
abbrev Are : {A : Type 0} → (A → Type 0) → ℕ → List A → Type 0
Are Good n all = (length all ≡ n) × AllByRecursion Good all

-- good fields behind the magic, and nothing else in the block
abbrev AreFields : BlockView → Type 0
AreFields b =
    Unit {0} × ((length b.parent ≡ 32) × ((b.level < 2 ^ 32) × ((b.now < 2 ^ 64) × ((length b.ops ≤ MOST_OPS)
    × (AreOps (length b.ops) b.ops × (Are IsList (length b.ops) b.joins × (Are IsFootprint (length b.ops) b.footprints × (Are IsReceipt (length b.ops) b.receipts
    × ((length b.state ≡ 32) × (made_of b.parent b.level b.now b.ops b.joins b.footprints b.receipts b.state ≡ b))))))))))

is_block : (b : BlockView) → AreFields b → IsBlock b
is_block b (known, (parent, (level, (now, (few, (ops, (joins, (footprints, (receipts, (state, is)))))))))) = record {
  parent = parent;
  level = level;
  now = now;
  few = few;
  ops = ops.lawful;
  gas = ops.within;
  joined = joins.0;
  joins = joins.1;
  touched = footprints.0;
  footprints = footprints.1;
  ended = receipts.0;
  receipts = receipts.1;
  state = state;
}

are_fields : (b : BlockView) → IsBlock b → AreFields b
are_fields b good =
    let ops : AreOps (length b.ops) b.ops = record { number_is = refl; lawful = good.ops; within = good.gas } in
    (tt, (good.parent, (good.level, (good.now, (good.few, (ops, ((good.joined, good.joins), ((good.touched, good.footprints), ((good.ended, good.receipts), (good.state, refl))))))))))

fields_joined : (m p l n c o j f r s : List ℕ) → m ++ (p ++ (l ++ (n ++ (c ++ (o ++ (j ++ (f ++ (r ++ (s ++ []))))))))) ≡ m ++ p ++ l ++ n ++ (c ++ o ++ j ++ f ++ r) ++ s
fields_joined m p l n c o j f r s = simp (append_assoc, append-nil)

fields_spelt : (b : BlockView) →
    magic ++ (b.parent ++ (to_be_bytes w32 b.level ++ (to_be_bytes w64 b.now ++ (to_be_bytes w32 (length b.ops) ++ (flat_map op_bytes b.ops ++ (flat_map list_bytes b.joins
    ++ (flat_map spell_footprint b.footprints ++ (flat_map receipt_bytes b.receipts ++ (b.state ++ []))))))))) ≡ spelling b
fields_spelt b =
    fields_joined magic b.parent (to_be_bytes w32 b.level) (to_be_bytes w64 b.now) (to_be_bytes w32 (length b.ops)) (flat_map op_bytes b.ops) (flat_map list_bytes b.joins)
    (flat_map spell_footprint b.footprints) (flat_map receipt_bytes b.receipts) b.state

-- each field, and by it those behind it
pub fields_reads : Reads fields spelling IsBlock
unfolding fields
fields_reads =
    reads_as spelling IsBlock (λ b good. (fields_spelt b, is_block b good)) are_fields
    (with_reads (mark_reads magic) (λ known.
    with_reads (run_reads 32) (λ parent.
    with_reads (number_reads w32 (2 ^ 32) wide32) (λ level.
    with_reads (number_reads w64 (2 ^ 64) wide64) (λ now.
    with_reads small_reads (λ count.
    with_reads (ops_reads count) (λ ops.
    with_reads (many_reads list_reads count) (λ joins.
    with_reads (many_reads footprint_reads count) (λ footprints.
    with_reads (many_reads receipt_reads count) (λ receipts.
    with_reads (run_reads 32) (λ state.
    given_reads (made_of parent level now ops joins footprints receipts state))
    (λ (b : BlockView). b.state) (λ state b is. ap (λ (b : BlockView). b.state) (sym is)))
    (λ (b : BlockView). b.receipts) (λ receipts b good. ap (λ (b : BlockView). b.receipts) (sym good.1)))
    (λ (b : BlockView). b.footprints) (λ footprints b good. ap (λ (b : BlockView). b.footprints) (sym good.1.1)))
    (λ (b : BlockView). b.joins) (λ joins b good. ap (λ (b : BlockView). b.joins) (sym good.1.1.1)))
    (λ (b : BlockView). b.ops) (λ ops b good. ap (λ (b : BlockView). b.ops) (sym good.1.1.1.1)))
    (λ (b : BlockView). length b.ops) (λ count b good. good.0.number_is))
    (λ (b : BlockView). b.now) (λ now b good. ap (λ (b : BlockView). b.now) (sym good.1.1.1.1.1.1)))
    (λ (b : BlockView). b.level) (λ level b good. ap (λ (b : BlockView). b.level) (sym good.1.1.1.1.1.1.1)))
    (λ (b : BlockView). b.parent) (λ parent b good. ap (λ (b : BlockView). b.parent) (sym good.1.1.1.1.1.1.1.1)))
    (λ (b : BlockView). tt) (λ known b good. refl))

pub block_reads : ReadsWhole block spelling IsBlock
block_reads = whole_reads fields_reads
