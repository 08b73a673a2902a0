-- The law of blocks: what is read is a block and is spelt so, and every block is read by its spelling.
use Rattle.std.proofs.Common.{◌≡◌, ℕ, zero, suc, ◌+◌, ◌<◌, ◌≤◌, ◌^◌, Bool, true, false, cond, eqb, List, [], ◌∷◌, ◌++◌, length, refl, ap, append_assoc, arith}
use Rattle.std.specs.Prelude.{nat_le, map}
use Rattle.std.proofs.lemmas.List.Sums.{sum_by-cons}
use Rattle.std.specs.Int.{w8, w32, w64, to_be_bytes}
use Rattle.std.specs.List.{flat_map, AllByRecursion}
use Rattle.std.proofs.lemmas.Bool.{leb-true, le-leb}
use Rattle.byte_fields.specs.Laws.{AllAlong, Reads, ReadsWhole}
use Rattle.byte_fields.proofs.Joined.{both_reads, built_reads, checked_reads, made_reads, reads_as, with_reads}
use Rattle.byte_fields.proofs.Lists.{chained_reads, many_reads}
use Rattle.byte_fields.proofs.Whole.{whole_reads}
use Rattle.byte_fields.proofs.Digits.{wide8, wide32, wide64}
use Rattle.byte_fields.proofs.Numbers.{behind_reads, number_reads, run_reads}
use Rattle.cell_names.specs.Spelling.{spell_footprint, IsFootprint}
use Rattle.cell_names.proofs.Grammar.{footprint_reads}
use Rattle.transfer_blocks.specs.declared.transfer.Transfer.{Transfer}
use Rattle.transfer_blocks.specs.declared.transfer.Receipt.{Receipt}
use Rattle.transfer_blocks.specs.Block.{BlockView, IsTransfer, IsList, IsBlock, gas_of}
use Rattle.transfer_blocks.specs.Spelling.{magic, op_bytes, list_bytes, receipt_bytes, spelling}
use Rattle.transfer_blocks.specs.Operation.{gas_up_to}
use Rattle.transfer_blocks.specs.Reading.{ops, small, list, tag, receipt, Parts, parts, published, Fields, block_from, block}
use Rattle.transfer_blocks.proofs.OperationLaw.{IsNextOp, op_reads}

-- ---- operations

-- at most so much gas, where those before have no more than that
record WithinGas (total : ℕ) (all : List Transfer) : Type 0 where
  lawful : AllByRecursion IsTransfer all
  within : total ≤ 1000000000 → total + gas_of all ≤ 1000000000

gas_of-cons : (t : Transfer) (all : List Transfer) → gas_of (t ∷ all) ≡ t.gas + gas_of all
gas_of-cons t all = sum_by-cons (λ n. n) t.gas (map (λ (t : Transfer). t.gas) all)

within_gas : (total : ℕ) (all : List Transfer) → AllAlong IsNextOp gas_up_to total all → WithinGas total all
within_gas total [] along = record { lawful = tt; within = λ le. omega arith }
within_gas total (t ∷ all) along =
    let rest = within_gas (total + t.gas) all along.1 in
    let sum_is : gas_of (t ∷ all) ≡ t.gas + gas_of all = gas_of-cons t all in
    record { lawful = (along.0.0, rest.lawful); within = λ le. let last : (total + t.gas) + gas_of all ≤ 1000000000 = rest.within along.0.1 in omega arith }

along_gas : (total : ℕ) (all : List Transfer) → AllByRecursion IsTransfer all → total + gas_of all ≤ 1000000000 → AllAlong IsNextOp gas_up_to total all
along_gas total [] lawful le = tt
along_gas total (t ∷ all) lawful le =
    let sum_is : gas_of (t ∷ all) ≡ t.gas + gas_of all = gas_of-cons t all in
    ((lawful.0, omega arith), along_gas (total + t.gas) all lawful.1 (omega arith))

-- n operations within a block's gas
record AreOps (n : ℕ) (all : List Transfer) : Type 0 where
  number_is : length all ≡ n
  lawful : AllByRecursion IsTransfer all
  within : gas_of all ≤ 1000000000

ops_reads : (n : ℕ) → Reads (ops n) (flat_map op_bytes) (AreOps n)
ops_reads n =
    reads_as (flat_map op_bytes) (AreOps n)
    (λ all good. let w = within_gas 0 all good.1 in let least : 0 + gas_of all ≤ 1000000000 = w.within (omega arith) in (refl, record { number_is = good.0; lawful = w.lawful; within = omega arith }))
    (λ all good. let most : gas_of all ≤ 1000000000 = good.within in (good.number_is, along_gas 0 all good.lawful (omega arith)))
    (chained_reads gas_up_to op_reads 0 n)

-- ---- lists, footprints and receipts

small_reads : Reads small (to_be_bytes w32) (λ n. n ≤ 512)
small_reads =
    reads_as (to_be_bytes w32) (λ n. n ≤ 512) (λ n good. (refl, leb-true n 512 good.1)) (λ n le. (omega arith, le-leb n 512 le))
    (checked_reads (λ n. nat_le n 512) ((number_reads w32 (2 ^ 32) wide32)))

list_reads : Reads list list_bytes IsList
list_reads =
    reads_as list_bytes IsList
    (λ all good. (refl, record { few = good.0; numbers = good.1.1 }))
    (λ all good. (good.few, (refl, good.numbers)))
    (with_reads small_reads (λ n. many_reads (number_reads w32 (2 ^ 32) wide32) n) length (λ n all good. good.0))

tag_reads : Reads tag (to_be_bytes w8) (λ t. t ≤ 1)
tag_reads =
    reads_as (to_be_bytes w8) (λ t. t ≤ 1) (λ t good. (refl, leb-true t 1 good.1)) (λ t le. ((omega arith, le-leb t 14 (omega arith)), le-leb t 1 le))
    (built_reads (λ t. nat_le t 1) (checked_reads (λ t. nat_le t 14) ((number_reads w8 (2 ^ 8) wide8))))

tag_spelt : (t : ℕ) → t ≤ 1 → to_be_bytes w8 t ≡ cond (eqb t 0) 0 1 ∷ []
tag_spelt zero h = refl
tag_spelt (suc zero) h = refl
tag_spelt (suc (suc t)) h = absurd (omega arith)

tag_back : (b : Bool) → (cond b 0 1 ≤ 1) × (eqb (cond b 0 1) 0 ≡ b)
tag_back true = (omega arith, refl)
tag_back false = (omega arith, refl)

abbrev IsReceipt : Receipt → Type 0
IsReceipt r = r.gas < 2 ^ 32

receipt_reads : Reads receipt receipt_bytes IsReceipt
unfolding receipt
receipt_reads =
    made_reads (λ (p : ℕ × ℕ). let r : Receipt = record { applied = eqb p.0 0; gas = p.1 } in r) (λ (r : Receipt). (cond r.applied 0 1, r.gas)) receipt_bytes IsReceipt
    (λ p good. (ap (λ (tag : List ℕ). tag ++ to_be_bytes w32 p.1) (tag_spelt p.0 good.0), good.1))
    (λ r good. (((tag_back r.applied).0, good), ap (λ (b : Bool). let r : Receipt = record { applied = b; gas = r.gas } in r) (tag_back r.applied).1))
    (both_reads tag_reads ((number_reads w32 (2 ^ 32) wide32)))

-- ---- what is published

abbrev parts_bytes : Parts → List ℕ
parts_bytes p = flat_map op_bytes p.0 ++ (flat_map list_bytes p.1.0 ++ (flat_map spell_footprint p.1.1.0 ++ flat_map receipt_bytes p.1.1.1))

-- parts of n operations
record AreParts (n : ℕ) (p : Parts) : Type 0 where
  ops : AreOps n p.0
  joined : length p.1.0 ≡ n
  joins : AllByRecursion IsList p.1.0
  touched : length p.1.1.0 ≡ n
  footprints : AllByRecursion IsFootprint p.1.1.0
  ended : length p.1.1.1 ≡ n
  receipts : AllByRecursion IsReceipt p.1.1.1

parts_reads : (n : ℕ) → Reads (parts n) parts_bytes (AreParts n)
unfolding parts
parts_reads n =
    reads_as parts_bytes (AreParts n)
    (λ p good. (refl, record { ops = good.0; joined = good.1.0.0; joins = good.1.0.1; touched = good.1.1.0.0; footprints = good.1.1.0.1; ended = good.1.1.1.0; receipts = good.1.1.1.1 }))
    (λ p good. (good.ops, ((good.joined, good.joins), ((good.touched, good.footprints), (good.ended, good.receipts)))))
    (both_reads (ops_reads n) (both_reads (many_reads list_reads n) (both_reads (many_reads footprint_reads n) (many_reads receipt_reads n))))

published_reads : Reads published (λ p. to_be_bytes w32 (length p.0) ++ parts_bytes p) (λ p. (length p.0 ≤ 512) × AreParts (length p.0) p)
published_reads = with_reads small_reads parts_reads (λ (p : Parts). length p.0) (λ n p good. good.ops.number_is)

-- ---- blocks

abbrev fields_of : BlockView → Fields
fields_of b = (b.parent, (b.level, (b.now, ((b.ops, (b.joins, (b.footprints, b.receipts))), b.state))))

-- what stands behind the magic
abbrev AreFields : Fields → Type 0
AreFields p = (length p.0 ≡ 32) × ((p.1.0 < 2 ^ 32) × ((p.1.1.0 < 2 ^ 64) × (((length p.1.1.1.0.0 ≤ 512) × AreParts (length p.1.1.1.0.0) p.1.1.1.0) × (length p.1.1.1.1 ≡ 32))))

is_block : (p : Fields) → AreFields p → IsBlock (block_from p)
is_block p good =
    let all = good.1.1.1.0.1 in
    record {
      parent = good.0;
      level = good.1.0;
      now = good.1.1.0;
      few = good.1.1.1.0.0;
      ops = all.ops.lawful;
      gas = all.ops.within;
      joined = all.joined;
      joins = all.joins;
      touched = all.touched;
      footprints = all.footprints;
      ended = all.ended;
      receipts = all.receipts;
      state = good.1.1.1.1;
    }

are_fields : (b : BlockView) → IsBlock b → AreFields (fields_of b)
are_fields b good =
    let all : AreParts (length b.ops) (fields_of b).1.1.1.0 =
    record {
      ops = record { number_is = refl; lawful = good.ops; within = good.gas };
      joined = good.joined;
      joins = good.joins;
      touched = good.touched;
      footprints = good.footprints;
      ended = good.ended;
      receipts = good.receipts;
    } in
    (good.parent, (good.level, (good.now, ((good.few, all), good.state))))

parts_joined : (a p l n c o j f r s : List ℕ) → a ++ (p ++ (l ++ (n ++ ((c ++ (o ++ (j ++ (f ++ r)))) ++ s)))) ≡ a ++ p ++ l ++ n ++ (c ++ o ++ j ++ f ++ r) ++ s
parts_joined a p l n c o j f r s = simp append_assoc

block_spelt : (b : BlockView) → magic ++ (b.parent ++ (to_be_bytes w32 b.level ++ (to_be_bytes w64 b.now ++ ((to_be_bytes w32 (length b.ops) ++ parts_bytes (b.ops, (b.joins, (b.footprints, b.receipts)))) ++ b.state)))) ≡ spelling b
block_spelt b =
    parts_joined magic b.parent (to_be_bytes w32 b.level) (to_be_bytes w64 b.now) (to_be_bytes w32 (length b.ops)) (flat_map op_bytes b.ops) (flat_map list_bytes b.joins) (flat_map spell_footprint b.footprints)
    (flat_map receipt_bytes b.receipts) b.state

pub block_reads : ReadsWhole block spelling IsBlock
unfolding block
block_reads =
    whole_reads (made_reads block_from fields_of spelling IsBlock
    (λ p good. (block_spelt (block_from p), is_block p good))
    (λ b good. (are_fields b good, refl))
    (behind_reads magic (both_reads ((run_reads 32)) (both_reads ((number_reads w32 (2 ^ 32) wide32)) (both_reads ((number_reads w64 (2 ^ 64) wide64)) (both_reads published_reads ((run_reads 32))))))))
