-- The law of operations: what is read is lawful and spelt so, and what is lawful is read by its spelling.
use Rattle.std.proofs.Common.{◌≡◌, ℕ, ◌+◌, ◌<◌, ◌≤◌, ◌^◌, List, ◌++◌, length, refl, sym, ap, subst, ◌∙◌, append_assoc, arith, eq-eqb}
use Rattle.std.specs.Prelude.{IsTrue, ◌&&◌, nat_le, nat_lt, ◌==◌, bytes_eq, slice_index}
use Rattle.std.specs.Int.{w8, w32, w64, to_be_bytes}
use Rattle.std.proofs.lemmas.Bool.{eqb-true, leb-true, le-leb, ltb-true, lt-ltb}
use Rattle.std.proofs.lemmas.Slice.Eq.{bytes_eq-Decides}
use Rattle.byte_fields.specs.Laws.{Reads}
use Rattle.byte_fields.proofs.Joined.{both_reads, built_reads, checked_reads, made_reads, reads_as}
use Rattle.byte_fields.proofs.Digits.{wide8, wide32, wide64}
use Rattle.byte_fields.proofs.Numbers.{number_reads, run_reads}
use Rattle.value_core.proofs.Bools.{both_true, first_true, second_true}
use Rattle.value_core.specs.Lawful.{is_lawful_address}
use Rattle.value_core.specs.Leaves.{is_name}
use Rattle.value_codec.proofs.Rows.{address_reads}
use Rattle.cell_names.specs.Accounts.{IsImplicit, is_implicit}
use Rattle.transfer_blocks.specs.declared.transfer.Transfer.{Transfer}
use Rattle.transfer_blocks.specs.Block.{IsTransfer}
use Rattle.transfer_blocks.specs.Spelling.{default_name, call_bytes, op_bytes}
use Rattle.transfer_blocks.specs.Operation.{source, dest, accounts, name_length, name, param_tag, call, amount, gas, turns, Fields, op_from, op}

-- ---- accounts

account_fits : (a : List ℕ) → IsImplicit a → IsTrue (is_lawful_address a) × IsTrue (is_implicit a)
account_fits a good = (good.lawful, eq-eqb (slice_index a 0) 0 good.implicit)

is_account : (a : List ℕ) → IsTrue (is_lawful_address a) × IsTrue (is_implicit a) → IsImplicit a
is_account a good = record { lawful = good.0; implicit = eqb-true (slice_index a 0) 0 good.1 }

source_reads : Reads source (λ a. a) IsImplicit
source_reads = reads_as (λ a. a) IsImplicit (λ a good. (refl, is_account a good)) account_fits (checked_reads is_implicit address_reads)

dest_reads : Reads dest (λ a. a) IsImplicit
dest_reads = reads_as (λ a. a) IsImplicit (λ a good. (refl, is_account a good)) account_fits (built_reads is_implicit address_reads)

accounts_reads : Reads accounts (λ p. p.0 ++ p.1) (λ p. IsImplicit p.0 × IsImplicit p.1)
unfolding accounts
accounts_reads = both_reads source_reads dest_reads

-- ---- the call

name_length_reads : Reads name_length (to_be_bytes w8) (λ n. n ≡ 7)
name_length_reads =
    reads_as (to_be_bytes w8) (λ n. n ≡ 7) (λ n good. (refl, eqb-true n 7 good.1))
    (λ n is. ((omega arith, subst (λ (n : ℕ). IsTrue (nat_le 1 n && nat_le n 31)) (sym is) refl), eq-eqb n 7 is))
    (built_reads (λ n. n == 7) (checked_reads (λ n. nat_le 1 n && nat_le n 31) ((number_reads w8 (2 ^ 8) wide8))))

name_reads : Reads name (λ a. a) (λ a. a ≡ default_name)
name_reads =
    reads_as (λ a. a) (λ a. a ≡ default_name) (λ a good. (refl, sym ((bytes_eq-Decides default_name a).0 good.1)))
    (λ a is. subst (λ (a : List ℕ). ((length a ≡ 7) × IsTrue (is_name a)) × IsTrue (bytes_eq default_name a)) (sym is) ((refl, refl), refl))
    (built_reads (bytes_eq default_name) (checked_reads is_name ((run_reads 7))))

param_tag_reads : Reads param_tag (to_be_bytes w8) (λ t. t ≡ 0)
param_tag_reads =
    reads_as (to_be_bytes w8) (λ t. t ≡ 0) (λ t good. (refl, eqb-true t 0 good.1))
    (λ t is. ((omega arith, le-leb t 17 (omega arith)), eq-eqb t 0 is))
    (built_reads (λ t. t == 0) (checked_reads (λ t. nat_le t 17) ((number_reads w8 (2 ^ 8) wide8))))

abbrev Call : Type 0
Call = ℕ × (List ℕ × ℕ)

-- the one call
abbrev IsCall : Call → Type 0
IsCall p = (p.0 ≡ 7) × ((p.1.0 ≡ default_name) × (p.1.1 ≡ 0))

call_spelt : (n t : ℕ) (a : List ℕ) → n ≡ 7 → a ≡ default_name → t ≡ 0 → to_be_bytes w8 n ++ (a ++ to_be_bytes w8 t) ≡ call_bytes
call_spelt n t a length_is name_is tag_is =
    ap (λ (n : ℕ). to_be_bytes w8 n ++ (a ++ to_be_bytes w8 t)) length_is
    ∙ ap (λ (a : List ℕ). to_be_bytes w8 7 ++ (a ++ to_be_bytes w8 t)) name_is
    ∙ ap (λ (t : ℕ). to_be_bytes w8 7 ++ (default_name ++ to_be_bytes w8 t)) tag_is

call_reads : Reads call (λ p. call_bytes) IsCall
unfolding call
call_reads =
    reads_as (λ (p : Call). call_bytes) IsCall (λ p good. (call_spelt p.0 p.1.1 p.1.0 good.0 good.1.0 good.1.1, good)) (λ p good. good)
    (both_reads name_length_reads (both_reads name_reads param_tag_reads))

-- ---- amount, gas and turns

amount_reads : Reads amount (to_be_bytes w64) (λ n. n < 2 ^ 63)
amount_reads =
    reads_as (to_be_bytes w64) (λ n. n < 2 ^ 63) (λ n good. (refl, ltb-true n (2 ^ 63) good.1)) (λ n lt. (omega arith, lt-ltb n (2 ^ 63) lt))
    (checked_reads (λ n. nat_lt n (2 ^ 63)) ((number_reads w64 (2 ^ 64) wide64)))

-- a gas that an operation may have behind others
abbrev IsGas : ℕ → ℕ → Type 0
IsGas total n = (n ≤ 100000000) × (total + n ≤ 1000000000)

gas_reads : (total : ℕ) → Reads (gas total) (to_be_bytes w32) (IsGas total)
gas_reads total =
    reads_as (to_be_bytes w32) (IsGas total)
    (λ n good.
    let small = first_true (nat_le n 100000000) (nat_le (total + n) 1000000000) good.1 in
    let room = second_true (nat_le n 100000000) (nat_le (total + n) 1000000000) good.1 in
    (refl, (leb-true n 100000000 small, leb-true (total + n) 1000000000 room)))
    (λ n good. let few : n ≤ 100000000 = good.0 in (omega arith, both_true (nat_le n 100000000) (nat_le (total + n) 1000000000) (le-leb n 100000000 few) (le-leb (total + n) 1000000000 good.1)))
    (checked_reads (λ n. nat_le n 100000000 && nat_le (total + n) 1000000000) ((number_reads w32 (2 ^ 32) wide32)))

turns_reads : Reads turns (to_be_bytes w32) (λ n. n ≤ 1000000)
turns_reads =
    reads_as (to_be_bytes w32) (λ n. n ≤ 1000000) (λ n good. (refl, leb-true n 1000000 good.1)) (λ n le. (omega arith, le-leb n 1000000 le))
    (checked_reads (λ n. nat_le n 1000000) ((number_reads w32 (2 ^ 32) wide32)))

-- ---- operations

abbrev fields_of : Transfer → Fields
fields_of t = ((t.source, t.dest), ((7, (default_name, 0)), (t.amount, (t.gas, t.turns))))

-- what an operation has to be, by the gas of those before it
abbrev pub IsNextOp : ℕ → Transfer → Type 0
IsNextOp total t = IsTransfer t × (total + t.gas ≤ 1000000000)

pub op_reads : (total : ℕ) → Reads (op total) op_bytes (IsNextOp total)
unfolding op
op_reads total =
    made_reads op_from fields_of op_bytes (IsNextOp total)
    (λ p good. (simp append_assoc, (record { source = good.0.0; dest = good.0.1; amount = good.1.1.0; gas = good.1.1.1.0.0; turns = good.1.1.1.1 }, good.1.1.1.0.1)))
    (λ t good. (((good.0.source, good.0.dest), ((refl, (refl, refl)), (good.0.amount, ((good.0.gas, good.1), good.0.turns)))), refl))
    (both_reads accounts_reads (both_reads call_reads (both_reads amount_reads (both_reads (gas_reads total) turns_reads))))
