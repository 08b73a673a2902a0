-- The law of operations: what is read is lawful and spelt so, and what is lawful is read by its spelling.
use Rattle.std.proofs.Common.{◌≡◌, ℕ, ◌+◌, ◌<◌, ◌≤◌, ◌^◌, List, [], ◌++◌, length, refl, sym, ap, append_assoc, arith}
use Rattle.std.specs.Prelude.{IsTrue, ◌&&◌, nat_le, nat_lt}
use Rattle.std.specs.Int.{w8, w32, w64, to_be_bytes}
use Rattle.std.proofs.lemmas.Bool.{leb-true, le-leb, ltb-true, lt-ltb}
use Rattle.std.proofs.lemmas.List.{append-nil}
use Rattle.byte_fields.specs.Laws.{Reads}
use Rattle.byte_fields.proofs.Joined.{checked_reads, given_reads, reads_as, with_reads}
use Rattle.byte_fields.proofs.Digits.{wide8, wide32}
use Rattle.byte_fields.proofs.Numbers.{number_reads, run_reads}
use Rattle.byte_fields.proofs.Tags.{one_byte}
use Rattle.value_core.specs.declared.val.Val.{Val}
use Rattle.value_core.specs.Lawful.{is_lawful, is_lawful_address}
use Rattle.value_core.specs.Leaves.{is_name}
use Rattle.value_core.specs.Size.{size_of}
use Rattle.value_core.proofs.Bools.{both_true, first_true, second_true}
use Rattle.value_codec.specs.Spelling.{spell}
use Rattle.value_codec.proofs.Rows.{address_reads, mutez_reads}
use Rattle.cell_names.specs.Accounts.{is_implicit}
use Rattle.op_rules.specs.declared.limits.TheConstants.{MOST_GAS, MOST_SIZE, MOST_TURNS}
use Rattle.op_rules.specs.declared.op.Op.{Op}
use Rattle.block_codec.specs.declared.limits.TheConstants.{MOST_BLOCK_GAS}
use Rattle.block_codec.specs.Block.{IsOp, MayBeRaised}
use Rattle.block_codec.specs.Spelling.{name_bytes, op_bytes}
use Rattle.block_codec.specs.Operation.{account, call, few_turns, gas_behind, given_value, name, name_length, op}
use Rattle.block_codec.proofs.Passed.{passed_reads}

-- ---- the fields

account_reads : Reads account (λ a. a) (λ a. IsTrue (is_lawful_address a) × IsTrue (is_implicit a))
account_reads = checked_reads is_implicit address_reads

name_length_reads : Reads name_length (to_be_bytes w8) (λ n. (n < 2 ^ 8) × IsTrue (nat_le 1 n && nat_le n 31))
name_length_reads = checked_reads (λ n. nat_le 1 n && nat_le n 31) (number_reads w8 (2 ^ 8) wide8)

name_fits : (a : List ℕ) → IsTrue (is_name a) → ((length a < 2 ^ 8) × IsTrue (nat_le 1 (length a) && nat_le (length a) 31)) × ((length a ≡ length a) × IsTrue (is_name a))
name_fits a is =
    let lengths = first_true (nat_le 1 (length a) && nat_le (length a) 31) _ is in
    let short = leb-true (length a) 31 (second_true (nat_le 1 (length a)) _ lengths) in
    ((omega arith, lengths), (refl, is))

name_reads : Reads name name_bytes (λ a. IsTrue (is_name a))
name_reads =
    reads_as name_bytes (λ a. IsTrue (is_name a)) (λ a good. (ap (λ (l : List ℕ). l ++ a) (one_byte (length a) good.0.0), good.1.1)) name_fits
    (with_reads name_length_reads (λ n. checked_reads is_name (run_reads n)) length (λ n a good. good.0))

-- a param that may be passed on and isn't too large
abbrev IsGiven : Val → Type 0
IsGiven v = (IsTrue (is_lawful v) × MayBeRaised v) × IsTrue (nat_le (size_of v) MOST_SIZE)

given_value_reads : Reads given_value spell IsGiven
given_value_reads = checked_reads (λ v. nat_le (size_of v) MOST_SIZE) passed_reads

-- a gas that an operation may have behind others
abbrev IsGas : ℕ → ℕ → Type 0
IsGas total n = (n ≤ MOST_GAS) × (total + n ≤ MOST_BLOCK_GAS)

gas_reads : (total : ℕ) → Reads (gas_behind total) (to_be_bytes w32) (IsGas total)
gas_reads total =
    reads_as (to_be_bytes w32) (IsGas total)
    (λ n good.
    let small = first_true (nat_le n MOST_GAS) (nat_le (total + n) MOST_BLOCK_GAS) good.1 in
    let room = second_true (nat_le n MOST_GAS) (nat_le (total + n) MOST_BLOCK_GAS) good.1 in
    (refl, (leb-true n MOST_GAS small, leb-true (total + n) MOST_BLOCK_GAS room)))
    (λ n good. let few : n ≤ 100000000 = good.0 in (omega arith, both_true (nat_le n MOST_GAS) (nat_le (total + n) MOST_BLOCK_GAS) (le-leb n MOST_GAS few) (le-leb (total + n) MOST_BLOCK_GAS good.1)))
    (checked_reads (λ n. nat_le n MOST_GAS && nat_le (total + n) MOST_BLOCK_GAS) (number_reads w32 (2 ^ 32) wide32))

turns_reads : Reads few_turns (to_be_bytes w32) (λ n. n ≤ MOST_TURNS)
turns_reads =
    reads_as (to_be_bytes w32) (λ n. n ≤ MOST_TURNS) (λ n good. (refl, leb-true n MOST_TURNS good.1)) (λ n le. let few : n ≤ 1000000 = le in (omega arith, le-leb n MOST_TURNS le))
    (checked_reads (λ n. nat_le n MOST_TURNS) (number_reads w32 (2 ^ 32) wide32))

-- ---- operations

abbrev made_of : List ℕ → List ℕ → List ℕ → Val → ℕ → ℕ → ℕ → Op
made_of source dest entry param amount gas turns = record { source = source; dest = dest; entry = entry; param = param; amount = amount; gas = gas; turns = turns }

-- good fields, and nothing else in the operation
abbrev AreFields : ℕ → Op → Type 0
AreFields total o =
    (IsTrue (is_lawful_address o.source) × IsTrue (is_implicit o.source)) × (IsTrue (is_lawful_address o.dest) × (IsTrue (is_name o.entry) × (IsGiven o.param
    × (IsTrue (nat_lt o.amount (2 ^ 63)) × (IsGas total o.gas × ((o.turns ≤ MOST_TURNS) × (made_of o.source o.dest o.entry o.param o.amount o.gas o.turns ≡ o)))))))

-- what an operation has to be, by the gas of those before it
abbrev pub IsNextOp : ℕ → Op → Type 0
IsNextOp total o = IsOp o × (total + o.gas ≤ MOST_BLOCK_GAS)

is_next : (total : ℕ) (o : Op) → AreFields total o → IsNextOp total o
is_next total o (source, (dest, (entry, (param, (amount, (gas, (turns, is))))))) = (
  record {
    lawful = record {
      source = source.1;
      plain = param.0.1.plain;
      mapless = param.0.1.mapless;
      deep = param.0.1.deep;
      small = leb-true (size_of o.param) MOST_SIZE param.1;
      amount = ltb-true o.amount (2 ^ 63) amount;
      gas = gas.0;
      turns = turns;
    };
    source = source.0;
    dest = dest;
    entry = entry;
    leaves = param.0.0;
  },
  gas.1,
)

are_fields : (total : ℕ) (o : Op) → IsNextOp total o → AreFields total o
are_fields total o next =
    let good = next.0 in
    let lawful = good.lawful in
    let value : MayBeRaised o.param = record { plain = lawful.plain; mapless = lawful.mapless; deep = lawful.deep } in
    ((good.source, lawful.source), (good.dest, (good.entry, (((good.leaves, value), le-leb (size_of o.param) MOST_SIZE lawful.small), (lt-ltb o.amount (2 ^ 63) lawful.amount, ((lawful.gas, next.1), (lawful.turns, refl)))))))

fields_joined : (s d e p a g t : List ℕ) → s ++ (d ++ (e ++ (p ++ (a ++ (g ++ (t ++ [])))))) ≡ s ++ d ++ e ++ p ++ a ++ g ++ t
fields_joined s d e p a g t = simp (append_assoc, append-nil)

fields_spelt : (o : Op) →
    o.source ++ (o.dest ++ (name_bytes o.entry ++ (spell o.param ++ (to_be_bytes w64 o.amount ++ (to_be_bytes w32 o.gas ++ (to_be_bytes w32 o.turns ++ [])))))) ≡ op_bytes o
fields_spelt o = fields_joined o.source o.dest (name_bytes o.entry) (spell o.param) (to_be_bytes w64 o.amount) (to_be_bytes w32 o.gas) (to_be_bytes w32 o.turns)

-- each field, and by it those behind it
pub op_reads : (total : ℕ) → Reads (op total) op_bytes (IsNextOp total)
unfolding op call
op_reads total =
    reads_as op_bytes (IsNextOp total) (λ o good. (fields_spelt o, is_next total o good)) (are_fields total)
    (with_reads account_reads (λ source.
    with_reads address_reads (λ dest.
    with_reads name_reads (λ entry.
    with_reads given_value_reads (λ param.
    with_reads mutez_reads (λ amount.
    with_reads (gas_reads total) (λ gas.
    with_reads turns_reads (λ turns.
    given_reads (made_of source dest entry param amount gas turns))
    (λ (o : Op). o.turns) (λ turns o is. ap (λ (o : Op). o.turns) (sym is)))
    (λ (o : Op). o.gas) (λ gas o good. ap (λ (o : Op). o.gas) (sym good.1)))
    (λ (o : Op). o.amount) (λ amount o good. ap (λ (o : Op). o.amount) (sym good.1.1)))
    (λ (o : Op). o.param) (λ param o good. ap (λ (o : Op). o.param) (sym good.1.1.1)))
    (λ (o : Op). o.entry) (λ entry o good. ap (λ (o : Op). o.entry) (sym good.1.1.1.1)))
    (λ (o : Op). o.dest) (λ dest o good. ap (λ (o : Op). o.dest) (sym good.1.1.1.1.1)))
    (λ (o : Op). o.source) (λ source o good. ap (λ (o : Op). o.source) (sym good.1.1.1.1.1.1)))
