-- How many balances a state has, by the length of its file and the operations that led to it.
use Rattle.std.proofs.Common.{◌≡◌, ℕ, ◌+◌, ◌-◌, ◌*◌, ◌≤◌, Bool, true, false, cond, List, [], ◌∷◌, ◌++◌, length, Result, Ok, Err, sym, ap, subst, arith}
use Rattle.std.specs.Prelude.{◌==◌, nat_lt, if◌then◌else◌, IfOk}
use Rattle.std.specs.List.{flat_map}
use Rattle.std.specs.Int.{w32, w64, to_be_bytes}
use Rattle.std.specs.FinMap.{entries, len, len-entries, len-insert, len-remove, contains_key, insert, remove}
use Rattle.std.specs.Cmp.Lexicographic.{nat_list_cmp_total}
use Rattle.std.proofs.lemmas.List.{length-append}
use Rattle.std.proofs.lemmas.List.Concat.{flat_map-cons}
use Rattle.plain_ledger.specs.Ledger.{Ledger, Balances, balance}
use Rattle.plain_ledger.specs.Spelling.{magic, cell, spelling, IsLedger}
use Rattle.transfer_blocks.specs.Block.{BlockView, IsBlock}
use Rattle.cell_names.specs.declared.cell.Cell.{Cell}
use Rattle.cell_names.specs.declared.mode.Mode.{Mode}
use Rattle.transfer_blocks.specs.declared.transfer.Receipt.{Receipt}
use Rattle.transfer_blocks.specs.declared.transfer.Transfer.{Transfer}
use Rattle.plain_transfers.specs.Serial.{Ran, applied, too_low, serial, debited, credited, debit_cells, paid_cells}
use Rattle.plain_transfers.specs.Run.{run_on}
use Rattle.block_cli.specs.Verdict.{state_after}

-- ---- each balance takes at least a byte

cells_long : (es : List (List ℕ × ℕ)) → length es ≤ length (flat_map cell es)
cells_long [] = omega arith
cells_long (e ∷ es) = omega (arith, cells_long es, length-append (cell e) (flat_map cell es), ap length (flat_map-cons cell e es))

pub len-spelling : (s : Ledger) → len s.balances ≤ length (spelling s)
len-spelling s = omega (arith, cells_long (entries s.balances), len-entries s.balances, length-append (magic ++ to_be_bytes w32 s.level ++ to_be_bytes w64 s.now ++ to_be_bytes w32 0 ++ to_be_bytes w32 (len s.balances)) (flat_map cell (entries s.balances)))

-- ---- an operation adds at most one balance

removed : (b : Bool) (n : ℕ) → cond b (n - 1) n ≤ n
removed true n = omega arith
removed false n = omega arith

inserted : (b : Bool) (n : ℕ) → cond b n (n + 1) ≤ n + 1
inserted true n = omega arith
inserted false n = omega arith

written : (b : Bool) (m : Balances) (address : List ℕ) (amount : ℕ) → len (cond b (remove m address) (insert m address amount)) ≤ len m + 1
written true m address amount = let e = len-remove nat_list_cmp_total m address in omega (arith, e, removed (contains_key m address) (len m))
written false m address amount = let e = len-insert nat_list_cmp_total m address amount in omega (arith, e, inserted (contains_key m address) (len m))

-- what a transfer leaves, where it moves the amount
abbrev paid : Balances → Transfer → Ran
paid m t = record { balances = credited (debited m t.source t.amount) t.dest t.amount; receipt = applied; footprint = paid_cells t }

-- and where it moves nothing
abbrev unpaid : Balances → Receipt → List (Cell × Mode) → Ran
unpaid m receipt cells = record { balances = m; receipt = receipt; footprint = cells }

len-paid : (m : Balances) (t : Transfer) → len (paid m t).balances ≤ len m + 2
len-paid m t =
    let after = debited m t.source t.amount in
    let first : len after ≤ len m + 1 = written ((balance m t.source - t.amount) == 0) m t.source (balance m t.source - t.amount) in
    let second : len (credited after t.dest t.amount) ≤ len after + 1 = written ((balance after t.dest + t.amount) == 0) after t.dest (balance after t.dest + t.amount) in
    omega arith

len-serial : (m : Balances) (t : Transfer) → len (serial m t).balances ≤ len m + 2
unfolding serial
len-serial m t =
    elim (t.amount == 0) as (λ b. len (if b then unpaid m applied [] else if nat_lt (balance m t.source) t.amount then unpaid m too_low (debit_cells t) else paid m t).balances ≤ len m + 2) [
      | true ↦ omega arith
      | false ↦ elim (nat_lt (balance m t.source) t.amount) as (λ b. len (if b then unpaid m too_low (debit_cells t) else paid m t).balances ≤ len m + 2) [
        | true ↦ omega arith
        | false ↦ len-paid m t
      ]
    ]

pub len-run_on : (m : Balances) (ops : List Transfer) → len (run_on m ops).balances ≤ len m + 2 * length ops
len-run_on m [] = omega arith
len-run_on m (t ∷ ts) = omega (arith, len-serial m t, len-run_on (serial m t).balances ts)

-- the state after a block has at most two balances more for each operation
pub few_more : (s : Ledger) (b : BlockView) (after : Ledger) → IsBlock b → after ≡ state_after s b → len after.balances ≤ len s.balances + 1024
few_more s b after lawful is =
    let few : length b.ops ≤ 512 = lawful.few in
    subst (λ (x : Ledger). len x.balances ≤ len s.balances + 1024) (sym is) (omega (arith, len-run_on s.balances b.ops))

-- a state that was read has fewer balances than there were bytes
pub few_read : {E : Type 0} (bytes : List ℕ) (r : Result Ledger E) → IfOk r (λ s. IsLedger s × (bytes ≡ spelling s)) → IfOk r (λ s. len s.balances ≤ length bytes)
few_read bytes (Ok s) found = omega (arith, len-spelling s, ap length found.1)
few_read bytes (Err e) found = tt
