-- Values that fit their cells: no balance of 0 stands, and all of them and their cells have spellings.
use Rattle.std.proofs.Common.{◌≡◌, ℕ, zero, suc, ◌<◌, ◌≤◌, ◌^◌, true, Option, Some, None, refl, sym, ap, subst, ◌∙◌, arith}
use Rattle.std.specs.Prelude.{◌&&◌, nat_lt, nat_le, slice_get, length}
use Rattle.std.specs.FinMap.{get}
use Rattle.std.proofs.Math.Bool.{Bool-set}
use Rattle.std.proofs.Math.Logic.{∥∥₁_elim}
use Rattle.std.proofs.lemmas.Bool.{ltb-true, leb-true, lt-ltb}
use Rattle.value_core.specs.declared.val.Val.{Val}
use Rattle.value_core.specs.declared.val.Val.TheVariants as variant
use Rattle.value_core.specs.declared.val.Val.TheOpen as one
use Rattle.value_core.specs.declared.val.Val.TheViews.{out-Val, roll-Val}
use Rattle.value_core.specs.declared.ty.Ty.{Ty}
use Rattle.value_core.specs.Layer.{Layer}
use Rattle.value_core.specs.BigMaps.{big_maps_of}
use Rattle.value_core.specs.Depth.{depth_of, depth_of_type}
use Rattle.value_core.specs.Nodes.{nodes_of}
use Rattle.value_core.specs.Sound.{is_plain, is_sound}
use Rattle.value_core.specs.Typed.{has_type}
use Rattle.value_core.proofs.Bools.{first_true, second_true}
use Rattle.value_core.proofs.Levels.{out-roll, roll-out}
use Rattle.value_core.proofs.PlainTyped.{passable_is_plain, plain_within}
use Rattle.value_laws.proofs.DepthEquations as depths
use Rattle.value_laws.proofs.PlainnessEquations.{plain-mutez}
use Rattle.michelson_code.specs.declared.script.Script.{Script}
use Rattle.michelson_code.specs.TypedScript.{IsTypedScript}
use Rattle.michelson_code.specs.WrittenTypes.{has_comparable_keys, has_passable_values, has_placed_big_maps, has_storage_big_maps, is_within_limits}
use Rattle.cell_names.specs.declared.cell.Cell.{Cell}
use Rattle.cell_names.specs.declared.cell.Cell.TheVariants.{Balance, Storage, Entry}
use Rattle.cell_names.specs.Contents.{Contents, IsTidy, amount_in, amount_kept, amount_level, amount_of}
use Rattle.cell_names.specs.Spelling.{CanBeSpelt, IsNamed}
use Rattle.code_book.specs.Books.{Contracts, IsBook, has_account}
use Rattle.code_book.specs.Fits.{fits, fits_big_map, fits_entry, fits_storage, is_balance, is_balance_level}
use Rattle.ledger_state.proofs.StorageTypes.{comparable_is_low, comparable_is_passable, storage_map}

-- ---- balances

-- an amount above 0 and below 2^63
record IsAmount (v : Val) : Type 0 where
  amount : ℕ
  is : v ≡ variant.Mutez amount
  some : 0 < amount
  small : amount < 2 ^ 63

amount_at : (x : Layer Val) → is_balance_level x ≡ true → (n : ℕ) × ((x ≡ one.Mutez n) × ((0 < n) × (n < 2 ^ 63)))
amount_at (one.Mutez n) h = (n, (refl, (ltb-true 0 n (first_true (nat_lt 0 n) _ h), ltb-true n (2 ^ 63) (second_true (nat_lt 0 n) _ h))))
amount_at _ h = absurd cc

is_amount : (v : Val) → is_balance v ≡ true → IsAmount v
is_amount v h =
    let a = amount_at (out-Val v) h in
    record { amount = a.0; is = sym (roll-out v) ∙ ap roll-Val a.1.0 ∙ variant.rolls-Mutez a.0; some = a.1.1.0; small = a.1.1.1 }

amount_of-Mutez : (n : ℕ) → amount_of (variant.Mutez n) ≡ n
amount_of-Mutez n = ap amount_of (sym (variant.rolls-Mutez n)) ∙ ap amount_level (out-roll (one.Mutez n))

kept_again : (n : ℕ) → 0 < n → Some (variant.Mutez n) ≡ amount_kept n
kept_again zero some = absurd (omega arith)
kept_again (suc n) some = refl

tidy_value : (v : Val) → is_balance v ≡ true → Some v ≡ amount_kept (amount_of v)
tidy_value v h =
    let a = is_amount v h in
    ap (λ (w : Val). Some w) a.is ∙ kept_again a.amount a.some ∙ ap amount_kept (sym (ap amount_of a.is ∙ amount_of-Mutez a.amount))

tidy_at : (o : Option Val) → ((v : Val) → o ≡ Some v → is_balance v ≡ true) → o ≡ amount_kept (amount_in o)
tidy_at None fit = refl
tidy_at (Some v) fit = tidy_value v (fit v refl)

-- where each value fits its cell, no balance of 0 stands
pub tidy_from : (book : Contracts) (m : Contents) → ((c : Cell) (v : Val) → get m c ≡ Some v → fits book c v ≡ true) → IsTidy m
tidy_from book m fit address = tidy_at (get m (Balance address)) (λ v e. second_true (has_account book address) _ (fit (Balance address) v e))

-- ---- storages and entries

-- the storage's type of a script that may run
record IsStorageType (t : Ty) : Type 0 where
  keys : has_comparable_keys t ≡ true
  values : has_passable_values t ≡ true
  few : length (big_maps_of t) ≤ 16
  deep : depth_of_type t ≤ 128

storage_type : (s : Script) → ∥ IsTypedScript s ∥₁ → IsStorageType s.storage
storage_type s typed =
    let keys : has_comparable_keys s.storage ≡ true = ∥∥₁_elim typed (Bool-set (has_comparable_keys s.storage) true) (λ t. t.storage_keys) in
    let maps : has_storage_big_maps s.storage ≡ true = ∥∥₁_elim typed (Bool-set (has_storage_big_maps s.storage) true) (λ t. t.big_maps) in
    let limits : is_within_limits s.storage ≡ true = ∥∥₁_elim typed (Bool-set (is_within_limits s.storage) true) (λ t. t.storage_limits) in
    let placed = first_true (has_placed_big_maps s.storage && has_passable_values s.storage) _ maps in
    record {
      keys = keys;
      values = second_true (has_placed_big_maps s.storage) _ placed;
      few = leb-true _ 16 (second_true (has_placed_big_maps s.storage && has_passable_values s.storage) _ maps);
      deep = leb-true _ 128 (second_true (nat_le (nodes_of s.storage) 16384) _ limits);
    }

-- a value that may be written
pub record IsWritten (v : Val) : Type 0 where
  pub plain : is_plain v ≡ true
  pub deep : depth_of v ≤ 128

written_as : (v : Val) (t : Ty) → depth_of_type t ≤ 128 → is_plain v ≡ true → has_type v t ≡ true → IsWritten v
written_as v t deep plain typed =
    let within : depth_of v ≤ depth_of_type t = plain_within v t plain (second_true (is_sound v) _ typed) in
    record { plain = plain; deep = omega arith }

written_balance : (v : Val) → is_balance v ≡ true → IsWritten v
written_balance v h =
    let a = is_amount v h in
    subst IsWritten (sym a.is) (record {
      plain = plain-mutez a.amount ∙ lt-ltb a.amount (2 ^ 63) a.small;
      deep = let one : depth_of (variant.Mutez a.amount) ≡ 1 = depths.depth-mutez a.amount in omega arith;
    })

written_storage : (o : Option Script) (v : Val) → ((s : Script) → o ≡ Some s → ∥ IsTypedScript s ∥₁) → fits_storage o v ≡ true → IsWritten v
written_storage None v typed h = absurd cc
written_storage (Some s) v typed h =
    let rest = second_true (is_plain v) _ h in
    written_as v s.storage (storage_type s (typed s refl)).deep (first_true (is_plain v) _ h) (first_true (has_type v s.storage) _ rest)

-- an entry that may be written
record IsWrittenEntry (place : ℕ) (key v : Val) : Type 0 where
  named : IsNamed place key
  value : IsWritten v

entry_in : (t : Ty) (place : ℕ) (key v : Val) (o : Option (Ty × Ty)) → IsStorageType t → slice_get (big_maps_of t) place ≡ o → fits_big_map o key v ≡ true → IsWrittenEntry place key v
entry_in t place key v None storage is h = absurd cc
entry_in t place key v (Some m) storage is h =
    let map = storage_map t storage.keys storage.values place m is in
    let within : place < length (big_maps_of t) = map.1 in
    let few : length (big_maps_of t) ≤ 16 = storage.few in
    let deep : depth_of_type t ≤ 128 = storage.deep in
    let key_deep : depth_of_type m.0 ≤ depth_of_type t = map.0.key_depth in
    let value_deep : depth_of_type m.1 ≤ depth_of_type t = map.0.value_depth in
    let key_typed : has_type key m.0 ≡ true = first_true (has_type key m.0) _ h in
    let value_typed : has_type v m.1 ≡ true = second_true (has_type key m.0) _ h in
    let key_plain : is_plain key ≡ true = passable_is_plain key m.0 key_typed (comparable_is_passable m.0 map.0.key) in
    let written = written_as key m.0 (omega arith) key_plain key_typed in
    record {
      named = record {
        within = omega arith;
        plain = key_plain;
        tags = comparable_is_low key m.0 (second_true (is_sound key) _ key_typed) map.0.key;
        deep = written.deep;
      };
      value = written_as v m.1 (omega arith) (passable_is_plain v m.1 value_typed map.0.value) value_typed;
    }

written_entry : (o : Option Script) (place : ℕ) (key v : Val) → ((s : Script) → o ≡ Some s → ∥ IsTypedScript s ∥₁) → fits_entry o place key v ≡ true → IsWrittenEntry place key v
written_entry None place key v typed h = absurd cc
written_entry (Some s) place key v typed h = entry_in s.storage place key v (slice_get (big_maps_of s.storage) place) (storage_type s (typed s refl)) refl h

-- ---- all of them

-- a value that fits its cell by a book may be written
pub value_written : (book : Contracts) (c : Cell) (v : Val) → IsBook book → fits book c v ≡ true → IsWritten v
value_written book (Balance address) v is h = written_balance v (second_true (has_account book address) _ h)
value_written book (Storage address) v is h = written_storage (get book address) v (λ s e. (is.listed address s e).typed) h
value_written book (Entry address place key) v is h = (written_entry (get book address) place key v (λ s e. (is.listed address s e).typed) h).value

-- and so may the cell
pub cell_written : (book : Contracts) (c : Cell) (v : Val) → IsBook book → fits book c v ≡ true → CanBeSpelt c
cell_written book (Balance address) v is h = tt
cell_written book (Storage address) v is h = tt
cell_written book (Entry address place key) v is h = (written_entry (get book address) place key v (λ s e. (is.listed address s e).typed) h).named
