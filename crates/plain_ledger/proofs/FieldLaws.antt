-- The law of the fields of a file.
use Rattle.std.proofs.Common.{◌≡◌, ℕ, suc, ◌+◌, ◌<◌, ◌^◌, true, eqb, List, ◌∷◌, ◌++◌, length, Option, None, refl, sym, ap, ◌∙◌, arith}
use Rattle.std.specs.Prelude.{IsTrue, slice_index, nat_le}
use Rattle.std.specs.List.{flat_map}
use Rattle.std.specs.Int.{w8, w32, w64, to_be_bytes}
use Rattle.std.proofs.lemmas.Bool.{eqb-true, eq-eqb, ltb-true, lt-ltb, le-leb}
use Rattle.byte_fields.specs.Readers.{number, made, checked, with}
use Rattle.byte_fields.specs.Laws.{Reads}
use Rattle.byte_fields.proofs.Joined.{both_reads, built_reads, checked_reads, made_reads, reads_as, with_reads}
use Rattle.byte_fields.proofs.Lists.{GoodItems, chained_reads}
use Rattle.byte_fields.proofs.Digits.{wide8, wide32}
use Rattle.byte_fields.proofs.Numbers.{number_reads}
use Rattle.value_core.specs.declared.val.Val.{Val}
use Rattle.value_core.specs.declared.val.Val.TheVariants as variant
use Rattle.value_core.specs.declared.val.Val.TheOpen as one
use Rattle.value_core.specs.declared.val.Val.TheViews.{out-Val, roll-Val}
use Rattle.value_core.specs.Layer.{Layer}
use Rattle.value_core.specs.Lawful.{is_lawful_address}
use Rattle.value_core.proofs.Levels.{out-roll, roll-out}
use Rattle.value_codec.specs.Reading.{value}
use Rattle.value_codec.specs.Spelling.{spell}
use Rattle.value_codec.proofs.Levels.{IsGood, good_at}
use Rattle.value_codec.proofs.Spelt.{spell_mutez}
use Rattle.value_codec.proofs.Rows.{address_reads}
use Rattle.value_codec.proofs.ValueLaws.{value_reads}
use Rattle.value_core.proofs.Bools.{both_true, first_true, second_true}
use Rattle.cell_names.specs.Accounts.{IsImplicit, is_implicit}
use Rattle.plain_ledger.specs.declared.holding.Holding.{Holding}
use Rattle.plain_ledger.specs.Ledger.{pair}
use Rattle.plain_ledger.specs.Spelling.{cell}
use Rattle.plain_ledger.specs.Reading.{Before, next, amount_level, amount_of, is_room, fits, is_above, kind, account, name, amount, holding, cells, contracts, book}

-- ---- amounts

level_is : (x : Layer Val) → 0 < amount_level x → x ≡ one.Mutez (amount_level x)
level_is (one.Mutez n) some = refl
level_is _ some = absurd (omega arith)

-- a value that is money is that amount
value_is : (v : Val) → 0 < amount_of v → v ≡ variant.Mutez (amount_of v)
value_is v some = sym (roll-out v) ∙ ap roll-Val (level_is (out-Val v) some) ∙ variant.rolls-Mutez (amount_of v)

amount_of-Mutez : (n : ℕ) → amount_of (variant.Mutez n) ≡ n
amount_of-Mutez n = ap amount_of (sym (variant.rolls-Mutez n)) ∙ ap amount_level (out-roll (one.Mutez n))

mutez_good : (d n : ℕ) → n < 2 ^ 63 → IsGood 18 (suc d) (variant.Mutez n)
mutez_good d n small = good_at 18 d (one.Mutez n) _ (variant.rolls-Mutez n) (record { tag = refl; sound = lt-ltb n (2 ^ 63) small; settled = refl; leaf = lt-ltb n (2 ^ 64) (omega arith) }) tt

-- an amount above 0 with which the supply stays below 2^63
abbrev pub IsRoom : ℕ → ℕ → Type 0
IsRoom total n = (0 < n) × (total + n < 2 ^ 63)

room_from : (total n : ℕ) → is_room total n ≡ true → IsRoom total n
room_from total n h = (ltb-true 0 n (first_true _ _ h), ltb-true (total + n) (2 ^ 63) (second_true _ _ h))

room_to : (total n : ℕ) → IsRoom total n → is_room total n ≡ true
room_to total n h = both_true _ _ (lt-ltb 0 n h.0) (lt-ltb (total + n) (2 ^ 63) h.1)

abbrev amount_bytes : ℕ → List ℕ
amount_bytes n = 5 ∷ to_be_bytes w64 n

-- the account may have so much
abbrev pub MayHave : List ℕ → ℕ → ℕ → Type 0
MayHave a total n = IsTrue (is_implicit a) × IsRoom total n

amount_read : (d : ℕ) (c : List ℕ) (total : ℕ) → Reads (made amount_of (checked (fits c total) (value 18 (suc d)))) amount_bytes (MayHave c total)
amount_read d c total =
    made_reads amount_of variant.Mutez amount_bytes (MayHave c total)
    (λ v good.
    let room : IsRoom total (amount_of v) = room_from total (amount_of v) (second_true _ _ good.1) in
    (ap spell (value_is v room.0) ∙ spell_mutez (amount_of v), (first_true _ _ good.1, room)))
    (λ n good.
    let room : IsRoom total n = good.1 in
    let small : n < 2 ^ 63 = omega arith in
    ((mutez_good d n small, both_true _ _ good.0 (ap (is_room total) (amount_of-Mutez n) ∙ room_to total n room)), amount_of-Mutez n))
    (checked_reads (fits c total) ((value_reads 18 (suc d))))

pub amount_reads : (c : List ℕ) (total : ℕ) → Reads (amount c total) amount_bytes (MayHave c total)
amount_reads c total = amount_read 127 c total

-- ---- a cell and its value

kind_reads : Reads kind (to_be_bytes w8) (λ k. k ≡ 0)
kind_reads =
    reads_as (to_be_bytes w8) (λ k. k ≡ 0) (λ k good. (refl, eqb-true k 0 good.1))
    (λ k none. ((omega arith, le-leb k 2 (omega arith)), ap (λ (k : ℕ). eqb k 0) none))
    (built_reads (λ k. eqb k 0) (checked_reads (λ k. nat_le k 2) (number_reads w8 (2 ^ 8) wide8)))

account_reads : Reads account (λ a. 0 ∷ a) (λ a. IsTrue (is_lawful_address a))
account_reads =
    made_reads (λ (p : ℕ × List ℕ). p.1) (λ a. (0, a)) (λ a. 0 ∷ a) (λ a. IsTrue (is_lawful_address a))
    (λ p good. (ap (λ (k : ℕ). to_be_bytes w8 k ++ p.1) good.0, good.1)) (λ a good. ((refl, good), refl)) (both_reads kind_reads address_reads)

name_reads : (last : Option (List ℕ)) → Reads (name last) (λ a. 0 ∷ a) (λ a. IsTrue (is_lawful_address a) × IsTrue (is_above last a))
name_reads last = checked_reads (is_above last) account_reads

-- an implicit account above the last one
abbrev pub IsNext : Option (List ℕ) → List ℕ → Type 0
IsNext last a = IsImplicit a × IsTrue (is_above last a)

-- a holding that may stand behind what stands before
abbrev pub Follows : Before → Holding → Type 0
Follows before h = IsNext before.0 h.address × IsRoom before.1 h.amount

implicit_from : (a : List ℕ) → is_lawful_address a ≡ true → is_implicit a ≡ true → IsImplicit a
implicit_from a lawful implicit = record { lawful = lawful; implicit = eqb-true (slice_index a 0) 0 implicit }

-- the holding of an address that was read
abbrev IsOf : List ℕ → ℕ → Holding → Type 0
IsOf a total h = (a ≡ h.address) × MayHave a total h.amount

of_account : (a : List ℕ) (total : ℕ) → Reads (made (λ n. let h : Holding = record { address = a; amount = n } in h) (amount a total)) (λ h. amount_bytes h.amount) (IsOf a total)
of_account a total =
    made_reads (λ n. let h : Holding = record { address = a; amount = n } in h) (λ (h : Holding). h.amount) (λ (h : Holding). amount_bytes h.amount) (IsOf a total)
    (λ n good. (refl, (refl, good)))
    (λ h good. (good.1, ap (λ (a : List ℕ). let x : Holding = record { address = a; amount = h.amount } in x) good.0))
    (amount_reads a total)

pub holding_reads : (before : Before) → Reads (holding before) (λ h. cell (pair h)) (Follows before)
holding_reads before =
    reads_as (λ h. cell (pair h)) (Follows before)
    (λ h good. (refl, ((implicit_from h.address good.0.0 good.1.1.0, good.0.1), good.1.1.1)))
    (λ h good. ((good.0.0.lawful, good.0.1), (refl, (eq-eqb (slice_index h.address 0) 0 good.0.0.implicit, good.1))))
    (with_reads (name_reads before.0) (λ a. of_account a before.1) (λ (h : Holding). h.address) (λ a h good. sym good.0))

abbrev pub Follow : ℕ → List Holding → Type 0
Follow = GoodItems Follows next (None, 0)

cells_reads : (n : ℕ) → Reads (cells n) (flat_map (λ h. cell (pair h))) (Follow n)
cells_reads n = chained_reads next holding_reads (None, 0) n

-- ---- the contracts and the cells

contracts_reads : Reads contracts (to_be_bytes w32) (λ n. n ≡ 0)
contracts_reads =
    reads_as (to_be_bytes w32) (λ n. n ≡ 0) (λ n good. (refl, eqb-true n 0 good.1))
    (λ n none. ((omega arith, le-leb n 1024 (omega arith)), eq-eqb n 0 none))
    (built_reads (λ n. eqb n 0) (checked_reads (λ n. nat_le n 1024) ((number_reads w32 (2 ^ 32) wide32))))

abbrev pub book_bytes : List Holding → List ℕ
book_bytes hs = to_be_bytes w32 (length hs) ++ flat_map (λ h. cell (pair h)) hs

abbrev pub IsBook : List Holding → Type 0
IsBook hs = (length hs < 2 ^ 32) × Follow (length hs) hs

counted_reads : Reads (with (number w32) cells) book_bytes IsBook
counted_reads = with_reads ((number_reads w32 (2 ^ 32) wide32)) cells_reads length (λ n hs good. good.0)

pub book_reads : Reads book (λ hs. to_be_bytes w32 0 ++ book_bytes hs) IsBook
book_reads =
    made_reads (λ (p : ℕ × List Holding). p.1) (λ hs. (0, hs)) (λ hs. to_be_bytes w32 0 ++ book_bytes hs) IsBook
    (λ p good. (ap (λ n. to_be_bytes w32 n ++ book_bytes p.1) good.0, good.1)) (λ hs good. ((refl, good), refl))
    (both_reads contracts_reads counted_reads)
