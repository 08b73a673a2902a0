-- The law of what stands behind each tag.
use Rattle.std.proofs.Common.{◌≡◌, ℕ, ℤ, pos, negsuc, ◌≤ℤ◌, ◌-◌, ◌^◌, ◌<◌, Bool, true, List, [], ◌∷◌, ◌++◌, length, map, Option, None, refl, sym, ap, ◌∙◌, arith}
use Rattle.std.specs.Prelude.{IsTrue, ◌==◌, int_le, nat_le, nat_lt}
use Rattle.std.specs.List.{flat_map, AllByRecursion}
use Rattle.std.specs.Int.{w8, w32, w64, w128, to_be_bytes}
use Rattle.std.proofs.lemmas.Bool.{eqb-true, ltb-true, leb-true, lt-ltb}
use Rattle.std.proofs.lemmas.Int.{ints}
use Rattle.byte_fields.specs.Readers.{Reader, both, with, checked, many, number}
use Rattle.byte_fields.specs.Laws.{Reads}
use Rattle.byte_fields.proofs.Digits.{wide8, wide32, wide64, wide128}
use Rattle.byte_fields.proofs.Numbers.{IsRun, byte_run_reads, run_reads, number_reads, signed_reads}
use Rattle.byte_fields.proofs.Joined.{reads_as, checked_reads, both_reads, with_reads}
use Rattle.byte_fields.proofs.Lists.{chained_reads, many_reads}
use Rattle.value_core.specs.declared.val.Val.{Val}
use Rattle.value_core.specs.Lawful.{is_lawful_address, is_lawful_blob, is_number}
use Rattle.value_core.specs.Leaves.{IsNumber, is_text, is_blob, is_address}
use Rattle.value_core.specs.Sound.{ascends, is_countable}
use Rattle.value_core.proofs.LawfulLemmas.{all_small, small_all}
use Rattle.value_codec.specs.Spelling.{word, signed_word, spell, spell_entry}
use Rattle.value_core.specs.Lasts.{is_above}
use Rattle.value_codec.specs.Reading.{num, nat, mutez, measured, address, place, ascending, entries, value}
use Rattle.value_codec.proofs.Numbers.{number_fits}
use Rattle.value_core.proofs.Bools.{both_true, first_true, second_true}
use Rattle.value_codec.proofs.Levels.{IsGood}
use Rattle.value_codec.proofs.Ascending.{GoodNext, next_key, from_along, to_along}

-- ---- numbers

above_is : (a z : ℤ) → int_le a z ≡ true → a ≤ℤ z
above_is a z h = grind (arith, ints)

number_is : (z : ℤ) → IsTrue (is_number z) → IsNumber z
number_is z h = (
  above_is (negsuc (2 ^ 127 - 2)) z (first_true (int_le (negsuc (2 ^ 127 - 2)) z) _ h),
  above_is z (pos (2 ^ 127 - 1)) (second_true (int_le (negsuc (2 ^ 127 - 2)) z) _ h),
)

pub num_reads : Reads num signed_word (λ n. IsTrue (is_number n))
num_reads = reads_as signed_word (λ n. IsTrue (is_number n)) (λ n good. (refl, good.1)) (λ n is. (number_fits n (number_is n is), is)) (checked_reads is_number (signed_reads w128 wide128))

pub nat_reads : Reads nat signed_word (λ n. IsTrue (is_number n) × IsTrue (int_le (pos 0) n))
nat_reads = checked_reads (λ n. int_le (pos 0) n) num_reads

small : (n limit : ℕ) → IsTrue (nat_lt n limit) → n < limit
small n limit h = ltb-true n limit h

pub mutez_reads : Reads mutez (to_be_bytes w64) (λ n. IsTrue (nat_lt n (2 ^ 63)))
mutez_reads = reads_as (to_be_bytes w64) (λ n. IsTrue (nat_lt n (2 ^ 63))) (λ n good. (refl, good.1)) (λ n is. (omega (arith, small n (2 ^ 63) is), is))
    (checked_reads (λ n. nat_lt n (2 ^ 63)) (number_reads w64 (2 ^ 64) wide64))

pub place_reads : Reads place (to_be_bytes w8) (λ n. IsTrue (nat_lt n 16))
place_reads = reads_as (to_be_bytes w8) (λ n. IsTrue (nat_lt n 16)) (λ n good. (refl, good.1)) (λ n is. (omega (arith, small n 16 is), is))
    (checked_reads (λ n. nat_lt n 16) (number_reads w8 (2 ^ 8) wide8))

-- ---- texts

pub measured_reads : (test : List ℕ → Bool) → ((bytes : List ℕ) → IsTrue (test bytes) → IsTrue (is_blob bytes)) → Reads (measured test) (λ bytes. word (length bytes) ++ bytes) (λ bytes. IsTrue (test bytes))
measured_reads test short =
    reads_as (λ bytes. word (length bytes) ++ bytes) (λ bytes. IsTrue (test bytes)) (λ bytes good. (refl, good.1.1))
    (λ bytes is. ((omega (arith, leb-true (length bytes) 131071 (short bytes is)), short bytes is), (refl, is)))
    (with_reads (checked_reads (λ n. nat_le n 131071) (number_reads w32 (2 ^ 32) wide32)) (λ n. checked_reads test (run_reads n)) length (λ n bytes good. good.0))

pub text_reads : Reads (measured is_text) (λ bytes. word (length bytes) ++ bytes) (λ bytes. IsTrue (is_text bytes))
text_reads = measured_reads is_text (λ bytes is. first_true (is_blob bytes) _ is)

pub blob_reads : Reads (measured is_blob) (λ bytes. word (length bytes) ++ bytes) (λ bytes. IsTrue (is_lawful_blob bytes))
blob_reads =
    reads_as (λ bytes. word (length bytes) ++ bytes) (λ bytes. IsTrue (is_lawful_blob bytes))
    (λ bytes good. (refl, both_true (is_blob bytes) _ good.1.1 (all_small bytes good.1.0.fits)))
    (λ bytes is.
    let short = first_true (is_blob bytes) _ is in
    let run : IsRun (length bytes) bytes = record { len = refl; fits = small_all bytes (second_true (is_blob bytes) _ is) } in
    ((omega (arith, leb-true (length bytes) 131071 short), short), (run, short)))
    (with_reads (checked_reads (λ n. nat_le n 131071) (number_reads w32 (2 ^ 32) wide32)) (λ n. checked_reads is_blob (byte_run_reads n)) length (λ n bytes good. good.0.len))

pub address_reads : Reads address (λ bytes. bytes) (λ bytes. IsTrue (is_lawful_address bytes))
address_reads = reads_as (λ bytes. bytes) (λ bytes. IsTrue (is_lawful_address bytes))
    (λ bytes good. (refl, both_true (is_address bytes) _ good.1 (all_small bytes good.0.fits)))
    (λ bytes is.
    let one = first_true (is_address bytes) _ is in
    let run : IsRun 22 bytes = record { len = eqb-true (length bytes) 22 (first_true (length bytes == 22) _ one); fits = small_all bytes (second_true (is_address bytes) _ is) } in
    (run, one))
    (checked_reads is_address (byte_run_reads 22))

-- ---- lists, sets and maps

map-same : (vs : List Val) → map (λ v. v) vs ≡ vs
map-same [] = refl
map-same (v ∷ vs) = ap (λ l. v ∷ l) (map-same vs)

-- a count, and so many items
counted_reads : {A : Type 0} {items : ℕ → Reader (List A)} {spell_all : List A → List ℕ} {Good : ℕ → List A → Type 0} (Good' : List A → Type 0) →
    ((n : ℕ) → Reads (items n) spell_all (Good n)) → ((n : ℕ) (all : List A) → Good n all → (length all ≡ n) × Good' all) → ((all : List A) → Good' all → Good (length all) all) →
    Reads (with (number w32) items) (λ all. word (length all) ++ spell_all all) (λ all. IsTrue (is_countable all) × Good' all)
counted_reads {A} {items} {spell_all} {Good} Good' r to from =
    reads_as (λ all. word (length all) ++ spell_all all) (λ all. IsTrue (is_countable all) × Good' all)
    (λ all good. (refl, (lt-ltb (length all) (2 ^ 32) good.0, (to (length all) all good.1).1)))
    (λ all good. (ltb-true (length all) (2 ^ 32) good.0, from all good.1))
    (with_reads (number_reads w32 (2 ^ 32) wide32) r length (λ n all good. (to n all good).0))

module _ (most d : ℕ) (r : Reads (value most d) spell (IsGood most d)) where
  pub list_reads : Reads (with (number w32) (many (value most d))) (λ vs. word (length vs) ++ flat_map spell vs) (λ vs. IsTrue (is_countable vs) × AllByRecursion (IsGood most d) vs)
  list_reads = counted_reads (AllByRecursion (IsGood most d)) (many_reads r) (λ n vs good. good) (λ vs good. (refl, good))

  pub set_reads : Reads (with (number w32) (ascending (value most d) None)) (λ vs. word (length vs) ++ flat_map spell vs) (λ vs. IsTrue (is_countable vs) × (AllByRecursion (IsGood most d) vs × IsTrue (ascends vs)))
  set_reads = counted_reads (λ vs. AllByRecursion (IsGood most d) vs × IsTrue (ascends vs))
      (λ n. chained_reads {Good = GoodNext (λ v. v) (IsGood most d)} (next_key (λ v. v) (IsGood most d)) (λ last. checked_reads (is_above last) r) None n)
      (λ n vs good. let up = from_along (λ v. v) (IsGood most d) vs good.1 in (good.0, (up.0, sym (ap ascends (map-same vs)) ∙ up.1)))
      (λ vs good. (refl, to_along (λ v. v) (IsGood most d) vs good.0 (ap ascends (map-same vs) ∙ good.1)))

  abbrev pub GoodEntry : Val × Val → Type 0
  GoodEntry e = IsGood most d e.0 × IsGood most d e.1

  entry_reads : (last : Option Val) → Reads (both (checked (is_above last) (value most d)) (value most d)) spell_entry (GoodNext (λ e. e.0) GoodEntry last)
  entry_reads last = reads_as spell_entry (GoodNext (λ e. e.0) GoodEntry last) (λ e good. (refl, ((good.0.0, good.1), good.0.1))) (λ e good. ((good.0.0, good.1), good.0.1))
      (both_reads (checked_reads (is_above last) r) r)

  pub map_reads : Reads (with (number w32) (entries (value most d) None)) (λ es. word (length es) ++ flat_map spell_entry es)
      (λ es. IsTrue (is_countable es) × (AllByRecursion GoodEntry es × IsTrue (ascends (map (λ e. e.0) es))))
  map_reads = counted_reads (λ es. AllByRecursion GoodEntry es × IsTrue (ascends (map (λ e. e.0) es)))
      (λ n. chained_reads {Good = GoodNext (λ e. e.0) GoodEntry} (next_key (λ e. e.0) GoodEntry) entry_reads None n)
      (λ n es good. (good.0, from_along (λ e. e.0) GoodEntry es good.1))
      (λ es good. (refl, to_along (λ e. e.0) GoodEntry es good.0 good.1))
