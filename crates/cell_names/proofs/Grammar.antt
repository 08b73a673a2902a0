-- The laws of cells, modes and footprints.
use Rattle.std.proofs.Common.{◌≡◌, ℕ, zero, suc, ◌<◌, ◌≤◌, ◌^◌, eqb, List, ◌++◌, length, Option, None, refl, arith}
use Rattle.std.specs.Prelude.{IsTrue, nat_le, nat_lt}
use Rattle.std.specs.Int.{w8, w32, to_be_bytes}
use Rattle.std.specs.List.{flat_map}
use Rattle.std.proofs.lemmas.Bool.{leb-true, le-leb, ltb-true, lt-ltb}
use Rattle.byte_fields.specs.Readers.{both, chained}
use Rattle.byte_fields.specs.Laws.{Reads, AllAlong, IsWithin}
use Rattle.byte_fields.proofs.Joined.{reads_as, checked_reads, made_reads, made_within, both_reads, with_reads}
use Rattle.byte_fields.proofs.Tags.{Row, Begins, TakesBehind, at_tag, row_takes, row_begins, within_row, tagged_reads}
use Rattle.byte_fields.proofs.Digits.{wide8, wide32}
use Rattle.byte_fields.proofs.Numbers.{number_reads}
use Rattle.byte_fields.proofs.Lists.{chained_reads}
use Rattle.value_core.specs.declared.val.Val.{Val}
use Rattle.value_core.specs.Lawful.{is_lawful_address}
use Rattle.value_codec.specs.declared.tag.TheConstants.{KEY_VALUE}
use Rattle.value_codec.specs.Spelling.{spell, IsSpelt}
use Rattle.value_codec.specs.Reading.{address, place, value}
use Rattle.value_codec.proofs.Rows.{address_reads, place_reads}
use Rattle.value_codec.proofs.ValueLaws.{spelt_reads}
use Rattle.cell_names.specs.declared.cell.Cell.{Cell}
use Rattle.cell_names.specs.declared.cell.Cell.TheVariants.{Balance, Storage, Entry}
use Rattle.cell_names.specs.declared.mode.Mode.{Mode}
use Rattle.cell_names.specs.declared.mode.Mode.TheVariants as modes
use Rattle.cell_names.specs.Spelling.{spell_cell, spell_mode, spell_touch, spell_footprint, IsCell, IsFootprint}
use Rattle.cell_names.specs.Reading.{is_kind, behind, cell, mode_of_byte, mode, is_above, touch, next_last, footprint}
use Rattle.cell_names.proofs.Rising.{IsNext, touches_from_next, next_from_touches}

-- ---- cells

balance_row : Row {A = List ℕ} 0 Balance (λ bytes. bytes) (λ bytes. IsTrue (is_lawful_address bytes)) spell_cell IsCell
balance_row = record { spelt = λ a. refl; good = λ a good. good }

storage_row : Row {A = List ℕ} 1 Storage (λ bytes. bytes) (λ bytes. IsTrue (is_lawful_address bytes)) spell_cell IsCell
storage_row = record { spelt = λ a. refl; good = λ a good. good }

-- what an entry is made of
abbrev Parts : Type 0
Parts = List ℕ × (ℕ × Val)

abbrev parts_bytes : Parts → List ℕ
parts_bytes p = p.0 ++ (to_be_bytes w8 p.1.0 ++ spell p.1.1)

abbrev AreParts : Parts → Type 0
AreParts p = IsTrue (is_lawful_address p.0) × (IsTrue (nat_lt p.1.0 16) × IsSpelt KEY_VALUE 128 p.1.1)

entry_row : Row {A = Parts} 2 (λ p. Entry p.0 p.1.0 p.1.1) parts_bytes AreParts spell_cell IsCell
entry_row = record { spelt = λ p. refl; good = λ p good. (good.0, (ltb-true p.1.0 16 good.1.0, good.1.1)) }

key_reads : (d : ℕ) → Reads (both address (both place (value KEY_VALUE d))) parts_bytes (λ p. IsTrue (is_lawful_address p.0) × (IsTrue (nat_lt p.1.0 16) × IsSpelt KEY_VALUE d p.1.1))
key_reads d = both_reads address_reads (both_reads place_reads (spelt_reads KEY_VALUE d))

takes : (k : ℕ) → IsTrue (is_kind k) → TakesBehind (behind k) k spell_cell IsCell
takes k =
    at_tag is_kind k 0 (λ h. row_takes balance_row address_reads) (
    at_tag is_kind k 1 (λ h. row_takes storage_row address_reads) (
    at_tag is_kind k 2 (λ h. row_takes entry_row (key_reads 128)) (
    λ h bytes a rest fits e. absurd cc)))

begins : (c : Cell) → IsCell c → Begins is_kind behind spell_cell c
begins (Balance a) good = row_begins is_kind behind balance_row address_reads (omega arith) refl refl a good
begins (Storage a) good = row_begins is_kind behind storage_row address_reads (omega arith) refl refl a good
begins (Entry a p k) good = row_begins is_kind behind entry_row (key_reads 128) (omega arith) refl refl (a, (p, k)) (good.0, (lt-ltb p 16 good.1.0, good.1.1))

within : (k : ℕ) (bytes : List ℕ) → IsWithin (length bytes) (behind k bytes)
within k =
    within_row (eqb k 0) _ _ (made_within Balance address_reads) (
    within_row (eqb k 1) _ _ (made_within Storage address_reads) (
    within_row (eqb k 2) _ _ (made_within (λ p. Entry p.0 p.1.0 p.1.1) (key_reads 128)) (
    λ bytes. omega arith)))

pub cell_reads : Reads cell spell_cell IsCell
cell_reads = tagged_reads takes begins within

-- ---- modes

mode_spelt : (b : ℕ) → b ≤ 2 → to_be_bytes w8 b ≡ spell_mode (mode_of_byte b)
mode_spelt zero le = refl
mode_spelt (suc zero) le = refl
mode_spelt (suc (suc zero)) le = refl
mode_spelt (suc (suc (suc b))) le = absurd (omega arith)

byte_of : Mode → ℕ
byte_of modes.Read = 0
byte_of modes.Credit = 1
byte_of modes.Own = 2

mode_back : (m : Mode) → Unit {0} → ((byte_of m < 2 ^ 8) × IsTrue (nat_le (byte_of m) 2)) × (mode_of_byte (byte_of m) ≡ m)
unfolding byte_of
mode_back modes.Read good = ((omega arith, refl), refl)
mode_back modes.Credit good = ((omega arith, refl), refl)
mode_back modes.Own good = ((omega arith, refl), refl)

pub mode_reads : Reads mode spell_mode (λ m. Unit {0})
mode_reads =
    made_reads mode_of_byte byte_of spell_mode (λ m. Unit {0}) (λ b good. (mode_spelt b (leb-true b 2 good.1), tt)) mode_back
    (checked_reads (λ b. nat_le b 2) (number_reads w8 (2 ^ 8) wide8))

-- ---- footprints

pub touch_reads : (last : Option Cell) → Reads (touch last) spell_touch (IsNext last)
touch_reads last = both_reads (checked_reads (is_above last) cell_reads) mode_reads

pub touches_reads : (n : ℕ) → Reads (chained touch next_last None n) (flat_map spell_touch) (λ f. (length f ≡ n) × AllAlong IsNext next_last None f)
touches_reads n = chained_reads next_last touch_reads None n

pub footprint_reads : Reads footprint spell_footprint IsFootprint
footprint_reads =
    reads_as spell_footprint IsFootprint
    (λ f good. (refl, record { few = leb-true (length f) 256 good.0.1; touches = touches_from_next f good.1.1 }))
    (λ f good. let few : length f ≤ 256 = good.few in ((omega arith, le-leb (length f) 256 few), (refl, next_from_touches f good.touches)))
    (with_reads (checked_reads (λ n. nat_le n 256) (number_reads w32 (2 ^ 32) wide32)) touches_reads length (λ n f good. good.0))
