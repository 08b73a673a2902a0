-- The law of the reader of values, by its depth.
use Rattle.std.proofs.Common.{◌≡◌, ℕ, ℤ, zero, suc, pos, ◌^◌, ◌≤◌, Bool, true, false, cond, List, [], ◌∷◌, ◌++◌, length, map, eqb, refl, sym, ap, subst, arith}
use Rattle.std.specs.Prelude.{IsTrue, int_le, nat_lt, nat_le}
use Rattle.std.specs.List.{flat_map, AllByRecursion}
use Rattle.std.specs.Int.{w8, w64, to_be_bytes}
use Rattle.std.proofs.lemmas.Bool.{eqb-true, le-leb, lt-ltb, ltb-true}
use Rattle.byte_fields.specs.Readers.{Reader, given, made}
use Rattle.byte_fields.specs.Laws.{IsWithin, Reads}
use Rattle.byte_fields.proofs.Joined.{given_reads, made_within, both_reads, reads_as}
use Rattle.byte_fields.proofs.Tags.{Begins, Row, TakesBehind, row_takes, row_begins, given_takes, at_tag, within_row, tagged_reads}
use Rattle.value_core.specs.declared.val.Val.{Val}
use Rattle.value_core.specs.declared.val.Val.TheVariants as variant
use Rattle.value_core.specs.declared.val.Val.TheOpen as one
use Rattle.value_core.specs.declared.val.Val.TheViews.{out-Val, roll-Val}
use Rattle.value_core.specs.Layer.{Layer, flat, parts_of}
use Rattle.value_core.specs.Lawful.{is_lawful_address, is_lawful_blob, is_number}
use Rattle.value_core.specs.Leaves.{is_text}
use Rattle.value_core.specs.Sound.{ascends, is_countable}
use Rattle.value_core.proofs.Levels.{roll-out}
use Rattle.value_codec.specs.Spelling.{word, signed_word, spell, spell_entry, IsSpelt}
use Rattle.value_codec.specs.Reading.{is_tag, behind, value}
use Rattle.value_codec.proofs.Spelt.{spell_unit, spell_bool, spell_int, spell_nat, spell_mutez, spell_time, spell_text, spell_bytes, spell_addr, spell_nothing, spell_some, spell_left, spell_right, spell_pair, spell_list, spell_set, spell_map, spell_big_map}
use Rattle.value_core.proofs.Bools.{both_true, first_true, second_true}
use Rattle.value_codec.proofs.Levels.{GoodLevel, IsGood, good_at, is_good, is_spelt}
use Rattle.value_codec.proofs.Rows.{num_reads, nat_reads, mutez_reads, text_reads, blob_reads, address_reads, place_reads, list_reads, set_reads, map_reads}

-- ---- the values of each row

abbrev SpeltRow : {A : Type 0} → ℕ → ℕ → ℕ → (A → Val) → (A → List ℕ) → (A → Type 0) → Type 0
SpeltRow most d tag f text_of Good = Row tag f text_of Good spell (IsGood most (suc d))

good_unit : (most d : ℕ) → IsTrue (nat_le 0 most) → IsGood most (suc d) variant.Unit
good_unit most d low = good_at most d one.Unit _ variant.rolls-Unit (record { tag = low; sound = refl; settled = refl; leaf = refl }) tt

good_bool : (most d : ℕ) (b : Bool) → IsTrue (nat_le (cond b 2 1) most) → IsGood most (suc d) (variant.Bool b)
good_bool most d b low = good_at most d (one.Bool b) _ (variant.rolls-Bool b) (record { tag = low; sound = refl; settled = refl; leaf = refl }) tt

good_nothing : (most d : ℕ) → IsTrue (nat_le 10 most) → IsGood most (suc d) variant.Nothing
good_nothing most d low = good_at most d one.Nothing _ variant.rolls-Nothing (record { tag = low; sound = refl; settled = refl; leaf = refl }) tt

row_int : (most d : ℕ) → IsTrue (nat_le 3 most) → SpeltRow {A = ℤ} most d 3 variant.Int signed_word (λ n. IsTrue (is_number n))
row_int most d low = record { spelt = spell_int; good = λ x good. good_at most d (one.Int x) _ (variant.rolls-Int x) (record { tag = low; sound = refl; settled = refl; leaf = good }) tt }

row_nat : (most d : ℕ) → IsTrue (nat_le 4 most) → SpeltRow {A = ℤ} most d 4 variant.Nat signed_word (λ n. IsTrue (is_number n) × IsTrue (int_le (pos 0) n))
row_nat most d low = record { spelt = spell_nat; good = λ x good. good_at most d (one.Nat x) _ (variant.rolls-Nat x) (record { tag = low; sound = good.1; settled = refl; leaf = good.0 }) tt }

row_mutez : (most d : ℕ) → IsTrue (nat_le 5 most) → SpeltRow {A = ℕ} most d 5 variant.Mutez (to_be_bytes w64) (λ n. IsTrue (nat_lt n (2 ^ 63)))
row_mutez most d low = record { spelt = spell_mutez; good = λ x good. good_at most d (one.Mutez x) _ (variant.rolls-Mutez x) (record { tag = low; sound = good; settled = refl; leaf = lt-ltb x (2 ^ 64) (omega (arith, ltb-true x (2 ^ 63) good)) }) tt }

row_time : (most d : ℕ) → IsTrue (nat_le 6 most) → SpeltRow {A = ℤ} most d 6 variant.Time signed_word (λ n. IsTrue (is_number n))
row_time most d low = record { spelt = spell_time; good = λ x good. good_at most d (one.Time x) _ (variant.rolls-Time x) (record { tag = low; sound = refl; settled = refl; leaf = good }) tt }

row_text : (most d : ℕ) → IsTrue (nat_le 7 most) → SpeltRow {A = List ℕ} most d 7 variant.Text (λ bytes. word (length bytes) ++ bytes) (λ bytes. IsTrue (is_text bytes))
row_text most d low = record { spelt = spell_text; good = λ x good. good_at most d (one.Text x) _ (variant.rolls-Text x) (record { tag = low; sound = refl; settled = refl; leaf = good }) tt }

row_bytes : (most d : ℕ) → IsTrue (nat_le 8 most) → SpeltRow {A = List ℕ} most d 8 variant.Bytes (λ bytes. word (length bytes) ++ bytes) (λ bytes. IsTrue (is_lawful_blob bytes))
row_bytes most d low = record { spelt = spell_bytes; good = λ x good. good_at most d (one.Bytes x) _ (variant.rolls-Bytes x) (record { tag = low; sound = refl; settled = refl; leaf = good }) tt }

row_addr : (most d : ℕ) → IsTrue (nat_le 9 most) → SpeltRow {A = List ℕ} most d 9 variant.Addr (λ bytes. bytes) (λ bytes. IsTrue (is_lawful_address bytes))
row_addr most d low = record { spelt = spell_addr; good = λ x good. good_at most d (one.Addr x) _ (variant.rolls-Addr x) (record { tag = low; sound = refl; settled = refl; leaf = good }) tt }

row_some : (most d : ℕ) → IsTrue (nat_le 11 most) → SpeltRow {A = Val} most d 11 variant.Some spell (IsGood most d)
row_some most d low = record { spelt = spell_some; good = λ x good. good_at most d (one.Some x) _ (variant.rolls-Some x) (record { tag = low; sound = refl; settled = refl; leaf = refl }) (good, tt) }

row_left : (most d : ℕ) → IsTrue (nat_le 12 most) → SpeltRow {A = Val} most d 12 variant.Left spell (IsGood most d)
row_left most d low = record { spelt = spell_left; good = λ x good. good_at most d (one.Left x) _ (variant.rolls-Left x) (record { tag = low; sound = refl; settled = refl; leaf = refl }) (good, tt) }

row_right : (most d : ℕ) → IsTrue (nat_le 13 most) → SpeltRow {A = Val} most d 13 variant.Right spell (IsGood most d)
row_right most d low = record { spelt = spell_right; good = λ x good. good_at most d (one.Right x) _ (variant.rolls-Right x) (record { tag = low; sound = refl; settled = refl; leaf = refl }) (good, tt) }

row_pair : (most d : ℕ) → IsTrue (nat_le 14 most) → SpeltRow {A = Val × Val} most d 14 (λ p. variant.Pair p.0 p.1) (λ p. spell p.0 ++ spell p.1) (λ p. IsGood most d p.0 × IsGood most d p.1)
row_pair most d low = record { spelt = λ p. spell_pair p.0 p.1; good = λ p good. good_at most d (one.Pair p.0 p.1) _ (variant.rolls-Pair p.0 p.1) (record { tag = low; sound = refl; settled = refl; leaf = refl }) (good.0, (good.1, tt)) }

row_list : (most d : ℕ) → IsTrue (nat_le 15 most) → SpeltRow {A = List Val} most d 15 variant.List (λ vs. word (length vs) ++ flat_map spell vs) (λ vs. IsTrue (is_countable vs) × AllByRecursion (IsGood most d) vs)
row_list most d low = record { spelt = spell_list; good = λ x good. good_at most d (one.List x) _ (variant.rolls-List x) (record { tag = low; sound = good.0; settled = refl; leaf = refl }) good.1 }

row_set : (most d : ℕ) → IsTrue (nat_le 16 most) → SpeltRow {A = List Val} most d 16 variant.Set (λ vs. word (length vs) ++ flat_map spell vs) (λ vs. IsTrue (is_countable vs) × (AllByRecursion (IsGood most d) vs × IsTrue (ascends vs)))
row_set most d low = record { spelt = spell_set; good = λ x good. good_at most d (one.Set x) _ (variant.rolls-Set x) (record { tag = low; sound = both_true (is_countable x) _ good.0 good.1.1; settled = refl; leaf = refl }) good.1.0 }

flat_good : (most d : ℕ) (es : List (Val × Val)) → AllByRecursion (λ e. IsGood most d e.0 × IsGood most d e.1) es → AllByRecursion (IsGood most d) (flat es)
flat_good most d [] h = tt
flat_good most d (e ∷ es) h = (h.0.0, (h.0.1, flat_good most d es h.1))

good_flat : (most d : ℕ) (es : List (Val × Val)) → AllByRecursion (IsGood most d) (flat es) → AllByRecursion (λ e. IsGood most d e.0 × IsGood most d e.1) es
good_flat most d [] h = tt
good_flat most d (e ∷ es) h = ((h.0, h.1.0), good_flat most d es h.1.1)

row_map : (most d : ℕ) → IsTrue (nat_le 17 most) → SpeltRow {A = List (Val × Val)} most d 17 variant.Map (λ es. word (length es) ++ flat_map spell_entry es) (λ es. IsTrue (is_countable es) × (AllByRecursion (λ e. IsGood most d e.0 × IsGood most d e.1) es × IsTrue (ascends (map (λ e. e.0) es))))
row_map most d low = record { spelt = spell_map; good = λ x good. good_at most d (one.Map x) _ (variant.rolls-Map x) (record { tag = low; sound = both_true (is_countable x) _ good.0 good.1.1; settled = refl; leaf = refl }) (flat_good most d x good.1.0) }

row_big_map : (most d : ℕ) → IsTrue (nat_le 18 most) → SpeltRow {A = ℕ} most d 18 (λ n. variant.BigMap n 0) (to_be_bytes w8) (λ n. IsTrue (nat_lt n 16))
row_big_map most d low = record { spelt = λ n. spell_big_map n 0; good = λ n good. good_at most d (one.BigMap n 0) _ (variant.rolls-BigMap n 0) (record { tag = low; sound = good; settled = refl; leaf = both_true (nat_lt n 256) _ (lt-ltb n 256 (omega (arith, ltb-true n 16 good))) refl }) tt }

-- ---- a value

module _ (most d : ℕ) (r : Reads (value most d) spell (IsGood most d)) where
  abbrev Good : Val → Type 0
  Good = IsGood most (suc d)

  low : (t : ℕ) → IsTrue (is_tag most t) → IsTrue (nat_le t most)
  low t h = first_true (nat_le t most) (nat_le t 18) h

  stands : (t : ℕ) → IsTrue (nat_le t most) → t ≤ 18 → IsTrue (is_tag most t)
  stands t h small = both_true (nat_le t most) (nat_le t 18) h (le-leb t 18 small)

  takes : (t : ℕ) → IsTrue (is_tag most t) → TakesBehind (behind (value most d) t) t spell Good
  takes t =
      at_tag (is_tag most) t 0 (λ h. given_takes 0 spell Good variant.Unit spell_unit (good_unit most d (low 0 h))) (
      at_tag (is_tag most) t 1 (λ h. given_takes 1 spell Good (variant.Bool false) (spell_bool false) (good_bool most d false (low 1 h))) (
      at_tag (is_tag most) t 2 (λ h. given_takes 2 spell Good (variant.Bool true) (spell_bool true) (good_bool most d true (low 2 h))) (
      at_tag (is_tag most) t 3 (λ h. row_takes (row_int most d (low 3 h)) num_reads) (
      at_tag (is_tag most) t 4 (λ h. row_takes (row_nat most d (low 4 h)) nat_reads) (
      at_tag (is_tag most) t 5 (λ h. row_takes (row_mutez most d (low 5 h)) mutez_reads) (
      at_tag (is_tag most) t 6 (λ h. row_takes (row_time most d (low 6 h)) num_reads) (
      at_tag (is_tag most) t 7 (λ h. row_takes (row_text most d (low 7 h)) text_reads) (
      at_tag (is_tag most) t 8 (λ h. row_takes (row_bytes most d (low 8 h)) blob_reads) (
      at_tag (is_tag most) t 9 (λ h. row_takes (row_addr most d (low 9 h)) address_reads) (
      at_tag (is_tag most) t 10 (λ h. given_takes 10 spell Good variant.Nothing spell_nothing (good_nothing most d (low 10 h))) (
      at_tag (is_tag most) t 11 (λ h. row_takes (row_some most d (low 11 h)) r) (
      at_tag (is_tag most) t 12 (λ h. row_takes (row_left most d (low 12 h)) r) (
      at_tag (is_tag most) t 13 (λ h. row_takes (row_right most d (low 13 h)) r) (
      at_tag (is_tag most) t 14 (λ h. row_takes (row_pair most d (low 14 h)) (both_reads r r)) (
      at_tag (is_tag most) t 15 (λ h. row_takes (row_list most d (low 15 h)) (list_reads most d r)) (
      at_tag (is_tag most) t 16 (λ h. row_takes (row_set most d (low 16 h)) (set_reads most d r)) (
      at_tag (is_tag most) t 17 (λ h. row_takes (row_map most d (low 17 h)) (map_reads most d r)) (
      at_tag (is_tag most) t 18 (λ h. row_takes (row_big_map most d (low 18 h)) place_reads) (
      λ h bytes a rest fits e. absurd cc)))))))))))))))))))

  abbrev BeginsGood : Val → Type 0
  BeginsGood = Begins (is_tag most) (behind (value most d)) spell

  begins_given : (tag : ℕ) (v : Val) → tag ≤ 18 → IsTrue (nat_le tag most) → spell v ≡ tag ∷ [] → behind (value most d) tag ≡ given v → BeginsGood v
  begins_given tag v small low_tag spelt is = record {
    tag = tag;
    text = [];
    small = omega arith;
    is_one = stands tag low_tag small;
    spelt = spelt;
    again = λ rest. ap (λ (g : Reader Val). g rest) is;
  }

  begins_row : {A : Type 0} {tag : ℕ} {f : A → Val} {read : Reader A} {text_of : A → List ℕ} {Good' : A → Type 0} → SpeltRow most d tag f text_of Good' → Reads read text_of Good' →
      tag ≤ 18 → IsTrue (nat_le tag most) → behind (value most d) tag ≡ made f read → (a : A) → Good' a → BeginsGood (f a)
  begins_row {A} {tag} row r small low_tag is = row_begins (is_tag most) (behind (value most d)) row r (omega arith) (stands tag low_tag small) is

  begins_level : (x : Layer Val) → GoodLevel most x → AllByRecursion (IsGood most d) (parts_of x) → BeginsGood (roll-Val x)
  begins_level one.Unit g p = rw variant.rolls-Unit (begins_given 0 variant.Unit (omega arith) g.tag spell_unit refl)
  begins_level (one.Bool false) g p = rw (variant.rolls-Bool false) (begins_given 1 (variant.Bool false) (omega arith) g.tag (spell_bool false) refl)
  begins_level (one.Bool true) g p = rw (variant.rolls-Bool true) (begins_given 2 (variant.Bool true) (omega arith) g.tag (spell_bool true) refl)
  begins_level one.Nothing g p = rw variant.rolls-Nothing (begins_given 10 variant.Nothing (omega arith) g.tag spell_nothing refl)
  begins_level (one.Int x) g p = rw (variant.rolls-Int x) (begins_row (row_int most d g.tag) num_reads (omega arith) g.tag refl x g.leaf)
  begins_level (one.Nat x) g p = rw (variant.rolls-Nat x) (begins_row (row_nat most d g.tag) nat_reads (omega arith) g.tag refl x (g.leaf, g.sound))
  begins_level (one.Mutez x) g p = rw (variant.rolls-Mutez x) (begins_row (row_mutez most d g.tag) mutez_reads (omega arith) g.tag refl x g.sound)
  begins_level (one.Time x) g p = rw (variant.rolls-Time x) (begins_row (row_time most d g.tag) num_reads (omega arith) g.tag refl x g.leaf)
  begins_level (one.Text x) g p = rw (variant.rolls-Text x) (begins_row (row_text most d g.tag) text_reads (omega arith) g.tag refl x g.leaf)
  begins_level (one.Bytes x) g p = rw (variant.rolls-Bytes x) (begins_row (row_bytes most d g.tag) blob_reads (omega arith) g.tag refl x g.leaf)
  begins_level (one.Addr x) g p = rw (variant.rolls-Addr x) (begins_row (row_addr most d g.tag) address_reads (omega arith) g.tag refl x g.leaf)
  begins_level (one.Some x) g p = rw (variant.rolls-Some x) (begins_row (row_some most d g.tag) r (omega arith) g.tag refl x p.0)
  begins_level (one.Left x) g p = rw (variant.rolls-Left x) (begins_row (row_left most d g.tag) r (omega arith) g.tag refl x p.0)
  begins_level (one.Right x) g p = rw (variant.rolls-Right x) (begins_row (row_right most d g.tag) r (omega arith) g.tag refl x p.0)
  begins_level (one.Pair x y) g p = rw (variant.rolls-Pair x y) (begins_row (row_pair most d g.tag) (both_reads r r) (omega arith) g.tag refl (x, y) (p.0, p.1.0))
  begins_level (one.List x) g p = rw (variant.rolls-List x) (begins_row (row_list most d g.tag) (list_reads most d r) (omega arith) g.tag refl x (g.sound, p))
  begins_level (one.Set x) g p = rw (variant.rolls-Set x) (begins_row (row_set most d g.tag) (set_reads most d r) (omega arith) g.tag refl x (first_true (is_countable x) _ g.sound, (p, second_true (is_countable x) _ g.sound)))
  begins_level (one.Map x) g p = rw (variant.rolls-Map x) (begins_row (row_map most d g.tag) (map_reads most d r) (omega arith) g.tag refl x (first_true (is_countable x) _ g.sound, (good_flat most d x p, second_true (is_countable x) _ g.sound)))
  begins_level (one.BigMap n version) g p =
      let none : 0 ≡ version = sym (eqb-true version 0 g.settled) in
      subst (λ (k : ℕ). BeginsGood (roll-Val (one.BigMap n k))) none (rw (variant.rolls-BigMap n 0) (begins_row (row_big_map most d g.tag) place_reads (omega arith) g.tag refl n g.sound))
  begins_level (one.Contract x entry) g p = absurd cc
  begins_level (one.Operation emit) g p = absurd cc

  begins : (v : Val) → Good v → BeginsGood v
  begins v good = subst BeginsGood (roll-out v) (begins_level (out-Val v) good.0 good.1)

  within : (t : ℕ) (bytes : List ℕ) → IsWithin (length bytes) (behind (value most d) t bytes)
  within t =
      within_row (eqb t 0) _ _ (given_reads variant.Unit).within (
      within_row (eqb t 1) _ _ (given_reads (variant.Bool false)).within (
      within_row (eqb t 2) _ _ (given_reads (variant.Bool true)).within (
      within_row (eqb t 3) _ _ (made_within variant.Int num_reads) (
      within_row (eqb t 4) _ _ (made_within variant.Nat nat_reads) (
      within_row (eqb t 5) _ _ (made_within variant.Mutez mutez_reads) (
      within_row (eqb t 6) _ _ (made_within variant.Time num_reads) (
      within_row (eqb t 7) _ _ (made_within variant.Text text_reads) (
      within_row (eqb t 8) _ _ (made_within variant.Bytes blob_reads) (
      within_row (eqb t 9) _ _ (made_within variant.Addr address_reads) (
      within_row (eqb t 10) _ _ (given_reads variant.Nothing).within (
      within_row (eqb t 11) _ _ (made_within variant.Some r) (
      within_row (eqb t 12) _ _ (made_within variant.Left r) (
      within_row (eqb t 13) _ _ (made_within variant.Right r) (
      within_row (eqb t 14) _ _ (made_within (λ p. variant.Pair p.0 p.1) (both_reads r r)) (
      within_row (eqb t 15) _ _ (made_within variant.List (list_reads most d r)) (
      within_row (eqb t 16) _ _ (made_within variant.Set (set_reads most d r)) (
      within_row (eqb t 17) _ _ (made_within variant.Map (map_reads most d r)) (
      within_row (eqb t 18) _ _ (made_within (λ n. variant.BigMap n 0) place_reads) (
      λ bytes. omega arith)))))))))))))))))))

pub value_reads : (most d : ℕ) → Reads (value most d) spell (IsGood most d)
unfolding value
value_reads most zero = record { takes = λ bytes v rest fits e. absurd cc; again = λ v rest good. absurd good; within = λ bytes. omega arith }
value_reads most (suc d) =
    let tags = tagged_reads (takes most d (value_reads most d)) (begins most d (value_reads most d)) (within most d (value_reads most d)) in
    record { takes = tags.takes; again = tags.again; within = tags.within }

pub spelt_reads : (most d : ℕ) → Reads (value most d) spell (IsSpelt most d)
spelt_reads most d = reads_as spell (IsSpelt most d) (λ v good. (refl, is_spelt most d v good)) (is_good most d) (value_reads most d)
