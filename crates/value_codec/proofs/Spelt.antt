-- The bytes of each variant.
use Rattle.std.proofs.Common.{◌≡◌, ℕ, ℤ, Bool, true, false, cond, List, [], ◌∷◌, ◌++◌, length, map, refl, sym, ap, ◌∙◌, append_assoc}
use Rattle.std.specs.Prelude.{◌&&◌}
use Rattle.std.specs.List.{flat_map}
use Rattle.std.specs.Int.{w8, w64, to_be_bytes}
use Rattle.std.proofs.lemmas.List.{length-map, append-nil}
use Rattle.std.proofs.lemmas.List.Concat.{flat_map-cons}
use Rattle.value_core.specs.declared.val.Val.{Val}
use Rattle.value_core.specs.declared.val.Emit.{Emit}
use Rattle.value_core.specs.declared.val.Val.TheVariants as variant
use Rattle.value_core.specs.declared.val.Val.TheOpen as one
use Rattle.value_core.proofs.Levels.{by_level-roll}
use Rattle.value_codec.specs.Spelling.{word, signed_word, spell, spell_level, spell_entry}

-- ---- the spelling

joined : {X : Type 0} (f : X → List ℕ) (xs : List X) → flat_map (λ t. t) (map f xs) ≡ flat_map f xs
joined f [] = refl
joined f (x ∷ xs) = rw (flat_map-cons, flat_map-cons) (ap (λ l. f x ++ l) (joined f xs))

abbrev spell_both : Val × Val → List ℕ × List ℕ
spell_both e = (spell e.0, spell e.1)

joined_pairs : (es : List (Val × Val)) → flat_map (λ (e : List ℕ × List ℕ). e.0 ++ e.1) (map spell_both es) ≡ flat_map spell_entry es
joined_pairs [] = refl
joined_pairs (e ∷ es) = rw (flat_map-cons, flat_map-cons) (ap (λ l. (spell e.0 ++ spell e.1) ++ l) (joined_pairs es))

and_assoc : (a b c : Bool) → ((a && b) && c) ≡ (a && (b && c))
and_assoc true b c = refl
and_assoc false b c = refl

and_true : (b : Bool) → (b && true) ≡ b
and_true true = refl
and_true false = refl

pub spell_unit : spell variant.Unit ≡ 0 ∷ []
spell_unit = ap spell (sym variant.rolls-Unit) ∙ by_level-roll spell_level one.Unit

pub spell_bool : (b : Bool) → spell (variant.Bool b) ≡ cond b 2 1 ∷ []
spell_bool b = ap spell (sym (variant.rolls-Bool b)) ∙ by_level-roll spell_level (one.Bool b)

pub spell_int : (n : ℤ) → spell (variant.Int n) ≡ 3 ∷ signed_word n
spell_int n = ap spell (sym (variant.rolls-Int n)) ∙ by_level-roll spell_level (one.Int n)

pub spell_nat : (n : ℤ) → spell (variant.Nat n) ≡ 4 ∷ signed_word n
spell_nat n = ap spell (sym (variant.rolls-Nat n)) ∙ by_level-roll spell_level (one.Nat n)

pub spell_mutez : (n : ℕ) → spell (variant.Mutez n) ≡ 5 ∷ to_be_bytes w64 n
spell_mutez n = ap spell (sym (variant.rolls-Mutez n)) ∙ by_level-roll spell_level (one.Mutez n)

pub spell_time : (n : ℤ) → spell (variant.Time n) ≡ 6 ∷ signed_word n
spell_time n = ap spell (sym (variant.rolls-Time n)) ∙ by_level-roll spell_level (one.Time n)

pub spell_text : (bytes : List ℕ) → spell (variant.Text bytes) ≡ 7 ∷ (word (length bytes) ++ bytes)
spell_text bytes = ap spell (sym (variant.rolls-Text bytes)) ∙ by_level-roll spell_level (one.Text bytes)

pub spell_bytes : (bytes : List ℕ) → spell (variant.Bytes bytes) ≡ 8 ∷ (word (length bytes) ++ bytes)
spell_bytes bytes = ap spell (sym (variant.rolls-Bytes bytes)) ∙ by_level-roll spell_level (one.Bytes bytes)

pub spell_addr : (address : List ℕ) → spell (variant.Addr address) ≡ 9 ∷ address
spell_addr address = ap spell (sym (variant.rolls-Addr address)) ∙ by_level-roll spell_level (one.Addr address)

pub spell_nothing : spell variant.Nothing ≡ 10 ∷ []
spell_nothing = ap spell (sym variant.rolls-Nothing) ∙ by_level-roll spell_level one.Nothing

pub spell_some : (part : Val) → spell (variant.Some part) ≡ 11 ∷ spell part
spell_some part = ap spell (sym (variant.rolls-Some part)) ∙ by_level-roll spell_level (one.Some part)

pub spell_left : (part : Val) → spell (variant.Left part) ≡ 12 ∷ spell part
spell_left part = ap spell (sym (variant.rolls-Left part)) ∙ by_level-roll spell_level (one.Left part)

pub spell_right : (part : Val) → spell (variant.Right part) ≡ 13 ∷ spell part
spell_right part = ap spell (sym (variant.rolls-Right part)) ∙ by_level-roll spell_level (one.Right part)

pub spell_pair : (a b : Val) → spell (variant.Pair a b) ≡ 14 ∷ (spell a ++ spell b)
spell_pair a b = ap spell (sym (variant.rolls-Pair a b)) ∙ by_level-roll spell_level (one.Pair a b)

pub spell_list : (items : List Val) → spell (variant.List items) ≡ 15 ∷ (word (length items) ++ flat_map spell items)
spell_list items = ap spell (sym (variant.rolls-List items)) ∙ by_level-roll spell_level (one.List items) ∙ (λ i. 15 ∷ (word (length-map items spell i) ++ joined spell items i))

pub spell_set : (items : List Val) → spell (variant.Set items) ≡ 16 ∷ (word (length items) ++ flat_map spell items)
spell_set items = ap spell (sym (variant.rolls-Set items)) ∙ by_level-roll spell_level (one.Set items) ∙ (λ i. 16 ∷ (word (length-map items spell i) ++ joined spell items i))

pub spell_map : (entries : List (Val × Val)) → spell (variant.Map entries) ≡ 17 ∷ (word (length entries) ++ flat_map spell_entry entries)
spell_map entries = ap spell (sym (variant.rolls-Map entries)) ∙ by_level-roll spell_level (one.Map entries) ∙ (λ i. 17 ∷ (word (length-map entries spell_both i) ++ joined_pairs entries i))

pub spell_big_map : (place version : ℕ) → spell (variant.BigMap place version) ≡ 18 ∷ to_be_bytes w8 place
spell_big_map place version = ap spell (sym (variant.rolls-BigMap place version)) ∙ by_level-roll spell_level (one.BigMap place version)

pub spell_contract : (address entry : List ℕ) → spell (variant.Contract address entry) ≡ []
spell_contract address entry = ap spell (sym (variant.rolls-Contract address entry)) ∙ by_level-roll spell_level (one.Contract address entry)

pub spell_operation : (emit : Emit) → spell (variant.Operation emit) ≡ []
spell_operation emit = ap spell (sym (variant.rolls-Operation emit)) ∙ by_level-roll spell_level (one.Operation emit)

pub ruleset spellings = (append-nil, append_assoc, spell_unit, spell_bool, spell_int, spell_nat, spell_mutez, spell_time, spell_text, spell_bytes, spell_addr, spell_nothing, spell_some, spell_left, spell_right, spell_pair, spell_list, spell_set, spell_map, spell_big_map, spell_contract, spell_operation)
