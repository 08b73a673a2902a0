-- Addresses as words: what is printed for an address is visible, and is read as the address.
use Rattle.std.proofs.Common.{◌≡◌, ◌≢◌, ℕ, zero, suc, ◌<◌, ◌/◌, ◌%◌, Bool, true, List, [], ◌∷◌, length, get_or, refl, ap, ◌∙◌, arith}
use Rattle.std.specs.Prelude.{nat_lt, ◌==◌, nat_le, slice_index}
use Rattle.std.specs.List.{list_all}
use Rattle.std.proofs.lemmas.Bool.{eqb-true, ltb-true}
use Rattle.hex.specs.Hex.{encode_with, lower_digits}
use Rattle.hex.proofs.HexLemmas.{decode_sized-encode_lower}
use Rattle.value_core.proofs.Bools.{both_true, first_true, second_true}
use Rattle.value_core.specs.Lawful.{are_bytes, is_lawful_address}
use Rattle.value_core.specs.Leaves.{is_address}
use Rattle.chain_text.specs.Addresses.{AddressesAreReadAgain, address_of, address_or_none, address_word}
use Rattle.chain_text.proofs.PrintedWords.{is_visible}

bytes_are : (bytes : List ℕ) → are_bytes bytes ≡ true → (i : ℕ) → get_or bytes i 0 < 256
bytes_are [] all i = omega arith
bytes_are (b ∷ bytes) all zero = ltb-true b 256 (first_true (nat_lt b 256) (are_bytes bytes) all)
bytes_are (b ∷ bytes) all (suc i) = bytes_are bytes (second_true (nat_lt b 256) (are_bytes bytes) all) i

at_place : (p : ℕ → Bool) (xs : List ℕ) (i : ℕ) → list_all p xs ≡ true → i < length xs → p (get_or xs i 0) ≡ true
at_place p [] i all within = absurd (omega arith)
at_place p (x ∷ xs) zero all within = first_true (p x) (list_all p xs) all
at_place p (x ∷ xs) (suc i) all within = at_place p xs i (second_true (p x) (list_all p xs) all) (omega arith)

digit_visible : (n : ℕ) → n < 16 → is_visible (get_or lower_digits n 0) ≡ true
digit_visible n within = at_place is_visible lower_digits n refl within

digits_visible : (bytes : List ℕ) → are_bytes bytes ≡ true → list_all is_visible (encode_with lower_digits bytes) ≡ true
unfolding encode_with
digits_visible [] all = refl
digits_visible (b ∷ bytes) all =
    let small : b < 256 = ltb-true b 256 (first_true (nat_lt b 256) (are_bytes bytes) all) in
    both_true (is_visible (get_or lower_digits (b / 16) 0)) _ (digit_visible (b / 16) (omega arith))
    (both_true (is_visible (get_or lower_digits (b % 16) 0)) _ (digit_visible (b % 16) (omega arith)) (digits_visible bytes (second_true (nat_lt b 256) (are_bytes bytes) all)))

pub word_visible : (address : List ℕ) → is_lawful_address address ≡ true → list_all is_visible (address_word address) ≡ true
word_visible address lawful = digits_visible address (second_true (is_address address) (are_bytes address) lawful)

pub word_some : (address : List ℕ) → address_word address ≢ []
word_some address none = absurd cc

pub read_again : AddressesAreReadAgain
unfolding address_of
read_again address lawful =
    let is : is_address address ≡ true = first_true (is_address address) (are_bytes address) lawful in
    let size : length address ≡ 22 = eqb-true (length address) 22 (first_true (length address == 22) (nat_le (slice_index address 0) 1) is) in
    let read = decode_sized-encode_lower address 22 size (bytes_are address (second_true (is_address address) (are_bytes address) lawful)) in
    ap address_or_none read ∙ rw is refl
