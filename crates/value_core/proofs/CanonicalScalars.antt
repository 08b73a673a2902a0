-- Canonical forms: what a value of each scalar type is.
use Rattle.std.proofs.Common.{◌≡◌, ℕ, ℤ, pos, ◌^◌, Bool, true, List, refl, ap, sym, ◌∙◌, rules}
use Rattle.std.specs.Prelude.{IsTrue, int_le, nat_lt}
use Rattle.value_core.specs.declared.val.Val.{Val}
use Rattle.value_core.specs.declared.val.Val.TheVariants as value
use Rattle.value_core.specs.declared.val.Val.TheOpen as one
use Rattle.value_core.specs.declared.val.Val.TheViews.{out-Val}
use Rattle.value_core.specs.declared.ty.Ty.TheVariants as kind
use Rattle.value_core.specs.declared.ty.Ty.TheOpen as ty
use Rattle.value_core.specs.declared.ty.Ty.TheViews.{the_lemmas}
use Rattle.value_core.specs.Layer.{Layer, on_parts}
use Rattle.value_core.specs.Typed.{fits, fits_level, has_type}
use Rattle.value_core.proofs.TypeEquations.{has_type-mutez, has_type-nat}
use Rattle.value_core.proofs.CanonicalLevels.{is_rolled, level_fits, no_fit}

unit_level : (x : Layer Val) → fits_level (on_parts fits x) ty.Unit ≡ true → x ≡ one.Unit
unit_level one.Unit h = refl
unit_level x h = no_fit h

pub of_unit : (v : Val) → IsTrue (has_type v kind.Unit) → v ≡ value.Unit
of_unit v typed = is_rolled v _ _ (unit_level (out-Val v) (level_fits v kind.Unit ty.Unit (search (rules, the_lemmas)) typed)) value.rolls-Unit

bool_level : (x : Layer Val) → fits_level (on_parts fits x) ty.Bool ≡ true → (b : Bool) × (x ≡ one.Bool b)
bool_level (one.Bool b) h = (b, refl)
bool_level x h = no_fit h

pub of_bool : (v : Val) → IsTrue (has_type v kind.Bool) → (b : Bool) × (v ≡ value.Bool b)
of_bool v typed =
    let level = bool_level (out-Val v) (level_fits v kind.Bool ty.Bool (search (rules, the_lemmas)) typed) in
    (level.0, is_rolled v _ _ level.1 (value.rolls-Bool level.0))

int_level : (x : Layer Val) → fits_level (on_parts fits x) ty.Int ≡ true → (n : ℤ) × (x ≡ one.Int n)
int_level (one.Int n) h = (n, refl)
int_level x h = no_fit h

pub of_int : (v : Val) → IsTrue (has_type v kind.Int) → (n : ℤ) × (v ≡ value.Int n)
of_int v typed =
    let level = int_level (out-Val v) (level_fits v kind.Int ty.Int (search (rules, the_lemmas)) typed) in
    (level.0, is_rolled v _ _ level.1 (value.rolls-Int level.0))

nat_level : (x : Layer Val) → fits_level (on_parts fits x) ty.Nat ≡ true → (n : ℤ) × (x ≡ one.Nat n)
nat_level (one.Nat n) h = (n, refl)
nat_level x h = no_fit h

pub of_nat : (v : Val) → IsTrue (has_type v kind.Nat) → (n : ℤ) × (v ≡ value.Nat n) × IsTrue (int_le (pos 0) n)
of_nat v typed =
    let level = nat_level (out-Val v) (level_fits v kind.Nat ty.Nat (search (rules, the_lemmas)) typed) in
    let is : v ≡ value.Nat level.0 = is_rolled v _ _ level.1 (value.rolls-Nat level.0) in
    (level.0, is, sym (has_type-nat level.0) ∙ ap (λ w. has_type w kind.Nat) (sym is) ∙ typed)

mutez_level : (x : Layer Val) → fits_level (on_parts fits x) ty.Mutez ≡ true → (n : ℕ) × (x ≡ one.Mutez n)
mutez_level (one.Mutez n) h = (n, refl)
mutez_level x h = no_fit h

pub of_mutez : (v : Val) → IsTrue (has_type v kind.Mutez) → (n : ℕ) × (v ≡ value.Mutez n) × IsTrue (nat_lt n (2 ^ 63))
of_mutez v typed =
    let level = mutez_level (out-Val v) (level_fits v kind.Mutez ty.Mutez (search (rules, the_lemmas)) typed) in
    let is : v ≡ value.Mutez level.0 = is_rolled v _ _ level.1 (value.rolls-Mutez level.0) in
    (level.0, is, sym (has_type-mutez level.0) ∙ ap (λ w. has_type w kind.Mutez) (sym is) ∙ typed)

time_level : (x : Layer Val) → fits_level (on_parts fits x) ty.Time ≡ true → (n : ℤ) × (x ≡ one.Time n)
time_level (one.Time n) h = (n, refl)
time_level x h = no_fit h

pub of_time : (v : Val) → IsTrue (has_type v kind.Time) → (n : ℤ) × (v ≡ value.Time n)
of_time v typed =
    let level = time_level (out-Val v) (level_fits v kind.Time ty.Time (search (rules, the_lemmas)) typed) in
    (level.0, is_rolled v _ _ level.1 (value.rolls-Time level.0))

text_level : (x : Layer Val) → fits_level (on_parts fits x) ty.Text ≡ true → (bytes : List ℕ) × (x ≡ one.Text bytes)
text_level (one.Text bytes) h = (bytes, refl)
text_level x h = no_fit h

pub of_text : (v : Val) → IsTrue (has_type v kind.Text) → (bytes : List ℕ) × (v ≡ value.Text bytes)
of_text v typed =
    let level = text_level (out-Val v) (level_fits v kind.Text ty.Text (search (rules, the_lemmas)) typed) in
    (level.0, is_rolled v _ _ level.1 (value.rolls-Text level.0))

bytes_level : (x : Layer Val) → fits_level (on_parts fits x) ty.Bytes ≡ true → (bytes : List ℕ) × (x ≡ one.Bytes bytes)
bytes_level (one.Bytes bytes) h = (bytes, refl)
bytes_level x h = no_fit h

pub of_bytes : (v : Val) → IsTrue (has_type v kind.Bytes) → (bytes : List ℕ) × (v ≡ value.Bytes bytes)
of_bytes v typed =
    let level = bytes_level (out-Val v) (level_fits v kind.Bytes ty.Bytes (search (rules, the_lemmas)) typed) in
    (level.0, is_rolled v _ _ level.1 (value.rolls-Bytes level.0))

addr_level : (x : Layer Val) → fits_level (on_parts fits x) ty.Addr ≡ true → (address : List ℕ) × (x ≡ one.Addr address)
addr_level (one.Addr address) h = (address, refl)
addr_level x h = no_fit h

pub of_addr : (v : Val) → IsTrue (has_type v kind.Addr) → (address : List ℕ) × (v ≡ value.Addr address)
of_addr v typed =
    let level = addr_level (out-Val v) (level_fits v kind.Addr ty.Addr (search (rules, the_lemmas)) typed) in
    (level.0, is_rolled v _ _ level.1 (value.rolls-Addr level.0))
