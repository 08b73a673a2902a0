-- The types of values of each kind: one level of the type is known by one level of the value.
use Rattle.std.proofs.Common.{◌≡◌, ℕ, ℤ, true, Bool, List, refl, ap, sym, ◌∙◌}
use Rattle.std.specs.Prelude.{IsTrue}
use Rattle.std.proofs.lemmas.Bool.{and_parts}
use Rattle.value_core.specs.declared.val.Val.{Val}
use Rattle.value_core.specs.declared.val.Emit.{Emit}
use Rattle.value_core.specs.declared.val.Val.TheVariants as value
use Rattle.value_core.specs.declared.val.Val.TheOpen as one
use Rattle.value_core.specs.declared.val.Val.TheViews.{roll-Val}
use Rattle.value_core.specs.declared.ty.Ty.{Ty}
use Rattle.value_core.specs.declared.ty.Ty.TheVariants as kind
use Rattle.value_core.specs.declared.ty.Ty.TheOpen as ty
use Rattle.value_core.specs.declared.ty.Ty.TheOpen.{Ty-F}
use Rattle.value_core.specs.declared.ty.Ty.TheViews.{out-Ty, roll-Ty}
use Rattle.value_core.specs.Forms.{are_entries_of, are_of}
use Rattle.value_core.specs.Layer.{Layer, on_parts}
use Rattle.value_core.specs.Sound.{is_sound}
use Rattle.value_core.specs.TypeLevels.{roll-out}
use Rattle.value_core.specs.Typed.{fits, fits_level, has_type}
use Rattle.value_core.proofs.CanonicalLevels.{no_fit}
use Rattle.value_core.proofs.Levels.{by_level-roll}
use Rattle.value_core.proofs.TypeEquations.{has_type-left, has_type-list, has_type-map, has_type-pair, has_type-right, has_type-set, has_type-some}

-- a value whose level is known is built as its type's level
fit_at : (x : Layer Val) (v : Val) (t : Ty) → roll-Val x ≡ v → IsTrue (has_type v t) → fits_level (on_parts fits x) (out-Ty t) ≡ true
fit_at x v t rolls typed =
    sym (ap (λ f. f t) (by_level-roll {A = Ty → Bool} (λ y u. fits_level y (out-Ty u)) x))
    ∙ ap (λ w. fits w t) rolls ∙ (and_parts (is_sound v) (fits v t) typed).1

-- a type whose level is known
type_is : (t : Ty) (y : Ty-F Ty) (u : Ty) → out-Ty t ≡ y → roll-Ty y ≡ u → t ≡ u
type_is t y u shows rolls = sym (roll-out t) ∙ ap roll-Ty shows ∙ rolls

-- the value has its type under the name that is known
known : (v : Val) (t u : Ty) → t ≡ u → IsTrue (has_type v t) → has_type v u ≡ true
known v t u is typed = ap (has_type v) (sym is) ∙ typed

-- ---- of no parts

unit_level : (y : Ty-F Ty) → fits_level (on_parts fits one.Unit) y ≡ true → y ≡ ty.Unit
unit_level ty.Unit h = refl
unit_level _ h = no_fit h

pub kind-unit : (t : Ty) → IsTrue (has_type value.Unit t) → t ≡ kind.Unit
kind-unit t typed = type_is t ty.Unit _ (unit_level (out-Ty t) (fit_at one.Unit _ t value.rolls-Unit typed)) kind.rolls-Unit

bool_level : (b : Bool) (y : Ty-F Ty) → fits_level (on_parts fits (one.Bool b)) y ≡ true → y ≡ ty.Bool
bool_level b ty.Bool h = refl
bool_level b _ h = no_fit h

pub kind-bool : (b : Bool) (t : Ty) → IsTrue (has_type (value.Bool b) t) → t ≡ kind.Bool
kind-bool b t typed = type_is t ty.Bool _ (bool_level b (out-Ty t) (fit_at (one.Bool b) _ t (value.rolls-Bool b) typed)) kind.rolls-Bool

int_level : (n : ℤ) (y : Ty-F Ty) → fits_level (on_parts fits (one.Int n)) y ≡ true → y ≡ ty.Int
int_level n ty.Int h = refl
int_level n _ h = no_fit h

pub kind-int : (n : ℤ) (t : Ty) → IsTrue (has_type (value.Int n) t) → t ≡ kind.Int
kind-int n t typed = type_is t ty.Int _ (int_level n (out-Ty t) (fit_at (one.Int n) _ t (value.rolls-Int n) typed)) kind.rolls-Int

nat_level : (n : ℤ) (y : Ty-F Ty) → fits_level (on_parts fits (one.Nat n)) y ≡ true → y ≡ ty.Nat
nat_level n ty.Nat h = refl
nat_level n _ h = no_fit h

pub kind-nat : (n : ℤ) (t : Ty) → IsTrue (has_type (value.Nat n) t) → t ≡ kind.Nat
kind-nat n t typed = type_is t ty.Nat _ (nat_level n (out-Ty t) (fit_at (one.Nat n) _ t (value.rolls-Nat n) typed)) kind.rolls-Nat

mutez_level : (n : ℕ) (y : Ty-F Ty) → fits_level (on_parts fits (one.Mutez n)) y ≡ true → y ≡ ty.Mutez
mutez_level n ty.Mutez h = refl
mutez_level n _ h = no_fit h

pub kind-mutez : (n : ℕ) (t : Ty) → IsTrue (has_type (value.Mutez n) t) → t ≡ kind.Mutez
kind-mutez n t typed = type_is t ty.Mutez _ (mutez_level n (out-Ty t) (fit_at (one.Mutez n) _ t (value.rolls-Mutez n) typed)) kind.rolls-Mutez

time_level : (n : ℤ) (y : Ty-F Ty) → fits_level (on_parts fits (one.Time n)) y ≡ true → y ≡ ty.Time
time_level n ty.Time h = refl
time_level n _ h = no_fit h

pub kind-time : (n : ℤ) (t : Ty) → IsTrue (has_type (value.Time n) t) → t ≡ kind.Time
kind-time n t typed = type_is t ty.Time _ (time_level n (out-Ty t) (fit_at (one.Time n) _ t (value.rolls-Time n) typed)) kind.rolls-Time

text_level : (text : List ℕ) (y : Ty-F Ty) → fits_level (on_parts fits (one.Text text)) y ≡ true → y ≡ ty.Text
text_level text ty.Text h = refl
text_level text _ h = no_fit h

pub kind-text : (text : List ℕ) (t : Ty) → IsTrue (has_type (value.Text text) t) → t ≡ kind.Text
kind-text text t typed = type_is t ty.Text _ (text_level text (out-Ty t) (fit_at (one.Text text) _ t (value.rolls-Text text) typed)) kind.rolls-Text

bytes_level : (bytes : List ℕ) (y : Ty-F Ty) → fits_level (on_parts fits (one.Bytes bytes)) y ≡ true → y ≡ ty.Bytes
bytes_level bytes ty.Bytes h = refl
bytes_level bytes _ h = no_fit h

pub kind-bytes : (bytes : List ℕ) (t : Ty) → IsTrue (has_type (value.Bytes bytes) t) → t ≡ kind.Bytes
kind-bytes bytes t typed = type_is t ty.Bytes _ (bytes_level bytes (out-Ty t) (fit_at (one.Bytes bytes) _ t (value.rolls-Bytes bytes) typed)) kind.rolls-Bytes

addr_level : (address : List ℕ) (y : Ty-F Ty) → fits_level (on_parts fits (one.Addr address)) y ≡ true → y ≡ ty.Addr
addr_level address ty.Addr h = refl
addr_level address _ h = no_fit h

pub kind-addr : (address : List ℕ) (t : Ty) → IsTrue (has_type (value.Addr address) t) → t ≡ kind.Addr
kind-addr address t typed = type_is t ty.Addr _ (addr_level address (out-Ty t) (fit_at (one.Addr address) _ t (value.rolls-Addr address) typed)) kind.rolls-Addr

operation_level : (emit : Emit) (y : Ty-F Ty) → fits_level (on_parts fits (one.Operation emit)) y ≡ true → y ≡ ty.Operation
operation_level emit ty.Operation h = refl
operation_level emit _ h = no_fit h

pub kind-operation : (emit : Emit) (t : Ty) → IsTrue (has_type (value.Operation emit) t) → t ≡ kind.Operation
kind-operation emit t typed = type_is t ty.Operation _ (operation_level emit (out-Ty t) (fit_at (one.Operation emit) _ t (value.rolls-Operation emit) typed)) kind.rolls-Operation

nothing_level : (y : Ty-F Ty) → fits_level (on_parts fits one.Nothing) y ≡ true → (s : Ty) × (y ≡ ty.Option s)
nothing_level (ty.Option s) h = (s, refl)
nothing_level _ h = no_fit h

pub kind-nothing : (t : Ty) → IsTrue (has_type value.Nothing t) → (s : Ty) × (t ≡ kind.Option s)
kind-nothing t typed =
    let level = nothing_level (out-Ty t) (fit_at one.Nothing _ t value.rolls-Nothing typed) in
    (level.0, type_is t _ _ level.1 (kind.rolls-Option level.0))

big_map_level : (place version : ℕ) (y : Ty-F Ty) → fits_level (on_parts fits (one.BigMap place version)) y ≡ true → (k w : Ty) × (y ≡ ty.BigMap k w)
big_map_level place version (ty.BigMap k w) h = (k, w, refl)
big_map_level place version _ h = no_fit h

pub kind-big_map : (place version : ℕ) (t : Ty) → IsTrue (has_type (value.BigMap place version) t) → (k w : Ty) × (t ≡ kind.BigMap k w)
kind-big_map place version t typed =
    let level = big_map_level place version (out-Ty t) (fit_at (one.BigMap place version) _ t (value.rolls-BigMap place version) typed) in
    (level.0, level.1, type_is t _ _ level.2 (kind.rolls-BigMap level.0 level.1))

contract_level : (address entry : List ℕ) (y : Ty-F Ty) → fits_level (on_parts fits (one.Contract address entry)) y ≡ true → (s : Ty) × (y ≡ ty.Contract s)
contract_level address entry (ty.Contract s) h = (s, refl)
contract_level address entry _ h = no_fit h

pub kind-contract : (address entry : List ℕ) (t : Ty) → IsTrue (has_type (value.Contract address entry) t) → (s : Ty) × (t ≡ kind.Contract s)
kind-contract address entry t typed =
    let level = contract_level address entry (out-Ty t) (fit_at (one.Contract address entry) _ t (value.rolls-Contract address entry) typed) in
    (level.0, type_is t _ _ level.1 (kind.rolls-Contract level.0))

-- ---- of parts

some_level : (v : Val) (y : Ty-F Ty) → fits_level (on_parts fits (one.Some v)) y ≡ true → (s : Ty) × (y ≡ ty.Option s)
some_level v (ty.Option s) h = (s, refl)
some_level v _ h = no_fit h

pub kind-some : (v : Val) (t : Ty) → IsTrue (has_type (value.Some v) t) → (s : Ty) × (t ≡ kind.Option s) × IsTrue (has_type v s)
kind-some v t typed =
    let level = some_level v (out-Ty t) (fit_at (one.Some v) _ t (value.rolls-Some v) typed) in
    let is : t ≡ kind.Option level.0 = type_is t _ _ level.1 (kind.rolls-Option level.0) in
    (level.0, is, sym (has_type-some v level.0) ∙ known (value.Some v) t _ is typed)

left_level : (v : Val) (y : Ty-F Ty) → fits_level (on_parts fits (one.Left v)) y ≡ true → (s u : Ty) × (y ≡ ty.Or s u)
left_level v (ty.Or s u) h = (s, u, refl)
left_level v _ h = no_fit h

pub kind-left : (v : Val) (t : Ty) → IsTrue (has_type (value.Left v) t) → (s u : Ty) × (t ≡ kind.Or s u) × IsTrue (has_type v s)
kind-left v t typed =
    let level = left_level v (out-Ty t) (fit_at (one.Left v) _ t (value.rolls-Left v) typed) in
    let is : t ≡ kind.Or level.0 level.1 = type_is t _ _ level.2 (kind.rolls-Or level.0 level.1) in
    (level.0, level.1, is, sym (has_type-left v level.0 level.1) ∙ known (value.Left v) t _ is typed)

right_level : (v : Val) (y : Ty-F Ty) → fits_level (on_parts fits (one.Right v)) y ≡ true → (s u : Ty) × (y ≡ ty.Or s u)
right_level v (ty.Or s u) h = (s, u, refl)
right_level v _ h = no_fit h

pub kind-right : (v : Val) (t : Ty) → IsTrue (has_type (value.Right v) t) → (s u : Ty) × (t ≡ kind.Or s u) × IsTrue (has_type v u)
kind-right v t typed =
    let level = right_level v (out-Ty t) (fit_at (one.Right v) _ t (value.rolls-Right v) typed) in
    let is : t ≡ kind.Or level.0 level.1 = type_is t _ _ level.2 (kind.rolls-Or level.0 level.1) in
    (level.0, level.1, is, sym (has_type-right v level.0 level.1) ∙ known (value.Right v) t _ is typed)

pair_level : (a b : Val) (y : Ty-F Ty) → fits_level (on_parts fits (one.Pair a b)) y ≡ true → (s u : Ty) × (y ≡ ty.Pair s u)
pair_level a b (ty.Pair s u) h = (s, u, refl)
pair_level a b _ h = no_fit h

pub kind-pair : (a b : Val) (t : Ty) → IsTrue (has_type (value.Pair a b) t) →
    (s u : Ty) × (t ≡ kind.Pair s u) × IsTrue (has_type a s) × IsTrue (has_type b u)
kind-pair a b t typed =
    let level = pair_level a b (out-Ty t) (fit_at (one.Pair a b) _ t (value.rolls-Pair a b) typed) in
    let is : t ≡ kind.Pair level.0 level.1 = type_is t _ _ level.2 (kind.rolls-Pair level.0 level.1) in
    let both = and_parts (has_type a level.0) (has_type b level.1) (sym (has_type-pair a b level.0 level.1) ∙ known (value.Pair a b) t _ is typed) in
    (level.0, level.1, is, both.0, both.1)

list_level : (items : List Val) (y : Ty-F Ty) → fits_level (on_parts fits (one.List items)) y ≡ true → (s : Ty) × (y ≡ ty.List s)
list_level items (ty.List s) h = (s, refl)
list_level items _ h = no_fit h

pub kind-list : (items : List Val) (t : Ty) → IsTrue (has_type (value.List items) t) → (s : Ty) × (t ≡ kind.List s) × IsTrue (are_of s items)
kind-list items t typed =
    let level = list_level items (out-Ty t) (fit_at (one.List items) _ t (value.rolls-List items) typed) in
    let is : t ≡ kind.List level.0 = type_is t _ _ level.1 (kind.rolls-List level.0) in
    (level.0, is, (and_parts _ (are_of level.0 items) (sym (has_type-list items level.0) ∙ known (value.List items) t _ is typed)).1)

set_level : (items : List Val) (y : Ty-F Ty) → fits_level (on_parts fits (one.Set items)) y ≡ true → (s : Ty) × (y ≡ ty.Set s)
set_level items (ty.Set s) h = (s, refl)
set_level items _ h = no_fit h

pub kind-set : (items : List Val) (t : Ty) → IsTrue (has_type (value.Set items) t) → (s : Ty) × (t ≡ kind.Set s) × IsTrue (are_of s items)
kind-set items t typed =
    let level = set_level items (out-Ty t) (fit_at (one.Set items) _ t (value.rolls-Set items) typed) in
    let is : t ≡ kind.Set level.0 = type_is t _ _ level.1 (kind.rolls-Set level.0) in
    (level.0, is, (and_parts _ (are_of level.0 items) (sym (has_type-set items level.0) ∙ known (value.Set items) t _ is typed)).1)

map_level : (entries : List (Val × Val)) (y : Ty-F Ty) → fits_level (on_parts fits (one.Map entries)) y ≡ true → (k w : Ty) × (y ≡ ty.Map k w)
map_level entries (ty.Map k w) h = (k, w, refl)
map_level entries _ h = no_fit h

pub kind-map : (entries : List (Val × Val)) (t : Ty) → IsTrue (has_type (value.Map entries) t) →
    (k w : Ty) × (t ≡ kind.Map k w) × IsTrue (are_entries_of k w entries)
kind-map entries t typed =
    let level = map_level entries (out-Ty t) (fit_at (one.Map entries) _ t (value.rolls-Map entries) typed) in
    let is : t ≡ kind.Map level.0 level.1 = type_is t _ _ level.2 (kind.rolls-Map level.0 level.1) in
    (level.0, level.1, is, (and_parts _ (are_entries_of level.0 level.1 entries) (sym (has_type-map entries level.0 level.1) ∙ known (value.Map entries) t _ is typed)).1)
