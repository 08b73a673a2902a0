-- Which values of each variant have which type: from the parts to the whole, and back.
use Rattle.std.proofs.Common.{◌≡◌, ℕ, ℤ, pos, ◌^◌, Bool, true, false, List, [], ◌∷◌, map, refl, ap, sym, ◌∙◌, rules}
use Rattle.std.specs.Prelude.{◌&&◌, int_le, nat_lt}
use Rattle.std.specs.List.{list_all}
use Rattle.std.proofs.lemmas.List.Folds.{list_all-map}
use Rattle.value_core.specs.declared.val.Val.{Val}
use Rattle.value_core.specs.declared.val.Emit.{Emit}
use Rattle.value_core.specs.declared.val.Val.TheVariants as value
use Rattle.value_core.specs.declared.val.Val.TheOpen as one
use Rattle.value_core.specs.declared.val.Val.TheViews.{out-Val, roll-Val}
use Rattle.value_core.specs.declared.ty.Ty.{Ty}
use Rattle.value_core.specs.declared.ty.Ty.TheVariants as kind
use Rattle.value_core.specs.declared.ty.Ty.TheOpen as ty
use Rattle.value_core.specs.declared.ty.Ty.TheOpen.{Ty-F}
use Rattle.value_core.specs.declared.ty.Ty.TheViews.{out-Ty, the_lemmas}
use Rattle.value_core.specs.Layer.{Layer, flat, on_parts, parts_of}
use Rattle.value_core.specs.Sound.{ascends, is_countable, is_sound, is_sound_level}
use Rattle.value_core.specs.Typed.{fits, fits_level, has_type}
use Rattle.value_core.proofs.Bools.{exchanged, regrouped}
use Rattle.value_core.proofs.Levels.{by_level-is, by_level-roll}
use Rattle.value_core.proofs.Everywhere.{everywhere-roll}

-- built as the type is, at one level
pub fits-is : (v : Val) (t : Ty) → fits v t ≡ fits_level (on_parts fits (out-Val v)) (out-Ty t)
fits-is v t = ap (λ f. f t) (by_level-is {A = Ty → Bool} (λ x t. fits_level x (out-Ty t)) v)

-- one level of the value and of the type
abbrev level_has : Layer Val → Ty-F Ty → Bool
level_has x y = (is_sound_level x && list_all is_sound (parts_of x)) && fits_level (on_parts fits x) y

has_at : (x : Layer Val) (v : Val) (y : Ty-F Ty) (t : Ty) → roll-Val x ≡ v → out-Ty t ≡ y → has_type v t ≡ level_has x y
has_at x v y t rolls shows =
    ap (λ w. has_type w t) (sym rolls)
    ∙ (λ i. everywhere-roll is_sound_level x i && by_level-roll {A = Ty → Bool} (λ x t. fits_level x (out-Ty t)) x i t)
    ∙ ap (level_has x) shows

-- ---- of no parts

pub has_type-unit : has_type value.Unit kind.Unit ≡ true
has_type-unit = has_at one.Unit _ ty.Unit _ value.rolls-Unit (search (rules, the_lemmas))

pub has_type-bool : (b : Bool) → has_type (value.Bool b) kind.Bool ≡ true
has_type-bool b = has_at (one.Bool b) _ ty.Bool _ (value.rolls-Bool b) (search (rules, the_lemmas))

pub has_type-int : (n : ℤ) → has_type (value.Int n) kind.Int ≡ true
has_type-int n = has_at (one.Int n) _ ty.Int _ (value.rolls-Int n) (search (rules, the_lemmas))

and_true : (b : Bool) → ((b && true) && true) ≡ b
and_true true = refl
and_true false = refl

pub has_type-nat : (n : ℤ) → has_type (value.Nat n) kind.Nat ≡ int_le (pos 0) n
has_type-nat n = has_at (one.Nat n) _ ty.Nat _ (value.rolls-Nat n) (search (rules, the_lemmas)) ∙ and_true (int_le (pos 0) n)

pub has_type-mutez : (n : ℕ) → has_type (value.Mutez n) kind.Mutez ≡ nat_lt n (2 ^ 63)
has_type-mutez n = has_at (one.Mutez n) _ ty.Mutez _ (value.rolls-Mutez n) (search (rules, the_lemmas)) ∙ and_true (nat_lt n (2 ^ 63))

pub has_type-time : (n : ℤ) → has_type (value.Time n) kind.Time ≡ true
has_type-time n = has_at (one.Time n) _ ty.Time _ (value.rolls-Time n) (search (rules, the_lemmas))

pub has_type-text : (bytes : List ℕ) → has_type (value.Text bytes) kind.Text ≡ true
has_type-text bytes = has_at (one.Text bytes) _ ty.Text _ (value.rolls-Text bytes) (search (rules, the_lemmas))

pub has_type-bytes : (bytes : List ℕ) → has_type (value.Bytes bytes) kind.Bytes ≡ true
has_type-bytes bytes = has_at (one.Bytes bytes) _ ty.Bytes _ (value.rolls-Bytes bytes) (search (rules, the_lemmas))

pub has_type-addr : (address : List ℕ) → has_type (value.Addr address) kind.Addr ≡ true
has_type-addr address = has_at (one.Addr address) _ ty.Addr _ (value.rolls-Addr address) (search (rules, the_lemmas))

pub has_type-big_map : (place version : ℕ) (k v : Ty) → has_type (value.BigMap place version) (kind.BigMap k v) ≡ nat_lt place 16
has_type-big_map place version k v =
    has_at (one.BigMap place version) _ (ty.BigMap k v) _ (value.rolls-BigMap place version) (search (rules, the_lemmas)) ∙ and_true (nat_lt place 16)

pub has_type-contract : (address entry : List ℕ) (t : Ty) → has_type (value.Contract address entry) (kind.Contract t) ≡ true
has_type-contract address entry t =
    has_at (one.Contract address entry) _ (ty.Contract t) _ (value.rolls-Contract address entry) (search (rules, the_lemmas))

-- ---- of one part, or two

one_part : (s f : Bool) → ((s && true) && f) ≡ (s && f)
one_part true f = refl
one_part false f = refl

two_parts : (s s' f f' : Bool) → ((s && (s' && true)) && (f && f')) ≡ ((s && f) && (s' && f'))
two_parts true true true f' = refl
two_parts true true false f' = refl
two_parts true false true f' = refl
two_parts true false false f' = refl
two_parts false s' f f' = refl

pub has_type-nothing : (t : Ty) → has_type value.Nothing (kind.Option t) ≡ true
has_type-nothing t = has_at one.Nothing _ (ty.Option t) _ value.rolls-Nothing (search (rules, the_lemmas))

pub has_type-some : (part : Val) (t : Ty) → has_type (value.Some part) (kind.Option t) ≡ has_type part t
has_type-some part t = has_at (one.Some part) _ (ty.Option t) _ (value.rolls-Some part) (search (rules, the_lemmas)) ∙ one_part (is_sound part) (fits part t)

pub has_type-left : (part : Val) (s t : Ty) → has_type (value.Left part) (kind.Or s t) ≡ has_type part s
has_type-left part s t = has_at (one.Left part) _ (ty.Or s t) _ (value.rolls-Left part) (search (rules, the_lemmas)) ∙ one_part (is_sound part) (fits part s)

pub has_type-right : (part : Val) (s t : Ty) → has_type (value.Right part) (kind.Or s t) ≡ has_type part t
has_type-right part s t = has_at (one.Right part) _ (ty.Or s t) _ (value.rolls-Right part) (search (rules, the_lemmas)) ∙ one_part (is_sound part) (fits part t)

pub has_type-pair : (a b : Val) (s t : Ty) → has_type (value.Pair a b) (kind.Pair s t) ≡ (has_type a s && has_type b t)
has_type-pair a b s t = has_at (one.Pair a b) _ (ty.Pair s t) _ (value.rolls-Pair a b) (search (rules, the_lemmas)) ∙ two_parts (is_sound a) (is_sound b) (fits a s) (fits b t)

and_last : (n s : Bool) → ((n && (s && true)) && true) ≡ (n && s)
and_last true true = refl
and_last true false = refl
and_last false s = refl

pub has_type-operation : (emit : Emit) → has_type (value.Operation emit) kind.Operation ≡ (nat_lt emit.amount (2 ^ 63) && is_sound emit.param)
has_type-operation emit =
    has_at (one.Operation emit) _ ty.Operation _ (value.rolls-Operation emit) (search (rules, the_lemmas)) ∙ and_last (nat_lt emit.amount (2 ^ 63)) (is_sound emit.param)

-- ---- of many

all_and : {A : Type 0} (p q : A → Bool) (xs : List A) → (list_all p xs && list_all q xs) ≡ list_all (λ x. p x && q x) xs
all_and p q [] = refl
all_and p q (x ∷ xs) = exchanged (p x) (list_all p xs) (q x) (list_all q xs) ∙ ap (λ b. (p x && q x) && b) (all_and p q xs)

rest_and : (n s f r : Bool) → (s && f) ≡ r → ((n && s) && f) ≡ (n && r)
rest_and true s f r e = e
rest_and false s f r e = refl

typed_items : (items : List Val) (t : Ty) → (list_all is_sound items && list_all (λ f. f t) (map fits items)) ≡ list_all (λ item. has_type item t) items
typed_items items t =
    ap (λ b. list_all is_sound items && b) (list_all-map (λ (f : Ty → Bool). f t) fits items) ∙ all_and is_sound (λ item. fits item t) items

pub has_type-list : (items : List Val) (t : Ty) → has_type (value.List items) (kind.List t) ≡ (is_countable items && list_all (λ item. has_type item t) items)
has_type-list items t =
    has_at (one.List items) _ (ty.List t) _ (value.rolls-List items) (search (rules, the_lemmas)) ∙ rest_and _ _ _ _ (typed_items items t)

pub has_type-set : (items : List Val) (t : Ty) →
    has_type (value.Set items) (kind.Set t) ≡ ((is_countable items && ascends items) && list_all (λ item. has_type item t) items)
has_type-set items t =
    has_at (one.Set items) _ (ty.Set t) _ (value.rolls-Set items) (search (rules, the_lemmas)) ∙ rest_and _ _ _ _ (typed_items items t)

abbrev fit_both : Val × Val → (Ty → Bool) × (Ty → Bool)
fit_both e = (fits e.0, fits e.1)

sound_entries : (es : List (Val × Val)) → list_all is_sound (flat es) ≡ list_all (λ e. is_sound e.0 && is_sound e.1) es
sound_entries [] = refl
sound_entries (e ∷ es) = ap (λ b. is_sound e.0 && (is_sound e.1 && b)) (sound_entries es) ∙ regrouped (is_sound e.0) (is_sound e.1) _

entry_parts : (k v : Ty) (es : List (Val × Val)) →
    list_all (λ e. (is_sound e.0 && is_sound e.1) && (fits e.0 k && fits e.1 v)) es ≡ list_all (λ e. has_type e.0 k && has_type e.1 v) es
entry_parts k v [] = refl
entry_parts k v (e ∷ es) = λ i. exchanged (is_sound e.0) (is_sound e.1) (fits e.0 k) (fits e.1 v) i && entry_parts k v es i

typed_entries : (es : List (Val × Val)) (k v : Ty) →
    (list_all is_sound (flat es) && list_all (λ e. e.0 k && e.1 v) (map fit_both es)) ≡ list_all (λ e. has_type e.0 k && has_type e.1 v) es
typed_entries es k v =
    (λ i. sound_entries es i && list_all-map (λ (e : (Ty → Bool) × (Ty → Bool)). e.0 k && e.1 v) fit_both es i)
    ∙ all_and (λ e. is_sound e.0 && is_sound e.1) (λ e. fits e.0 k && fits e.1 v) es
    ∙ entry_parts k v es

pub has_type-map : (es : List (Val × Val)) (k v : Ty) →
    has_type (value.Map es) (kind.Map k v) ≡ ((is_countable es && ascends (map (λ e. e.0) es)) && list_all (λ e. has_type e.0 k && has_type e.1 v) es)
has_type-map es k v =
    has_at (one.Map es) _ (ty.Map k v) _ (value.rolls-Map es) (search (rules, the_lemmas)) ∙ rest_and _ _ _ _ (typed_entries es k v)
