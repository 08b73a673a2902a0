-- Types of each kind: which level they show, that they are built of their parts alone, and which kinds differ.
use Rattle.std.proofs.Common.{◌≡◌, ℕ, ap, sym, ◌∙◌, rules, refl}
use Rattle.value_core.specs.declared.ty.Ty.{Ty}
use Rattle.value_core.specs.declared.ty.Ty.TheVariants as type
use Rattle.value_core.specs.declared.ty.Ty.TheOpen as ty
use Rattle.value_core.specs.declared.ty.Ty.TheOpen.{Ty-F}
use Rattle.value_core.specs.declared.ty.Ty.TheViews.{out-Ty, the_lemmas}
use Rattle.michelson_code.specs.declared.operands.Level.{Level}
use Rattle.michelson_code.specs.declared.operands.Level.TheVariants as level
use Rattle.michelson_code.specs.Typing.{level_type}

-- what a type of such a level shows
abbrev pub level_shown : {P : Type 0} → (P → Ty) → Level P → Ty-F Ty
level_shown f level.Unit = ty.Unit
level_shown f level.Bool = ty.Bool
level_shown f level.Int = ty.Int
level_shown f level.Nat = ty.Nat
level_shown f level.Mutez = ty.Mutez
level_shown f level.Time = ty.Time
level_shown f level.Text = ty.Text
level_shown f level.Bytes = ty.Bytes
level_shown f level.Addr = ty.Addr
level_shown f (level.Option p) = ty.Option (f p)
level_shown f (level.Or p q) = ty.Or (f p) (f q)
level_shown f (level.Pair p q) = ty.Pair (f p) (f q)
level_shown f (level.List p) = ty.List (f p)
level_shown f (level.Set p) = ty.Set (f p)
level_shown f (level.Map p q) = ty.Map (f p) (f q)
level_shown f (level.BigMap p q) = ty.BigMap (f p) (f q)
level_shown f (level.Contract p) = ty.Contract (f p)
level_shown f level.Operation = ty.Operation

pub shows : {P : Type 0} (f : P → Ty) (x : Level P) → out-Ty (level_type f x) ≡ level_shown f x
shows f level.Unit = search (rules, the_lemmas)
shows f (level.Option p) = search (rules, the_lemmas)
shows f (level.Or p q) = search (rules, the_lemmas)
shows f (level.Pair p q) = search (rules, the_lemmas)
shows f (level.List p) = search (rules, the_lemmas)
shows f (level.Set p) = search (rules, the_lemmas)
shows f (level.Map p q) = search (rules, the_lemmas)
shows f (level.BigMap p q) = search (rules, the_lemmas)
shows f (level.Contract p) = search (rules, the_lemmas)
shows f _ = search (rules, the_lemmas)

-- two types show alike where they are equal
pub shown_alike : {P Q : Type 0} (f : P → Ty) (g : Q → Ty) (x : Level P) (y : Level Q) → level_type f x ≡ level_type g y → level_shown f x ≡ level_shown g y
shown_alike f g x y same = sym (shows f x) ∙ ap out-Ty same ∙ shows g y

-- the kind of a level, as a number
abbrev pub level_kind : {P : Type 0} → Level P → ℕ
level_kind level.Unit = 0
level_kind level.Bool = 1
level_kind level.Int = 2
level_kind level.Nat = 3
level_kind level.Mutez = 4
level_kind level.Time = 5
level_kind level.Text = 6
level_kind level.Bytes = 7
level_kind level.Addr = 8
level_kind (level.Option p) = 9
level_kind (level.Or p q) = 10
level_kind (level.Pair p q) = 11
level_kind (level.List p) = 12
level_kind (level.Set p) = 13
level_kind (level.Map p q) = 14
level_kind (level.BigMap p q) = 15
level_kind (level.Contract p) = 16
level_kind level.Operation = 17

abbrev pub kind_shown : Ty-F Ty → ℕ
kind_shown ty.Unit = 0
kind_shown ty.Bool = 1
kind_shown ty.Int = 2
kind_shown ty.Nat = 3
kind_shown ty.Mutez = 4
kind_shown ty.Time = 5
kind_shown ty.Text = 6
kind_shown ty.Bytes = 7
kind_shown ty.Addr = 8
kind_shown (ty.Option p) = 9
kind_shown (ty.Or p q) = 10
kind_shown (ty.Pair p q) = 11
kind_shown (ty.List p) = 12
kind_shown (ty.Set p) = 13
kind_shown (ty.Map p q) = 14
kind_shown (ty.BigMap p q) = 15
kind_shown (ty.Contract p) = 16
kind_shown ty.Operation = 17

pub kind-shown : {P : Type 0} (f : P → Ty) (x : Level P) → kind_shown (level_shown f x) ≡ level_kind x
kind-shown f level.Unit = refl
kind-shown f _ = refl

-- equal types are of one kind
pub one_kind : {P Q : Type 0} (f : P → Ty) (g : Q → Ty) (x : Level P) (y : Level Q) → level_type f x ≡ level_type g y → level_kind x ≡ level_kind y
one_kind f g x y same = sym (kind-shown f x) ∙ ap kind_shown (shown_alike f g x y same) ∙ kind-shown g y

abbrev itself : Ty → Ty
itself t = t

-- ---- the parts of a type

pub option_part : (a b : Ty) → type.Option a ≡ type.Option b → a ≡ b
option_part a b same = let shown : ty.Option a ≡ ty.Option b = shown_alike itself itself (level.Option a) (level.Option b) same in cc

pub or_parts : (a b c d : Ty) → type.Or a b ≡ type.Or c d → (a ≡ c) × (b ≡ d)
or_parts a b c d same = let shown : ty.Or a b ≡ ty.Or c d = shown_alike itself itself (level.Or a b) (level.Or c d) same in (cc, cc)

pub pair_parts : (a b c d : Ty) → type.Pair a b ≡ type.Pair c d → (a ≡ c) × (b ≡ d)
pair_parts a b c d same = let shown : ty.Pair a b ≡ ty.Pair c d = shown_alike itself itself (level.Pair a b) (level.Pair c d) same in (cc, cc)

pub list_part : (a b : Ty) → type.List a ≡ type.List b → a ≡ b
list_part a b same = let shown : ty.List a ≡ ty.List b = shown_alike itself itself (level.List a) (level.List b) same in cc

pub set_part : (a b : Ty) → type.Set a ≡ type.Set b → a ≡ b
set_part a b same = let shown : ty.Set a ≡ ty.Set b = shown_alike itself itself (level.Set a) (level.Set b) same in cc

pub map_parts : (a b c d : Ty) → type.Map a b ≡ type.Map c d → (a ≡ c) × (b ≡ d)
map_parts a b c d same = let shown : ty.Map a b ≡ ty.Map c d = shown_alike itself itself (level.Map a b) (level.Map c d) same in (cc, cc)

-- ---- kinds that differ

pub list_is_no_set : (a b : Ty) → type.List a ≡ type.Set b → ⊥
list_is_no_set a b same = let shown : ty.List a ≡ ty.Set b = shown_alike itself itself (level.List a) (level.Set b) same in cc

pub list_is_no_map : (a k v : Ty) → type.List a ≡ type.Map k v → ⊥
list_is_no_map a k v same = let shown : ty.List a ≡ ty.Map k v = shown_alike itself itself (level.List a) (level.Map k v) same in cc

pub set_is_no_map : (a k v : Ty) → type.Set a ≡ type.Map k v → ⊥
set_is_no_map a k v same = let shown : ty.Set a ≡ ty.Map k v = shown_alike itself itself (level.Set a) (level.Map k v) same in cc

pub list_is_no_text : (a : Ty) → type.List a ≡ type.Text → ⊥
list_is_no_text a same = let shown : ty.List a ≡ ty.Text = shown_alike itself itself (level.List a) level.Text same in cc

pub list_is_no_bytes : (a : Ty) → type.List a ≡ type.Bytes → ⊥
list_is_no_bytes a same = let shown : ty.List a ≡ ty.Bytes = shown_alike itself itself (level.List a) level.Bytes same in cc
