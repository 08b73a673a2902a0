-- Each word of the table of forms is found in the table of its group, and what a word there makes is written with it.
use Rattle.std.proofs.Common.{◌≡◌, ℕ, Bool, true, false, List, [], ◌∷◌, map, nat_eq, Option, None, Some, refl, ap, sym, ◌∙◌}
use Rattle.std.specs.Prelude.{codes, if◌then◌else◌}
use Rattle.std.specs.Option.{option_map_or}
use Rattle.std.specs.Str.{bytes_eq}
use Rattle.std.proofs.lemmas.Slice.Eq.{bytes_eq-Decides}
use Rattle.value_core.specs.declared.ty.Ty.{Ty}
use Rattle.value_core.specs.declared.val.Val.{Val}
use Rattle.michelson_code.specs.declared.instr.Instr.{Instr}
use Rattle.michelson_code.specs.declared.instr.Instr.TheVariants as instr
use Rattle.michelson_code.specs.declared.instr.Instr.TheOpen as one
use Rattle.michelson_code.specs.declared.instr.Instr.TheOpen.{Instr-F}
use Rattle.michelson_code.specs.declared.instr.Instr.TheViews.{out-Instr, out-roll-Instr, roll-Instr}
use Rattle.michelson_code.specs.Forms.{Form, Operand, ANumber, AType, SomeData, ACode, cost_of, entered, form, form_at, form_of}
use Rattle.michelson_reader.specs.Names.{Words, named, plain_forms, forms_of_number, forms_of_type, forms_of_body, forms_of_two_bodies}

-- a form that costs what the instruction does
abbrev pub formed : Instr → List ℕ → List (Operand Instr) → Form Instr
formed i word operands = form word (cost_of i) operands

-- the same with the name of an entry or none
abbrev pub entering : Instr → List ℕ → Option (List ℕ) → List (Operand Instr) → Form Instr
entering i word e operands = entered word (cost_of i) e operands

-- ---- what stands behind a word, by the number of its arguments

-- alone: this instruction, or the name of an entry
pub data Alone : Type 0 where
  Plain : Instr → Alone
  AnEntry : Alone
  NotAlone : Alone

-- with one argument: a number from a least one, a type, a body, or a type behind the name of an entry
pub data One : Type 0 where
  WithNumber : ℕ → (ℕ → Instr) → One
  WithType : (Ty → Instr) → One
  WithBody : (List Instr → Instr) → One
  WithEntry : One
  NotWithOne : One

-- with two arguments: a type and data, two types, a number and a body, or two bodies
pub data Two : Type 0 where
  WithData : Two
  WithTypes : Two
  WithNumberAndBody : Two
  WithBodies : (List Instr → List Instr → Instr) → Two
  NotWithTwo : Two

abbrev pub with_number : ℕ × (ℕ → Instr) → One
with_number f = WithNumber f.0 f.1

abbrev pub alone_of : List ℕ → Alone
alone_of name = if bytes_eq name (codes "SELF") then AnEntry else option_map_or Plain (named name plain_forms) NotAlone

abbrev pub one_of : List ℕ → One
one_of name =
    if bytes_eq name (codes "CONTRACT") then WithEntry
    else option_map_or with_number (named name forms_of_number)
    (option_map_or WithType (named name forms_of_type) (option_map_or WithBody (named name forms_of_body) NotWithOne))

abbrev pub two_of : List ℕ → Two
two_of name =
    if bytes_eq name (codes "PUSH") then WithData
    else if bytes_eq name (codes "EMPTY_MAP") then WithTypes
    else if bytes_eq name (codes "DIP") then WithNumberAndBody
    else option_map_or WithBodies (named name forms_of_two_bodies) NotWithTwo

-- ---- each form is made by its word

-- what a word alone makes
abbrev pub made_alone : Alone → Option (Option (List ℕ)) → Option Instr
made_alone (Plain i) None = Some i
made_alone AnEntry (Some e) = Some (instr.SelfEntry e)
made_alone _ _ = None

-- what it makes with one operand
abbrev pub made_of_one : One → Option (Option (List ℕ)) → Operand Instr → Option Instr
made_of_one (WithNumber from make) None (ANumber least n) = if nat_eq from least then Some (make n) else None
made_of_one (WithType make) None (AType t) = Some (make t)
made_of_one (WithBody make) None (ACode c) = Some (make c)
made_of_one WithEntry (Some e) (AType t) = Some (instr.Contract e t)
made_of_one _ _ _ = None

-- with two, but for data
abbrev pub made_of_two : Two → Option (Option (List ℕ)) → Operand Instr → Operand Instr → Option Instr
made_of_two WithTypes None (AType k) (AType v) = Some (instr.EmptyMap k v)
made_of_two WithNumberAndBody None (ANumber least n) (ACode c) = if nat_eq 0 least then Some (instr.DipN n c) else None
made_of_two (WithBodies make) None (ACode c) (ACode d) = Some (make c d)
made_of_two _ _ _ _ = None

-- what the tables make of a form
abbrev pub made_of : List ℕ → Option (Option (List ℕ)) → List (Operand Instr) → Option Instr
made_of name entry [] = made_alone (alone_of name) entry
made_of name entry (o ∷ []) = made_of_one (one_of name) entry o
made_of name entry (o ∷ p ∷ []) = made_of_two (two_of name) entry o p
made_of name entry (o ∷ p ∷ q ∷ more) = None

abbrev pub IsMade : Instr-F Instr → Type 0
IsMade x = made_of (form_at x).word (form_at x).entry (form_at x).operands ≡ Some (roll-Instr x)

-- pushed data stands apart, since its type stands twice in its form
abbrev pub IsMadeOrPushed : Instr-F Instr → Type 0
IsMadeOrPushed (one.Push t v) = Unit {0}
IsMadeOrPushed x = IsMade x

pub each_is_made : (x : Instr-F Instr) → IsMadeOrPushed x
unfolding roll-Instr denote.Hole.Carrier.roll
each_is_made (one.Push t v) = tt
each_is_made _ = refl

-- ---- what a word makes is written with it

module _ {A B : Type 0} (f g : List ℕ × A → B) where
  row_agrees : (w : List ℕ × A) (name : List ℕ) (a : A) → f w ≡ g w → name ≡ w.0 → Some w.1 ≡ Some a → f (name, a) ≡ g (name, a)
  row_agrees w name a agree same value =
      let is : w.1 ≡ a = cc in
      let row : w ≡ (name, a) = (λ i. (sym same i, is i)) in
      sym (ap f row) ∙ agree ∙ ap g row

  first_or_later : (w : List ℕ × A) (name : List ℕ) (a : A) (later : Option A) (b : Bool) → bytes_eq name w.0 ≡ b → f w ≡ g w →
      (later ≡ Some a → f (name, a) ≡ g (name, a)) → (if b then Some w.1 else later) ≡ Some a → f (name, a) ≡ g (name, a)
  first_or_later w name a later true e agree rest found = row_agrees w name a agree ((bytes_eq-Decides name w.0).0 e) found
  first_or_later w name a later false e agree rest found = rest found

  -- what two functions agree on in each row, they agree on in a row that was found
  pub rows_agree : (ws : Words A) → map f ws ≡ map g ws → (name : List ℕ) (a : A) → named name ws ≡ Some a → f (name, a) ≡ g (name, a)
  rows_agree [] rows name a found = cc
  rows_agree (w ∷ ws) rows name a found =
      let first : f w ≡ g w = cc in
      let rest : map f ws ≡ map g ws = cc in
      first_or_later w name a (named name ws) (bytes_eq name w.0) refl first (rows_agree ws rest name a) found

plain_row : (name : List ℕ) (i : Instr) → named name plain_forms ≡ Some i → form_of i ≡ formed i name []
unfolding out-Instr denote.Hole.Carrier.out
plain_row = rows_agree (λ w. form_of w.1) (λ w. formed w.1 w.0 []) plain_forms refl

number_row : (n : ℕ) (name : List ℕ) (f : ℕ × (ℕ → Instr)) → named name forms_of_number ≡ Some f → form_of (f.1 n) ≡ formed (f.1 n) name (ANumber f.0 n ∷ [])
unfolding out-Instr denote.Hole.Carrier.out
number_row n = rows_agree (λ w. form_of (w.1.1 n)) (λ w. formed (w.1.1 n) w.0 (ANumber w.1.0 n ∷ [])) forms_of_number refl

type_row : (t : Ty) (name : List ℕ) (f : Ty → Instr) → named name forms_of_type ≡ Some f → form_of (f t) ≡ formed (f t) name (AType t ∷ [])
unfolding out-Instr denote.Hole.Carrier.out
type_row t = rows_agree (λ w. form_of (w.1 t)) (λ w. formed (w.1 t) w.0 (AType t ∷ [])) forms_of_type refl

-- the form with the instruction's cost
abbrev recosted : Instr → Form Instr → Form Instr
recosted i f = record { word = f.word; cost = cost_of i; entry = f.entry; operands = f.operands }

shown : (x : Instr-F Instr) → form_of (roll-Instr x) ≡ recosted (roll-Instr x) (form_at x)
shown x = ap (λ (y : Instr-F Instr). recosted (roll-Instr x) (form_at y)) (out-roll-Instr x)

body_row : (c : List Instr) (name : List ℕ) (f : List Instr → Instr) → named name forms_of_body ≡ Some f → form_of (f c) ≡ formed (f c) name (ACode c ∷ [])
unfolding roll-Instr denote.Hole.Carrier.roll
body_row c = rows_agree (λ w. form_of (w.1 c)) (λ w. formed (w.1 c) w.0 (ACode c ∷ [])) forms_of_body
    (λ i. shown (one.Dip c) i ∷ shown (one.Loop c) i ∷ shown (one.LoopLeft c) i ∷ shown (one.Iter c) i ∷ shown (one.Map c) i ∷ [])

bodies_row : (c d : List Instr) (name : List ℕ) (f : List Instr → List Instr → Instr) → named name forms_of_two_bodies ≡ Some f → form_of (f c d) ≡ formed (f c d) name (ACode c ∷ ACode d ∷ [])
unfolding roll-Instr denote.Hole.Carrier.roll
bodies_row c d = rows_agree (λ w. form_of (w.1 c d)) (λ w. formed (w.1 c d) w.0 (ACode c ∷ ACode d ∷ [])) forms_of_two_bodies
    (λ i. shown (one.If c d) i ∷ shown (one.IfNone c d) i ∷ shown (one.IfLeft c d) i ∷ shown (one.IfCons c d) i ∷ [])

-- ---- each kind of word, with its forms

abbrev pub AloneForms : List ℕ → Alone → Type 0
AloneForms name (Plain i) = form_of i ≡ formed i name []
AloneForms name AnEntry = (e : Option (List ℕ)) → form_of (instr.SelfEntry e) ≡ entering (instr.SelfEntry e) name e []
AloneForms name NotAlone = Unit {0}

abbrev pub OneForms : List ℕ → One → Type 0
OneForms name (WithNumber least make) = (n : ℕ) → form_of (make n) ≡ formed (make n) name (ANumber least n ∷ [])
OneForms name (WithType make) = (t : Ty) → form_of (make t) ≡ formed (make t) name (AType t ∷ [])
OneForms name (WithBody make) = (c : List Instr) → form_of (make c) ≡ formed (make c) name (ACode c ∷ [])
OneForms name WithEntry = (e : Option (List ℕ)) (t : Ty) → form_of (instr.Contract e t) ≡ entering (instr.Contract e t) name e (AType t ∷ [])
OneForms name NotWithOne = Unit {0}

abbrev pub TwoForms : List ℕ → Two → Type 0
TwoForms name WithData = (t : Ty) (v : Val) → form_of (instr.Push t v) ≡ formed (instr.Push t v) name (AType t ∷ SomeData t v ∷ [])
TwoForms name WithTypes = (k v : Ty) → form_of (instr.EmptyMap k v) ≡ formed (instr.EmptyMap k v) name (AType k ∷ AType v ∷ [])
TwoForms name WithNumberAndBody = (n : ℕ) (c : List Instr) → form_of (instr.DipN n c) ≡ formed (instr.DipN n c) name (ANumber 0 n ∷ ACode c ∷ [])
TwoForms name (WithBodies make) = (c d : List Instr) → form_of (make c d) ≡ formed (make c d) name (ACode c ∷ ACode d ∷ [])
TwoForms name NotWithTwo = Unit {0}

is_word : (name word : List ℕ) → bytes_eq name word ≡ true → word ≡ name
is_word name word same = sym ((bytes_eq-Decides name word).0 same)

entry_alone : (e : Option (List ℕ)) → form_of (instr.SelfEntry e) ≡ entering (instr.SelfEntry e) (codes "SELF") e []
unfolding roll-Instr denote.Hole.Carrier.roll
entry_alone e = shown (one.SelfEntry e)

pub alone_forms : (name : List ℕ) → AloneForms name (alone_of name)
alone_forms name = at (bytes_eq name (codes "SELF")) (named name plain_forms) refl refl
  where
    at : (b : Bool) (o : Option Instr) → bytes_eq name (codes "SELF") ≡ b → named name plain_forms ≡ o → AloneForms name (if b then AnEntry else option_map_or Plain o NotAlone)
    at true o same found = λ e. entry_alone e ∙ ap (λ (w : List ℕ). entering (instr.SelfEntry e) w e []) (is_word name (codes "SELF") same)
    at false (Some i) same found = plain_row name i found
    at false None same found = tt

entry_and_type : (e : Option (List ℕ)) (t : Ty) → form_of (instr.Contract e t) ≡ entering (instr.Contract e t) (codes "CONTRACT") e (AType t ∷ [])
unfolding roll-Instr denote.Hole.Carrier.roll
entry_and_type e t = shown (one.Contract e t)

pub one_forms : (name : List ℕ) → OneForms name (one_of name)
one_forms name = at (bytes_eq name (codes "CONTRACT")) (named name forms_of_number) (named name forms_of_type) (named name forms_of_body) refl refl refl refl
  where
    at : (b : Bool) (number : Option (ℕ × (ℕ → Instr))) (type : Option (Ty → Instr)) (body : Option (List Instr → Instr)) →
        bytes_eq name (codes "CONTRACT") ≡ b → named name forms_of_number ≡ number → named name forms_of_type ≡ type → named name forms_of_body ≡ body →
        OneForms name (if b then WithEntry else option_map_or with_number number (option_map_or WithType type (option_map_or WithBody body NotWithOne)))
    at true number type body same a b c = λ e t. entry_and_type e t ∙ ap (λ (w : List ℕ). entering (instr.Contract e t) w e (AType t ∷ [])) (is_word name (codes "CONTRACT") same)
    at false (Some f) type body same a b c = λ n. number_row n name f a
    at false None (Some f) body same a b c = λ t. type_row t name f b
    at false None None (Some f) same a b c = λ x. body_row x name f c
    at false None None None same a b c = tt

type_and_data : (t : Ty) (v : Val) → form_of (instr.Push t v) ≡ formed (instr.Push t v) (codes "PUSH") (AType t ∷ SomeData t v ∷ [])
unfolding roll-Instr denote.Hole.Carrier.roll
type_and_data t v = shown (one.Push t v)

two_types : (k v : Ty) → form_of (instr.EmptyMap k v) ≡ formed (instr.EmptyMap k v) (codes "EMPTY_MAP") (AType k ∷ AType v ∷ [])
unfolding roll-Instr denote.Hole.Carrier.roll
two_types k v = shown (one.EmptyMap k v)

number_and_body : (n : ℕ) (c : List Instr) → form_of (instr.DipN n c) ≡ formed (instr.DipN n c) (codes "DIP") (ANumber 0 n ∷ ACode c ∷ [])
unfolding roll-Instr denote.Hole.Carrier.roll
number_and_body n c = shown (one.DipN n c)

pub two_forms : (name : List ℕ) → TwoForms name (two_of name)
two_forms name = at (bytes_eq name (codes "PUSH")) (bytes_eq name (codes "EMPTY_MAP")) (bytes_eq name (codes "DIP")) (named name forms_of_two_bodies) refl refl refl refl
  where
    at : (push empty dip : Bool) (bodies : Option (List Instr → List Instr → Instr)) →
        bytes_eq name (codes "PUSH") ≡ push → bytes_eq name (codes "EMPTY_MAP") ≡ empty → bytes_eq name (codes "DIP") ≡ dip → named name forms_of_two_bodies ≡ bodies →
        TwoForms name (if push then WithData else if empty then WithTypes else if dip then WithNumberAndBody else option_map_or WithBodies bodies NotWithTwo)
    at true empty dip bodies a b c d = λ t v. type_and_data t v ∙ ap (λ (w : List ℕ). formed (instr.Push t v) w (AType t ∷ SomeData t v ∷ [])) (is_word name (codes "PUSH") a)
    at false true dip bodies a b c d = λ k v. two_types k v ∙ ap (λ (w : List ℕ). formed (instr.EmptyMap k v) w (AType k ∷ AType v ∷ [])) (is_word name (codes "EMPTY_MAP") b)
    at false false true bodies a b c d = λ n x. number_and_body n x ∙ ap (λ (w : List ℕ). formed (instr.DipN n x) w (ANumber 0 n ∷ ACode x ∷ [])) (is_word name (codes "DIP") c)
    at false false false (Some f) a b c d = λ x y. bodies_row x y name f d
    at false false false None a b c d = tt
