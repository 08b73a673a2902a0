-- Whether a word has a form with so many operands is decided, and all of its forms with as many have operands of the same kinds.
use Rattle.std.proofs.Common.{◌≡◌, ◌⊎◌, inl, inr, ℕ, Bool, true, false, List, [], ◌∷◌, length, Option, None, Some, nat_eq, refl, ap, sym, subst, ◌∙◌, arith}
use Rattle.std.specs.Prelude.{is_some, if◌then◌else◌}
use Rattle.std.proofs.lemmas.Bool.{eqb-true}
use Rattle.value_core.specs.declared.ty.Ty.{Ty}
use Rattle.value_core.specs.declared.ty.Ty.TheVariants as type
use Rattle.value_core.specs.declared.val.Val.{Val}
use Rattle.value_core.specs.declared.val.Val.TheVariants as value
use Rattle.micheline_text.specs.declared.node.Node.{Node}
use Rattle.michelson_code.specs.declared.instr.Instr.{Instr}
use Rattle.michelson_code.specs.declared.instr.Instr.TheVariants as instr
use Rattle.michelson_code.specs.declared.instr.Instr.TheOpen as one
use Rattle.michelson_code.specs.declared.instr.Instr.TheOpen.{Instr-F}
use Rattle.michelson_code.specs.declared.instr.Instr.TheViews.{out-Instr, roll-Instr}
use Rattle.michelson_code.specs.Forms.{Form, Operand, ANumber, AType, ACode, form_at, form_of}
use Rattle.michelson_reader.specs.FaultyNodes.{HasNoForm, IsOfForm, IsUnfitFor}
use Rattle.michelson_reader.specs.FirstFault.{Part, operand_parts}
use Rattle.michelson_reader.specs.Roles.{AsCode, AsData, AsNumber, AsType}
use Rattle.michelson_reader.specs.Names.{is_known}
use Rattle.michelson_reader.proofs.WordLaws.{alone_of, one_of, two_of, Alone, Plain, AnEntry, NotAlone, AloneForms, One, WithNumber, WithType, WithBody, WithEntry, NotWithOne, OneForms, Two, WithData, WithTypes, WithNumberAndBody, WithBodies, NotWithTwo, TwoForms, alone_forms, one_forms, two_forms, made_alone, made_of_one, made_of_two, made_of, each_is_made}

abbrev word_of : Form Instr → List ℕ
word_of f = f.word

abbrev count_of : Form Instr → ℕ
count_of f = length f.operands

-- ---- what the kind of a word says of its forms with as many operands as nodes

-- the word has such a form
abbrev IsThere : List ℕ → List Node → Type 0
IsThere w [] = alone_of w ≡ NotAlone → ⊥
IsThere w (x ∷ []) = one_of w ≡ NotWithOne → ⊥
IsThere w (x ∷ y ∷ []) = two_of w ≡ NotWithTwo → ⊥
IsThere w (x ∷ y ∷ z ∷ more) = ⊥

-- it takes the name of an entry
abbrev alone_takes : Alone → Bool
alone_takes AnEntry = true
alone_takes _ = false

abbrev one_takes : One → Bool
one_takes WithEntry = true
one_takes _ = false

abbrev takes_entry : List ℕ → List Node → Bool
takes_entry w [] = alone_takes (alone_of w)
takes_entry w (x ∷ []) = one_takes (one_of w)
takes_entry w _ = false

-- its operands
abbrev one_part : ℕ → One → Node → List Part
one_part at (WithNumber least make) x = (AsNumber least at, x) ∷ []
one_part at (WithType make) x = (AsType, x) ∷ []
one_part at (WithBody make) x = (AsCode, x) ∷ []
one_part at WithEntry x = (AsType, x) ∷ []
one_part at NotWithOne x = []

abbrev two_parts : ℕ → Two → Node → Node → List Part
two_parts at WithData x y = (AsType, x) ∷ (AsData x, y) ∷ []
two_parts at WithTypes x y = (AsType, x) ∷ (AsType, y) ∷ []
two_parts at WithNumberAndBody x y = (AsNumber 0 at, x) ∷ (AsCode, y) ∷ []
two_parts at (WithBodies make) x y = (AsCode, x) ∷ (AsCode, y) ∷ []
two_parts at NotWithTwo x y = []

abbrev pub word_parts : ℕ → List ℕ → List Node → List Part
word_parts at w [] = []
word_parts at w (x ∷ []) = one_part at (one_of w) x
word_parts at w (x ∷ y ∷ []) = two_parts at (two_of w) x y
word_parts at w _ = []

-- ---- forms of one kind

alone_is_there : (k : Alone) (e : Option (Option (List ℕ))) (i : Instr) → made_alone k e ≡ Some i → k ≡ NotAlone → ⊥
alone_is_there (Plain j) e i made is = cc
alone_is_there AnEntry e i made is = cc
alone_is_there NotAlone None i made is = cc
alone_is_there NotAlone (Some e) i made is = cc

alone_entry : (k : Alone) (e : Option (Option (List ℕ))) (i : Instr) → made_alone k e ≡ Some i → is_some e ≡ alone_takes k
alone_entry (Plain j) None i made = refl
alone_entry AnEntry (Some e) i made = refl
alone_entry k e i made = cc

one_is_there : (k : One) (e : Option (Option (List ℕ))) (o : Operand Instr) (i : Instr) → made_of_one k e o ≡ Some i → k ≡ NotWithOne → ⊥
one_is_there NotWithOne None (ANumber least n) i made is = cc
one_is_there k e o i made is = cc

one_entry : (k : One) (e : Option (Option (List ℕ))) (o : Operand Instr) (i : Instr) → made_of_one k e o ≡ Some i → is_some e ≡ one_takes k
one_entry (WithNumber from make) None (ANumber least n) i made = refl
one_entry (WithType make) None (AType t) i made = refl
one_entry (WithBody make) None (ACode c) i made = refl
one_entry WithEntry (Some e) (AType t) i made = refl
one_entry k e o i made = cc

same_least : (from least : ℕ) (j i : Instr) → (if nat_eq from least then Some j else None) ≡ Some i → least ≡ from
same_least from least j i made = by (nat_eq from least) refl made
  where
    by : (b : Bool) → nat_eq from least ≡ b → (if b then Some j else None) ≡ Some i → least ≡ from
    by true e made = sym (eqb-true from least e)
    by false e made = cc

one_same : (at : ℕ) (n x : Node) (k : One) (e : Option (Option (List ℕ))) (o : Operand Instr) (i : Instr) → made_of_one k e o ≡ Some i →
    operand_parts at n (o ∷ []) (x ∷ []) ≡ one_part at k x
one_same at n x (WithNumber from make) None (ANumber least m) i made = ap (λ (l : ℕ). (AsNumber l at, x) ∷ []) (same_least from least (make m) i made)
one_same at n x (WithType make) None (AType t) i made = refl
one_same at n x (WithBody make) None (ACode c) i made = refl
one_same at n x WithEntry (Some e) (AType t) i made = refl
one_same at n x k e o i made = cc

two_is_there : (k : Two) (e : Option (Option (List ℕ))) (o p : Operand Instr) (i : Instr) → made_of_two k e o p ≡ Some i → k ≡ NotWithTwo → ⊥
two_is_there NotWithTwo None (AType s) (AType t) i made is = cc
two_is_there k e o p i made is = cc

two_entry : (k : Two) (e : Option (Option (List ℕ))) (o p : Operand Instr) (i : Instr) → made_of_two k e o p ≡ Some i → is_some e ≡ false
two_entry WithTypes None (AType s) (AType t) i made = refl
two_entry WithNumberAndBody None (ANumber least n) (ACode c) i made = refl
two_entry (WithBodies make) None (ACode c) (ACode d) i made = refl
two_entry k e o p i made = cc

two_same : (at : ℕ) (n x y : Node) (k : Two) (e : Option (Option (List ℕ))) (o p : Operand Instr) (i : Instr) → made_of_two k e o p ≡ Some i →
    operand_parts at n (o ∷ p ∷ []) (x ∷ y ∷ []) ≡ two_parts at k x y
two_same at n x y WithTypes None (AType s) (AType t) i made = refl
two_same at n x y WithNumberAndBody None (ANumber least m) (ACode c) i made = ap (λ (l : ℕ). (AsNumber l at, x) ∷ (AsCode, y) ∷ []) (same_least 0 least (instr.DipN m c) i made)
two_same at n x y (WithBodies make) None (ACode c) (ACode d) i made = refl
two_same at n x y k e o p i made = cc

-- ---- forms

-- what holds of the form of a word, and so much stands behind it
record Fits (at : ℕ) (n : Node) (w : List ℕ) (e : Option (Option (List ℕ))) (os : List (Operand Instr)) (args : List Node) : Type 0 where
  there : IsThere w args
  entry : is_some e ≡ takes_entry w args
  parts : operand_parts at n os args ≡ word_parts at w args

made_fits : (at : ℕ) (n : Node) (w : List ℕ) (e : Option (Option (List ℕ))) (os : List (Operand Instr)) (args : List Node) (i : Instr) → made_of w e os ≡ Some i →
    length os ≡ length args → Fits at n w e os args
made_fits at n w e [] [] i made few = record { there = alone_is_there (alone_of w) e i made; entry = alone_entry (alone_of w) e i made; parts = refl }
made_fits at n w e (o ∷ []) (x ∷ []) i made few = record {
  there = one_is_there (one_of w) e o i made;
  entry = one_entry (one_of w) e o i made;
  parts = one_same at n x (one_of w) e o i made;
}
made_fits at n w e (o ∷ p ∷ []) (x ∷ y ∷ []) i made few = record {
  there = two_is_there (two_of w) e o p i made;
  entry = two_entry (two_of w) e o p i made;
  parts = two_same at n x y (two_of w) e o p i made;
}
made_fits at n w e (o ∷ p ∷ q ∷ os) args i made few = absurd cc
made_fits at n w e [] (x ∷ args) i made few = absurd (omega arith)
made_fits at n w e (o ∷ []) [] i made few = absurd (omega arith)
made_fits at n w e (o ∷ []) (x ∷ y ∷ args) i made few = absurd (omega arith)
made_fits at n w e (o ∷ p ∷ []) [] i made few = absurd (omega arith)
made_fits at n w e (o ∷ p ∷ []) (x ∷ []) i made few = absurd (omega arith)
made_fits at n w e (o ∷ p ∷ []) (x ∷ y ∷ z ∷ args) i made few = absurd (omega arith)

abbrev FormFits : ℕ → Node → List Node → Form Instr → Type 0
FormFits at n args f = Fits at n f.word f.entry f.operands args

pushed_fits : (at : ℕ) (n : Node) (t : Ty) (v : Val) (args : List Node) → 2 ≡ length args → FormFits at n args (form_at (one.Push t v))
pushed_fits at n t v (x ∷ y ∷ []) few = record { there = λ is. cc; entry = refl; parts = refl }
pushed_fits at n t v [] few = absurd (omega arith)
pushed_fits at n t v (x ∷ []) few = absurd (omega arith)
pushed_fits at n t v (x ∷ y ∷ z ∷ args) few = absurd (omega arith)

form_fits : (at : ℕ) (n : Node) (args : List Node) (x : Instr-F Instr) → length (form_at x).operands ≡ length args → FormFits at n args (form_at x)
form_fits at n args (one.Push t v) few = pushed_fits at n t v args few
form_fits at n args x few = made_fits at n (form_at x).word (form_at x).entry (form_at x).operands args (roll-Instr x) (each_is_made x) few

-- an instruction of the word with as many operands as nodes
fits : (at : ℕ) (n : Node) (name : List ℕ) (args : List Node) (i : Instr) → IsOfForm name (length args) i → Fits at n name (form_of i).entry (form_of i).operands args
fits at n name args i is = subst (λ (w : List ℕ). Fits at n w (form_of i).entry (form_of i).operands args) is.0 (form_fits at n args (out-Instr i) is.1)

pub parts_are : (at : ℕ) (n : Node) (name : List ℕ) (args : List Node) (i : Instr) → IsOfForm name (length args) i → operand_parts at n (form_of i).operands args ≡ word_parts at name args
parts_are at n name args i is = (fits at n name args i is).parts

-- ---- whether there is one

module _ (name : List ℕ) where
  abbrev HasForm : List Node → Type 0
  HasForm args = (i : Instr) × IsOfForm name (length args) i

  abbrev Decided : List Node → Type 0
  Decided args = HasNoForm name (length args) ⊎ HasForm args

  missing : (n : Node) (args : List Node) → (IsThere name args → ⊥) → HasNoForm name (length args)
  missing n args none i word few = none ((fits 0 n name args i (word, few)).there)

  by_alone : (n : Node) (k : Alone) → alone_of name ≡ k → AloneForms name k → Decided []
  by_alone n (Plain i) is forms = inr (i, (ap word_of forms, ap count_of forms))
  by_alone n AnEntry is forms = inr (instr.SelfEntry None, (ap word_of (forms None), ap count_of (forms None)))
  by_alone n NotAlone is forms = inl (missing n [] (λ there. there is))

  by_one : (x : Node) (k : One) → one_of name ≡ k → OneForms name k → Decided (x ∷ [])
  by_one x (WithNumber least make) is forms = inr (make 0, (ap word_of (forms 0), ap count_of (forms 0)))
  by_one x (WithType make) is forms = inr (make type.Unit, (ap word_of (forms type.Unit), ap count_of (forms type.Unit)))
  by_one x (WithBody make) is forms = inr (make [], (ap word_of (forms []), ap count_of (forms [])))
  by_one x WithEntry is forms = inr (instr.Contract None type.Unit, (ap word_of (forms None type.Unit), ap count_of (forms None type.Unit)))
  by_one x NotWithOne is forms = inl (missing x (x ∷ []) (λ there. there is))

  by_two : (x y : Node) (k : Two) → two_of name ≡ k → TwoForms name k → Decided (x ∷ y ∷ [])
  by_two x y WithData is forms = inr (instr.Push type.Unit value.Unit, (ap word_of (forms type.Unit value.Unit), ap count_of (forms type.Unit value.Unit)))
  by_two x y WithTypes is forms = inr (instr.EmptyMap type.Unit type.Unit, (ap word_of (forms type.Unit type.Unit), ap count_of (forms type.Unit type.Unit)))
  by_two x y WithNumberAndBody is forms = inr (instr.DipN 0 [], (ap word_of (forms 0 []), ap count_of (forms 0 [])))
  by_two x y (WithBodies make) is forms = inr (make [] [], (ap word_of (forms [] []), ap count_of (forms [] [])))
  by_two x y NotWithTwo is forms = inl (missing x (x ∷ y ∷ []) (λ there. there is))

  pub form_or_none : (n : Node) (args : List Node) → Decided args
  form_or_none n [] = by_alone n (alone_of name) refl (alone_forms name)
  form_or_none n (x ∷ []) = by_one x (one_of name) refl (one_forms name)
  form_or_none n (x ∷ y ∷ []) = by_two x y (two_of name) refl (two_forms name)
  form_or_none n (x ∷ y ∷ z ∷ more) = inl (missing n (x ∷ y ∷ z ∷ more) (λ there. there))

-- ---- names of entries

unfit_takes : (e : Option (Option (List ℕ))) (notes : List (List ℕ)) → IsUnfitFor e notes → is_some e ≡ true
unfit_takes None notes unfit = absurd unfit
unfit_takes (Some e) notes unfit = refl

-- a word that takes none with one number of operands takes none in any form with as many
pub none_unfit : (n : Node) (name : List ℕ) (args : List Node) (notes : List (List ℕ)) (i j : Instr) → IsOfForm name (length args) i → IsOfForm name (length args) j →
    (form_of i).entry ≡ None → IsUnfitFor (form_of j).entry notes → ⊥
none_unfit n name args notes i j first second none unfit =
    let one = (fits 0 n name args i first).entry in
    let other = (fits 0 n name args j second).entry in
    let takes = unfit_takes (form_of j).entry notes unfit in
    let doesnt : is_some (form_of i).entry ≡ false = ap is_some none in
    absurd cc

-- a word that takes one is known
entered_is_known : (x : Instr-F Instr) (e : Option (List ℕ)) → (form_at x).entry ≡ Some e → is_known (form_at x).word ≡ true
entered_is_known (one.SelfEntry d) e is = refl
entered_is_known (one.Contract d t) e is = refl
entered_is_known _ e is = absurd cc

pub is_known_word : (name : List ℕ) (i : Instr) (e : Option (List ℕ)) → (form_of i).word ≡ name → (form_of i).entry ≡ Some e → is_known name ≡ true
is_known_word name i e word is = sym (ap is_known word) ∙ entered_is_known (out-Instr i) e is
