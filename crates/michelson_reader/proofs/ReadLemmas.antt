-- What was read where a step, a choice or a table of words gave a value.
use Rattle.std.proofs.Common.{◌≡◌, ℕ, Bool, true, false, List, [], ◌∷◌, Option, None, Some, Ok, Err, refl, ap, sym, subst, ◌∙◌}
use Rattle.std.specs.Prelude.{if◌then◌else◌}
use Rattle.std.specs.List.{AllByRecursion}
use Rattle.std.specs.Option.{option_map_or}
use Rattle.std.specs.Str.{bytes_eq}
use Rattle.std.proofs.lemmas.Slice.Eq.{bytes_eq-Decides}
use Rattle.michelson_reader.specs.declared.fault.ReadFault.{ReadFault}
use Rattle.michelson_reader.specs.Names.{Words, is_known, is_left_out, named}
use Rattle.michelson_reader.specs.TypeFaults.{Read, no_form, then_read}

-- ---- values

module _ {A : Type 0} where
  abbrev or_else : A → Read A → A
  or_else a (Ok x) = x
  or_else a (Err e) = a

  pub same_read : (x y : A) (r : Read A) → r ≡ Ok x → r ≡ Ok y → x ≡ y
  same_read x y r e f = ap (or_else x) (sym e ∙ f)

  abbrev or_this : A → Option A → A
  or_this a None = a
  or_this a (Some x) = x

  pub same_found : (x y : A) (o : Option A) → o ≡ Some x → o ≡ Some y → x ≡ y
  same_found x y o e f = ap (or_this x) (sym e ∙ f)

-- ---- one thing, and by it the next

module _ {A B : Type 0} (f : A → Read B) where
  pub read_first : (r : Read A) (b : B) → then_read r f ≡ Ok b → (a : A) × (r ≡ Ok a) × (f a ≡ Ok b)
  read_first (Ok a) b e = (a, refl, e)
  read_first (Err fault) b e = absurd cc

  pub read_both : (r : Read A) (a : A) (b : B) → r ≡ Ok a → f a ≡ Ok b → then_read r f ≡ Ok b
  read_both r a b e next = ap (λ (x : Read A). then_read x f) e ∙ next

-- ---- words

one_of_three : {A : Type 0} (p q : Bool) (x y z : ReadFault) (a : A) → (if p then Err x else if q then Err y else Err z) ≡ Ok a → ⊥
one_of_three true q x y z a e = cc
one_of_three false true x y z a e = cc
one_of_three false false x y z a e = cc

pub no_form-fails : {A : Type 0} (at : ℕ) (name : List ℕ) (a : A) → no_form at name ≡ Ok a → ⊥
no_form-fails at name a e = one_of_three (is_known name) (is_left_out name) _ _ _ a e

module _ {A B : Type 0} (f : A → Read B) (at : ℕ) (name : List ℕ) where
  pub read_by : (o : Option A) (b : B) → option_map_or f o (no_form at name) ≡ Ok b → (a : A) × (o ≡ Some a) × (f a ≡ Ok b)
  read_by None b e = absurd (no_form-fails at name b e)
  read_by (Some a) b e = (a, refl, e)

-- what holds of each word of a table and what it makes holds of what is found
module _ {A : Type 0} (P : List ℕ → A → Type 0) where
  pub named-found : (name : List ℕ) (words : Words A) → AllByRecursion (λ w. P w.0 w.1) words → (a : A) → named name words ≡ Some a → P name a
  named-found name [] rows a e = absurd cc
  named-found name (w ∷ words) rows a e = by_test (bytes_eq name w.0) refl (named-found name words rows.1 a)
    where
      by_test : (b : Bool) → bytes_eq name w.0 ≡ b → (named name words ≡ Some a → P name a) → P name a
      by_test true h later =
          let value : w.1 ≡ a = same_found w.1 a (if bytes_eq name w.0 then Some w.1 else named name words) (ap (λ (b : Bool). if b then Some w.1 else named name words) h) e in
          subst (λ (x : A). P name x) value (subst (λ (x : List ℕ). P x w.1) (sym ((bytes_eq-Decides name w.0).0 h)) rows.0)
      by_test false h later = later (sym (ap (λ (b : Bool). if b then Some w.1 else named name words) h) ∙ e)
