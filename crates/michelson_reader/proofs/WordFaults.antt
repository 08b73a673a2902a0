-- What is read of a word by the number of its arguments: where nothing is found for it, its own fault.
use Rattle.std.proofs.Common.{◌≡◌, ℕ, ◌<◌, ◌≤◌, Bool, true, false, List, [], ◌∷◌, ◌++◌, length, map, drop, get_or, Option, None, Ok, Err, refl, ap, sym, ◌∙◌, arith}
use Rattle.std.specs.Prelude.{codes, if◌then◌else◌}
use Rattle.std.specs.Option.{option_map_or}
use Rattle.std.specs.Str.{bytes_eq}
use Rattle.value_core.specs.declared.ty.Ty.{Ty}
use Rattle.value_core.specs.declared.ty.Ty.TheVariants as kind
use Rattle.micheline_text.specs.declared.node.Node.{Node}
use Rattle.michelson_code.specs.declared.instr.Instr.{Instr}
use Rattle.michelson_code.specs.declared.instr.Instr.TheVariants as instr
use Rattle.michelson_reader.specs.declared.fault.ReadFault.{ReadFault}
use Rattle.michelson_reader.specs.CodeFaults as code
use Rattle.michelson_reader.specs.CodeFaults.{Reader, alone, entry, number, pushed, with_one, with_two}
use Rattle.michelson_reader.specs.Names.{forms_of_body, forms_of_number, forms_of_two_bodies, forms_of_type, named, plain_forms, plain_types, types_of_one, types_of_two}
use Rattle.micheline_text.specs.Told.{IsTold}
use Rattle.michelson_reader.specs.Answers.{read_fault}
use Rattle.michelson_reader.specs.Returned.{each, nested, read_of}
use Rattle.michelson_reader.specs.TypeFaults.{Read, applied, comb, no_form, then_read, type_read}
use Rattle.michelson_reader.proofs.ReadTurns.{refused_as}
use Rattle.michelson_reader.proofs.Refusals.{no_form-refuses}

-- told of the word itself
abbrev pub Told : ℕ → List ℕ → ReadFault → Type 0
Told at name e = IsTold {Y = Unit {0}} (read_fault e) (no_form at name)

module _ {A : Type 0} where
  pub told_as : (at : ℕ) (name : List ℕ) (e : ReadFault) (r : Read A) → r ≡ no_form at name → Told at name e → IsTold (read_fault e) r
  told_as at name e r same told = refused_as r (no_form at name) e same (no_form-refuses A at name e told)

-- ---- types

module _ (at : ℕ) (name : List ℕ) (e : ReadFault) where
  pub none_alone : (args : List Node) → length args < 1 → named name plain_types ≡ None → Told at name e → IsTold (read_fault e) (applied at name (map type_read args))
  none_alone [] few none told = told_as at name e (applied at name []) (ap (λ (o : Option Ty). option_map_or (λ t. Ok t) o (no_form at name)) none) told
  none_alone (x ∷ args) few none told = absurd (omega arith)

  pub none_of_one : (args : List Node) → length args ≡ 1 → named name types_of_one ≡ None → Told at name e → IsTold (read_fault e) (applied at name (map type_read args))
  none_of_one [] one none told = absurd (omega arith)
  none_of_one (x ∷ []) one none told =
      told_as at name e (applied at name (type_read x ∷ []))
      (ap (λ (o : Option (Ty → Ty)). option_map_or (λ f. then_read (type_read x) (λ t. Ok (f t))) o (no_form at name)) none) told
  none_of_one (x ∷ y ∷ args) one none told = absurd (omega arith)

  pub none_of_two : (args : List Node) → length args ≡ 2 → named name types_of_two ≡ None → Told at name e → IsTold (read_fault e) (applied at name (map type_read args))
  none_of_two [] two none told = absurd (omega arith)
  none_of_two (x ∷ []) two none told = absurd (omega arith)
  none_of_two (x ∷ y ∷ []) two none told =
      told_as at name e (applied at name (type_read x ∷ type_read y ∷ []))
      (ap (λ (o : Option (Ty → Ty → Ty)). option_map_or (λ f. then_read (type_read x) (λ s. then_read (type_read y) (λ t. Ok (f s t)))) o (no_form at name)) none) told
  none_of_two (x ∷ y ∷ z ∷ args) two none told = absurd (omega arith)

  pub not_a_pair : (args : List Node) → 3 ≤ length args → bytes_eq name (codes "pair") ≡ false → Told at name e → IsTold (read_fault e) (applied at name (map type_read args))
  not_a_pair [] many isnt told = absurd (omega arith)
  not_a_pair (x ∷ []) many isnt told = absurd (omega arith)
  not_a_pair (x ∷ y ∷ []) many isnt told = absurd (omega arith)
  not_a_pair (x ∷ y ∷ z ∷ more) many isnt told =
      told_as at name e (applied at name (type_read x ∷ type_read y ∷ type_read z ∷ map type_read more))
      (ap (λ (b : Bool). if b then comb (type_read x) (type_read y ∷ type_read z ∷ map type_read more) else no_form at name) isnt) told

-- a comb that was read, from its parts
abbrev pub pairs_of : Read Ty → Read (List Ty) → Read Ty
pairs_of first rest = then_read first (λ t. then_read rest (λ ts. Ok (nested t ts)))

alone_is : (r : Read Ty) → r ≡ pairs_of r (Ok [])
alone_is (Ok t) = refl
alone_is (Err e) = refl

one_more : (r s : Read Ty) (rest : Read (List Ty)) → then_read r (λ t. then_read (pairs_of s rest) (λ u. Ok (kind.Pair t u))) ≡ pairs_of r (then_read s (λ x. then_read rest (λ xs. Ok (x ∷ xs))))
one_more (Err e) s rest = refl
one_more (Ok t) (Err e) rest = refl
one_more (Ok t) (Ok u) (Err e) = refl
one_more (Ok t) (Ok u) (Ok ts) = refl

comb-is : (r : Read Ty) (rs : List (Read Ty)) → comb r rs ≡ pairs_of r (each rs)
comb-is r [] = alone_is r
comb-is r (s ∷ rs) = ap (λ (x : Read Ty). then_read r (λ t. then_read x (λ u. Ok (kind.Pair t u)))) (comb-is s rs) ∙ one_more r s (each rs)

pub a_pair : (at : ℕ) (name : List ℕ) (args : List Node) (x : Node) → 3 ≤ length args → get_or args 0 x ≡ x → bytes_eq name (codes "pair") ≡ true →
    applied at name (map type_read args) ≡ pairs_of (type_read x) (each (map type_read (drop 1 args)))
a_pair at name [] x many is holds = absurd (omega arith)
a_pair at name (n ∷ []) x many is holds = absurd (omega arith)
a_pair at name (n ∷ y ∷ []) x many is holds = absurd (omega arith)
a_pair at name (n ∷ y ∷ z ∷ more) x many is holds =
    ap (λ (b : Bool). if b then comb (type_read n) (type_read y ∷ type_read z ∷ map type_read more) else no_form at name) holds
    ∙ comb-is (type_read n) (type_read y ∷ type_read z ∷ map type_read more)
    ∙ ap (λ (m : Node). pairs_of (type_read m) (each (map type_read (y ∷ z ∷ more)))) is

-- the last two of a comb are a pair
nested-last : (first : Ty) (front : List Ty) (part last : Ty) → nested first (front ++ kind.Pair part last ∷ []) ≡ nested first ((front ++ part ∷ []) ++ last ∷ [])
nested-last first [] part last = refl
nested-last first (t ∷ front) part last = ap (kind.Pair first) (nested-last t front part last)

pub pair_last : (first : Ty) (rest front : List Ty) (part last whole : Ty) → rest ≡ front ++ part ∷ [] → nested first (rest ++ last ∷ []) ≡ whole →
    nested first (front ++ kind.Pair part last ∷ []) ≡ whole
pair_last first rest front part last whole is so_far = nested-last first front part last ∙ ap (λ (l : List Ty). nested first (l ++ last ∷ [])) (sym is) ∙ so_far

pub pair_first : (first last whole : Ty) (rest : List Ty) → rest ≡ [] → nested first (rest ++ last ∷ []) ≡ whole → kind.Pair first last ≡ whole
pair_first first last whole rest none so_far = sym (ap (λ (l : List Ty). nested first (l ++ last ∷ [])) none) ∙ so_far

-- ---- instructions

module _ (at : ℕ) (name : List ℕ) (e : ReadFault) where
  alone_by : List (List ℕ) → Bool → Option Instr → Read Instr
  alone_by notes self plain = if self then then_read (entry at notes) (λ e. Ok (instr.SelfEntry e)) else option_map_or (λ i. Ok i) plain (no_form at name)

  pub not_alone : (notes : List (List ℕ)) → bytes_eq name (codes "SELF") ≡ false → named name plain_forms ≡ None → Told at name e → IsTold (read_fault e) (alone at name notes)
  unfolding alone_by
  not_alone notes isnt none told = told_as at name e (alone at name notes) (λ i. alone_by notes (isnt i) (none i)) told

  one_by : List (List ℕ) → Reader → Bool → Option (ℕ × (ℕ → Instr)) → Option (Ty → Instr) → Option (List Instr → Instr) → Read Instr
  one_by notes x contract number_form type_form body_form =
      if contract then then_read (entry at notes) (λ e. then_read (type_read x.node) (λ t. Ok (instr.Contract e t)))
      else option_map_or (λ f. then_read (number at f.0 x.node) (λ n. Ok (f.1 n))) number_form
      (option_map_or (λ f. then_read (type_read x.node) (λ t. Ok (f t))) type_form
      (option_map_or (λ f. then_read x.code (λ c. Ok (f c))) body_form (no_form at name)))

  pub not_with_one : (notes : List (List ℕ)) (x : Reader) → bytes_eq name (codes "CONTRACT") ≡ false → named name forms_of_number ≡ None → named name forms_of_type ≡ None →
      named name forms_of_body ≡ None → Told at name e → IsTold (read_fault e) (with_one at name notes x)
  unfolding one_by
  not_with_one notes x isnt number type body told = told_as at name e (with_one at name notes x) (λ i. one_by notes x (isnt i) (number i) (type i) (body i)) told

  two_by : Reader → Reader → Bool → Bool → Bool → Option (List Instr → List Instr → Instr) → Read Instr
  two_by x y push empty dip bodies =
      if push then then_read (type_read x.node) (λ t. then_read (pushed t y.node) (λ v. Ok (instr.Push t v)))
      else if empty then then_read (type_read x.node) (λ k. then_read (type_read y.node) (λ v. Ok (instr.EmptyMap k v)))
      else if dip then then_read (number at 0 x.node) (λ n. then_read y.code (λ c. Ok (instr.DipN n c)))
      else option_map_or (λ f. then_read x.code (λ c. then_read y.code (λ d. Ok (f c d)))) bodies (no_form at name)

  pub not_with_two : (x y : Reader) → bytes_eq name (codes "PUSH") ≡ false → bytes_eq name (codes "EMPTY_MAP") ≡ false → bytes_eq name (codes "DIP") ≡ false →
      named name forms_of_two_bodies ≡ None → Told at name e → IsTold (read_fault e) (with_two at name x y)
  unfolding two_by
  not_with_two x y push empty dip bodies told = told_as at name e (with_two at name x y) (λ i. two_by x y (push i) (empty i) (dip i) (bodies i)) told

  pub three_arguments : (notes : List (List ℕ)) (args : List Node) → 3 ≤ length args → Told at name e → IsTold (read_fault e) (code.applied at name notes (map read_of args))
  three_arguments notes [] many told = absurd (omega arith)
  three_arguments notes (x ∷ []) many told = absurd (omega arith)
  three_arguments notes (x ∷ y ∷ []) many told = absurd (omega arith)
  three_arguments notes (x ∷ y ∷ z ∷ more) many told = no_form-refuses Instr at name e told
