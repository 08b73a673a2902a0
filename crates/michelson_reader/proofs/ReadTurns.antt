-- One turn of each loop over nodes and annotations.
use Rattle.std.proofs.Common.{◌≡◌, ℕ, ◌+◌, ◌<◌, true, false, List, [], ◌∷◌, ◌++◌, length, map, drop, get_or, Option, Some, None, Ok, Err, refl, sym, ap, subst, ◌∙◌, append_assoc}
use Rattle.std.specs.Prelude.{if◌then◌else◌, Bool, IfSome, is_some}
use Rattle.std.proofs.lemmas.List.{drop_more}
use Rattle.value_core.specs.Leaves.{is_name}
use Rattle.micheline_text.specs.declared.node.Node.{Node}
use Rattle.micheline_text.specs.declared.node.Body.TheViews.{out-Body}
use Rattle.michelson_reader.specs.declared.fault.ReadFault.{ReadFault}
use Rattle.michelson_reader.specs.declared.fault.ReadFault.TheVariants as fault
use Rattle.micheline_text.specs.Told.{IsTold}
use Rattle.michelson_reader.specs.Answers.{read_fault}
use Rattle.michelson_reader.specs.CodeFaults.{first_found, left_out_in}
use Rattle.michelson_reader.specs.Entries.{name_in, names_in, only_name}
use Rattle.michelson_reader.specs.Returned.{as_names, each}
use Rattle.michelson_reader.specs.ScriptFaults.{Sections, section_body, sections}
use Rattle.michelson_reader.specs.TypeFaults.{Read, then_read}

-- a refusal of the first is one of all
pub refused : {A B : Type 0} (r : Read A) (f : A → Read B) (e : ReadFault) → IsTold (read_fault e) r → IsTold (read_fault e) (then_read r f)
refused r f fault.NoMemory told = tt
refused r f e told = ap (λ (x : Read _). then_read x f) told

-- the same refusal of what is equal
pub refused_as : {A : Type 0} (r s : Read A) (e : ReadFault) → r ≡ s → IsTold (read_fault e) s → IsTold (read_fault e) r
refused_as r s e same told = subst (IsTold (read_fault e)) (sym same) told

-- what is left at an item
left_at : {A B : Type 0} (f : List A → B) (xs : List A) (i : ℕ) (x : A) → i < length xs → get_or xs i x ≡ x → f (drop i xs) ≡ f (x ∷ drop (i + 1) xs)
left_at f xs i x lt is = ap f (drop_more xs i x lt) ∙ ap (λ (y : _). f (y ∷ drop (i + 1) xs)) is

-- ---- one after another

module _ {A : Type 0} where
  -- what was read before what is read
  abbrev pub behind : List A → Read (List A) → Read (List A)
  behind front r = then_read r (λ xs. Ok (front ++ xs))

  behind-more : (front : List A) (x : A) (r : Read (List A)) → behind front (then_read r (λ xs. Ok (x ∷ xs))) ≡ behind (front ++ x ∷ []) r
  behind-more front x (Ok xs) = ap (λ (l : List A). Ok l) (sym (append_assoc front (x ∷ []) xs))
  behind-more front x (Err e) = refl

  pub behind-none : (r : Read (List A)) → behind [] r ≡ r
  behind-none (Ok xs) = refl
  behind-none (Err e) = refl

  -- the next one is read, or refused
  first_then : List A → Read (List A) → Read A → Read (List A)
  first_then front rest r = behind front (then_read r (λ y. then_read rest (λ ys. Ok (y ∷ ys))))

  module _ (f : Node → Read A) (front : List A) (nodes : List Node) (i : ℕ) (n : Node) (total : Read (List A)) (lt : i < length nodes) (is : get_or nodes i n ≡ n)
      (so_far : behind front (each (map f (drop i nodes))) ≡ total) where
    pub one_more : (x : A) → f n ≡ Ok x → behind (front ++ x ∷ []) (each (map f (drop (i + 1) nodes))) ≡ total
    unfolding first_then
    one_more x read =
        sym (behind-more front x (each (map f (drop (i + 1) nodes))))
        ∙ sym (ap (first_then front (each (map f (drop (i + 1) nodes)))) read)
        ∙ sym (left_at (λ l. behind front (each (map f l))) nodes i n lt is) ∙ so_far

    pub one_refused : (e : ReadFault) → IsTold (read_fault e) (f n) → IsTold (read_fault e) total
    unfolding first_then
    one_refused fault.NoMemory told = tt
    one_refused e told =
        sym so_far ∙ left_at (λ l. behind front (each (map f l))) nodes i n lt is ∙ ap (first_then front (each (map f (drop (i + 1) nodes)))) told

-- ---- words that are left out

module _ (nodes : List Node) (i : ℕ) (n : Node) (lt : i < length nodes) (is : get_or nodes i n ≡ n) where
  pub none_next : left_out_in n ≡ None → first_found (map left_out_in (drop i nodes)) ≡ first_found (map left_out_in (drop (i + 1) nodes))
  none_next none =
      left_at (λ l. first_found (map left_out_in l)) nodes i n lt is
      ∙ ap (λ (o : Option (ℕ × List ℕ)). first_found (o ∷ map left_out_in (drop (i + 1) nodes))) none

  pub found_next : (x : ℕ × List ℕ) → left_out_in n ≡ Some x → first_found (map left_out_in (drop i nodes)) ≡ Some x
  found_next x found =
      left_at (λ l. first_found (map left_out_in l)) nodes i n lt is
      ∙ ap (λ (o : Option (ℕ × List ℕ)). first_found (o ∷ map left_out_in (drop (i + 1) nodes))) found

-- ---- sections

module _ (end : ℕ) (s : Sections) (nodes : List Node) (i : ℕ) (n : Node) (lt : i < length nodes) (is : get_or nodes i n ≡ n) where
  pub section_next : (t : Sections) → section_body n.at (out-Body n.body) s ≡ Ok t → sections end s (drop i nodes) ≡ sections end t (drop (i + 1) nodes)
  section_next t read =
      left_at (sections end s) nodes i n lt is ∙ ap (λ (r : Read Sections). then_read r (λ more. sections end more (drop (i + 1) nodes))) read

  pub section_refused : (e : ReadFault) → IsTold (read_fault e) (section_body n.at (out-Body n.body) s) → IsTold (read_fault e) (sections end s (drop i nodes))
  section_refused e h =
      refused_as (sections end s (drop i nodes)) _ e (left_at (sections end s) nodes i n lt is)
      (refused (section_body n.at (out-Body n.body) s) (λ more. sections end more (drop (i + 1) nodes)) e h)

-- ---- names of entries

module _ (notes : List (List ℕ)) (i : ℕ) (note : List ℕ) (lt : i < length notes) (is : get_or notes i note ≡ note) where
  names_next : names_in (drop i notes) ≡ name_in note ++ names_in (drop (i + 1) notes)
  names_next = left_at names_in notes i note lt is

  pub no_name : (front : List (List ℕ)) → name_in note ≡ [] → only_name (front ++ names_in (drop i notes)) ≡ only_name (front ++ names_in (drop (i + 1) notes))
  no_name front none = ap (λ (l : List (List ℕ)). only_name (front ++ l)) (names_next ∙ ap (λ (l : List (List ℕ)). l ++ names_in (drop (i + 1) notes)) none)

  pub one_name : (name : List ℕ) → name_in note ≡ name ∷ [] → names_in (drop i notes) ≡ name ∷ names_in (drop (i + 1) notes)
  one_name name one = names_next ∙ ap (λ (l : List (List ℕ)). l ++ names_in (drop (i + 1) notes)) one

unfit_or_more : (name : List ℕ) (more : List (List ℕ)) (fit : Bool) → is_name name ≡ fit → fit ≡ false → only_name (name ∷ more) ≡ None
unfit_or_more name [] fit is isnt = ap (λ (b : Bool). if b then Some (Some name) else None) (is ∙ isnt)
unfit_or_more name (other ∷ more) fit is isnt = refl

pub unfit_name : (name : List ℕ) (more : List (List ℕ)) → is_name name ≡ false → only_name (name ∷ more) ≡ None
unfit_name name more isnt = unfit_or_more name more (is_name name) refl isnt

false_of : (b : Bool) → (b ≡ true → ⊥) → b ≡ false
false_of false isnt = refl
false_of true isnt = absurd (isnt refl)

module _ (notes : List (List ℕ)) (i : ℕ) (note : List ℕ) (lt : i < length notes) (is : get_or notes i note ≡ note) (name : List ℕ) (one : name ∷ [] ≡ name_in note) where
  pub two_names : (found : Option (List ℕ)) → true ≡ is_some found → only_name (as_names found ++ names_in (drop i notes)) ≡ None
  two_names None some = absurd cc
  two_names (Some first) some = ap (λ (l : List (List ℕ)). only_name (first ∷ l)) (one_name notes i note lt is name (sym one))

  pub an_unfit_name : (found : Option (List ℕ)) → false ≡ is_some found → (is_name name ≡ true → ⊥) → only_name (as_names found ++ names_in (drop i notes)) ≡ None
  an_unfit_name (Some first) none isnt = absurd cc
  an_unfit_name None none isnt =
      ap only_name (one_name notes i note lt is name (sym one)) ∙ unfit_name name (names_in (drop (i + 1) notes)) (false_of (is_name name) isnt)

-- where no annotation is left
pub last_name : (found : Option (List ℕ)) → IfSome found (λ name. is_name name ≡ true) → only_name (as_names found ++ []) ≡ Some found
last_name None fit = refl
last_name (Some name) fit = ap (λ (b : Bool). if b then Some (Some name) else None) fit
