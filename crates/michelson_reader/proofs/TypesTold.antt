-- What is read of a node as a type is told by its first fault.
use Rattle.std.proofs.Common.{◌≡◌, ◌≤◌, ◌⊎◌, inl, inr, ℕ, Bool, true, false, List, [], ◌∷◌, length, map, Option, None, Some, Ok, Err, refl, ap, sym, subst, ◌∙◌, arith}
use Rattle.std.specs.Prelude.{codes, if◌then◌else◌}
use Rattle.std.specs.List.{AllByRecursion}
use Rattle.std.specs.Option.{option_map_or}
use Rattle.std.specs.Str.{bytes_eq}
use Rattle.std.proofs.lemmas.Slice.Eq.{bytes_eq-Decides}
use Rattle.value_core.specs.declared.ty.Ty.{Ty}
use Rattle.value_core.specs.declared.ty.Ty.TheVariants as kind
use Rattle.value_core.specs.declared.ty.Ty.TheOpen as ty
use Rattle.value_core.specs.declared.ty.Ty.TheOpen.{Ty-F}
use Rattle.micheline_text.specs.declared.node.Node.{Node}
use Rattle.micheline_text.specs.declared.node.Body.TheOpen as body
use Rattle.micheline_text.specs.declared.node.Body.TheViews.{out-Body}
use Rattle.michelson_reader.specs.declared.fault.ReadFault.{ReadFault}
use Rattle.michelson_reader.specs.CodeFaults.{first_found}
use Rattle.michelson_reader.specs.FaultyNodes.{HasNoType, IsNoType, Level, TakesParts, level_fault}
use Rattle.michelson_reader.specs.FirstFault.{parts_as}
use Rattle.michelson_reader.specs.Roles.{AsType}
use Rattle.michelson_reader.specs.Names.{Words, named, plain_types, types_of_one, types_of_two}
use Rattle.michelson_reader.specs.PushedFault.{nodes_in}
use Rattle.michelson_reader.specs.TypeFaults.{Read, applied, comb, no_form, then_read, type_at, type_read}
use Rattle.michelson_reader.specs.Types.{word_and_parts}
use Rattle.michelson_reader.proofs.FirstAtFault.{fault_in}
use Rattle.michelson_reader.proofs.NodeInduction.{Each, induction, parts_of}
use Rattle.michelson_reader.proofs.ReadLemmas.{named-found}
use Rattle.michelson_reader.proofs.RolesTold.{IsToldBy, each_told, level_sound, level_told, one_fault, only_one, parts_told, word_told}
use Rattle.michelson_reader.proofs.TypeLevels.{read_parts, type_read-level}
use Rattle.michelson_reader.proofs.TypeNodes.{read_shown}

-- ---- words of types

-- a type has the word and so many parts
abbrev pub HasType : ℕ → List ℕ → Type 0
HasType count name = (x : Ty-F Ty) × ((word_and_parts x).0 ≡ name) × TakesParts x count

pub plain_rows : AllByRecursion (λ (w : List ℕ × Ty). HasType 0 w.0) plain_types
plain_rows = (
  (ty.Unit, refl, refl),
  (
    (ty.Bool, refl, refl),
    (
      (ty.Int, refl, refl),
      (
        (ty.Nat, refl, refl),
        (
          (ty.Mutez, refl, refl),
          (
            (ty.Time, refl, refl),
            (
              (ty.Text, refl, refl),
              ((ty.Bytes, refl, refl), ((ty.Addr, refl, refl), ((ty.Operation, refl, refl), tt))),
            ),
          ),
        ),
      ),
    ),
  ),
)

pub rows_of_one : AllByRecursion (λ (w : List ℕ × (Ty → Ty)). HasType 1 w.0) types_of_one
rows_of_one = (
  (ty.Option kind.Unit, refl, refl),
  ((ty.List kind.Unit, refl, refl), ((ty.Set kind.Unit, refl, refl), ((ty.Contract kind.Unit, refl, refl), tt))),
)

two_or_more : 2 ≤ 2
two_or_more = omega arith

pub rows_of_two : AllByRecursion (λ (w : List ℕ × (Ty → Ty → Ty)). HasType 2 w.0) types_of_two
rows_of_two = (
  (ty.Or kind.Unit kind.Unit, refl, refl),
  (
    (ty.Pair kind.Unit kind.Unit, refl, two_or_more),
    ((ty.Map kind.Unit kind.Unit, refl, refl), ((ty.BigMap kind.Unit kind.Unit, refl, refl), tt)),
  ),
)

plain_in : (x : Ty-F Ty) → TakesParts x 0 → named (word_and_parts x).0 plain_types ≡ None → ⊥
plain_in (ty.Option t) few none = absurd (omega (arith, few))
plain_in (ty.Or s t) few none = absurd (omega (arith, few))
plain_in (ty.Pair s t) few none = absurd (omega (arith, few))
plain_in (ty.List t) few none = absurd (omega (arith, few))
plain_in (ty.Set t) few none = absurd (omega (arith, few))
plain_in (ty.Map s t) few none = absurd (omega (arith, few))
plain_in (ty.BigMap s t) few none = absurd (omega (arith, few))
plain_in (ty.Contract t) few none = absurd (omega (arith, few))
plain_in _ few none = absurd cc

one_in : (x : Ty-F Ty) → TakesParts x 1 → named (word_and_parts x).0 types_of_one ≡ None → ⊥
one_in (ty.Option t) few none = absurd cc
one_in (ty.List t) few none = absurd cc
one_in (ty.Set t) few none = absurd cc
one_in (ty.Contract t) few none = absurd cc
one_in _ few none = absurd (omega (arith, few))

two_in : (x : Ty-F Ty) → TakesParts x 2 → named (word_and_parts x).0 types_of_two ≡ None → ⊥
two_in (ty.Or s t) few none = absurd cc
two_in (ty.Pair s t) few none = absurd cc
two_in (ty.Map s t) few none = absurd cc
two_in (ty.BigMap s t) few none = absurd cc
two_in _ few none = absurd (omega (arith, few))

more_is_pair : (x : Ty-F Ty) (count : ℕ) → 3 ≤ count → TakesParts x count → bytes_eq (word_and_parts x).0 (codes "pair") ≡ false → ⊥
more_is_pair (ty.Pair s t) count many few isnt = absurd cc
more_is_pair _ count many few isnt = absurd (omega (arith, few, many))

module _ (name : List ℕ) where
  missing : {A : Type 0} (words : Words A) (count : ℕ) → ((x : Ty-F Ty) → TakesParts x count → named (word_and_parts x).0 words ≡ None → ⊥) → named name words ≡ None → HasNoType name count
  missing words count in_table none x word few = in_table x few (ap (λ (w : List ℕ). named w words) word ∙ none)

-- ---- what is told of a word with its arguments

told_of : Node → Option ReadFault
told_of n = fault_in (type_read n)

two_faults : {A B C : Type 0} (r : Read A) (s : Read B) (f : A → B → C) (os : List (Option ReadFault)) → fault_in s ≡ first_found os →
    fault_in (then_read r (λ x. then_read s (λ y. Ok (f x y)))) ≡ first_found (fault_in r ∷ os)
two_faults (Ok x) s f os rest = one_fault s (f x) ∙ rest
two_faults (Err e) s f os rest = refl

comb_fault : (x : Node) (more : List Node) → fault_in (comb (type_read x) (map type_read more)) ≡ first_found (map (λ n. fault_in (type_read n)) (x ∷ more))
comb_fault x [] = sym (only_one (fault_in (type_read x)))
comb_fault x (y ∷ more) = two_faults (type_read x) (comb (type_read y) (map type_read more)) kind.Pair (map (λ n. fault_in (type_read n)) (y ∷ more)) (comb_fault y more)

-- the word isn't that of a type, or its parts tell
abbrev WordLaw : ℕ → List ℕ → List Node → Type 0
WordLaw at name args =
    (HasNoType name (length args) × (applied at name (map type_read args) ≡ no_form at name))
    ⊎ (HasType (length args) name × (fault_in (applied at name (map type_read args)) ≡ first_found (map (λ n. fault_in (type_read n)) args)))

module _ (at : ℕ) (name : List ℕ) where
  alone_law : (o : Option Ty) → named name plain_types ≡ o → WordLaw at name []
  alone_law None is = inl (missing name plain_types 0 plain_in is, ap (λ (o : Option Ty). option_map_or (λ t. Ok t) o (no_form at name)) is)
  alone_law (Some t) is =
      inr (
        named-found (λ w t. HasType 0 w) name plain_types plain_rows t is,
        ap (λ (o : Option Ty). fault_in (option_map_or (λ t. Ok t) o (no_form at name))) is,
      )

  one_law : (x : Node) (o : Option (Ty → Ty)) → named name types_of_one ≡ o → WordLaw at name (x ∷ [])
  one_law x None is =
      inl (
        missing name types_of_one 1 one_in is,
        ap (λ (o : Option (Ty → Ty)). option_map_or (λ f. then_read (type_read x) (λ t. Ok (f t))) o (no_form at name)) is,
      )
  one_law x (Some f) is =
      inr (
        named-found (λ w f. HasType 1 w) name types_of_one rows_of_one f is,
        ap (λ (o : Option (Ty → Ty)). fault_in (option_map_or (λ f. then_read (type_read x) (λ t. Ok (f t))) o (no_form at name))) is
            ∙ one_fault (type_read x) f ∙ sym (only_one (fault_in (type_read x))),
      )

  two_law : (x y : Node) (o : Option (Ty → Ty → Ty)) → named name types_of_two ≡ o → WordLaw at name (x ∷ y ∷ [])
  two_law x y None is =
      inl (
        missing name types_of_two 2 two_in is,
        ap (λ (o : Option (Ty → Ty → Ty)). option_map_or (λ f. then_read (type_read x) (λ s. then_read (type_read y) (λ t. Ok (f s t)))) o (no_form at name)) is,
      )
  two_law x y (Some f) is =
      inr (
        named-found (λ w f. HasType 2 w) name types_of_two rows_of_two f is,
        ap (λ (o : Option (Ty → Ty → Ty)). fault_in (option_map_or (λ f. then_read (type_read x) (λ s. then_read (type_read y) (λ t. Ok (f s t)))) o (no_form at name))) is
            ∙ two_faults (type_read x) (type_read y) f (fault_in (type_read y) ∷ []) (sym (only_one (fault_in (type_read y)))),
      )

  more_law : (x y z : Node) (more : List Node) (b : Bool) → bytes_eq name (codes "pair") ≡ b → WordLaw at name (x ∷ y ∷ z ∷ more)
  more_law x y z more false is =
      inl (
        λ t word few. more_is_pair t (length (x ∷ y ∷ z ∷ more)) (omega arith) few (ap (λ (w : List ℕ). bytes_eq w (codes "pair")) word ∙ is),
        ap (λ (b : Bool). if b then comb (type_read x) (map type_read (y ∷ z ∷ more)) else no_form at name) is,
      )
  more_law x y z more true is =
      inr (
        (ty.Pair kind.Unit kind.Unit, sym ((bytes_eq-Decides name (codes "pair")).0 is), omega arith),
        ap (λ (b : Bool). fault_in (if b then comb (type_read x) (map type_read (y ∷ z ∷ more)) else no_form at name)) is ∙ comb_fault x (y ∷ z ∷ more),
      )

  word_law : (args : List Node) → WordLaw at name args
  word_law [] = alone_law (named name plain_types) refl
  word_law (x ∷ []) = one_law x (named name types_of_one) refl
  word_law (x ∷ y ∷ []) = two_law x y (named name types_of_two) refl
  word_law (x ∷ y ∷ z ∷ more) = more_law x y z more (bytes_eq name (codes "pair")) refl

-- ---- a node

abbrev pub TypeTold : Node → Type 0
TypeTold n = IsToldBy AsType n (fault_in (type_read n))

-- what is read of a word as a type is at fault in the word or its parts
pub type_word : (n : Node) (name : List ℕ) (notes : List (List ℕ)) (args : List Node) → out-Body n.body ≡ body.Prim name notes args →
    (HasNoType name (length args) × (type_read n ≡ no_form n.at name))
    ⊎ (HasType (length args) name × (fault_in (type_read n) ≡ first_found (map (λ m. fault_in (type_read m)) args)))
type_word n name notes args is =
    let read = read_shown n name args (notes, is) in
    elim (word_law n.at name args) [ inl isnt ↦ inl (isnt.0, read ∙ isnt.1) | inr has ↦ inr (has.0, ap fault_in read ∙ has.1) ]

pub not_a_word : (n : Node) (b : Level) → out-Body n.body ≡ b → ((name : List ℕ) (notes : List (List ℕ)) (args : List Node) → b ≡ body.Prim name notes args → ⊥) →
    fault_in (type_read n) ≡ Some (level_fault n.at b)
not_a_word n (body.Prim name notes args) is isnt = absurd (isnt name notes args refl)
not_a_word n b is isnt = ap fault_in (type_read-level n ∙ ap (λ (c : Level). type_at (read_parts c) n.at) is)

module _ (n : Node) where
  itself : (b : Level) → out-Body n.body ≡ b → IsNoType b → IsToldBy AsType n (Some (level_fault n.at b))
  itself b is out = level_told AsType n IsNoType (λ f s. s) (λ f s. s) b is out

  by_level : (b : Level) → out-Body n.body ≡ b → Each TypeTold (parts_of b) → TypeTold n
  by_level (body.Prim name notes args) is h = elim (type_word n name notes args is) [
    | inl isnt ↦ subst (IsToldBy AsType n) (sym (word_told n.at name (type_read n) isnt.1)) (itself (body.Prim name notes args) is isnt.0)
    | inr has ↦ subst (IsToldBy AsType n) (sym has.1)
        (parts_told AsType n (parts_as AsType args) (ap (λ (b : Level). parts_as AsType (nodes_in b)) (sym is)) (λ qs are. are ∙ ap (λ (b : Level). parts_as AsType (nodes_in b)) is)
        (level_sound AsType n IsNoType (λ f s. s) (λ f s. s) (body.Prim name notes args) is (λ isnt. isnt has.0.0 has.0.1 has.0.2))
        (first_found (map (λ m. fault_in (type_read m)) args)) (each_told AsType (λ m. fault_in (type_read m)) args h))
  ]
  by_level (body.Int z) is h = subst (IsToldBy AsType n) (sym (not_a_word n (body.Int z) is (λ name notes args e. cc))) (itself (body.Int z) is tt)
  by_level (body.Text s) is h = subst (IsToldBy AsType n) (sym (not_a_word n (body.Text s) is (λ name notes args e. cc))) (itself (body.Text s) is tt)
  by_level (body.Bytes s) is h = subst (IsToldBy AsType n) (sym (not_a_word n (body.Bytes s) is (λ name notes args e. cc))) (itself (body.Bytes s) is tt)
  by_level (body.Seq ns) is h = subst (IsToldBy AsType n) (sym (not_a_word n (body.Seq ns) is (λ name notes args e. cc))) (itself (body.Seq ns) is tt)

-- the fault that is told of a node as a type is its first one
pub type_told : (n : Node) → TypeTold n
type_told = induction TypeTold (λ n h. by_level n (out-Body n.body) refl h)
