-- Names of entries by the way from the root: the names of a part stand behind those before it.
use Rattle.std.proofs.Common.{◌≡◌, ℕ, Bool, true, false, List, [], ◌∷◌, ◌++◌, length, map, get_or, Option, None, Some, Ok, Err, nat_eq, refl, ap, sym, ◌∙◌, append_assoc, arith}
use Rattle.std.specs.Prelude.{◌&&◌, IfErr, IfOk, Result, codes, if◌then◌else◌}
use Rattle.std.specs.Option.{option_map_or}
use Rattle.std.specs.Str.{bytes_eq}
use Rattle.std.proofs.lemmas.Bool.{and_parts, eqb-true}
use Rattle.value_core.specs.declared.ty.Ty.{Ty}
use Rattle.value_core.specs.declared.ty.Ty.TheVariants as kind
use Rattle.micheline_text.specs.declared.node.Node.{Node}
use Rattle.micheline_text.specs.declared.node.Body.{Body}
use Rattle.micheline_text.specs.declared.node.Body.TheVariants as variant
use Rattle.micheline_text.specs.declared.node.Body.TheVariants.{rolls-Prim}
use Rattle.micheline_text.specs.declared.node.Body.TheOpen as one
use Rattle.micheline_text.specs.declared.node.Body.TheOpen.{Body-F}
use Rattle.micheline_text.specs.declared.node.Body.TheViews.{out-Body, roll-Body}
use Rattle.michelson_code.specs.declared.script.Side.{Side}
use Rattle.michelson_code.specs.declared.script.Side.TheVariants.{Left, Right}
use Rattle.michelson_reader.specs.declared.fault.ReadFault.{ReadFault}
use Rattle.michelson_code.specs.Entries.{NamedEntry, Path}
use Rattle.michelson_reader.specs.Entries.{entry_in, from, in_order, own}
use Rattle.micheline_text.specs.Told.{AnswersUnlessFull, IsTold}
use Rattle.michelson_reader.specs.Answers.{read_fault}
use Rattle.michelson_reader.specs.Returned.{IsReadBehind, below_way}
use Rattle.michelson_reader.specs.ScriptFaults.{below, either, other, parameter_at, parameter_read}
use Rattle.michelson_reader.specs.TypeFaults.{Read, no_form, then_read, type_read}
use Rattle.michelson_reader.proofs.NodeInduction.{roll-out}
use Rattle.michelson_reader.proofs.NodeReads.{parameter_prim}
use Rattle.michelson_reader.proofs.ParameterLevels.{parameter-level, reader, readers}
use Rattle.michelson_reader.proofs.ReadTurns.{refused, refused_as}
use Rattle.michelson_reader.proofs.WordFaults.{Told, told_as}

-- ---- ways

append_none : {A : Type 0} (xs : List A) → xs ++ [] ≡ xs
append_none [] = refl
append_none (x ∷ xs) = ap (λ (l : List _). x ∷ l) (append_none xs)

pub below_way-append : (way : Path) (xs ys : List NamedEntry) → below_way way (xs ++ ys) ≡ below_way way xs ++ below_way way ys
below_way-append way [] ys = refl
below_way-append way (e ∷ xs) ys = ap (λ (l : List NamedEntry). (way ++ e.0, e.1) ∷ l) (below_way-append way xs ys)

below_way-from : (way : Path) (side : Side) (es : List NamedEntry) → below_way (way ++ side ∷ []) es ≡ below_way way (from side es)
below_way-from way side [] = refl
below_way-from way side (e ∷ es) = λ i. (append_assoc way (side ∷ []) e.0 i, e.1) ∷ below_way-from way side es i

pub below_root : (es : List NamedEntry) → below_way [] es ≡ es
below_root [] = refl
below_root (e ∷ es) = ap (λ (l : List NamedEntry). e ∷ l) (below_root es)

pub own_name : (way : Path) (name : List ℕ) → (way, name) ∷ [] ≡ below_way way (own (Some name))
own_name way name = λ i. (sym (append_none way) i, name) ∷ []

pub no_own_name : (way : Path) (before : List NamedEntry) → before ≡ before ++ below_way way (own None)
no_own_name way before = sym (append_none before)

-- ---- what is read of a node of the parameter

pub two_parts : (args : List Node) (b : Bool) → (nat_eq (length args) 2 && b) ≡ true → length args ≡ 2
two_parts args b holds = eqb-true (length args) 2 (and_parts (nat_eq (length args) 2) b holds).0

module _ (n : Node) (name : List ℕ) (notes : List (List ℕ)) (args : List Node) (shown : n.body ≡ variant.Prim name notes args) where
  pub unfit_notes : (e : ReadFault) → entry_in notes ≡ None → Told n.at name e → IsTold (read_fault e) (parameter_read n)
  unfit_notes e unfit told =
      told_as n.at name e (parameter_read n)
      (parameter_prim n name notes args shown ∙ ap (λ (o : Option (Option (List ℕ))). option_map_or (below n name (map reader args)) o (no_form n.at name)) unfit) told

  module _ (entry : Option (List ℕ)) (fit : entry_in notes ≡ Some entry) where
    is_below : parameter_read n ≡ below n name (map reader args) entry
    is_below =
        parameter_prim n name notes args shown ∙ ap (λ (o : Option (Option (List ℕ))). option_map_or (below n name (map reader args)) o (no_form n.at name)) fit

    pub not_or : (nat_eq (length args) 2 && bytes_eq name (codes "or")) ≡ false → parameter_read n ≡ other n entry
    not_or isnt = is_below ∙ by_length args isnt
      where
        by_length : (parts : List Node) → (nat_eq (length parts) 2 && bytes_eq name (codes "or")) ≡ false → below n name (map reader parts) entry ≡ other n entry
        by_length [] isnt = refl
        by_length (x ∷ []) isnt = refl
        by_length (x ∷ y ∷ []) isnt = ap (λ (b : Bool). if b then either entry (reader x) (reader y) else other n entry) isnt
        by_length (x ∷ y ∷ z ∷ more) isnt = refl

    pub is_or : (x y : Node) → (nat_eq (length args) 2 && bytes_eq name (codes "or")) ≡ true → get_or args 0 x ≡ x → get_or args 1 y ≡ y →
        parameter_read n ≡ either entry (reader x) (reader y)
    is_or x y holds first second = is_below ∙ by_length args holds first second
      where
        by_length : (parts : List Node) → (nat_eq (length parts) 2 && bytes_eq name (codes "or")) ≡ true → get_or parts 0 x ≡ x → get_or parts 1 y ≡ y →
            below n name (map reader parts) entry ≡ either entry (reader x) (reader y)
        by_length [] holds first second = absurd cc
        by_length (a ∷ []) holds first second = absurd cc
        by_length (a ∷ b ∷ []) holds first second =
            ap (λ (c : Bool). if c then either entry (reader a) (reader b) else other n entry) holds ∙ (λ i. either entry (reader (first i)) (reader (second i)))
        by_length (a ∷ b ∷ c ∷ more) holds first second =
            absurd (let two : length (a ∷ b ∷ c ∷ more) ≡ 2 = two_parts (a ∷ b ∷ c ∷ more) _ holds in omega arith)

-- ---- parts

module _ (n : Node) (way : Path) (before : List NamedEntry) (name : Option (List ℕ)) where
  pub other_part : (t : Ty) → parameter_read n ≡ other n name → type_read n ≡ Ok t → IsReadBehind n way before t (before ++ below_way way (own name))
  other_part t is read = (own name, is ∙ ap (λ (r : Read Ty). then_read r (λ u. Ok (u, own name))) read, refl)

  pub other_refused : (e : ReadFault) → parameter_read n ≡ other n name → IsTold (read_fault e) (type_read n) → IsTold (read_fault e) (parameter_read n)
  other_refused e is h = refused_as (parameter_read n) (other n name) e is (refused (type_read n) (λ t. Ok (t, own name)) e h)

  module _ (x y : Node) (is : parameter_read n ≡ either name (reader x) (reader y)) where
    pub left_refused : (e : ReadFault) → IsTold (read_fault e) (parameter_read x) → IsTold (read_fault e) (parameter_read n)
    left_refused e h =
        refused_as (parameter_read n) (either name (reader x) (reader y)) e is
        (refused (parameter_read x) (λ s. then_read (parameter_read y) (λ t. Ok (kind.Or s.0 t.0, in_order name s.1 t.1))) e h)

    module _ (s : Ty) (middle : List NamedEntry) (left : IsReadBehind x (way ++ Left ∷ []) (before ++ below_way way (own name)) s middle) where
      left_read : either name (reader x) (reader y) ≡ then_read (parameter_read y) (λ t. Ok (kind.Or s t.0, in_order name left.0 t.1))
      left_read = ap (λ (r : Read (Ty × List NamedEntry)). then_read r (λ s. then_read (parameter_read y) (λ t. Ok (kind.Or s.0 t.0, in_order name s.1 t.1)))) left.1

      pub right_refused : (e : ReadFault) → IsTold (read_fault e) (parameter_read y) → IsTold (read_fault e) (parameter_read n)
      right_refused e h =
          refused_as (parameter_read n) _ e (is ∙ left_read) (refused (parameter_read y) (λ t. Ok (kind.Or s t.0, in_order name left.0 t.1)) e h)

      pub or_part : (t : Ty) (after : List NamedEntry) → IsReadBehind y (way ++ Right ∷ []) middle t after → IsReadBehind n way before (kind.Or s t) after
      or_part t after right = (
        in_order name left.0 right.0,
        is ∙ left_read ∙ ap (λ (r : Read (Ty × List NamedEntry)). then_read r (λ t. Ok (kind.Or s t.0, in_order name left.0 t.1))) right.1,
        names,
      )
        where
          names : after ≡ before ++ below_way way (in_order name left.0 right.0)
          names =
              let ls = below_way way (from Left left.0) in
              let rs = below_way way (from Right right.0) in
              let here = below_way way (own name) in
              let below : below_way way (in_order name left.0 right.0) ≡ here ++ (ls ++ rs) =
              below_way-append way (own name) (from Left left.0 ++ from Right right.0) ∙ ap (λ (l : List NamedEntry). here ++ l) (below_way-append way (from Left left.0) (from Right right.0)) in
              let start : after ≡ ((before ++ here) ++ ls) ++ rs =
              right.2 ∙ (λ i. (left.2 ∙ ap (λ (l : List NamedEntry). (before ++ here) ++ l) (below_way-from way Left left.0)) i ++ below_way-from way Right right.0 i) in
              start ∙ append_assoc (before ++ here) ls rs ∙ append_assoc before here (ls ++ rs) ∙ sym (ap (λ (l : List NamedEntry). before ++ l) below)

-- ---- a node that is no `or`

module _ (n : Node) (way : Path) (before : List NamedEntry) (name : Option (List ℕ)) (is : parameter_read n ≡ other n name) where
  pub other_parts : (after : List NamedEntry) (r : Result Ty ReadFault) → after ≡ before ++ below_way way (own name) → AnswersUnlessFull read_fault (λ t. t) r (type_read n) →
      IfOk r (λ t. IsReadBehind n way before t after)
  other_parts after (Ok t) same read = (own name, is ∙ ap (λ (r : Read Ty). then_read r (λ u. Ok (u, own name))) read, same)
  other_parts after (Err e) same read = tt

  pub other_faults : (r : Result Ty ReadFault) → AnswersUnlessFull read_fault (λ t. t) r (type_read n) → IfErr r (λ e. IsTold (read_fault e) (parameter_read n))
  other_faults (Ok t) read = tt
  other_faults (Err e) h = other_refused n way before name e is h

no_word : (n : Node) (b : Body-F Body Node) → out-Body n.body ≡ b → ((word : List ℕ) (notes : List (List ℕ)) (args : List Node) → n.body ≡ variant.Prim word notes args → ⊥) →
    parameter_at n (readers b) ≡ other n None
no_word n (one.Prim word notes args) shown isnt = absurd (isnt word notes args (sym (roll-out n.body) ∙ ap roll-Body shown ∙ rolls-Prim word notes args))
no_word n (one.Seq nodes) shown isnt = refl
no_word n (one.Int z) shown isnt = refl
no_word n (one.Text s) shown isnt = refl
no_word n (one.Bytes b) shown isnt = refl

pub no_word_there : (n : Node) → ((word : List ℕ) (notes : List (List ℕ)) (args : List Node) → n.body ≡ variant.Prim word notes args → ⊥) → parameter_read n ≡ other n None
no_word_there n isnt = parameter-level n ∙ no_word n (out-Body n.body) refl isnt

-- the parameter itself
pub whole : (n : Node) (t : Ty) (names : List NamedEntry) → IsReadBehind n [] [] t names → parameter_read n ≡ Ok (t, names)
whole n t names part = part.1 ∙ ap (λ (l : List NamedEntry). Ok (t, l)) (sym (part.2 ∙ below_root part.0))
