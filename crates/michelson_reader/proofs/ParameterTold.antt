-- What is read of a node as a part of the parameter is told by its first fault.
use Rattle.std.proofs.Common.{◌≡◌, ◌⊎◌, inl, inr, ℕ, Bool, true, false, List, [], ◌∷◌, map, Option, None, Some, Ok, Err, refl, ap, sym, subst, ◌∙◌}
use Rattle.std.specs.Prelude.{codes, if◌then◌else◌}
use Rattle.std.specs.Option.{option_map_or}
use Rattle.std.specs.Str.{bytes_eq}
use Rattle.std.proofs.lemmas.Slice.Eq.{bytes_eq-Decides}
use Rattle.value_core.specs.declared.ty.Ty.TheVariants as kind
use Rattle.value_core.specs.declared.ty.Ty.TheOpen as ty
use Rattle.micheline_text.specs.declared.node.Node.{Node}
use Rattle.micheline_text.specs.declared.node.Body.TheOpen as body
use Rattle.micheline_text.specs.declared.node.Body.TheViews.{out-Body}
use Rattle.michelson_reader.specs.declared.fault.ReadFault.{ReadFault}
use Rattle.michelson_reader.specs.CodeFaults.{first_found}
use Rattle.michelson_reader.specs.Entries.{entry_in, in_order, own}
use Rattle.michelson_reader.specs.FaultyNodes.{IsNoType, IsUnfit, Level, level_fault}
use Rattle.michelson_reader.specs.FirstFault.{Part, parameter_parts, parts_as}
use Rattle.michelson_reader.specs.Roles.{AsParameter, AsType}
use Rattle.michelson_reader.specs.ScriptFaults.{Parameter, below, either, other, parameter_at, parameter_read}
use Rattle.michelson_reader.specs.TypeFaults.{Read, no_form, then_read, type_read}
use Rattle.michelson_reader.proofs.FirstAtFault.{fault_in}
use Rattle.michelson_reader.proofs.CodeTold.{shown_prim}
use Rattle.michelson_reader.proofs.FirstParts.{InParts, Tells}
use Rattle.michelson_reader.proofs.NodeInduction.{Each, induction, parts_of}
use Rattle.michelson_reader.proofs.NodeReads.{parameter_prim}
use Rattle.michelson_reader.proofs.ParameterLevels.{parameter-level, reader, readers}
use Rattle.michelson_reader.proofs.RolesTold.{InPart, IsToldBy, each_told, level_sound, level_told, one_fault, parts_told, word_told}
use Rattle.michelson_reader.proofs.TypesTold.{TypeTold, not_a_word, type_told, type_word}

abbrev pub ParameterTold : Node → Type 0
ParameterTold n = IsToldBy AsParameter n (fault_in (parameter_read n))

-- it can't stand there
abbrev IsOut : Level → Type 0
IsOut b = IsNoType b ⊎ IsUnfit b

all_types : (ns : List Node) → Each TypeTold ns
all_types [] = tt
all_types (n ∷ ns) = (type_told n, all_types ns)

either_fault : (name : Option (List ℕ)) (x y : Node) →
    fault_in (either name (reader x) (reader y)) ≡ first_found (map (λ m. fault_in (parameter_read m)) (x ∷ y ∷ []))
either_fault name x y = by (parameter_read x) (parameter_read y)
  where
    by : (r q : Read Parameter) → fault_in {A = Parameter} (then_read r (λ s. then_read q (λ t. Ok (kind.Or s.0 t.0, in_order name s.1 t.1)))) ≡ first_found (fault_in r ∷ fault_in q ∷ [])
    by (Ok s) (Ok t) = refl
    by (Ok s) (Err f) = refl
    by (Err e) q = refl

not_unfit : (notes : List (List ℕ)) (e : Option (List ℕ)) → entry_in notes ≡ Some e → entry_in notes ≡ None → ⊥
not_unfit notes e fit unfit = cc

module _ (n : Node) where
  itself : (b : Level) → out-Body n.body ≡ b → IsOut b → IsToldBy AsParameter n (Some (level_fault n.at b))
  itself b is out = level_told AsParameter n IsOut (λ f s. s) (λ f s. s) b is out

  other_fault : (name : Option (List ℕ)) → fault_in (other n name) ≡ fault_in (type_read n)
  other_fault name = one_fault (type_read n) (λ t. (t, own name))

  in_parts : (b : Level) → out-Body n.body ≡ b → (ps : List Part) → parameter_parts b ≡ ps → (IsOut b → ⊥) → (o : Option ReadFault) → Tells (InParts InPart ps) o → IsToldBy AsParameter n o
  in_parts b is ps parts fit o told =
      let same : parameter_parts (out-Body n.body) ≡ ps = ap parameter_parts is ∙ parts in
      parts_told AsParameter n ps (sym same) (λ qs are. are ∙ same) (level_sound AsParameter n IsOut (λ f s. s) (λ f s. s) b is fit) o told

  module _ (name : List ℕ) (notes : List (List ℕ)) (args : List Node) (is : out-Body n.body ≡ body.Prim name notes args) where
    read_is : parameter_read n ≡ option_map_or (below n name (map reader args)) (entry_in notes) (no_form n.at name)
    read_is = parameter_prim n name notes args (shown_prim n name notes args is)

    unfit_told : entry_in notes ≡ None → ParameterTold n
    unfit_told unfit =
        subst (IsToldBy AsParameter n)
        (sym (word_told n.at name (parameter_read n) (read_is ∙ ap (λ (o : Option (Option (List ℕ))). option_map_or (below n name (map reader args)) o (no_form n.at name)) unfit)))
        (itself (body.Prim name notes args) is (inr unfit))

    module _ (e : Option (List ℕ)) (fit : entry_in notes ≡ Some e) where
      below_is : parameter_read n ≡ below n name (map reader args) e
      below_is = read_is ∙ ap (λ (o : Option (Option (List ℕ))). option_map_or (below n name (map reader args)) o (no_form n.at name)) fit

      -- any other type
      other_told : below n name (map reader args) e ≡ other n e → parameter_parts (body.Prim name notes args) ≡ parts_as AsType args → ParameterTold n
      other_told is_other parts =
          let read : fault_in (parameter_read n) ≡ fault_in (type_read n) = ap fault_in (below_is ∙ is_other) ∙ other_fault e in
          elim (type_word n name notes args is) [
            | inl isnt ↦ subst (IsToldBy AsParameter n) (sym (read ∙ word_told n.at name (type_read n) isnt.1)) (itself (body.Prim name notes args) is (inl isnt.0))
            | inr has ↦ subst (IsToldBy AsParameter n) (sym (read ∙ has.1))
                (in_parts (body.Prim name notes args) is (parts_as AsType args) parts
                (λ out. elim out [ inl isnt ↦ isnt has.0.0 has.0.1 has.0.2 | inr unfit ↦ not_unfit notes e fit unfit ])
                (first_found (map (λ m. fault_in (type_read m)) args)) (each_told AsType (λ m. fault_in (type_read m)) args (all_types args)))
          ]

  -- an `or`
  or_told : (name : List ℕ) (notes : List (List ℕ)) (x y : Node) (e : Option (List ℕ)) → out-Body n.body ≡ body.Prim name notes (x ∷ y ∷ []) → entry_in notes ≡ Some e → ParameterTold x → ParameterTold y →
      (b : Bool) → bytes_eq name (codes "or") ≡ b → ParameterTold n
  or_told name notes x y e is fit left right true same =
      let word : codes "or" ≡ name = sym ((bytes_eq-Decides name (codes "or")).0 same) in
      let read : parameter_read n ≡ either e (reader x) (reader y) =
      below_is name notes (x ∷ y ∷ []) is e fit ∙ ap (λ (b : Bool). if b then either e (reader x) (reader y) else other n e) same in
      subst (IsToldBy AsParameter n) (sym (ap fault_in read ∙ either_fault e x y))
      (in_parts (body.Prim name notes (x ∷ y ∷ [])) is (parts_as AsParameter (x ∷ y ∷ [])) (ap (λ (b : Bool). parts_as (if b then AsParameter else AsType) (x ∷ y ∷ [])) same)
      (λ out. elim out [ inl isnt ↦ isnt (ty.Or kind.Unit kind.Unit) word refl | inr unfit ↦ not_unfit notes e fit unfit ])
      (first_found (map (λ m. fault_in (parameter_read m)) (x ∷ y ∷ []))) (each_told AsParameter (λ m. fault_in (parameter_read m)) (x ∷ y ∷ []) (left, (right, tt))))
  or_told name notes x y e is fit left right false isnt =
      other_told name notes (x ∷ y ∷ []) is e fit (ap (λ (b : Bool). if b then either e (reader x) (reader y) else other n e) isnt)
      (ap (λ (b : Bool). parts_as (if b then AsParameter else AsType) (x ∷ y ∷ [])) isnt)

  by_args : (name : List ℕ) (notes : List (List ℕ)) (args : List Node) (e : Option (List ℕ)) → out-Body n.body ≡ body.Prim name notes args → entry_in notes ≡ Some e → Each ParameterTold args → ParameterTold n
  by_args name notes [] e is fit h = other_told name notes [] is e fit refl refl
  by_args name notes (x ∷ []) e is fit h = other_told name notes (x ∷ []) is e fit refl refl
  by_args name notes (x ∷ y ∷ []) e is fit h = or_told name notes x y e is fit h.0 h.1.0 (bytes_eq name (codes "or")) refl
  by_args name notes (x ∷ y ∷ z ∷ more) e is fit h = other_told name notes (x ∷ y ∷ z ∷ more) is e fit refl refl

  by_entry : (name : List ℕ) (notes : List (List ℕ)) (args : List Node) → out-Body n.body ≡ body.Prim name notes args → Each ParameterTold args →
      (found : Option (Option (List ℕ))) → entry_in notes ≡ found → ParameterTold n
  by_entry name notes args is h None unfit = unfit_told name notes args is unfit
  by_entry name notes args is h (Some e) fit = by_args name notes args e is fit h

  no_word : (b : Level) → out-Body n.body ≡ b → IsNoType b → parameter_at n (readers b) ≡ other n None → fault_in (type_read n) ≡ Some (level_fault n.at b) → ParameterTold n
  no_word b is out is_other told =
      let read : parameter_read n ≡ other n None = parameter-level n ∙ ap (λ (c : Level). parameter_at n (readers c)) is ∙ is_other in
      subst (IsToldBy AsParameter n) (sym (ap fault_in read ∙ other_fault None ∙ told)) (itself b is (inl out))

  by_level : (b : Level) → out-Body n.body ≡ b → Each ParameterTold (parts_of b) → ParameterTold n
  by_level (body.Prim name notes args) is h = by_entry name notes args is h (entry_in notes) refl
  by_level (body.Int z) is h = no_word (body.Int z) is tt refl (not_a_word n (body.Int z) is (λ name notes args e. cc))
  by_level (body.Text s) is h = no_word (body.Text s) is tt refl (not_a_word n (body.Text s) is (λ name notes args e. cc))
  by_level (body.Bytes s) is h = no_word (body.Bytes s) is tt refl (not_a_word n (body.Bytes s) is (λ name notes args e. cc))
  by_level (body.Seq ns) is h = no_word (body.Seq ns) is tt refl (not_a_word n (body.Seq ns) is (λ name notes args e. cc))

-- the fault that is told of a node as the parameter is its first one
pub parameter_told : (n : Node) → ParameterTold n
parameter_told = induction ParameterTold (λ n h. by_level n (out-Body n.body) refl h)
