-- What is read of a node as pushed data is told by its fault as data, or by the first word in it that is left out.
use Rattle.std.proofs.Common.{◌≡◌, ◌≤◌, ◌<◌, inl, inr, ℕ, Bool, true, false, List, [], ◌∷◌, map, Option, None, Some, Result, Ok, Err, refl, ap, sym, subst, ◌∙◌, arith}
use Rattle.std.specs.Prelude.{IsSomeAnd, IsTrue, if◌then◌else◌, nat_le, slice_get}
use Rattle.std.proofs.lemmas.Bool.Decides.{nat_tests}
use Rattle.value_core.specs.declared.ty.Ty.{Ty}
use Rattle.value_core.specs.declared.val.Val.{Val}
use Rattle.value_core.specs.Size.{size_of}
use Rattle.micheline_text.specs.declared.node.Node.{Node}
use Rattle.micheline_text.specs.declared.node.Body.TheOpen as body
use Rattle.micheline_text.specs.declared.node.Body.TheOpen.{Body-F}
use Rattle.micheline_text.specs.declared.node.Body.TheViews.{out-Body}
use Rattle.data_nodes.specs.declared.fault.DataFault.{DataFault}
use Rattle.data_nodes.specs.Data.{IsData}
use Rattle.data_nodes.specs.Faults.{data_read}
use Rattle.data_nodes.specs.FirstFault.{IsDataFault, Place}
use Rattle.data_nodes.proofs.DataLaws.{data-read, data_is_read}
use Rattle.data_nodes.proofs.FirstFaults.{data_fault_is_told, none_in_data, one_data_fault}
use Rattle.michelson_reader.specs.declared.fault.ReadFault.{ReadFault}
use Rattle.michelson_reader.specs.declared.fault.ReadFault.TheVariants as fault
use Rattle.michelson_reader.specs.CodeFaults.{data_fault, first_found, left_out_at, left_out_in, pushed, told}
use Rattle.michelson_reader.specs.FaultyNodes.{Level}
use Rattle.michelson_reader.specs.Roles.{AsData}
use Rattle.michelson_reader.specs.Names.{is_left_out}
use Rattle.michelson_reader.specs.PushedFault.{IsFirstLeftOut, IsPushedFault, LeftOutAt, Word, nodes_in}
use Rattle.michelson_reader.specs.TypeFaults.{type_read}
use Rattle.michelson_reader.specs.Types.{is_type}
use Rattle.michelson_reader.proofs.FirstAtFault.{fault_in}
use Rattle.michelson_reader.proofs.FirstParts.{InParts, Tells, first_part_told, no_part, one_first, told_inside, told_itself}
use Rattle.michelson_reader.proofs.NodeInduction.{Each, induction, parts_of}
use Rattle.michelson_reader.proofs.NodeReads.{left_out-level, words_in}
use Rattle.michelson_reader.proofs.ReadLemmas.{same_read}
use Rattle.michelson_reader.proofs.RolesTold.{IsToldBy, InPart, itself_told}
use Rattle.michelson_reader.proofs.TypeLaws.{type-read}

-- ---- words that are left out

abbrev InNode : Node → Place → Word → Type 0
InNode n p w = LeftOutAt p n w

abbrev WordTold : Node → Type 0
WordTold n = Tells (InNode n) (left_out_in n)

words_told : (ns : List Node) → Each WordTold ns → Tells (InParts InNode ns) (first_found (map left_out_in ns))
words_told [] h = no_part InNode
words_told (n ∷ ns) h = first_part_told InNode n ns (left_out_in n) (map left_out_in ns) h.0 (λ none. words_told ns h.1)

module _ (n : Node) where
  inside : (b : Level) → out-Body n.body ≡ b → ((w : Word) → LeftOutAt [] n w → ⊥) → (o : Option Word) → Tells (InParts InNode (nodes_in b)) o → Tells (InNode n) o
  inside b is none o found =
      told_inside (InNode n) (InParts InNode (nodes_in b)) none (λ w s. s)
      (λ i p w s. subst (λ (c : Level). IsSomeAnd (slice_get (nodes_in c) i) (λ m. LeftOutAt p m w)) (sym is) s)
      (λ i p w s. subst (λ (c : Level). IsSomeAnd (slice_get (nodes_in c) i) (λ m. LeftOutAt p m w)) is s) o found

  at_word : (name : List ℕ) (notes : List (List ℕ)) (args : List Node) → out-Body n.body ≡ body.Prim name notes args → Each WordTold args → (b : Bool) → is_left_out name ≡ b →
      Tells (InNode n) (if b then Some (n.at, name) else first_found (map left_out_in args))
  at_word name notes args is h true out =
      let here : LeftOutAt [] n (n.at, name) = rw is (out, refl) in
      told_itself (InNode n) (n.at, name) here (λ w s. let there = rw is at s in sym there.1)
  at_word name notes args is h false isnt =
      inside (body.Prim name notes args) is (λ w s. let there = rw is at s in absurd cc) (first_found (map left_out_in args)) (words_told args h)

  none_here : (b : Level) → out-Body n.body ≡ b → nodes_in b ≡ [] → ((w : Word) → LeftOutAt [] n w → ⊥) → Tells (InNode n) None
  none_here b is empty none = inside b is none None (subst (λ (ns : List Node). Tells (InParts InNode ns) None) (sym empty) (no_part InNode))

  words_at : (b : Level) → out-Body n.body ≡ b → Each WordTold (parts_of b) → Tells (InNode n) (left_out_at (words_in b) n.at)
  words_at (body.Prim name notes args) is h = at_word name notes args is h (is_left_out name) refl
  words_at (body.Seq ns) is h = inside (body.Seq ns) is (λ w s. let there = rw is at s in there) (first_found (map left_out_in ns)) (words_told ns h)
  words_at (body.Int z) is h = none_here (body.Int z) is refl (λ w s. let there = rw is at s in there)
  words_at (body.Text s) is h = none_here (body.Text s) is refl (λ w t. let there = rw is at t in there)
  words_at (body.Bytes s) is h = none_here (body.Bytes s) is refl (λ w t. let there = rw is at t in there)

word_told : (n : Node) → WordTold n
word_told = induction WordTold (λ n h. subst (Tells (InNode n)) (sym (left_out-level n)) (words_at n (out-Body n.body) refl h))

-- ---- faults of data

module _ (t : Ty) (n : Node) where
  one_value : (v w : Val) → IsData t n v → IsData t n w → v ≡ w
  one_value v w first second = let one = data_is_read t n v first in let other = data_is_read t n w second in cc

  read_has_none : (v : Val) (g : DataFault) → data_read t n ≡ Ok v → IsDataFault t n g → ⊥
  read_has_none v g read (inl first) = none_in_data t n v ((data-read n t v).0 read).0 first.0 g first.1
  read_has_none v g read (inr large) =
      let is = (data-read n t v).0 read in
      let same : size_of v ≡ size_of large.1.0 = ap size_of (one_value v large.1.0 is.0 large.1.1) in
      absurd (omega (arith, same, is.1, large.1.2))

  none_pushed : (v : Val) (f : ReadFault) → data_read t n ≡ Ok v → IsPushedFault t n f → ⊥
  none_pushed v f read s = read_has_none v s.0 read s.1

  -- what is told of data with a fault, and the first word that is left out
  module _ (g : DataFault) (is : IsDataFault t n g) where
    abbrev Pushed : ReadFault → Type 0
    Pushed f = IsPushedFault t n f × ((h : ReadFault) → IsPushedFault t n h → f ≡ h)

    same_data : (h : DataFault) → IsDataFault t n h → g ≡ h
    same_data h other = one_data_fault t n g h is other

    without : ((w : Word) → IsFirstLeftOut n w → g.at < w.0) → Pushed (fault.Data g)
    without behind = (
      (g, is, inr (behind, refl)),
      λ h s. elim s.2 [
        | inl out ↦ let later = behind out.0 out.1 in let same : g.at ≡ s.0.at = ap (λ (d : DataFault). d.at) (same_data s.0 s.1) in absurd (omega (arith, later, out.2, same))
        | inr isnt ↦ ap fault.Data (same_data s.0 s.1) ∙ sym isnt.1
      ],
    )

    with_word : (w : Word) → IsFirstLeftOut n w → w.0 ≤ g.at → Pushed (fault.LeftOut w.0 w.1)
    with_word w first before = (
      (g, is, inl (w, first, before, refl)),
      λ h s. elim s.2 [
        | inl out ↦ ap (λ (u : Word). fault.LeftOut u.0 u.1) (one_first (InNode n) w out.0 first out.1) ∙ sym out.3
        | inr isnt ↦ let later = isnt.0 w first in let same : g.at ≡ s.0.at = ap (λ (d : DataFault). d.at) (same_data s.0 s.1) in absurd (omega (arith, later, before, same))
      ],
    )

    abbrev PushedBy : Option ReadFault → Type 0
    PushedBy None = ⊥
    PushedBy (Some f) = Pushed f

    by_order : (w : Word) → IsFirstLeftOut n w → (b : Bool) → nat_le w.0 g.at ≡ b →
        PushedBy (fault_in {A = Val} (if b then Err (fault.LeftOut w.0 w.1) else Err (fault.Data g)))
    by_order w first true before = with_word w first (grind (arith, nat_tests))
    by_order w first false after =
        let later : g.at < w.0 = grind (arith, nat_tests) in
        without (λ u other. subst (λ (x : Word). g.at < x.0) (one_first (InNode n) w u first other) later)

    by_word : (o : Option Word) → Tells (InNode n) o → PushedBy (fault_in {A = Val} (data_fault g o))
    by_word None none = without (λ w first. absurd (none first.0 w first.1))
    by_word (Some w) first = by_order w first (nat_le w.0 g.at) refl

-- ---- data of the type that another node is

module _ (m n : Node) (t : Ty) (is : IsTrue (is_type t m)) where
  abbrev AtType : ReadFault → Type 0
  AtType f = (u : Ty) × IsTrue (is_type u m) × IsPushedFault u n f

  same_type : (u : Ty) → IsTrue (is_type u m) → u ≡ t
  same_type u other = same_read u t (type_read m) ((type-read m u).1 other) ((type-read m t).1 is)

  at_type : (f : ReadFault) → AtType f → IsPushedFault t n f
  at_type f s = subst (λ (u : Ty). IsPushedFault u n f) (same_type s.0 s.1) s.2

  no_data_part : (i : ℕ) (p : Place) (f : ReadFault) → InPart (AsData m, n) (i ∷ p) f → ⊥
  no_data_part i p f s = s.1

  sound_data : ((f : ReadFault) → IsPushedFault t n f → ⊥) → (p : Place) (f : ReadFault) → InPart (AsData m, n) p f → ⊥
  sound_data none [] f s = none f (at_type f s)
  sound_data none (i ∷ p) f s = no_data_part i p f s

  faulty_data : (g : DataFault) (is_fault : IsDataFault t n g) (o : Option ReadFault) → PushedBy t n g is_fault o → IsToldBy (AsData m) n o
  faulty_data g is_fault None s = absurd s
  faulty_data g is_fault (Some f) s = itself_told (AsData m) n f (t, is, s.0) (λ h other. s.1 h (at_type h other))

  data_from : (r : Result Val DataFault) → data_read t n ≡ r → IsToldBy (AsData m) n (fault_in (told n r))
  data_from (Ok v) read = sound_data (λ f s. none_pushed t n v f read s)
  data_from (Err g) read =
      let is_fault = data_fault_is_told t n g read in
      faulty_data g is_fault (fault_in {A = Val} (data_fault g (left_out_in n))) (by_word t n g is_fault (left_out_in n) (word_told n))

  -- the fault that is told of pushed data is its own
  pub pushed_told : IsToldBy (AsData m) n (fault_in (pushed t n))
  pushed_told = data_from (data_read t n) refl
