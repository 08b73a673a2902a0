-- Nodes that show a word with arguments: what is read of them, and which tests they pass.
use Rattle.std.proofs.Common.{◌≡◌, ℕ, true, false, List, [], ◌∷◌, map, refl, ap, sym, ◌∙◌}
use Rattle.std.specs.Prelude.{codes}
use Rattle.std.proofs.lemmas.Bool.{and_from, and_parts, false≢true}
use Rattle.std.proofs.lemmas.Cmp.{nat_list_eq_equiv}
use Rattle.std.proofs.lemmas.Slice.Eq.{bytes_eq-Decides}
use Rattle.micheline_text.specs.declared.node.Node.{Node}
use Rattle.micheline_text.specs.declared.node.Body.{Body}
use Rattle.micheline_text.specs.declared.node.Body.TheOpen as body
use Rattle.micheline_text.specs.declared.node.Body.TheOpen.{Body-F}
use Rattle.micheline_text.specs.declared.node.Body.TheViews.{out-Body}
use Rattle.data_nodes.specs.Nodes.{Test, all_are, applied as applied_node, is_applied}
use Rattle.data_nodes.proofs.NodeLevels.{shows_prim}
use Rattle.michelson_reader.specs.TypeFaults.{applied, comb, type_at, type_read}
use Rattle.michelson_reader.specs.Types.{is_pair}
use Rattle.michelson_reader.proofs.TypeLevels.{read_parts, type_read-level}

-- ---- nodes that show a word

-- the node is the word with these arguments
abbrev pub Shows : Node → List ℕ → List Node → Type 0
Shows n name args = (notes : List (List ℕ)) × (out-Body n.body ≡ body.Prim name notes args)

pub read_shown : (n : Node) (name : List ℕ) (args : List Node) → Shows n name args → type_read n ≡ applied n.at name (map type_read args)
read_shown n name args shown = type_read-level n ∙ ap (λ (b : Body-F Body Node). type_at (read_parts b) n.at) shown.1

pub applied_shown : (n : Node) (name : List ℕ) (args : List Node) (tests : List Test) → Shows n name args → all_are tests args ≡ true → is_applied name tests n ≡ true
applied_shown n name args tests shown fit =
    let level = shown.1 in
    rw level (and_from _ _ (nat_list_eq_equiv.refl name) fit)

pub shown_of_applied : (n : Node) (name : List ℕ) (tests : List Test) → is_applied name tests n ≡ true → (args : List Node) × Shows n name args × (all_are tests args ≡ true)
shown_of_applied n name tests h = by_level (out-Body n.body) refl
  where
    by_level : (b : Body-F Body Node) → out-Body n.body ≡ b → (args : List Node) × Shows n name args × (all_are tests args ≡ true)
    by_level (body.Prim word notes args) is =
        let both = and_parts _ _ (rw is at h) in
        let same : word ≡ name = (bytes_eq-Decides word name).0 both.0 in
        (args, (notes, is ∙ ap (λ (w : List ℕ). body.Prim w notes args) same), both.1)
    by_level _ is = absurd (let no = rw is at h in cc)

-- ---- tests of no argument, of one, and of two

pub none_shown : (args : List Node) → all_are [] args ≡ true → args ≡ []
none_shown [] fit = refl
none_shown (x ∷ args) fit = absurd cc

pub one_shown : (test : Test) (args : List Node) → all_are (test ∷ []) args ≡ true → (x : Node) × (args ≡ x ∷ []) × (test x ≡ true)
one_shown test [] fit = absurd cc
one_shown test (x ∷ []) fit = (x, refl, (and_parts _ _ fit).0)
one_shown test (x ∷ y ∷ more) fit = absurd (false≢true (and_parts (test x) false fit).1)

pub two_shown : (first second : Test) (args : List Node) → all_are (first ∷ second ∷ []) args ≡ true →
    (x : Node) × (y : Node) × (args ≡ x ∷ y ∷ []) × (first x ≡ true) × (second y ≡ true)
two_shown first second [] fit = absurd cc
two_shown first second (x ∷ []) fit = absurd (false≢true (and_parts (first x) false fit).1)
two_shown first second (x ∷ y ∷ []) fit =
    let both = and_parts _ _ fit in
    (x, y, refl, both.0, (and_parts _ _ both.1).0)
two_shown first second (x ∷ y ∷ z ∷ more) fit = absurd (false≢true (and_parts (second y) false (and_parts (first x) _ fit).1).1)

-- ---- combs

-- what is read of parts of a comb is read of a node of its own
pub comb_is : (y z : Node) (more : List Node) → comb (type_read y) (map type_read (z ∷ more)) ≡ type_read (applied_node (codes "pair") (y ∷ z ∷ more))
comb_is y z [] = sym (read_shown (applied_node (codes "pair") (y ∷ z ∷ [])) (codes "pair") (y ∷ z ∷ []) ([], shows_prim (codes "pair") [] (y ∷ z ∷ [])))
comb_is y z (w ∷ more) = sym (read_shown (applied_node (codes "pair") (y ∷ z ∷ w ∷ more)) (codes "pair") (y ∷ z ∷ w ∷ more) ([], shows_prim (codes "pair") [] (y ∷ z ∷ w ∷ more)))

pub is_pair-two : (first rest : Test) (n x y : Node) → Shows n (codes "pair") (x ∷ y ∷ []) → first x ≡ true → rest y ≡ true → is_pair first rest n ≡ true
is_pair-two first rest n x y shown fit more = let level = shown.1 in rw level (and_from _ _ fit more)

pub is_pair-more : (first rest : Test) (n x y z : Node) (more : List Node) → Shows n (codes "pair") (x ∷ y ∷ z ∷ more) →
    first x ≡ true → rest (applied_node (codes "pair") (y ∷ z ∷ more)) ≡ true → is_pair first rest n ≡ true
is_pair-more first rest n x y z more shown fit others = let level = shown.1 in rw level (and_from _ _ fit others)
