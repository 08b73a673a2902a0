-- Nodes make trees: one each, which has what its node says, also when more nodes and changes come.
use Rattle.std.proofs.Common.{◌≡◌, ℕ, zero, suc, ◌+◌, ◌<◌, ◌≤◌, true, List, [], ◌∷◌, ◌++◌, length, get_or, Option, None, Some, refl, ap, sym, subst, ◌∙◌, arith, add-zero, append_assoc, append-nil, length-append}
use Rattle.std.proofs.Math.ListN.{get_or-append}
use Rattle.std.proofs.Math.Seq.{get_or-append_seam}
use Rattle.std.proofs.lemmas.Bool.{and_from, and_parts, lt-ltb, ltb-true}
use Rattle.std.proofs.lemmas.Bool.Decides.{nat_tests}
use Rattle.std.proofs.lemmas.Option.{get_or_from_slice_get, slice_get_within}
use Rattle.std.specs.Prelude.{nat_le}
use Rattle.std.specs.List.{slice_get}
use Rattle.value_core.specs.declared.val.Val.{Val}
use Rattle.value_core.specs.declared.val.Val.TheVariants as value
use Rattle.michelson_rules.specs.Runs.{Changes, changes_of}
use Rattle.map_versions.specs.declared.trees.Node.{Node}
use Rattle.map_versions.specs.Forest.{AreThere, Forest, Grows, IsTree, joined}
use Rattle.map_versions.specs.Nodes.{IsNode, all_stand, stands, trees_from, under}

-- ---- more trees and more changes

-- a tree is the same among more trees
pub tree-behind : (n : ℕ) (trees more : List Changes) → n ≤ length trees → changes_of n (trees ++ more) ≡ changes_of n trees
tree-behind zero trees more le = refl
tree-behind (suc n) trees more le = get_or-append trees more [] n (omega arith)

-- past the last one trees are empty
pub tree-past : (n : ℕ) (trees : List Changes) → length trees < n → changes_of n trees ≡ []
tree-past zero trees lt = refl
tree-past (suc n) [] lt = refl
tree-past (suc zero) (t ∷ trees) lt = absurd (omega arith)
tree-past (suc (suc n)) (t ∷ trees) lt = tree-past (suc n) trees (omega arith)

pub le-nat_le : (m n : ℕ) → m ≤ n → nat_le m n ≡ true
le-nat_le m n le = grind (arith, nat_tests)

pub nat_le-true : (m n : ℕ) → nat_le m n ≡ true → m ≤ n
nat_le-true m n h = grind (arith, nat_tests)

-- what a node is asked for
pub record Standing (changes trees : ℕ) (node : Node) : Type 0 where
  pub change : node.change < changes
  pub left_side : node.left ≤ trees
  pub right_side : node.right ≤ trees

pub from_stands : (changes trees : ℕ) (node : Node) → stands changes trees node ≡ true → Standing changes trees node
from_stands changes trees node h =
    let parts = and_parts _ _ h in
    let sides = and_parts _ _ parts.1 in
    record { change = ltb-true node.change changes parts.0; left_side = nat_le-true node.left trees sides.0; right_side = nat_le-true node.right trees sides.1 }

pub to_stands : (changes trees : ℕ) (node : Node) → node.change < changes → node.left ≤ trees → node.right ≤ trees → stands changes trees node ≡ true
to_stands changes trees node c l r = and_from _ _ (lt-ltb node.change changes c) (and_from _ _ (le-nat_le node.left trees l) (le-nat_le node.right trees r))

pub all_stand-more : (changes more n : ℕ) (nodes : List Node) → changes ≤ more → all_stand changes n nodes ≡ true → all_stand more n nodes ≡ true
all_stand-more changes more n [] le h = refl
all_stand-more changes more n (node ∷ nodes) le h =
    let parts = and_parts _ _ h in
    let s = from_stands changes n node parts.0 in
    let c : node.change < changes = s.change in
    and_from _ _ (to_stands more n node (omega arith) s.left_side s.right_side) (all_stand-more changes more (n + 1) nodes le parts.1)

-- one change more leaves the trees
pub trees_from-more : (made : Changes) (c : Val × Option Val) (trees : List Changes) (n : ℕ) (nodes : List Node) → all_stand (length made) n nodes ≡ true →
    trees_from (made ++ c ∷ []) trees nodes ≡ trees_from made trees nodes
trees_from-more made c trees n [] h = refl
trees_from-more made c trees n (node ∷ nodes) h =
    let parts = and_parts _ _ h in
    let s = from_stands (length made) n node parts.0 in
    ap (λ (x : Val × Option Val). trees_from (made ++ c ∷ []) (trees ++ (changes_of node.left trees ++ x ∷ changes_of node.right trees) ∷ []) nodes)
    (get_or-append made (c ∷ []) (value.Unit, None) node.change s.change)
    ∙ trees_from-more made c (trees ++ under made trees node ∷ []) (n + 1) nodes parts.1

-- ---- one node more

length-one : {A : Type 0} (xs : List A) (x : A) → length (xs ++ x ∷ []) ≡ length xs + 1
length-one xs x = length-append xs (x ∷ [])

pub length-trees_from : (made : Changes) (trees : List Changes) (nodes : List Node) → length (trees_from made trees nodes) ≡ length trees + length nodes
length-trees_from made trees [] = sym (add-zero (length trees))
length-trees_from made trees (node ∷ nodes) =
    length-trees_from made (trees ++ under made trees node ∷ []) nodes
    ∙ (let e = length-one trees (under made trees node) in let more : length (node ∷ nodes) ≡ suc (length nodes) = refl in omega arith)

pub trees_from-append : (made : Changes) (trees : List Changes) (nodes : List Node) (node : Node) →
    trees_from made trees (nodes ++ node ∷ []) ≡ trees_from made trees nodes ++ under made (trees_from made trees nodes) node ∷ []
trees_from-append made trees [] node = refl
trees_from-append made trees (m ∷ nodes) node = trees_from-append made (trees ++ under made trees m ∷ []) nodes node

pub all_stand-append : (changes n at : ℕ) (nodes : List Node) (node : Node) → at ≡ n + length nodes → all_stand changes n nodes ≡ true → stands changes at node ≡ true →
    all_stand changes n (nodes ++ node ∷ []) ≡ true
all_stand-append changes n at [] node is have h = and_from _ _ (subst (λ (k : ℕ). stands changes k node ≡ true) (is ∙ add-zero n) h) refl
all_stand-append changes n at (m ∷ nodes) node is have h =
    let same : at ≡ n + 1 + length nodes = (let e : length (m ∷ nodes) ≡ suc (length nodes) = refl in omega arith) in
    and_from _ _ (and_parts _ _ have).0 (all_stand-append changes (n + 1) at nodes node same (and_parts _ _ have).1 h)

-- ---- the tree of a node

-- the trees of before stay in front
record Fronted (trees whole : List Changes) : Type 0 where
  rest : List Changes
  is : whole ≡ trees ++ rest

fronted : (made : Changes) (trees : List Changes) (nodes : List Node) → Fronted trees (trees_from made trees nodes)
fronted made trees [] = record { rest = []; is = sym (append-nil trees) }
fronted made trees (node ∷ nodes) =
    let more = fronted made (trees ++ under made trees node ∷ []) nodes in
    record { rest = under made trees node ∷ more.rest; is = more.is ∙ append_assoc trees (under made trees node ∷ []) more.rest }

first_node : (made : Changes) (trees rest : List Changes) (node : Node) (at : ℕ) → at ≡ length trees → stands (length made) at node ≡ true →
    IsNode (record { made = made; trees = trees ++ under made trees node ∷ rest }) (suc at) node
first_node made trees rest node at len h =
    let s = from_stands (length made) at node h in
    let l : node.left ≤ at = s.left_side in
    let r : node.right ≤ at = s.right_side in
    let more = length-append trees (under made trees node ∷ rest) in
    let one : length (under made trees node ∷ rest) ≡ suc (length rest) = refl in
    let here : changes_of (suc at) (trees ++ under made trees node ∷ rest) ≡ under made trees node =
    ap (λ (k : ℕ). get_or (trees ++ under made trees node ∷ rest) k []) len ∙ get_or-append_seam trees (under made trees node) rest [] in
    let left_same = tree-behind node.left trees (under made trees node ∷ rest) (omega arith) in
    let right_same = tree-behind node.right trees (under made trees node ∷ rest) (omega arith) in
    record {
      within = omega arith;
      left_below = omega arith;
      right_below = omega arith;
      change_within = s.change;
      is = here ∙ (let e : under made trees node ≡ joined (record { made = made; trees = trees ++ under made trees node ∷ rest }) node.left node.change node.right = cc in e);
    }

pub node_made : (made : Changes) (trees : List Changes) (nodes : List Node) (n k at : ℕ) (d : Node) → n ≡ length trees → all_stand (length made) n nodes ≡ true → k < length nodes → at ≡ n + k →
    IsNode (record { made = made; trees = trees_from made trees nodes }) (suc at) (get_or nodes k d)
node_made made trees [] n k at d len have lt is = absurd (omega arith)
node_made made trees (node ∷ nodes) n zero at d len have lt is =
    let front = fronted made (trees ++ under made trees node ∷ []) nodes in
    let whole : trees_from made trees (node ∷ nodes) ≡ trees ++ under made trees node ∷ front.rest = front.is ∙ append_assoc trees (under made trees node ∷ []) front.rest in
    let same : n ≡ at = omega arith in
    let h : stands (length made) at node ≡ true = subst (λ (m : ℕ). stands (length made) m node ≡ true) same (and_parts _ _ have).0 in
    subst (λ (ts : List Changes). IsNode (record { made = made; trees = ts }) (suc at) node) (sym whole) (first_node made trees front.rest node at (omega arith) h)
node_made made trees (node ∷ nodes) n (suc k) at d len have lt is =
    let e = length-one trees (under made trees node) in
    node_made made (trees ++ under made trees node ∷ []) nodes (n + 1) k at d (omega arith) (and_parts _ _ have).1 (omega arith) (omega arith)

-- ---- trees as callers see them

slice_get_none : {A : Type 0} (xs : List A) (i : ℕ) → slice_get xs i ≡ None → length xs ≤ i
slice_get_none [] i e = omega arith
slice_get_none (x ∷ xs) zero e = absurd cc
slice_get_none (x ∷ xs) (suc i) e = let h : length xs ≤ i = slice_get_none xs i e in omega arith

abbrev pub seen : Changes → List Node → Forest
seen made nodes = record { made = made; trees = trees_from made [] nodes }

length-seen : (made : Changes) (nodes : List Node) → length (seen made nodes).trees ≡ length nodes
length-seen made nodes = let e = length-trees_from made [] nodes in let none : length {A = Changes} [] ≡ 0 = refl in omega arith

module _ (made new : Changes) (x : Val × Option Val) (nodes : List Node) (is : new ≡ made ++ x ∷ []) (stand : all_stand (length made) 0 nodes ≡ true) where
  pub noted_stand : all_stand (length new) 0 nodes ≡ true
  noted_stand = let e = ap length is in let one = length-one made x in all_stand-more (length made) (length new) 0 nodes (omega arith) stand

  pub noted_trees : (f : Forest) → seen made nodes ≡ f → trees_from new [] nodes ≡ f.trees
  noted_trees f view =
      ap (λ (m : Changes). trees_from m [] nodes) is ∙ trees_from-more made x [] 0 nodes stand ∙ ap (λ (g : Forest). g.trees) view

module _ (made : Changes) (nodes new : List Node) (node : Node) (f : Forest) (view : seen made nodes ≡ f) (is : new ≡ nodes ++ node ∷ []) where
  pub joined_stand : all_stand (length made) 0 nodes ≡ true → AreThere f node.left node.change node.right → all_stand (length made) 0 new ≡ true
  joined_stand stand there =
      let at : AreThere (seen made nodes) node.left node.change node.right = subst (λ (g : Forest). AreThere g node.left node.change node.right) (sym view) there in
      let len = length-seen made nodes in
      let l : node.left ≤ length (seen made nodes).trees = at.left_within in
      let r : node.right ≤ length (seen made nodes).trees = at.right_within in
      subst (λ (ns : List Node). all_stand (length made) 0 ns ≡ true) (sym is)
      (all_stand-append (length made) 0 (length nodes) nodes node (omega arith) stand (to_stands (length made) (length nodes) node at.change_within (omega arith) (omega arith)))

  grown : (seen made new).trees ≡ (seen made nodes).trees ++ under made (seen made nodes).trees node ∷ []
  grown = ap (λ (ns : List Node). trees_from made [] ns) is ∙ trees_from-append made [] nodes node

  pub joined_grows : Grows f (seen made new)
  joined_grows =
      subst (λ (g : Forest). Grows g (seen made new)) view (record { made = refl; more = under made (seen made nodes).trees node ∷ []; trees = grown })

  pub joined_tree : (tree : ℕ) → tree ≡ length new → IsTree (seen made new) tree (joined f node.left node.change node.right)
  joined_tree tree len =
      let u = under made (seen made nodes).trees node in
      let more : length new ≡ suc (length nodes) = (let e = ap length is in let one = length-one nodes node in omega arith) in
      let trees = length-seen made nodes in
      let all = length-seen made new in
      let here : changes_of (suc (length nodes)) (seen made new).trees ≡ u =
      ap (λ (ts : List Changes). get_or ts (length nodes) []) grown
      ∙ ap (λ (k : ℕ). get_or ((seen made nodes).trees ++ u ∷ []) k []) (sym trees)
      ∙ get_or-append_seam (seen made nodes).trees u [] [] in
      record {
        within = omega arith;
        is = ap (λ (k : ℕ). changes_of k (seen made new).trees) (len ∙ more) ∙ here ∙ ap (λ (g : Forest). joined g node.left node.change node.right) view;
      }

module _ (made : Changes) (nodes : List Node) (f : Forest) (view : seen made nodes ≡ f) where
  pub node_seen : all_stand (length made) 0 nodes ≡ true → (tree at : ℕ) (node : Node) → tree ≡ suc at → slice_get nodes at ≡ Some node → IsNode f tree node
  node_seen stand tree at node is got =
      subst (λ (g : Forest). IsNode g tree node) view
      (subst (λ (t : ℕ). IsNode (seen made nodes) t node) (sym is)
      (subst (λ (m : Node). IsNode (seen made nodes) (suc at) m) (get_or_from_slice_get nodes at node node got)
      (node_made made [] nodes 0 at at node refl stand (slice_get_within nodes at node got) (omega arith))))

  pub none_seen : (tree at : ℕ) → tree ≡ suc at → slice_get nodes at ≡ None → changes_of tree f.trees ≡ []
  none_seen tree at is got =
      let past : length nodes ≤ at = slice_get_none nodes at got in
      let len = length-seen made nodes in
      ap (λ (g : Forest). changes_of tree g.trees) (sym view) ∙ tree-past tree (seen made nodes).trees (omega arith)
