-- What holds of trees holds when more come, and what trees that are turned have.
use Rattle.std.proofs.Common.{◌≡◌, ℕ, ◌<◌, ◌≤◌, List, [], ◌∷◌, ◌++◌, length, true, Option, Some, Result, ap, sym, subst, ◌∙◌, arith, append_assoc, append-nil, length-append}
use Rattle.std.specs.Prelude.{IfOk}
use Rattle.std.specs.declared.cmp.Ordering.{Ordering}
use Rattle.std.specs.declared.cmp.Ordering.TheVariants.{Less, Equal, Greater}
use Rattle.std.specs.FinMap.Entries.{find, is_sorted, put}
use Rattle.value_core.specs.declared.val.Val.{Val}
use Rattle.value_core.specs.Order.{order}
use Rattle.value_core.proofs.SortedValues.{ties, total}
use Rattle.michelson_rules.specs.Runs.{Changes, changes_of}
use Rattle.map_versions.specs.declared.trees.Node.{Node}
use Rattle.map_versions.specs.Changed.{change_at}
use Rattle.map_versions.specs.Forest.{AreThere, Forest, Grows, IsTree, changed, joined}
use Rattle.map_versions.specs.Nodes.{IsNode}
use Rattle.map_versions.proofs.BetweenLaws.{find_after, find_before, find_here, put_after, put_before, put_here, sorted_after, sorted_before}
use Rattle.map_versions.proofs.NodeLaws.{tree-behind}

pub grows_same : (old new : Forest) → new.made ≡ old.made → new.trees ≡ old.trees → Grows old new
grows_same old new made trees = record { made = made; more = []; trees = trees ∙ sym (append-nil old.trees) }

pub grows_on : (old mid new : Forest) → Grows old mid → Grows mid new → Grows old new
grows_on old mid new first second = record {
  made = second.made ∙ first.made;
  more = first.more ++ second.more;
  trees = second.trees ∙ ap (λ (ts : List Changes). ts ++ second.more) first.trees ∙ append_assoc old.trees first.more second.more;
}

module _ (old new : Forest) (grows : Grows old new) where
  pub longer : length old.trees ≤ length new.trees
  longer = let e = ap length grows.trees in let more = length-append old.trees grows.more in omega arith

  pub tree_later : (n : ℕ) → n ≤ length old.trees → changes_of n new.trees ≡ changes_of n old.trees
  tree_later n within = ap (λ (ts : List Changes). changes_of n ts) grows.trees ∙ tree-behind n old.trees grows.more within

  pub is_tree_later : (n : ℕ) (changes : Changes) → IsTree old n changes → IsTree new n changes
  is_tree_later n changes t =
      let more = longer in let within : n ≤ length old.trees = t.within in
      record { within = omega arith; is = tree_later n t.within ∙ t.is }

  pub change_later : (n : ℕ) → change_at new.made n ≡ change_at old.made n
  change_later n = ap (λ (made : Changes). change_at made n) grows.made

  pub still_there : (l c r : ℕ) → AreThere old l c r → AreThere new l c r
  still_there l c r there =
      let more = longer in let made = ap length grows.made in
      let a : l ≤ length old.trees = there.left_within in let b : c < length old.made = there.change_within in let d : r ≤ length old.trees = there.right_within in
      record { left_within = omega arith; change_within = omega arith; right_within = omega arith }

  pub joined_later : (l c r : ℕ) → l ≤ length old.trees → r ≤ length old.trees → joined new l c r ≡ joined old l c r
  joined_later l c r a b =
      let left_same = tree_later l a in let right_same = tree_later r b in let same = change_later c in cc

-- ---- a key in a tree, by how it stands to that of the node

module _ (f : Forest) (tree : ℕ) (node : Node) (n : IsNode f tree node) (up : is_sorted order (changes_of tree f.trees) ≡ true) where
  sorted_here : is_sorted order (joined f node.left node.change node.right) ≡ true
  sorted_here = subst (λ (cs : Changes). is_sorted order cs ≡ true) n.is up

  pub sorted_left : is_sorted order (changes_of node.left f.trees) ≡ true
  sorted_left = sorted_before total (changes_of node.left f.trees) (change_at f.made node.change ∷ changes_of node.right f.trees) sorted_here

  pub sorted_right : is_sorted order (changes_of node.right f.trees) ≡ true
  sorted_right = sorted_after total (changes_of node.left f.trees) (change_at f.made node.change) (changes_of node.right f.trees) sorted_here

  pub node_there : AreThere f node.left node.change node.right
  node_there =
      let a : tree ≤ length f.trees = n.within in let b : node.left < tree = n.left_below in let c : node.right < tree = n.right_below in
      record { left_within = omega arith; change_within = n.change_within; right_within = omega arith }

  module _ (key : Val) where
    pub find_left : order key (change_at f.made node.change).0 ≡ Less → find order key (changes_of tree f.trees) ≡ find order key (changes_of node.left f.trees)
    find_left low = ap (find order key) n.is ∙ find_before total key (changes_of node.left f.trees) (change_at f.made node.change) (changes_of node.right f.trees) sorted_here low

    pub find_top : order key (change_at f.made node.change).0 ≡ Equal → find order key (changes_of tree f.trees) ≡ Some (change_at f.made node.change).1
    find_top tie = ap (find order key) n.is ∙ find_here total key (changes_of node.left f.trees) (change_at f.made node.change) (changes_of node.right f.trees) sorted_here tie

    pub find_right : order key (change_at f.made node.change).0 ≡ Greater → find order key (changes_of tree f.trees) ≡ find order key (changes_of node.right f.trees)
    find_right high = ap (find order key) n.is ∙ find_after total key (changes_of node.left f.trees) (change_at f.made node.change) (changes_of node.right f.trees) sorted_here high

  module _ (change : ℕ) where
    pub changed_left : (mid : Forest) (left : ℕ) → Grows f mid → IsTree mid left (changed f node.left change) → order (change_at f.made change).0 (change_at f.made node.change).0 ≡ Less →
        joined mid left node.change node.right ≡ changed f tree change
    changed_left mid left g t low =
        let a : node.right ≤ length f.trees = node_there.right_within in
        let right_same = tree_later f mid g node.right a in let same = change_later f mid g node.change in
        let first : joined mid left node.change node.right ≡ changed f node.left change ++ change_at f.made node.change ∷ changes_of node.right f.trees = cc t.is in
        first
        ∙ sym (put_before total (change_at f.made change).0 (change_at f.made change).1 (changes_of node.left f.trees) (change_at f.made node.change) (changes_of node.right f.trees) low)
        ∙ ap (λ (cs : Changes). put order (change_at f.made change).0 (change_at f.made change).1 cs) (sym n.is)

    pub changed_top : order (change_at f.made change).0 (change_at f.made node.change).0 ≡ Equal → joined f node.left change node.right ≡ changed f tree change
    changed_top tie =
        ap (λ (k : Val). changes_of node.left f.trees ++ (k, (change_at f.made change).1) ∷ changes_of node.right f.trees) (ties (change_at f.made change).0 (change_at f.made node.change).0 tie)
        ∙ sym (put_here total (change_at f.made change).0 (change_at f.made change).1 (changes_of node.left f.trees) (change_at f.made node.change) (changes_of node.right f.trees) sorted_here tie)
        ∙ ap (λ (cs : Changes). put order (change_at f.made change).0 (change_at f.made change).1 cs) (sym n.is)

    pub changed_right : (mid : Forest) (right : ℕ) → Grows f mid → IsTree mid right (changed f node.right change) → order (change_at f.made change).0 (change_at f.made node.change).0 ≡ Greater →
        joined mid node.left node.change right ≡ changed f tree change
    changed_right mid right g t high =
        let a : node.left ≤ length f.trees = node_there.left_within in
        let left_same = tree_later f mid g node.left a in let same = change_later f mid g node.change in
        let first : joined mid node.left node.change right ≡ changes_of node.left f.trees ++ change_at f.made node.change ∷ changed f node.right change = cc t.is in
        first
        ∙ sym (put_after total (change_at f.made change).0 (change_at f.made change).1 (changes_of node.left f.trees) (change_at f.made node.change) (changes_of node.right f.trees) sorted_here high)
        ∙ ap (λ (cs : Changes). put order (change_at f.made change).0 (change_at f.made change).1 cs) (sym n.is)

-- how two keys stand, from how those that were read stand
pub as_read : (x y a b : Val × Option Val) (told r : Ordering) → x ≡ a → y ≡ b → told ≡ order x.0 y.0 → told ≡ r → order a.0 b.0 ≡ r
as_read x y a b told r first second is stands =
    ap (λ (e : Val × Option Val). order e.0 b.0) (sym first) ∙ ap (λ (e : Val × Option Val). order x.0 e.0) (sym second) ∙ sym is ∙ stands

-- a tree that has these changes has those
pub made_same : {E : Type 0} (r : Result ℕ E) (f : Forest) (changes others : Changes) → changes ≡ others → IfOk r (λ tree. IsTree f tree changes) → IfOk r (λ tree. IsTree f tree others)
made_same r f changes others same made = subst (λ (cs : Changes). IfOk r (λ tree. IsTree f tree cs)) same made
