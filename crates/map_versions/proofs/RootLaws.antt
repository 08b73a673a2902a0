-- Roots stay roots of the same versions when more trees come.
use Rattle.std.proofs.Common.{◌≡◌, ℕ, zero, suc, ◌≤◌, Bool, true, Option, None, Result, Ok, Err, List, [], ◌∷◌, ◌++◌, length, get_or, refl, ap, sym, ◌∙◌, arith}
use Rattle.std.proofs.Math.Seq.{get_or-append_seam}
use Rattle.std.proofs.lemmas.Bool.{and_from, and_parts}
use Rattle.std.proofs.lemmas.Option.{unwrap_or-slice_get}
use Rattle.std.specs.Prelude.{OnErr}
use Rattle.std.specs.Option.{unwrap_or}
use Rattle.std.specs.List.{list_all, slice_get}
use Rattle.std.specs.FinMap.Entries.{is_sorted, is_sorted-put}
use Rattle.value_core.specs.declared.val.Val.{Val}
use Rattle.value_core.specs.declared.val.Val.TheVariants as value
use Rattle.value_core.specs.Order.{order}
use Rattle.value_core.specs.Sorted.{keys_of, put}
use Rattle.value_core.specs.Sound.{ascends}
use Rattle.value_core.proofs.Bools.{T_of, true_of}
use Rattle.value_core.proofs.SortedValues.{ascends-keys, total}
use Rattle.michelson_rules.specs.Runs.{Changes, changes_of}
use Rattle.map_versions.specs.Changed.{change_at}
use Rattle.map_versions.specs.Forest.{Forest, Grows, IsTree, changed}
use Rattle.map_versions.specs.Roots.{is_root, root_of, versions_of}
use Rattle.map_versions.proofs.ForestLaws.{longer, tree_later}
use Rattle.map_versions.proofs.NodeLaws.{le-nat_le, nat_le-true}

-- ---- the tree of a version

get_or-versions : (n : ℕ) (trees : List Changes) (roots : List ℕ) → get_or (versions_of trees roots) n [] ≡ changes_of (get_or roots n 0) trees
get_or-versions n trees [] = refl
get_or-versions zero trees (root ∷ roots) = refl
get_or-versions (suc n) trees (root ∷ roots) = get_or-versions n trees roots

pub changes-versions : (version : ℕ) (trees : List Changes) (roots : List ℕ) → changes_of version (versions_of trees roots) ≡ changes_of (root_of version roots) trees
changes-versions zero trees roots = refl
changes-versions (suc n) trees roots = get_or-versions n trees roots

empty_root : (trees : List Changes) → is_root trees 0 ≡ true
empty_root trees = and_from _ _ (le-nat_le 0 (length trees) (omega arith)) refl

get_or-root : (n : ℕ) (trees : List Changes) (roots : List ℕ) → list_all (is_root trees) roots ≡ true → is_root trees (get_or roots n 0) ≡ true
get_or-root n trees [] h = empty_root trees
get_or-root zero trees (root ∷ roots) h = (and_parts _ _ h).0
get_or-root (suc n) trees (root ∷ roots) h = get_or-root n trees roots (and_parts _ _ h).1

root_is : (version : ℕ) (trees : List Changes) (roots : List ℕ) → list_all (is_root trees) roots ≡ true → is_root trees (root_of version roots) ≡ true
root_is zero trees roots h = empty_root trees
root_is (suc n) trees roots h = get_or-root n trees roots h

module _ (version : ℕ) (trees : List Changes) (roots : List ℕ) (h : list_all (is_root trees) roots ≡ true) where
  pub root_within : root_of version roots ≤ length trees
  root_within = nat_le-true (root_of version roots) (length trees) (and_parts _ _ (root_is version trees roots h)).0

  pub root_ascends : ascends (keys_of (changes_of (root_of version roots) trees)) ≡ true
  root_ascends = (and_parts _ _ (root_is version trees roots h)).1

  pub root_sorted : is_sorted order (changes_of (root_of version roots) trees) ≡ true
  root_sorted = sym (ascends-keys (changes_of (root_of version roots) trees)) ∙ root_ascends

-- ---- more trees

module _ (old new : Forest) (grows : Grows old new) where
  pub still_root : (root : ℕ) → is_root old.trees root ≡ true → is_root new.trees root ≡ true
  still_root root h =
      let parts = and_parts _ _ h in
      let within : root ≤ length old.trees = nat_le-true root (length old.trees) parts.0 in
      let more = longer old new grows in
      and_from _ _ (le-nat_le root (length new.trees) (omega arith)) (ap (λ (cs : Changes). ascends (keys_of cs)) (tree_later old new grows root within) ∙ parts.1)

  pub still_roots : (roots : List ℕ) → list_all (is_root old.trees) roots ≡ true → list_all (is_root new.trees) roots ≡ true
  still_roots [] h = refl
  still_roots (root ∷ roots) h = and_from _ _ (still_root root (and_parts _ _ h).0) (still_roots roots (and_parts _ _ h).1)

  pub same_versions : (roots : List ℕ) → list_all (is_root old.trees) roots ≡ true → versions_of new.trees roots ≡ versions_of old.trees roots
  same_versions [] h = refl
  same_versions (root ∷ roots) h =
      let within : root ≤ length old.trees = nat_le-true root (length old.trees) (and_parts _ _ (and_parts _ _ h).0).0 in
      ap (λ (cs : Changes). cs ∷ versions_of new.trees roots) (tree_later old new grows root within)
      ∙ ap (λ (vs : List Changes). changes_of root old.trees ∷ vs) (same_versions roots (and_parts _ _ h).1)

-- ---- one version more

all-append : {A : Type 0} (test : A → Bool) (xs : List A) (x : A) → list_all test xs ≡ true → test x ≡ true → list_all test (xs ++ x ∷ []) ≡ true
all-append test [] x h here = and_from _ _ here refl
all-append test (y ∷ xs) x h here = and_from _ _ (and_parts _ _ h).0 (all-append test xs x (and_parts _ _ h).1 here)

versions-append : (trees : List Changes) (roots : List ℕ) (root : ℕ) → versions_of trees (roots ++ root ∷ []) ≡ versions_of trees roots ++ changes_of root trees ∷ []
versions-append trees [] root = refl
versions-append trees (r ∷ roots) root = ap (λ (vs : List Changes). changes_of r trees ∷ vs) (versions-append trees roots root)

ascends-put : (key : Val) (choice : Option Val) (cs : Changes) → ascends (keys_of cs) ≡ true → ascends (keys_of (put order key choice cs)) ≡ true
ascends-put key choice cs up =
    ascends-keys (put order key choice cs)
    ∙ true_of (is_sorted order (put order key choice cs)) (is_sorted-put order total key choice cs (T_of (is_sorted order cs) (sym (ascends-keys cs) ∙ up)))

module _ (trees : List Changes) (roots : List ℕ) (h : list_all (is_root trees) roots ≡ true) (versions : List Changes) (view : versions_of trees roots ≡ versions)
    (noted new : Forest) (same : noted.trees ≡ trees) (grows : Grows noted new) where
  roots_noted : list_all (is_root noted.trees) roots ≡ true
  roots_noted = ap (λ (ts : List Changes). list_all (is_root ts) roots) same ∙ h

  versions_noted : versions_of noted.trees roots ≡ versions
  versions_noted = ap (λ (ts : List Changes). versions_of ts roots) same ∙ view

  pub roots_kept : (rs : List ℕ) → rs ≡ roots → list_all (is_root new.trees) rs ≡ true
  roots_kept rs is = ap (λ (ns : List ℕ). list_all (is_root new.trees) ns) is ∙ still_roots noted new grows roots roots_noted

  pub versions_kept : (rs : List ℕ) → rs ≡ roots → versions_of new.trees rs ≡ versions
  versions_kept rs is = ap (λ (ns : List ℕ). versions_of new.trees ns) is ∙ same_versions noted new grows roots roots_noted ∙ versions_noted

  module _ (version root change tree : ℕ) (key : Val) (choice : Option Val) (rs : List ℕ) (is : root ≡ root_of version roots) (one : change_at noted.made change ≡ (key, choice))
      (t : IsTree new tree (changed noted root change)) (pushed : rs ≡ roots ++ tree ∷ []) where
    root_before : changes_of root noted.trees ≡ changes_of version versions
    root_before =
        ap (λ (n : ℕ). changes_of n noted.trees) is
        ∙ sym (changes-versions version noted.trees roots)
        ∙ ap (λ (vs : List Changes). changes_of version vs) versions_noted

    new_changes : changes_of tree new.trees ≡ put order key choice (changes_of version versions)
    new_changes =
        t.is ∙ ap (λ (e : Val × Option Val). put order e.0 e.1 (changes_of root noted.trees)) one ∙ ap (λ (cs : Changes). put order key choice cs) root_before

    old_ascends : ascends (keys_of (changes_of version versions)) ≡ true
    old_ascends =
        ap (λ (cs : Changes). ascends (keys_of cs)) (sym root_before ∙ ap (λ (n : ℕ). changes_of n noted.trees) is)
        ∙ root_ascends version noted.trees roots roots_noted

    pub roots_more : list_all (is_root new.trees) rs ≡ true
    roots_more =
        ap (λ (ns : List ℕ). list_all (is_root new.trees) ns) pushed
        ∙ all-append (is_root new.trees) roots tree (still_roots noted new grows roots roots_noted)
        (and_from _ _ (le-nat_le tree (length new.trees) t.within) (ap (λ (cs : Changes). ascends (keys_of cs)) new_changes ∙ ascends-put key choice (changes_of version versions) old_ascends))

    pub versions_more : versions_of new.trees rs ≡ versions ++ put order key choice (changes_of version versions) ∷ []
    versions_more =
        ap (λ (ns : List ℕ). versions_of new.trees ns) pushed
        ∙ versions-append new.trees roots tree
        ∙ ap (λ (vs : List Changes). vs ++ changes_of tree new.trees ∷ []) (same_versions noted new grows roots roots_noted ∙ versions_noted)
        ∙ ap (λ (cs : Changes). versions ++ cs ∷ []) new_changes

-- the change that was made last
pub last_change : (made noted : Changes) (key : Val) (choice : Option Val) (change : ℕ) → noted ≡ made ++ (key, choice) ∷ [] → change ≡ length made → change_at noted change ≡ (key, choice)
last_change made noted key choice change is len =
    ap (λ (cs : Changes). change_at cs change) is ∙ ap (λ (n : ℕ). change_at (made ++ (key, choice) ∷ []) n) len ∙ get_or-append_seam made (key, choice) [] (value.Unit, None)

-- a version that isn't there has the empty tree
pub root_none : (version at : ℕ) (roots : List ℕ) → version ≡ suc at → slice_get roots at ≡ None → 0 ≡ root_of version roots
root_none version at roots is none =
    ap (λ (o : Option ℕ). unwrap_or o 0) (sym none) ∙ unwrap_or-slice_get roots at 0 ∙ ap (λ (n : ℕ). root_of n roots) (sym is)

-- what holds anyway holds after a failure
pub on_err : {A E : Type 0} {P : Type 0} (r : Result A E) → P → OnErr r P
on_err (Ok x) p = tt
on_err (Err e) p = p
