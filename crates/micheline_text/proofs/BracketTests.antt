-- The tests that tell how deep the brackets of a node go.
use Rattle.std.proofs.Common.{◌≡◌, ℕ, ℤ, ◌+◌, ◌-◌, ◌<◌, max, Bool, true, false, cond, List, [], ◌∷◌, map, sym, ap, subst, ◌∙◌, arith, rules}
use Rattle.std.specs.Prelude.{◌&&◌, nat_le, nat_lt}
use Rattle.std.specs.List.{list_all}
use Rattle.std.proofs.lemmas.Bool.{lt-ltb}
use Rattle.std.proofs.lemmas.Bool.Decides.{nat_tests}
use Rattle.value_core.specs.Depth.{greatest}
use Rattle.micheline_text.specs.declared.node.Node.{Node}
use Rattle.micheline_text.specs.declared.node.Body.{Body}
use Rattle.micheline_text.specs.declared.node.Body.TheVariants as variant
use Rattle.micheline_text.specs.declared.node.Body.TheOpen as one
use Rattle.micheline_text.specs.declared.node.Body.TheOpen.{Body-F}
use Rattle.micheline_text.specs.declared.node.Body.TheViews.{out-Body, roll-Body, the_lemmas}
use Rattle.micheline_text.specs.declared.node.Body.TheVariants.{rolls-Int, rolls-Text, rolls-Bytes, rolls-Prim, rolls-Seq}
use Rattle.micheline_text.specs.Printed.{Print, print_body}
use Rattle.micheline_text.specs.Again.{Depth, argument_depth, brackets_level, depth_of_body, depth_of_node}
use Rattle.micheline_text.proofs.NodeLevels.{at_int, at_text, at_bytes}
use Rattle.micheline_text.proofs.PrintLemmas.{print_int, print_text, print_bytes, print_prim, print_seq}
use Rattle.micheline_text.proofs.FitDepths.{deepest_argument, deepest_item, depth_prim, depth_seq, depth_node}

-- ---- the greatest of depths

within_both : (a b most : ℕ) → (nat_le a most && nat_le b most) ≡ nat_le (max a b) most
within_both a b most = grind (arith, nat_tests)

all_within : (measure : Depth → ℕ) (most : ℕ) (ns : List Node) → list_all (λ n. nat_le (measure (depth_of_node n)) most) ns ≡ nat_le (greatest (map measure (map depth_of_node ns))) most
all_within measure most [] = sym (grind (arith, nat_tests))
all_within measure most (n ∷ ns) =
    ap (λ (v : Bool). nat_le (measure (depth_of_node n)) most && v) (all_within measure most ns)
    ∙ within_both (measure (depth_of_node n)) (greatest (map measure (map depth_of_node ns))) most

one_less : (a most : ℕ) → (nat_lt 0 most && nat_le a (most - 1)) ≡ nat_le (1 + a) most
one_less a most = grind (arith, nat_tests)

-- ---- each kind of node

pub within_prim : (name : List ℕ) (notes : List (List ℕ)) (args : List Node) (most : ℕ) → list_all (λ n. nat_le (argument_depth (depth_of_node n)) most) args ≡ nat_le (depth_of_body (variant.Prim name notes args)).0 most
within_prim name notes args most = all_within argument_depth most args ∙ ap (λ (x : Depth). nat_le x.0 most) (sym (depth_prim name notes args))

pub within_seq : (ns : List Node) (most : ℕ) → (nat_lt 0 most && list_all (λ n. nat_le (depth_of_node n).0 (most - 1)) ns) ≡ nat_le (depth_of_body (variant.Seq ns)).0 most
within_seq ns most =
    ap (λ (v : Bool). nat_lt 0 most && v) (all_within (λ x. x.0) (most - 1) ns) ∙ one_less (deepest_item ns) most ∙ ap (λ (x : Depth). nat_le x.0 most) (sym (depth_seq ns))

pub within_braces : (b : Body) (ns : List Node) (most : ℕ) → b ≡ variant.Seq ns → 0 < most → list_all (λ n. nat_le (depth_of_node n).0 (most - 1)) ns ≡ nat_le (depth_of_body b).0 most
within_braces b ns most is some =
    let more : nat_lt 0 most ≡ true = lt-ltb 0 most some in
    sym (ap (λ (v : Bool). v && list_all (λ n. nat_le (depth_of_node n).0 (most - 1)) ns) more) ∙ within_seq ns most ∙ ap (λ (x : Body). nat_le (depth_of_body x).0 most) (sym is)

pub depth_int : (z : ℤ) → depth_of_body (variant.Int z) ≡ (0, false)
depth_int z = at_int Depth brackets_level z

pub depth_text : (t : List ℕ) → depth_of_body (variant.Text t) ≡ (0, false)
depth_text t = at_text Depth brackets_level t

pub depth_bytes : (b : List ℕ) → depth_of_body (variant.Bytes b) ≡ (0, false)
depth_bytes b = at_bytes Depth brackets_level b

-- ---- parentheses

shown_at : (x : Body-F Body Node) → (depth_of_body (roll-Body x)).1 ≡ (print_body (roll-Body x)).1
shown_at (one.Int z) = ap (λ (b : Body). (depth_of_body b).1) (rolls-Int z) ∙ ap (λ (x : Depth). x.1) (depth_int z) ∙ sym (ap (λ (x : Print). x.1) (ap print_body (rolls-Int z) ∙ print_int z))
shown_at (one.Text t) = ap (λ (b : Body). (depth_of_body b).1) (rolls-Text t) ∙ ap (λ (x : Depth). x.1) (depth_text t) ∙ sym (ap (λ (x : Print). x.1) (ap print_body (rolls-Text t) ∙ print_text t))
shown_at (one.Bytes t) = ap (λ (b : Body). (depth_of_body b).1) (rolls-Bytes t) ∙ ap (λ (x : Depth). x.1) (depth_bytes t) ∙ sym (ap (λ (x : Print). x.1) (ap print_body (rolls-Bytes t) ∙ print_bytes t))
shown_at (one.Prim name notes args) =
    ap (λ (b : Body). (depth_of_body b).1) (rolls-Prim name notes args) ∙ ap (λ (x : Depth). x.1) (depth_prim name notes args) ∙ sym (ap (λ (x : Print). x.1) (ap print_body (rolls-Prim name notes args) ∙ print_prim name notes args))
shown_at (one.Seq ns) = ap (λ (b : Body). (depth_of_body b).1) (rolls-Seq ns) ∙ ap (λ (x : Depth). x.1) (depth_seq ns) ∙ sym (ap (λ (x : Print). x.1) (ap print_body (rolls-Seq ns) ∙ print_seq ns))

roll-out : (b : Body) → roll-Body (out-Body b) ≡ b
roll-out b = search (rules, the_lemmas)

-- a node has parentheses round it where it is printed so
pub depth-shown : (b : Body) → (depth_of_body b).1 ≡ (print_body b).1
depth-shown b = subst (λ (x : Body). (depth_of_body x).1 ≡ (print_body x).1) (roll-out b) (shown_at (out-Body b))

pub within_parens : (b : Body) (most : ℕ) → (print_body b).1 ≡ true → (nat_lt 0 most && nat_le (depth_of_body b).0 (most - 1)) ≡ nat_le (argument_depth (depth_of_body b)) most
within_parens b most shown = one_less (depth_of_body b).0 most ∙ ap (λ (v : Bool). nat_le (cond v (1 + (depth_of_body b).0) (depth_of_body b).0) most) (sym (depth-shown b ∙ shown))

pub within_alone : (b : Body) (most : ℕ) → (print_body b).1 ≡ false → nat_le (depth_of_body b).0 most ≡ nat_le (argument_depth (depth_of_body b)) most
within_alone b most shown = ap (λ (v : Bool). nat_le (cond v (1 + (depth_of_body b).0) (depth_of_body b).0) most) (sym (depth-shown b ∙ shown))

pub ruleset depths = (depth_node, depth_int, depth_text, depth_bytes, within_prim, within_seq, within_parens, within_alone)
