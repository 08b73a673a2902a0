-- What a fold says of each kind of node, and of a node by its body.
use Rattle.std.proofs.Common.{◌≡◌, ℕ, ℤ, List, map, sym, ap, ◌∙◌}
use Rattle.micheline_text.specs.declared.node.Node.{Node}
use Rattle.micheline_text.specs.declared.node.Body.{Body}
use Rattle.micheline_text.specs.declared.node.Body.TheVariants as variant
use Rattle.micheline_text.specs.declared.node.Body.TheVariants.{rolls-Int, rolls-Text, rolls-Bytes, rolls-Prim, rolls-Seq}
use Rattle.micheline_text.specs.declared.node.Body.TheOpen as one
use Rattle.micheline_text.specs.declared.node.Body.TheOpen.{Body-F, Node-F}
use Rattle.micheline_text.specs.declared.node.Body.TheViews.{roll-Body}
use Rattle.micheline_text.specs.declared.node.Body.TheFolds.{fold-Body, fold-Node, fold-roll-Body, fold-roll-Node, map-Body}

one_node : Node → Node-F Body Node
one_node n = record { at = n.at; body = n.body }

module _ (A : Type 0) (level : Body-F A A → A) where
  abbrev of_body : Body → A
  of_body = fold-Body A A level (λ n. n.body)

  abbrev of_node : Node → A
  of_node = fold-Node A A level (λ n. n.body)

  rolled : (x : Body-F Body Node) → of_body (roll-Body x) ≡ level (map-Body Body Node A A of_body of_node x)
  rolled = fold-roll-Body A A level (λ n. n.body)

  pub at_node : (n : Node) → of_node n ≡ of_body n.body
  unfolding one_node
  at_node n = fold-roll-Node A A level (λ m. m.body) (one_node n)

  pub at_int : (z : ℤ) → of_body (variant.Int z) ≡ level (one.Int z)
  at_int z = ap of_body (sym (rolls-Int z)) ∙ rolled (one.Int z)

  pub at_text : (t : List ℕ) → of_body (variant.Text t) ≡ level (one.Text t)
  at_text t = ap of_body (sym (rolls-Text t)) ∙ rolled (one.Text t)

  pub at_bytes : (b : List ℕ) → of_body (variant.Bytes b) ≡ level (one.Bytes b)
  at_bytes b = ap of_body (sym (rolls-Bytes b)) ∙ rolled (one.Bytes b)

  pub at_prim : (name : List ℕ) (notes : List (List ℕ)) (args : List Node) → of_body (variant.Prim name notes args) ≡ level (one.Prim name notes (map of_node args))
  at_prim name notes args = ap of_body (sym (rolls-Prim name notes args)) ∙ rolled (one.Prim name notes args)

  pub at_seq : (ns : List Node) → of_body (variant.Seq ns) ≡ level (one.Seq (map of_node ns))
  at_seq ns = ap of_body (sym (rolls-Seq ns)) ∙ rolled (one.Seq ns)
