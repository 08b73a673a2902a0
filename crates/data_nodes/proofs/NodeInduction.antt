-- Induction on the parts of a node.
use Rattle.std.proofs.Common.{◌≡◌, List, [], ◌∷◌, map, sym, subst, ◌∙◌, rules}
use Rattle.micheline_text.specs.declared.node.Node.{Node}
use Rattle.micheline_text.specs.declared.node.Body.{Body}
use Rattle.micheline_text.specs.declared.node.Body.TheOpen as body
use Rattle.micheline_text.specs.declared.node.Body.TheOpen.{Body-F, Node-F}
use Rattle.micheline_text.specs.declared.node.Body.TheViews.{out-Body, roll-Body, the_lemmas}
use Rattle.micheline_text.specs.declared.node.Body.TheFolds.{ind-Node, map-Body}

pub out-roll : (x : Body-F Body Node) → out-Body (roll-Body x) ≡ x
out-roll x = search (rules, the_lemmas)

pub roll-out : (b : Body) → roll-Body (out-Body b) ≡ b
roll-out b = search (rules, the_lemmas)

-- the nodes that stand in a node
abbrev pub parts_of : {A B : Type 0} → Body-F A B → List B
parts_of (body.Prim name notes args) = args
parts_of (body.Seq nodes) = nodes
parts_of _ = []

-- a claim of each node of a list
abbrev pub Each : (Node → Type 0) → List Node → Type 0
Each P [] = Unit {0}
Each P (n ∷ ns) = P n × Each P ns

module _ (P : Node → Type 0) where
  abbrev ForBody : Body → Type 0
  ForBody b = Each P (parts_of (out-Body b))

  abbrev ProvedBody : Type 0
  ProvedBody = (b : Body) × ForBody b

  abbrev Proved : Type 0
  Proved = (n : Node) × P n

  abbrev inner : Body-F ProvedBody Proved → Body-F Body Node
  inner y = map-Body ProvedBody Proved Body Node (λ e. e.0) (λ e. e.0) y

  each : (ns : List Proved) → Each P (map (λ e. e.0) ns)
  each [] = tt
  each (n ∷ ns) = (n.1, each ns)

  each_part : (y : Body-F ProvedBody Proved) → Each P (parts_of (inner y))
  each_part (body.Prim name notes args) = each args
  each_part (body.Seq nodes) = each nodes
  each_part _ = tt

  -- what holds of a node where it holds of its parts holds of each node
  pub induction : ((n : Node) → Each P (parts_of (out-Body n.body)) → P n) → (n : Node) → P n
  induction step = ind-Node ForBody P
      (λ x y is. subst (λ (z : Body-F Body Node). Each P (parts_of z)) (is ∙ sym (out-roll x)) (each_part y))
      (λ x y is. step (record { at = x.at; body = x.body }) (subst (λ (m : Node-F Body Node). ForBody m.body) is y.body.1))
