-- The last argument of a word is less deep than the word, and lawful arguments are lawful in front and at the end.
use Rattle.std.proofs.Common.{◌≡◌, ◌<◌, ℕ, max, true, Option, Some, None, List, [], ◌∷◌, ◌++◌, refl, ap, sym, ◌∙◌, rules, arith}
use Rattle.std.specs.List.{list_all}
use Rattle.std.specs.Option.{MatchOption}
use Rattle.std.proofs.lemmas.List.Folds.{list_all-append}
use denote.Param.Weighed.{most, most-append}
use Rattle.micheline_text.specs.declared.node.Node.{Node}
use Rattle.micheline_text.specs.declared.node.Body.{Body, size-Body}
use Rattle.micheline_text.specs.declared.node.Body.TheVariants as variant
use Rattle.micheline_text.specs.declared.node.Body.TheViews.{size-Node, the_lemmas}
use Rattle.micheline_text.specs.Lawful.{is_lawful, is_lawful_body}
use Rattle.micheline_text.proofs.PrintLemmas.{is_lawful-node, is_lawful-prim}

pub smaller_last : (b : Body) (name : List ℕ) (notes : List (List ℕ)) (args before : List Node) (last : Node) →
    b ≡ variant.Prim name notes args → args ≡ before ++ last ∷ [] → size-Body last.body < size-Body b
smaller_last b name notes args before last is ends = search (rules, the_lemmas)

shallower_args : (b : Body) (name : List ℕ) (notes : List (List ℕ)) (args : List Node) → b ≡ variant.Prim name notes args → most size-Node args < size-Body b
shallower_args b name notes args is = search (rules, the_lemmas)

-- what is left of the arguments when the last one is taken out
pub shallower_rest : (b : Body) (name : List ℕ) (notes : List (List ℕ)) (args rest : List Node) (o : Option Node) →
    b ≡ variant.Prim name notes args → MatchOption o ((args ≡ []) × (rest ≡ [])) (λ last. args ≡ rest ++ last ∷ []) →
    most size-Node rest < size-Body b
shallower_rest b name notes args rest None is left =
    let all = shallower_args b name notes args is in
    let same : most size-Node rest ≡ most size-Node args = ap (most size-Node) (left.1 ∙ sym left.0) in
    omega (arith, all, same)
shallower_rest b name notes args rest (Some last) is left =
    let all = shallower_args b name notes args is in
    let parts : most size-Node args ≡ max (most size-Node rest) (most size-Node (last ∷ [])) = ap (most size-Node) left ∙ most-append size-Node rest (last ∷ []) in
    omega (arith, all, parts)

pub lawful_last : (b : Body) (name : List ℕ) (notes : List (List ℕ)) (args before : List Node) (last : Node) →
    b ≡ variant.Prim name notes args → args ≡ before ++ last ∷ [] → list_all is_lawful before ≡ true →
    is_lawful_body last.body ≡ true → is_lawful_body b ≡ true
lawful_last b name notes args before last is ends front behind =
    let this : is_lawful last ≡ true = is_lawful-node last ∙ behind in
    ap is_lawful_body is ∙ is_lawful-prim name notes args ∙ ap (list_all is_lawful) ends ∙ list_all-append is_lawful before (last ∷ []) ∙ rw (front, this) refl
