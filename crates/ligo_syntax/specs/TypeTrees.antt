-- Trees of types and patterns, made of what the rules give.
use Rattle.std.specs.Prelude.{ℕ, ◌+◌, max, List, [], ◌∷◌, Option, Some, None}
use Rattle.ligo_tokens.specs.declared.token.Token.{Token}
use Rattle.ligo_tokens.specs.declared.token.Kind.{Kind}
use Rattle.ligo_tokens.specs.declared.token.Kind.TheVariants as kind
use Rattle.ligo_syntax.specs.declared.type_expr.TypeExpr.{TypeExpr}
use Rattle.ligo_syntax.specs.declared.type_expr.TypeForm.{TypeForm}
use Rattle.ligo_syntax.specs.declared.type_expr.TypeForm.TheVariants as ty
use Rattle.ligo_syntax.specs.declared.pattern.Pattern.{Pattern}
use Rattle.ligo_syntax.specs.declared.pattern.PatternForm.{PatternForm}
use Rattle.ligo_syntax.specs.declared.pattern.PatternForm.TheVariants as pattern
use Rattle.ligo_syntax.specs.Depth.{deepest, type_depth, pattern_depth}
use Rattle.ligo_syntax.specs.TreeNodes.{type_node, pattern_node}
use Rattle.ligo_syntax.specs.Said.{word_of}

-- ---- types

-- a name
abbrev pub type_name : Token → TypeExpr
type_name t = type_node t.at 1 (ty.Name (word_of t))

-- a map, by the word behind the types
abbrev pub map_type : Kind → TypeExpr → TypeExpr → TypeForm
map_type kind.Map k v = ty.Map k v
map_type word k v = ty.BigMap k v

-- "(" type ")", or "(" type "," type ")" and a word
abbrev pub bracket_type : ℕ × (TypeExpr × Option (TypeExpr × Token)) → TypeExpr
bracket_type (at, (t, None)) = type_node at (1 + t.depth) (ty.Brackets t)
bracket_type (at, (k, Some (v, word))) = type_node at (1 + max k.depth v.depth) (map_type word.kind k v)

-- a list, an option or a contract, by the word behind the type
abbrev pub postfix_type : Kind → TypeExpr → TypeForm
postfix_type kind.List t = ty.List t
postfix_type kind.Option t = ty.Option t
postfix_type word t = ty.Contract t

-- one more word behind a type
abbrev pub postfixed : TypeExpr → Token → TypeExpr
postfixed t word = type_node t.at (1 + t.depth) (postfix_type word.kind t)

-- types between stars: one alone is itself
abbrev pub tuple_type : TypeExpr × List TypeExpr → TypeExpr
tuple_type (t, []) = t
tuple_type (t, u ∷ more) = type_node t.at (1 + deepest type_depth (t ∷ u ∷ more)) (ty.Tuple (t ∷ u ∷ more))

-- ---- patterns

-- a pattern in brackets
abbrev pub bracket_pattern : ℕ × Pattern → Pattern
bracket_pattern (at, p) = pattern_node at (1 + p.depth) (pattern.Brackets p)

-- a name, or `_`
abbrev pub leaf_form : Kind → List ℕ → PatternForm
leaf_form kind.Underscore word = pattern.Any
leaf_form k word = pattern.Name word

-- such a token
abbrev pub leaf_pattern : Token → Pattern
leaf_pattern t = pattern_node t.at 1 (leaf_form t.kind (word_of t))

-- patterns between commas: one alone is itself
abbrev pub tuple_pattern : Pattern × List Pattern → Pattern
tuple_pattern (p, []) = p
tuple_pattern (p, q ∷ more) = pattern_node p.at (1 + deepest pattern_depth (p ∷ q ∷ more)) (pattern.Tuple (p ∷ q ∷ more))
