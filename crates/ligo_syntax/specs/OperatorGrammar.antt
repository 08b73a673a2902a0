-- The grammar of operators, the tightest first.
use Rattle.std.specs.Prelude.{[], ◌∷◌}
use Rattle.ligo_tokens.specs.declared.token.Kind.TheVariants as kind
use Rattle.ligo_syntax.specs.declared.type_expr.TypeExpr.{TypeExpr}
use Rattle.ligo_syntax.specs.declared.pattern.Pattern.{Pattern}
use Rattle.ligo_syntax.specs.declared.expr.Expr.{Expr}
use Rattle.ligo_syntax.specs.declared.expr.Operator.TheVariants as operator
use Rattle.ligo_syntax.specs.Classes.{product_kinds, sum_kinds, comparison_kinds}
use Rattle.ligo_syntax.specs.Rules.{Greed, Rule, OneOf, Both, Made, Either, Key, From, Optional, Chain}
use Rattle.ligo_syntax.specs.ExprTrees.{negated, binary, maybe_binary}
use Rattle.ligo_syntax.specs.AtomGrammar.{Form, Joined, Consed, Unary, ApplicationRule}

module _ (must : Greed) (T : Rule TypeExpr) (Pat One : Rule Pattern) (E : Form → Rule Expr) where
  -- unary = "-" unary | app
  abbrev pub UnaryRule : Rule Expr
  UnaryRule = Either (Made negated (From kind.Minus (E Unary))) (ApplicationRule must T Pat One E)

  -- unary { ("*" | "/" | "mod") unary }
  abbrev pub ProductRule : Rule Expr
  ProductRule = Chain binary UnaryRule (Both (OneOf product_kinds) UnaryRule)

  -- product { ("+" | "-") product }
  abbrev pub SumRule : Rule Expr
  SumRule = Chain binary ProductRule (Both (OneOf sum_kinds) ProductRule)

  -- sum [ "::" consed ]
  abbrev pub ConsedRule : Rule Expr
  ConsedRule = Made (maybe_binary operator.Cons) (Both SumRule (Optional (Key kind.Cons (E Consed))))

  -- consed [ "^" joined ]
  abbrev pub JoinedRule : Rule Expr
  JoinedRule = Made (maybe_binary operator.Join) (Both ConsedRule (Optional (Key kind.Caret (E Joined))))

  -- joined { ("=" | "<>" | "<" | ">" | "<=" | ">=") joined }
  abbrev pub ComparisonRule : Rule Expr
  ComparisonRule = Chain binary JoinedRule (Both (OneOf comparison_kinds) JoinedRule)

  -- comparison { "&&" comparison }
  abbrev pub ConjunctionRule : Rule Expr
  ConjunctionRule = Chain binary ComparisonRule (Both (OneOf (kind.And ∷ [])) ComparisonRule)

  -- op = conjunction { "||" conjunction }
  abbrev pub DisjunctionRule : Rule Expr
  DisjunctionRule = Chain binary ConjunctionRule (Both (OneOf (kind.Or ∷ [])) ConjunctionRule)
