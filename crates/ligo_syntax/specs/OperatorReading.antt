-- Reading operators.
use Rattle.std.specs.Prelude.{ℕ, suc, [], ◌∷◌}
use Rattle.ligo_tokens.specs.declared.token.Kind.TheVariants as kind
use Rattle.ligo_syntax.specs.declared.expr.Expr.{Expr}
use Rattle.ligo_syntax.specs.declared.expr.Operator.TheVariants as operator
use Rattle.ligo_syntax.specs.declared.expr.Arm.{Arm}
use Rattle.ligo_syntax.specs.Classes.{product_kinds, sum_kinds, comparison_kinds}
use Rattle.ligo_syntax.specs.Readers.{Reader, both, made, either, before, chain}
use Rattle.ligo_syntax.specs.Phrases.{key, from, optional}
use Rattle.ligo_syntax.specs.ExprTrees.{negated, binary, maybe_binary}
use Rattle.ligo_syntax.specs.Depth.{expr_depth}
use Rattle.ligo_syntax.specs.AtomGrammar.{Form, Conjunction, Comparison, Joined, Consed, Product, Unary}
use Rattle.ligo_syntax.specs.TypeReading.{token}
use Rattle.ligo_syntax.specs.AtomReading.{application_rule}

-- what is read at depth d in expressions of depth d + 1
module _ (d : ℕ) (e : Form → Reader Expr) (arm : Reader Arm) where
  -- a minus, or an application
  abbrev pub unary_rule : Reader Expr
  unary_rule = either (kind.Minus ∷ []) (made negated (from kind.Minus (e Unary))) (application_rule d e arm)

  -- from `*`, `/` and `mod` on
  abbrev pub product_rule : Reader Expr
  product_rule = chain expr_depth (suc d) binary unary_rule product_kinds (both (token product_kinds) (e Unary))

  -- from `+` and `-` on
  abbrev pub sum_rule : Reader Expr
  sum_rule = chain expr_depth (suc d) binary product_rule sum_kinds (both (token sum_kinds) (e Product))

  -- from `::` on, to the right
  abbrev pub consed_rule : Reader Expr
  consed_rule = made (maybe_binary operator.Cons)
      (both (before expr_depth (suc d) (kind.Cons ∷ []) sum_rule) (optional (kind.Cons ∷ []) (key kind.Cons (e Consed))))

  -- from `^` on, to the right
  abbrev pub joined_rule : Reader Expr
  joined_rule = made (maybe_binary operator.Join)
      (both (before expr_depth (suc d) (kind.Caret ∷ []) consed_rule) (optional (kind.Caret ∷ []) (key kind.Caret (e Joined))))

  -- from comparisons on
  abbrev pub comparison_rule : Reader Expr
  comparison_rule = chain expr_depth (suc d) binary joined_rule comparison_kinds (both (token comparison_kinds) (e Joined))

  -- from `&&` on
  abbrev pub conjunction_rule : Reader Expr
  conjunction_rule = chain expr_depth (suc d) binary comparison_rule (kind.And ∷ []) (both (token (kind.And ∷ [])) (e Comparison))

  -- from `||` on
  abbrev pub disjunction_rule : Reader Expr
  disjunction_rule = chain expr_depth (suc d) binary conjunction_rule (kind.Or ∷ []) (both (token (kind.Or ∷ [])) (e Conjunction))
