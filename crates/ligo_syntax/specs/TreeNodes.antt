-- Nodes of trees: a place, a depth and a form.
use Rattle.std.specs.Prelude.{ℕ}
use Rattle.ligo_syntax.specs.declared.type_expr.TypeExpr.{TypeExpr}
use Rattle.ligo_syntax.specs.declared.type_expr.TypeForm.{TypeForm}
use Rattle.ligo_syntax.specs.declared.pattern.Pattern.{Pattern}
use Rattle.ligo_syntax.specs.declared.pattern.PatternForm.{PatternForm}
use Rattle.ligo_syntax.specs.declared.expr.Expr.{Expr}
use Rattle.ligo_syntax.specs.declared.expr.ExprForm.{ExprForm}

-- a type
abbrev pub type_node : ℕ → ℕ → TypeForm → TypeExpr
type_node at depth form = record { at = at; depth = depth; form = form }

-- a pattern
abbrev pub pattern_node : ℕ → ℕ → PatternForm → Pattern
pattern_node at depth form = record { at = at; depth = depth; form = form }

-- an expression
abbrev pub expr_node : ℕ → ℕ → ExprForm → Expr
expr_node at depth form = record { at = at; depth = depth; form = form }
