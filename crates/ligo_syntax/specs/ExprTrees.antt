-- Trees of expressions and arms, made of what the rules give.
use Rattle.std.specs.Prelude.{ℕ, ◌+◌, max, List, [], ◌∷◌, Option, Some, None}
use Rattle.ligo_tokens.specs.declared.token.Token.{Token}
use Rattle.ligo_tokens.specs.declared.token.Kind.{Kind}
use Rattle.ligo_tokens.specs.declared.token.Kind.TheVariants as kind
use Rattle.ligo_syntax.specs.declared.type_expr.TypeExpr.{TypeExpr}
use Rattle.ligo_syntax.specs.declared.pattern.Pattern.{Pattern}
use Rattle.ligo_syntax.specs.declared.expr.Expr.{Expr}
use Rattle.ligo_syntax.specs.declared.expr.ExprForm.TheVariants as expr
use Rattle.ligo_syntax.specs.declared.expr.Operator.{Operator}
use Rattle.ligo_syntax.specs.declared.expr.Operator.TheVariants as operator
use Rattle.ligo_syntax.specs.declared.expr.Arm.{Arm}
use Rattle.ligo_syntax.specs.declared.expr.ArmPattern.{ArmPattern}
use Rattle.ligo_syntax.specs.declared.expr.ArmForm.TheVariants as arm
use Rattle.ligo_syntax.specs.Depth.{if_there, deepest, type_depth, expr_depth, arm_depth}
use Rattle.ligo_syntax.specs.TreeNodes.{expr_node}
use Rattle.ligo_syntax.specs.Said.{word_of, name_of}

-- a function and its arguments: without any it is itself
abbrev pub applied : Expr × List Expr → Expr
applied (e, []) = e
applied (e, f ∷ more) = expr_node e.at (1 + max e.depth (deepest expr_depth (f ∷ more))) (expr.Apply e (f ∷ more))

-- a minus before an expression
abbrev pub negated : ℕ × Expr → Expr
negated (at, e) = expr_node at (1 + e.depth) (expr.Negate e)

-- the operator that a token writes
abbrev pub operator_of : Kind → Operator
operator_of kind.Or = operator.Or
operator_of kind.And = operator.And
operator_of kind.Equals = operator.Equal
operator_of kind.Differs = operator.Unequal
operator_of kind.Less = operator.Less
operator_of kind.Greater = operator.Greater
operator_of kind.AtMost = operator.AtMost
operator_of kind.AtLeast = operator.AtLeast
operator_of kind.Caret = operator.Join
operator_of kind.Cons = operator.Cons
operator_of kind.Plus = operator.Add
operator_of kind.Minus = operator.Subtract
operator_of kind.Star = operator.Multiply
operator_of kind.Slash = operator.Divide
operator_of k = operator.Modulo

-- an operator and its right side, behind the left one
abbrev pub binary : Expr → Token × Expr → Expr
binary e (sign, f) = expr_node e.at (1 + max e.depth f.depth) (expr.Binary (operator_of sign.kind) e f)

-- the right side of an operator, if there is one
abbrev pub maybe_binary : Operator → Expr × Option Expr → Expr
maybe_binary o (e, None) = e
maybe_binary o (e, Some f) = expr_node e.at (1 + max e.depth f.depth) (expr.Binary o e f)

-- expressions between commas: one alone is itself
abbrev pub tuple_expr : Expr × List Expr → Expr
tuple_expr (e, []) = e
tuple_expr (e, f ∷ more) = expr_node e.at (1 + deepest expr_depth (e ∷ f ∷ more)) (expr.Tuple (e ∷ f ∷ more))

-- a test and its two parts
abbrev pub if_expr : ℕ × (Expr × (Expr × Option Expr)) → Expr
if_expr (at, (e, (f, g))) = expr_node at (1 + max e.depth (max f.depth (if_there expr_depth g))) (expr.If e f g)

-- a pattern and what it leads to
abbrev pub arm_of : ArmPattern × Expr → Arm
arm_of (p, e) = record { pattern = p; body = e }

-- "_", "[" "]", a name "::" a name, a constructor and its part
abbrev pub any_arm : Token → ArmPattern
any_arm t = record { at = t.at; form = arm.Any }

-- the empty list
abbrev pub nil_arm : ℕ × Token → ArmPattern
nil_arm (at, close) = record { at = at; form = arm.Nil }

-- the head and the tail of a list
abbrev pub cons_arm : Token × Token → ArmPattern
cons_arm (h, t) = record { at = h.at; form = arm.Cons (name_of h) (name_of t) }

-- a constructor, and its part
abbrev pub constructor_arm : Token × Option Pattern → ArmPattern
constructor_arm (u, part) = record { at = u.at; form = arm.Constructor (word_of u) part }

-- what is matched, and the arms
abbrev pub match_expr : ℕ × (Expr × (Option Token × (Arm × List Arm))) → Expr
match_expr (at, (e, (bar, (a, more)))) = expr_node at (1 + max e.depth (deepest arm_depth (a ∷ more))) (expr.Match e (a ∷ more))

-- a pattern, its type, its value, and the body
abbrev pub let_expr : ℕ × (Pattern × (Option TypeExpr × (Expr × Expr))) → Expr
let_expr (at, (p, (t, (e, f)))) = expr_node at (1 + max p.depth (max (if_there type_depth t) (max e.depth f.depth))) (expr.Let p t e f)
