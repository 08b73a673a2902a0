-- Trees of atoms, made of what the rules give.
use Rattle.std.specs.Prelude.{ℕ, ◌+◌, max, List, [], ◌∷◌, Option, Some, None}
use Rattle.ligo_tokens.specs.declared.token.Token.{Token}
use Rattle.ligo_tokens.specs.declared.token.Kind.{Kind}
use Rattle.ligo_tokens.specs.declared.token.Kind.TheVariants as kind
use Rattle.ligo_tokens.specs.declared.token.Says.{Says}
use Rattle.ligo_syntax.specs.declared.type_expr.TypeExpr.{TypeExpr}
use Rattle.ligo_syntax.specs.declared.expr.Expr.{Expr}
use Rattle.ligo_syntax.specs.declared.expr.ExprForm.{ExprForm}
use Rattle.ligo_syntax.specs.declared.expr.ExprForm.TheVariants as expr
use Rattle.ligo_syntax.specs.declared.expr.ValueField.{ValueField}
use Rattle.ligo_syntax.specs.Depth.{if_there, deepest, type_depth, expr_depth, field_depth}
use Rattle.ligo_syntax.specs.TreeNodes.{expr_node}
use Rattle.ligo_syntax.specs.Said.{said_word, word_of, name_of, said_number, literal_of}

-- a name, or a literal
abbrev pub leaf_expr_form : Kind → Option Says → ExprForm
leaf_expr_form kind.Int said = expr.Literal (literal_of kind.Int said)
leaf_expr_form kind.Nat said = expr.Literal (literal_of kind.Nat said)
leaf_expr_form kind.Tez said = expr.Literal (literal_of kind.Tez said)
leaf_expr_form kind.Bytes said = expr.Literal (literal_of kind.Bytes said)
leaf_expr_form kind.Text said = expr.Literal (literal_of kind.Text said)
leaf_expr_form k said = expr.Name (said_word said)

-- such a token
abbrev pub leaf_expr : Token → Expr
leaf_expr t = expr_node t.at 1 (leaf_expr_form t.kind t.says)

-- a dot, and a name or an index
abbrev pub dot_form : Expr → Token → Kind → ExprForm
dot_form e t kind.Int = expr.Part e (said_number t.says)
dot_form e t k = expr.Field e (name_of t)

-- an expression and a dot behind it
abbrev pub dotted : Expr → Token → Expr
dotted e t = expr_node e.at (1 + e.depth) (dot_form e t t.kind)

-- behind an upper name a lower one makes a library name
abbrev pub upper_link : Token → Token → Kind → ExprForm
upper_link u t kind.Int = expr.Part (expr_node u.at 1 (expr.Constructor (word_of u))) (said_number t.says)
upper_link u t k = expr.Library (word_of u) (word_of t)

-- an upper name alone, or with what stands behind its dot
abbrev pub upper_form : Token → Option Token → ExprForm
upper_form u None = expr.Constructor (word_of u)
upper_form u (Some t) = upper_link u t t.kind

-- an index makes it deeper
abbrev pub digits_depth : Kind → ℕ
digits_depth kind.Int = 1
digits_depth k = 0

-- that of a token
abbrev pub link_depth : Token → ℕ
link_depth t = digits_depth t.kind

-- an upper name, as an expression
abbrev pub upper_expr : Token × Option Token → Expr
upper_expr (u, link) = expr_node u.at (1 + if_there link_depth link) (upper_form u link)

-- `()`, `(e)` or `(e : t)`
abbrev pub paren_form : Option (Expr × Option TypeExpr) → ExprForm
paren_form None = expr.Unit
paren_form (Some (e, None)) = expr.Brackets e
paren_form (Some (e, Some t)) = expr.Annotated e t

-- of what stands in brackets
abbrev pub paren_depth : Expr × Option TypeExpr → ℕ
paren_depth (e, t) = max e.depth (if_there type_depth t)

-- a pair of brackets
abbrev pub paren_expr : ℕ × Option (Expr × Option TypeExpr) → Expr
paren_expr (at, inner) = expr_node at (1 + if_there paren_depth inner) (paren_form inner)

-- the items of a list, if there are any
abbrev pub items_of : Option (List Expr) → List Expr
items_of None = []
items_of (Some all) = all

-- a list that is written out
abbrev pub list_expr : ℕ × Option (List Expr) → Expr
list_expr (at, items) = expr_node at (1 + deepest expr_depth (items_of items)) (expr.List (items_of items))

-- a field and its value
abbrev pub field_of : Token × Expr → ValueField
field_of (t, e) = record { name = name_of t; value = e }

-- what stands in braces: fields, or fields that replace those of another record
abbrev pub record_inside : List ValueField → ℕ × ExprForm
record_inside fields = (deepest field_depth fields, expr.Record fields)

-- a record, and fields that replace its own
abbrev pub with_inside : Expr × (ValueField × List ValueField) → ℕ × ExprForm
with_inside (e, (f, more)) = (max e.depth (deepest field_depth (f ∷ more)), expr.With e (f ∷ more))

-- what stands in braces, as an expression
abbrev pub brace_expr : ℕ × (ℕ × ExprForm) → Expr
brace_expr (at, (depth, form)) = expr_node at (1 + depth) form
