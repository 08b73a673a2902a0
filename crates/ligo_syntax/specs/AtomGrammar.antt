-- The grammar of atoms and applications. Its rules stand on what is further inside: types, patterns,
-- one pattern, and expressions by their form; and on what must be taken where it can.
use Rattle.std.specs.Prelude.{[], ◌∷◌, Some, None}
use Rattle.ligo_tokens.specs.declared.token.Kind.TheVariants as kind
use Rattle.ligo_syntax.specs.declared.type_expr.TypeExpr.{TypeExpr}
use Rattle.ligo_syntax.specs.declared.pattern.Pattern.{Pattern}
use Rattle.ligo_syntax.specs.declared.expr.Expr.{Expr}
use Rattle.ligo_syntax.specs.declared.expr.ValueField.{ValueField}
use Rattle.ligo_syntax.specs.Classes.{name_kinds, leaf_kinds, link_kinds}
use Rattle.ligo_syntax.specs.Rules.{Greed, Rule, OneOf, Both, Made, Either, Repeated, Key, From, Closed, Optional, IfItCan, Chain, Parted, Listed}
use Rattle.ligo_syntax.specs.AtomTrees.{leaf_expr, dotted, upper_expr, paren_expr, list_expr, field_of, record_inside, with_inside, brace_expr}
use Rattle.ligo_syntax.specs.ExprTrees.{applied}

-- what stands in expressions for others: `expr`, `part`, the levels of operators down to `atom`
pub data Form : Type 0 where
  Whole : Form
  Part : Form
  Condition : Form
  Disjunction : Form
  Conjunction : Form
  Comparison : Form
  Joined : Form
  Consed : Form
  Sum : Form
  Product : Form
  Unary : Form
  Application : Form
  Atom : Form

module _ (must : Greed) (T : Rule TypeExpr) (Pat One : Rule Pattern) (E : Form → Rule Expr) where
  -- "()" | "(" expr [":" type] ")"
  abbrev pub ParenRule : Rule Expr
  ParenRule = Made paren_expr (From kind.OpenParen (Either
      (Made (λ t. None) (OneOf (kind.CloseParen ∷ [])))
      (Made Some (Closed (Both (E Whole) (Optional (Key kind.Colon T))) kind.CloseParen))))

  -- "[" [ expr { ";" expr } [";"] ] "]"
  abbrev pub SquareRule : Rule Expr
  SquareRule = Made list_expr (From kind.OpenSquare (Closed (Optional (Listed (E Whole))) kind.CloseSquare))

  -- name "=" expr
  abbrev pub FieldRule : Rule ValueField
  FieldRule = Made field_of (Both (OneOf name_kinds) (Key kind.Equals (E Whole)))

  -- "{" field { ";" field } [";"] "}" | "{" atom "with" field { ";" field } "}"
  abbrev pub BraceRule : Rule Expr
  BraceRule = Made brace_expr (From kind.OpenBrace (Closed (Either
      (Made record_inside (Listed FieldRule))
      (Made with_inside (Both (E Atom) (Key kind.With (Parted kind.Semicolon FieldRule))))) kind.CloseBrace))

  -- Ctor | Upper "." name | Ctor "." digits
  abbrev pub UpperRule : Rule Expr
  UpperRule = Made upper_expr (Both (OneOf (kind.Upper ∷ [])) (IfItCan (must (kind.Dot ∷ [])) (Key kind.Dot (OneOf link_kinds))))

  -- atom = ( "(" .. ")" | "[" .. "]" | "{" .. "}" | upper | name | literal ) { "." ( name | digits ) }
  abbrev pub AtomRule : Rule Expr
  AtomRule = Chain dotted
      (Either ParenRule (Either SquareRule (Either BraceRule (Either UpperRule (Made leaf_expr (OneOf leaf_kinds))))))
      (Key kind.Dot (OneOf link_kinds))

  -- app = head { atom }
  abbrev pub ApplicationRule : Rule Expr
  ApplicationRule = Made applied (Both AtomRule (Repeated AtomRule))
