-- The grammar of whole expressions and arms, and of every form of expression.
use Rattle.std.specs.Prelude.{ℕ, zero, suc, [], ◌∷◌}
use Rattle.ligo_tokens.specs.declared.token.Kind.TheVariants as kind
use Rattle.ligo_syntax.specs.declared.type_expr.TypeExpr.{TypeExpr}
use Rattle.ligo_syntax.specs.declared.pattern.Pattern.{Pattern}
use Rattle.ligo_syntax.specs.declared.expr.Expr.{Expr}
use Rattle.ligo_syntax.specs.declared.expr.Arm.{Arm}
use Rattle.ligo_syntax.specs.Rules.{Greed, greedy, Rule, Never, OneOf, Both, Made, Either, AsMany, Key, From, Optional, IfItCan}
use Rattle.ligo_syntax.specs.ExprTrees.{tuple_expr, if_expr, arm_of, match_expr, let_expr}
use Rattle.ligo_syntax.specs.TypeGrammar.{IsType, PatternRule, IsPattern, ArmPatternRule}
use Rattle.ligo_syntax.specs.AtomGrammar.{Form, Whole, Part, Condition, Disjunction, Conjunction, Comparison, Joined, Consed, Sum, Product, Unary, Application, Atom, AtomRule, ApplicationRule}
use Rattle.ligo_syntax.specs.OperatorGrammar.{UnaryRule, ProductRule, SumRule, ConsedRule, JoinedRule, ComparisonRule, ConjunctionRule, DisjunctionRule}

module _ (must : Greed) (T : Rule TypeExpr) (Pat One : Rule Pattern) (E : Form → Rule Expr) where
  -- "if" expr "then" part ["else" part]
  abbrev pub IfRule : Rule Expr
  IfRule = Made if_expr (From kind.If (Both (E Whole) (Both (Key kind.Then (E Part)) (IfItCan (must (kind.Else ∷ [])) (Key kind.Else (E Part))))))

  -- cond = if | op
  abbrev pub ConditionRule : Rule Expr
  ConditionRule = Either IfRule (DisjunctionRule must T Pat One E)

  -- cond { "," cond }
  abbrev pub TupleRule : Rule Expr
  TupleRule = Made tuple_expr (Both ConditionRule (AsMany (must (kind.Comma ∷ [])) (Key kind.Comma ConditionRule)))

  -- arm = apat "->" expr
  abbrev pub ArmRule : Rule Arm
  ArmRule = Made arm_of (Both (ArmPatternRule One) (Key kind.Arrow (E Whole)))

  -- "match" expr "with" ["|"] arm { "|" arm }
  abbrev pub MatchRule : Rule Expr
  MatchRule = Made match_expr (From kind.Match (Both (E Whole) (Key kind.With (Both
      (Optional (OneOf (kind.Bar ∷ []))) (Both ArmRule (AsMany (must (kind.Bar ∷ [])) (Key kind.Bar ArmRule)))))))

  -- "let" pats [":" type] "=" expr "in" expr
  abbrev pub LetRule : Rule Expr
  LetRule = Made let_expr (From kind.Let (Both Pat (Both (Optional (Key kind.Colon T)) (Both (Key kind.Equals (E Whole)) (Key kind.In (E Whole))))))

  -- each form
  abbrev pub FormRule : Form → Rule Expr
  FormRule Whole = Either LetRule (Either MatchRule TupleRule)
  FormRule Part = Either LetRule (Either MatchRule ConditionRule)
  FormRule Condition = ConditionRule
  FormRule Disjunction = DisjunctionRule must T Pat One E
  FormRule Conjunction = ConjunctionRule must T Pat One E
  FormRule Comparison = ComparisonRule must T Pat One E
  FormRule Joined = JoinedRule must T Pat One E
  FormRule Consed = ConsedRule must T Pat One E
  FormRule Sum = SumRule must T Pat One E
  FormRule Product = ProductRule must T Pat One E
  FormRule Unary = UnaryRule must T Pat One E
  FormRule Application = ApplicationRule must T Pat One E
  FormRule Atom = AtomRule must T Pat One E

-- with one in another at most so often
abbrev pub IsExpr : ℕ → Form → Rule Expr
IsExpr zero form = Never
IsExpr (suc n) form = FormRule greedy (IsType n) (IsPattern n) (PatternRule (IsPattern n)) (IsExpr n) form
