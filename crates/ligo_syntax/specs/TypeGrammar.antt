-- The grammar of types and patterns. One definition a production of docs/LANGUAGE.md.
use Rattle.std.specs.Prelude.{ℕ, zero, suc, [], ◌∷◌, Some, None}
use Rattle.ligo_tokens.specs.declared.token.Kind.TheVariants as kind
use Rattle.ligo_syntax.specs.declared.type_expr.TypeExpr.{TypeExpr}
use Rattle.ligo_syntax.specs.declared.pattern.Pattern.{Pattern}
use Rattle.ligo_syntax.specs.declared.expr.ArmPattern.{ArmPattern}
use Rattle.ligo_syntax.specs.Classes.{name_kinds, postfix_kinds, map_kinds}
use Rattle.ligo_syntax.specs.Rules.{Rule, Never, OneOf, Both, Made, Either, Key, From, Closed, Optional, Chain, Parted}
use Rattle.ligo_syntax.specs.TypeTrees.{type_name, bracket_type, postfixed, tuple_type, bracket_pattern, leaf_pattern, tuple_pattern}
use Rattle.ligo_syntax.specs.ExprTrees.{any_arm, nil_arm, cons_arm, constructor_arm}

-- ---- types

-- "(" type ")" | "(" type "," type ")" ("map" | "big_map")
abbrev pub BracketType : Rule TypeExpr → Rule TypeExpr
BracketType T = Made bracket_type (From kind.OpenParen (Both T (Either
    (Made Some (Key kind.Comma (Both T (Key kind.CloseParen (OneOf map_kinds)))))
    (Made (λ t. None) (OneOf (kind.CloseParen ∷ []))))))

-- post = ( brackets | name ) { "list" | "option" | "contract" }
abbrev pub PostType : Rule TypeExpr → Rule TypeExpr
PostType T = Chain postfixed (Either (BracketType T) (Made type_name (OneOf name_kinds))) (OneOf postfix_kinds)

-- type = post { "*" post }
abbrev pub TypeRule : Rule TypeExpr → Rule TypeExpr
TypeRule T = Made tuple_type (Parted kind.Star (PostType T))

-- with brackets in brackets at most so often
abbrev pub IsType : ℕ → Rule TypeExpr
IsType zero = Never
IsType (suc n) = TypeRule (IsType n)

-- ---- patterns

-- pat = "(" pats ")" | name | "_"
abbrev pub PatternRule : Rule Pattern → Rule Pattern
PatternRule P = Either
    (Made bracket_pattern (From kind.OpenParen (Closed P kind.CloseParen)))
    (Made leaf_pattern (OneOf (kind.Underscore ∷ name_kinds)))

-- pats = pat { "," pat }
abbrev pub PatternsRule : Rule Pattern → Rule Pattern
PatternsRule P = Made tuple_pattern (Parted kind.Comma (PatternRule P))

-- the same of patterns
abbrev pub IsPattern : ℕ → Rule Pattern
IsPattern zero = Never
IsPattern (suc n) = PatternsRule (IsPattern n)

-- apat = "_" | "[" "]" | Ctor [pat] | name "::" name
abbrev pub ArmPatternRule : Rule Pattern → Rule ArmPattern
ArmPatternRule P = Either (Made any_arm (OneOf (kind.Underscore ∷ [])))
    (Either (Made nil_arm (From kind.OpenSquare (OneOf (kind.CloseSquare ∷ []))))
    (Either (Made constructor_arm (Both (OneOf (kind.Upper ∷ [])) (Optional P)))
    (Made cons_arm (Both (OneOf name_kinds) (Key kind.Cons (OneOf name_kinds))))))
