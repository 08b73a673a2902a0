-- Types and patterns are read with any depth that is more than there are tokens.
use Rattle.std.proofs.Common.{ℕ, zero, suc, [], ◌∷◌, Some, None, refl, arith}
use Rattle.ligo_tokens.specs.declared.token.Kind.TheVariants as kind
use Rattle.ligo_syntax.specs.declared.type_expr.TypeExpr.{TypeExpr}
use Rattle.ligo_syntax.specs.declared.pattern.Pattern.{Pattern}
use Rattle.ligo_syntax.specs.Kinds.{Kinds}
use Rattle.ligo_syntax.specs.Classes.{name_kinds, postfix_kinds, map_kinds}
use Rattle.ligo_syntax.specs.Rules.{Rule, OneOf, Key}
use Rattle.ligo_syntax.specs.TypeTrees.{type_name, bracket_type, postfixed, tuple_type, bracket_pattern, leaf_pattern, tuple_pattern}
use Rattle.ligo_syntax.specs.ExprTrees.{any_arm, nil_arm, cons_arm, constructor_arm}
use Rattle.ligo_syntax.specs.TypeGrammar.{BracketType, TypeRule, IsType, PatternRule, IsPattern, ArmPatternRule}
use Rattle.ligo_syntax.proofs.Carried.{Carried, never_before, token_carried, made_carried, both_carried, either_carried, optional_carried, key_carried, from_carried, closed_carried, parted_carried, chain_carried, deeper_carried}

pub none_carried : {A : Type 0} {X : Kinds} (P G : Rule A) → Carried 0 X P G
none_carried P G = record { carries = λ before a after lt r e. absurd (omega (arith, lt)) }

module _ {m : ℕ} {T T' : Rule TypeExpr} where
  bracket_carried : Carried m [] T T' → Carried (suc m) [] (BracketType T) (BracketType T')
  bracket_carried t = made_carried bracket_type (from_carried kind.OpenParen (both_carried t (either_carried
      (made_carried Some (key_carried kind.Comma (both_carried t (key_carried kind.CloseParen (token_carried map_kinds)) (never_before (Key kind.CloseParen (OneOf map_kinds))))))
      (made_carried (λ t. None) (token_carried (kind.CloseParen ∷ [])))) (never_before _)))

  type_carried : Carried m [] T T' → Carried (suc m) [] (TypeRule T) (TypeRule T')
  type_carried t = made_carried tuple_type (parted_carried kind.Star
      (chain_carried postfixed (either_carried (bracket_carried t) (made_carried type_name (token_carried name_kinds))) (token_carried postfix_kinds) (never_before _)) (never_before _))

pub types_carried : (n m : ℕ) → Carried m [] (IsType n) (IsType m)
types_carried zero m = record { carries = λ before a after lt r e. absurd r }
types_carried (suc n) zero = none_carried (IsType (suc n)) (IsType 0)
types_carried (suc n) (suc m) = type_carried (types_carried n m)

pub pattern_carried : {m : ℕ} {P P' : Rule Pattern} → Carried m [] P P' → Carried (suc m) [] (PatternRule P) (PatternRule P')
pattern_carried p = either_carried (made_carried bracket_pattern (from_carried kind.OpenParen (closed_carried kind.CloseParen p refl))) (made_carried leaf_pattern (token_carried (kind.Underscore ∷ name_kinds)))

pub patterns_carried : (n m : ℕ) → Carried m [] (IsPattern n) (IsPattern m)
patterns_carried zero m = record { carries = λ before a after lt r e. absurd r }
patterns_carried (suc n) zero = none_carried (IsPattern (suc n)) (IsPattern 0)
patterns_carried (suc n) (suc m) = made_carried tuple_pattern (parted_carried kind.Comma (pattern_carried (patterns_carried n m)) (never_before _))

pub arm_pattern_carried : {m : ℕ} {P P' : Rule Pattern} → Carried m [] P P' → Carried m [] (ArmPatternRule P) (ArmPatternRule P')
arm_pattern_carried p = either_carried (made_carried any_arm (token_carried (kind.Underscore ∷ []))) (either_carried (made_carried nil_arm (deeper_carried (from_carried kind.OpenSquare (token_carried (kind.CloseSquare ∷ [])))))
    (either_carried (made_carried constructor_arm (both_carried (token_carried (kind.Upper ∷ [])) (optional_carried p) (never_before _)))
    (made_carried cons_arm (both_carried (token_carried name_kinds) (key_carried kind.Cons (token_carried name_kinds)) (never_before _)))))
