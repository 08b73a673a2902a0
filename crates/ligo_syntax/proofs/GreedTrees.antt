-- What is read with greed is read without it, with the same tree.
use Rattle.std.proofs.Common.{ℕ, zero, suc, List, [], ◌∷◌, Option, Some, None, refl, inl, inr, fold}
use Rattle.ligo_tokens.specs.declared.token.Token.{Token}
use Rattle.ligo_tokens.specs.declared.token.Kind.{Kind}
use Rattle.ligo_tokens.specs.declared.token.Kind.TheVariants as kind
use Rattle.ligo_syntax.specs.declared.type_expr.TypeExpr.{TypeExpr}
use Rattle.ligo_syntax.specs.declared.pattern.Pattern.{Pattern}
use Rattle.ligo_syntax.specs.declared.expr.Expr.{Expr}
use Rattle.ligo_syntax.specs.declared.expr.Operator.TheVariants as operator
use Rattle.ligo_syntax.specs.declared.program.Decl.{Decl}
use Rattle.ligo_syntax.specs.Kinds.{Tokens, Kinds}
use Rattle.ligo_syntax.specs.Classes.{name_kinds, leaf_kinds, link_kinds, product_kinds, sum_kinds, comparison_kinds, attribute_kinds}
use Rattle.ligo_syntax.specs.Rules.{Rule, OneOf, Both, Made, Either, Repeated, AsMany, Key, From, Closed, Optional, IfItCan, Chain, Parted, Listed, greedy, free}
use Rattle.ligo_syntax.specs.AtomTrees.{leaf_expr, dotted, upper_expr, paren_expr, list_expr, field_of, record_inside, with_inside, brace_expr}
use Rattle.ligo_syntax.specs.ExprTrees.{applied, negated, binary, maybe_binary, tuple_expr, if_expr, arm_of, match_expr, let_expr}
use Rattle.ligo_syntax.specs.ProgramTrees.{value_decl}
use Rattle.ligo_syntax.specs.TypeGrammar.{IsType, PatternRule, IsPattern, ArmPatternRule}
use Rattle.ligo_syntax.specs.AtomGrammar.{Form, Whole, Part, Condition, Disjunction, Conjunction, Comparison, Joined, Consed, Sum, Product, Unary, Application, Atom, ParenRule, SquareRule, FieldRule, BraceRule, UpperRule, AtomRule, ApplicationRule}
use Rattle.ligo_syntax.specs.OperatorGrammar.{UnaryRule, ProductRule, SumRule, ConsedRule, JoinedRule, ComparisonRule, ConjunctionRule, DisjunctionRule}
use Rattle.ligo_syntax.specs.ExprGrammar.{ConditionRule, TupleRule, ArmRule, MatchRule, LetRule, FormRule, IsExpr}
use Rattle.ligo_syntax.specs.Grammar.{ParamRule, TypeDeclRule, IsProgram, IsLooseText}
use Rattle.ligo_syntax.specs.FreeGrammar.{IsFreeExpr, IsFreeProgram, IsFreeText}

-- what is so by the one is so by the other
pub record Keeps {A : Type 0} (P G : Rule A) : Type 0 where
  pub keeps : (before : Tokens) (a : A) (after : Tokens) → P before a after → G before a after

same : {A : Type 0} (P : Rule A) → Keeps P P
same P = record { keeps = λ before a after r. r }

both_keeps : {A B : Type 0} {P G : Rule A} {Q H : Rule B} → Keeps P G → Keeps Q H → Keeps (Both P Q) (Both G H)
both_keeps p q = record { keeps = λ before t after r. (r.0, p.keeps before t.0 r.0 (r.1), q.keeps r.0 t.1 after (r.2)) }

made_keeps : {A B : Type 0} {P G : Rule A} (f : A → B) → Keeps P G → Keeps (Made f P) (Made f G)
made_keeps f p = record { keeps = λ before b after r. (r.0, p.keeps before r.0 after (r.1), r.2) }

either_keeps : {A : Type 0} {P G Q H : Rule A} → Keeps P G → Keeps Q H → Keeps (Either P Q) (Either G H)
either_keeps {A} {P} {G} {Q} {H} p q = record { keeps = by_side } where
  by_side : (before : Tokens) (a : A) (after : Tokens) → Either P Q before a after → Either G H before a after
  by_side before a after (inl r) = inl (p.keeps before a after r)
  by_side before a after (inr r) = inr (q.keeps before a after r)

optional_keeps : {A : Type 0} {P G : Rule A} → Keeps P G → Keeps (Optional P) (Optional G)
optional_keeps p = either_keeps (made_keeps Some p) (same _)

repeated_keeps : {A : Type 0} {P G : Rule A} → Keeps P G → Keeps (Repeated P) (Repeated G)
repeated_keeps {A} {P} {G} p = record { keeps = by_length } where
  by_length : (before : Tokens) (all : List A) (after : Tokens) → Repeated P before all after → Repeated G before all after
  by_length before [] after r = r
  by_length before (a ∷ more) after r = (r.0, p.keeps before a r.0 (r.1), by_length r.0 more after (r.2))

key_keeps : {A : Type 0} {P G : Rule A} (k : Kind) → Keeps P G → Keeps (Key k P) (Key k G)
key_keeps {A} k p = made_keeps (λ (x : Token × A). x.1) (both_keeps (same (OneOf (k ∷ []))) p)

from_keeps : {A : Type 0} {P G : Rule A} (k : Kind) → Keeps P G → Keeps (From k P) (From k G)
from_keeps {A} k p = made_keeps (λ (x : Token × A). (x.0.at, x.1)) (both_keeps (same (OneOf (k ∷ []))) p)

closed_keeps : {A : Type 0} {P G : Rule A} (k : Kind) → Keeps P G → Keeps (Closed P k) (Closed G k)
closed_keeps {A} k p = made_keeps (λ (x : A × Token). x.0) (both_keeps p (same (OneOf (k ∷ []))))

parted_keeps : {A : Type 0} {P G : Rule A} (k : Kind) → Keeps P G → Keeps (Parted k P) (Parted k G)
parted_keeps k p = both_keeps p (repeated_keeps (key_keeps k p))

chain_keeps : {A B : Type 0} {P G : Rule B} {L M : Rule A} (f : B → A → B) → Keeps P G → Keeps L M → Keeps (Chain f P L) (Chain f G M)
chain_keeps {A} {B} f p l = made_keeps (λ (x : B × List A). fold f x.0 x.1) (both_keeps p (repeated_keeps l))

listed_keeps : {A : Type 0} {P G : Rule A} → Keeps P G → Keeps (Listed P) (Listed G)
listed_keeps {A} p = made_keeps (λ (x : A × (List A × Option Token)). x.0 ∷ x.1.0) (both_keeps p (both_keeps (repeated_keeps (key_keeps kind.Semicolon p)) (same (Optional (OneOf (kind.Semicolon ∷ []))))))

-- greed asks for more
many_keeps : {A : Type 0} {P G : Rule A} (K : Kinds) → Keeps P G → Keeps (AsMany K P) (AsMany [] G)
many_keeps K p = record { keeps = λ before all after r. ((repeated_keeps p).keeps before all after (r.0), refl) }

if_keeps : {A : Type 0} {P G : Rule A} (K : Kinds) → Keeps P G → Keeps (IfItCan K P) (IfItCan [] G)
if_keeps {A} {P} {G} K p = record { keeps = by_side } where
  by_side : (before : Tokens) (a : Option A) (after : Tokens) → IfItCan K P before a after → IfItCan [] G before a after
  by_side before a after (inl r) = inl (r.0, p.keeps before r.0 after (r.1), r.2)
  by_side before a after (inr r) = inr (r.0, refl)

module _ (T : Rule TypeExpr) (Pat One : Rule Pattern) (E F : Form → Rule Expr) (exprs : (form : Form) → Keeps (E form) (F form)) where
  paren_keeps : Keeps (ParenRule greedy T Pat One E) (ParenRule free T Pat One F)
  paren_keeps = made_keeps paren_expr (from_keeps kind.OpenParen (either_keeps (same (Made (λ t. None) (OneOf (kind.CloseParen ∷ [])))) (made_keeps Some (closed_keeps kind.CloseParen (both_keeps (exprs Whole) (same (Optional (Key kind.Colon T))))))))

  square_keeps : Keeps (SquareRule greedy T Pat One E) (SquareRule free T Pat One F)
  square_keeps = made_keeps list_expr (from_keeps kind.OpenSquare (closed_keeps kind.CloseSquare (optional_keeps (listed_keeps (exprs Whole)))))

  field_keeps : Keeps (FieldRule greedy T Pat One E) (FieldRule free T Pat One F)
  field_keeps = made_keeps field_of (both_keeps (same (OneOf name_kinds)) (key_keeps kind.Equals (exprs Whole)))

  brace_keeps : Keeps (BraceRule greedy T Pat One E) (BraceRule free T Pat One F)
  brace_keeps = made_keeps brace_expr (from_keeps kind.OpenBrace (closed_keeps kind.CloseBrace (either_keeps (made_keeps record_inside (listed_keeps field_keeps))
      (made_keeps with_inside (both_keeps (exprs Atom) (key_keeps kind.With (parted_keeps kind.Semicolon field_keeps)))))))

  upper_keeps : Keeps (UpperRule greedy T Pat One E) (UpperRule free T Pat One F)
  upper_keeps = made_keeps upper_expr (both_keeps (same (OneOf (kind.Upper ∷ []))) (if_keeps (kind.Dot ∷ []) (same (Key kind.Dot (OneOf link_kinds)))))

  atom_keeps : Keeps (AtomRule greedy T Pat One E) (AtomRule free T Pat One F)
  atom_keeps = chain_keeps dotted (either_keeps paren_keeps (either_keeps square_keeps (either_keeps brace_keeps (either_keeps upper_keeps (same (Made leaf_expr (OneOf leaf_kinds))))))) (same (Key kind.Dot (OneOf link_kinds)))

  application_keeps : Keeps (ApplicationRule greedy T Pat One E) (ApplicationRule free T Pat One F)
  application_keeps = made_keeps applied (both_keeps atom_keeps (repeated_keeps atom_keeps))

  unary_keeps : Keeps (UnaryRule greedy T Pat One E) (UnaryRule free T Pat One F)
  unary_keeps = either_keeps (made_keeps negated (from_keeps kind.Minus (exprs Unary))) application_keeps

  product_keeps : Keeps (ProductRule greedy T Pat One E) (ProductRule free T Pat One F)
  product_keeps = chain_keeps binary unary_keeps (both_keeps (same (OneOf product_kinds)) unary_keeps)

  sum_keeps : Keeps (SumRule greedy T Pat One E) (SumRule free T Pat One F)
  sum_keeps = chain_keeps binary product_keeps (both_keeps (same (OneOf sum_kinds)) product_keeps)

  consed_keeps : Keeps (ConsedRule greedy T Pat One E) (ConsedRule free T Pat One F)
  consed_keeps = made_keeps (maybe_binary operator.Cons) (both_keeps sum_keeps (optional_keeps (key_keeps kind.Cons (exprs Consed))))

  joined_keeps : Keeps (JoinedRule greedy T Pat One E) (JoinedRule free T Pat One F)
  joined_keeps = made_keeps (maybe_binary operator.Join) (both_keeps consed_keeps (optional_keeps (key_keeps kind.Caret (exprs Joined))))

  comparison_keeps : Keeps (ComparisonRule greedy T Pat One E) (ComparisonRule free T Pat One F)
  comparison_keeps = chain_keeps binary joined_keeps (both_keeps (same (OneOf comparison_kinds)) joined_keeps)

  conjunction_keeps : Keeps (ConjunctionRule greedy T Pat One E) (ConjunctionRule free T Pat One F)
  conjunction_keeps = chain_keeps binary comparison_keeps (both_keeps (same (OneOf (kind.And ∷ []))) comparison_keeps)

  disjunction_keeps : Keeps (DisjunctionRule greedy T Pat One E) (DisjunctionRule free T Pat One F)
  disjunction_keeps = chain_keeps binary conjunction_keeps (both_keeps (same (OneOf (kind.Or ∷ []))) conjunction_keeps)

  condition_keeps : Keeps (ConditionRule greedy T Pat One E) (ConditionRule free T Pat One F)
  condition_keeps = either_keeps (made_keeps if_expr (from_keeps kind.If (both_keeps (exprs Whole) (both_keeps (key_keeps kind.Then (exprs Part)) (if_keeps (kind.Else ∷ []) (key_keeps kind.Else (exprs Part))))))) disjunction_keeps

  tuple_keeps : Keeps (TupleRule greedy T Pat One E) (TupleRule free T Pat One F)
  tuple_keeps = made_keeps tuple_expr (both_keeps condition_keeps (many_keeps (kind.Comma ∷ []) (key_keeps kind.Comma condition_keeps)))

  arm_keeps : Keeps (ArmRule greedy T Pat One E) (ArmRule free T Pat One F)
  arm_keeps = made_keeps arm_of (both_keeps (same (ArmPatternRule One)) (key_keeps kind.Arrow (exprs Whole)))

  match_keeps : Keeps (MatchRule greedy T Pat One E) (MatchRule free T Pat One F)
  match_keeps = made_keeps match_expr (from_keeps kind.Match (both_keeps (exprs Whole) (key_keeps kind.With (both_keeps (same (Optional (OneOf (kind.Bar ∷ []))))
      (both_keeps arm_keeps (many_keeps (kind.Bar ∷ []) (key_keeps kind.Bar arm_keeps)))))))

  let_keeps : Keeps (LetRule greedy T Pat One E) (LetRule free T Pat One F)
  let_keeps = made_keeps let_expr (from_keeps kind.Let (both_keeps (same Pat) (both_keeps (same (Optional (Key kind.Colon T))) (both_keeps (key_keeps kind.Equals (exprs Whole)) (key_keeps kind.In (exprs Whole))))))

  form_keeps : (form : Form) → Keeps (FormRule greedy T Pat One E form) (FormRule free T Pat One F form)
  form_keeps Whole = either_keeps let_keeps (either_keeps match_keeps tuple_keeps)
  form_keeps Part = either_keeps let_keeps (either_keeps match_keeps condition_keeps)
  form_keeps Condition = condition_keeps
  form_keeps Disjunction = disjunction_keeps
  form_keeps Conjunction = conjunction_keeps
  form_keeps Comparison = comparison_keeps
  form_keeps Joined = joined_keeps
  form_keeps Consed = consed_keeps
  form_keeps Sum = sum_keeps
  form_keeps Product = product_keeps
  form_keeps Unary = unary_keeps
  form_keeps Application = application_keeps
  form_keeps Atom = atom_keeps

exprs_keep : (n : ℕ) (form : Form) → Keeps (IsExpr n form) (IsFreeExpr n form)
exprs_keep zero form = record { keeps = λ before a after r. absurd r }
exprs_keep (suc n) form = form_keeps (IsType n) (IsPattern n) (PatternRule (IsPattern n)) (IsExpr n) (IsFreeExpr n) (exprs_keep n) form

program_keeps : (n : ℕ) → Keeps (IsProgram n) (IsFreeProgram n)
program_keeps n = repeated_keeps (either_keeps (same (TypeDeclRule (IsType n))) (made_keeps value_decl (both_keeps (same (Repeated (OneOf attribute_kinds))) (both_keeps (same (OneOf (kind.Let ∷ [])))
    (both_keeps (same (Optional (OneOf (kind.Rec ∷ [])))) (both_keeps (same (OneOf name_kinds)) (both_keeps (same (Repeated (ParamRule (IsType n) (IsPattern n))))
    (both_keeps (same (Optional (Key kind.Colon (IsType n)))) (key_keeps kind.Equals (exprs_keep n Whole))))))))))

pub tree_is_kept : (ts : Tokens) (ds : List Decl) → IsLooseText ts ds → IsFreeText ts ds
tree_is_kept ts ds r = (r.0, (program_keeps r.0).keeps ts ds [] (r.1))
