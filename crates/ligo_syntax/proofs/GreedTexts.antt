-- Greed loses no text: every text of the grammar without it is one of the grammar with it.
use Rattle.std.proofs.Common.{ℕ, zero, suc, List, [], ◌∷◌, length, Some, None, refl, arith}
use Rattle.ligo_tokens.specs.declared.token.Kind.TheVariants as kind
use Rattle.ligo_syntax.specs.declared.program.Definition.TheVariants as definition
use Rattle.ligo_syntax.specs.declared.program.Decl.{Decl}
use Rattle.ligo_syntax.specs.Kinds.{Tokens, Kinds}
use Rattle.ligo_syntax.specs.Classes.{name_kinds, attribute_kinds}
use Rattle.ligo_syntax.specs.Rules.{OneOf, Both, Made, AsMany, Key, From, Optional, free}
use Rattle.ligo_syntax.specs.ExprTrees.{tuple_expr, if_expr, arm_of, match_expr, let_expr}
use Rattle.ligo_syntax.specs.ProgramTrees.{type_field, type_case, record_type, variant_type, param_of, type_decl, value_decl}
use Rattle.ligo_syntax.specs.TypeGrammar.{IsType, PatternRule, IsPattern}
use Rattle.ligo_syntax.specs.AtomGrammar.{Form, Whole, Part, Condition, Disjunction, Conjunction, Comparison, Joined, Consed, Sum, Product, Unary, Application, Atom}
use Rattle.ligo_syntax.specs.ExprGrammar.{TupleRule, ArmRule, MatchRule, LetRule, IsExpr}
use Rattle.ligo_syntax.specs.Grammar.{TypeFieldRule, TypeCaseRule, DefinitionRule, ParamRule, TypeDeclRule, ValueDeclRule, DeclRule, IsProgram, IsLooseText}
use Rattle.ligo_syntax.specs.FreeGrammar.{IsFreeExpr, IsFreeProgram, IsFreeText}
use Rattle.ligo_syntax.proofs.Moves.{under}
use Rattle.ligo_syntax.proofs.Carried.{closers, Carried, Opens, token_opens, both_opens, made_opens, either_opens, key_opens, from_opens, never_before, opens_before, repeated_before, deeper_carried, anywhere, token_carried, made_carried, both_carried, either_carried, optional_carried, repeated_carried, key_carried, from_carried, closed_carried, parted_carried, listed_carried}
use Rattle.ligo_syntax.proofs.CarriedTypes.{none_carried, types_carried, pattern_carried, patterns_carried, arm_pattern_carried}
use Rattle.ligo_syntax.proofs.CarriedExprs.{stops, disjunction_carried, forms_carried}
use Rattle.ligo_syntax.proofs.Continued.{Conditions, Arms, Tuple, Match}
use Rattle.ligo_syntax.proofs.Greed.{Grows, carried_grows, grows_carried, resized, made_grows, either_grows, both_grows, key_grows, from_grows, many_grows, branch_grows}

-- what holds with one in another at most so often
pub record Level (n : ℕ) : Type 0 where
  pub carried : (m : ℕ) (form : Form) → Carried m (stops form) (IsFreeExpr n form) (IsExpr m form)
  pub grows : (form : Form) → Grows (IsFreeExpr n form) (λ m. IsExpr m form)

module _ (n : ℕ) (level : Level n) where
  types : (m : ℕ) → Carried m [] (IsType n) (IsType m)
  types m = types_carried n m

  wholes : (m : ℕ) → Carried m closers (IsFreeExpr n Whole) (IsExpr m Whole)
  wholes m = level.carried m Whole

  one_pattern : (m : ℕ) → Carried m [] (PatternRule (IsPattern n)) (PatternRule (IsPattern m))
  one_pattern m = deeper_carried (pattern_carried (patterns_carried n m))

  disjunctions : (m : ℕ) → Carried m (kind.Dot ∷ []) (IsFreeExpr (suc n) Disjunction) (IsExpr m Disjunction)
  disjunctions zero = none_carried (IsFreeExpr (suc n) Disjunction) (IsExpr 0 Disjunction)
  disjunctions (suc m) = disjunction_carried (IsType n) (IsType m) (IsPattern n) (IsPattern m) (PatternRule (IsPattern n)) (PatternRule (IsPattern m)) (IsFreeExpr n) (IsExpr m) m (types m) (level.carried m)

  condition_grows : Grows (IsFreeExpr (suc n) Condition) Conditions
  condition_grows = resized (λ m before a after r. r) (either_grows (made_grows if_expr (from_grows kind.If (both_grows wholes (opens_before (both_opens _ (key_opens kind.Then (IsFreeExpr n Part) refl)) refl)
      (branch_grows (level.grows Part))))) (carried_grows disjunctions))

  arm_grows : Grows (ArmRule free (IsType n) (IsPattern n) (PatternRule (IsPattern n)) (IsFreeExpr n)) Arms
  arm_grows = made_grows arm_of (both_grows (λ m. arm_pattern_carried (one_pattern m)) (never_before _) (key_grows kind.Arrow (level.grows Whole)))

  match_grows : Grows (MatchRule free (IsType n) (IsPattern n) (PatternRule (IsPattern n)) (IsFreeExpr n)) (λ m. Made match_expr (under (λ m. From kind.Match (Both (IsExpr m Whole) (Key kind.With (Both
      (Optional (OneOf (kind.Bar ∷ []))) (Both (Arms m) (AsMany (kind.Bar ∷ []) (Key kind.Bar (Arms m)))))))) m))
  match_grows = made_grows match_expr (from_grows kind.Match (both_grows wholes (opens_before (key_opens kind.With _ refl) refl) (key_grows kind.With (both_grows (λ m. optional_carried (token_carried (kind.Bar ∷ []))) (never_before _)
      (many_grows Match kind.Bar Arms (λ before all after r. (all, r)) (λ before after r. r) arm_grows)))))

  tuple_grows : Grows (TupleRule free (IsType n) (IsPattern n) (PatternRule (IsPattern n)) (IsFreeExpr n)) (λ m. Made tuple_expr (Both (Conditions m) (AsMany (kind.Comma ∷ []) (Key kind.Comma (Conditions m)))))
  tuple_grows = made_grows tuple_expr (many_grows Tuple kind.Comma Conditions (λ before all after r. (all, r)) (λ before after r. r) condition_grows)

  let_grows : Grows (LetRule free (IsType n) (IsPattern n) (PatternRule (IsPattern n)) (IsFreeExpr n)) (λ m. Made let_expr (under (λ m. From kind.Let (Both (IsPattern m) (Both (Optional (Key kind.Colon (IsType m)))
      (Both (Key kind.Equals (IsExpr m Whole)) (Key kind.In (IsExpr m Whole)))))) m))
  let_grows = made_grows let_expr (from_grows kind.Let (both_grows (λ m. patterns_carried n m) (never_before _) (both_grows (λ m. optional_carried (key_carried kind.Colon (types m))) (never_before _)
      (both_grows (λ m. key_carried kind.Equals (wholes m)) (opens_before (key_opens kind.In (IsFreeExpr n Whole) refl) refl) (key_grows kind.In (level.grows Whole))))))

  whole_grows : Grows (IsFreeExpr (suc n) Whole) (λ m. IsExpr m Whole)
  whole_grows = resized (λ m before a after r. r) (either_grows let_grows (either_grows match_grows tuple_grows))

  part_grows : Grows (IsFreeExpr (suc n) Part) (λ m. IsExpr m Part)
  part_grows = resized (λ m before a after r. r) (either_grows let_grows (either_grows match_grows condition_grows))

  carried_above : (m : ℕ) (form : Form) → Carried m (stops form) (IsFreeExpr (suc n) form) (IsExpr m form)
  carried_above zero form = none_carried (IsFreeExpr (suc n) form) (IsExpr 0 form)
  carried_above (suc m) form = forms_carried (IsType n) (IsType m) (IsPattern n) (IsPattern m) (PatternRule (IsPattern n)) (PatternRule (IsPattern m)) (IsFreeExpr n) (IsExpr m) m (types m) (level.carried m)
      (grows_carried whole_grows (suc m)) (grows_carried part_grows (suc m)) (grows_carried condition_grows (suc m)) form

  grows_above : (form : Form) → Grows (IsFreeExpr (suc n) form) (λ m. IsExpr m form)
  grows_above Whole = whole_grows
  grows_above Part = part_grows
  grows_above Condition = condition_grows
  grows_above Disjunction = carried_grows (λ m. carried_above m Disjunction)
  grows_above Conjunction = carried_grows (λ m. carried_above m Conjunction)
  grows_above Comparison = carried_grows (λ m. carried_above m Comparison)
  grows_above Joined = carried_grows (λ m. carried_above m Joined)
  grows_above Consed = carried_grows (λ m. carried_above m Consed)
  grows_above Sum = carried_grows (λ m. carried_above m Sum)
  grows_above Product = carried_grows (λ m. carried_above m Product)
  grows_above Unary = carried_grows (λ m. carried_above m Unary)
  grows_above Application = carried_grows (λ m. carried_above m Application)
  grows_above Atom = carried_grows (λ m. carried_above m Atom)

pub levels : (n : ℕ) → Level n
levels zero = record { carried = λ m form. record { carries = λ before a after lt r e. absurd r }; grows = λ form. record { grows = λ before a after r slots end f e. absurd r } }
levels (suc n) = record { carried = carried_above n (levels n); grows = grows_above n (levels n) }

-- ---- declarations

module _ (n m : ℕ) where
  in_types : {X : Kinds} → Carried m X (IsType n) (IsType m)
  in_types = anywhere (types_carried n m)

  typed : {X : Kinds} → Carried m X (Optional (Key kind.Colon (IsType n))) (Optional (Key kind.Colon (IsType m)))
  typed = optional_carried (key_carried kind.Colon in_types)

  field_carried : Carried m closers (TypeFieldRule (IsType n)) (TypeFieldRule (IsType m))
  field_carried = made_carried type_field (both_carried (token_carried name_kinds) (key_carried kind.Colon in_types) (never_before (Key kind.Colon (IsType n))))

  case_carried : Carried m [] (TypeCaseRule (IsType n)) (TypeCaseRule (IsType m))
  case_carried = made_carried type_case (both_carried (token_carried (kind.Upper ∷ [])) (optional_carried (key_carried kind.Of in_types)) (never_before (Optional (Key kind.Of (IsType n)))))

  definition_carried : Carried m [] (DefinitionRule (IsType n)) (DefinitionRule (IsType m))
  definition_carried = either_carried (made_carried record_type (deeper_carried (from_carried kind.OpenBrace (closed_carried kind.CloseBrace (listed_carried field_carried) refl))))
      (either_carried (made_carried variant_type (both_carried (optional_carried (token_carried (kind.Bar ∷ []))) (parted_carried kind.Bar case_carried (never_before _)) (never_before _))) (made_carried definition.Type in_types))

  param_carried : Carried m [] (ParamRule (IsType n) (IsPattern n)) (ParamRule (IsType m) (IsPattern m))
  param_carried = made_carried param_of (deeper_carried (from_carried kind.OpenParen (either_carried (made_carried (λ t. None) (token_carried (kind.CloseParen ∷ [])))
      (made_carried Some (closed_carried kind.CloseParen (both_carried (patterns_carried n m) (key_carried kind.Colon (types_carried n m)) (never_before (Key kind.Colon (IsType n)))) refl)))))

  type_decl_carried : Carried m closers (TypeDeclRule (IsType n)) (TypeDeclRule (IsType m))
  type_decl_carried = made_carried type_decl (deeper_carried (from_carried kind.Type (both_carried (token_carried name_kinds) (key_carried kind.Equals (anywhere definition_carried)) (never_before (Key kind.Equals (DefinitionRule (IsType n)))))))

  value_decl_carried : Carried m closers (ValueDeclRule (IsType n) (IsPattern n) (IsFreeExpr n Whole)) (ValueDeclRule (IsType m) (IsPattern m) (IsExpr m Whole))
  value_decl_carried = made_carried value_decl (both_carried (repeated_carried (token_carried attribute_kinds) (never_before _)) (both_carried (token_carried (kind.Let ∷ []))
      (both_carried (optional_carried (token_carried (kind.Rec ∷ []))) (both_carried (token_carried name_kinds) (both_carried (repeated_carried param_carried (never_before _))
      (both_carried typed (key_carried kind.Equals ((levels n).carried m Whole)) (never_before _)) (never_before _)) (never_before _)) (never_before _)) (never_before _)) (never_before _))

  decl_opens : Opens (DeclRule (IsType n) (IsPattern n) (IsFreeExpr n Whole))
  decl_opens = either_opens (made_opens type_decl (from_opens kind.Type _ refl)) (made_opens value_decl record {
    opens = λ before t after r.
        (repeated_before {X = closers} (token_opens attribute_kinds refl) refl).ends before t.0 r.0 (r.1) ((token_opens (kind.Let ∷ []) refl).opens r.0 (t.1).0 (r.2).0 ((r.2).1));
  })

  program_carried : Carried m closers (IsFreeProgram n) (IsProgram m)
  program_carried = repeated_carried (either_carried type_decl_carried value_decl_carried) (repeated_before decl_opens refl)

pub text_is_kept : (ts : Tokens) (ds : List Decl) → IsFreeText ts ds → (es : List Decl) × IsLooseText ts es
text_is_kept ts ds r =
    let m = suc (length ts) in
    let c = (program_carried r.0 m).carries ts ds [] (omega arith) (r.1) refl in
    (c.tree, (m, c.reads))
