-- What completes an expression behind its first token.
use Rattle.std.proofs.Common.{◌≡◌, ℕ, suc, false, List, [], ◌∷◌, ◌++◌, length, refl, ap, ◌∙◌, inr, Some, None, Ok}
use Rattle.ligo_tokens.specs.declared.token.Kind.TheVariants as kind
use Rattle.ligo_syntax.specs.declared.fault.Expected.TheVariants as expected
use Rattle.ligo_syntax.specs.declared.expr.Expr.{Expr}
use Rattle.ligo_syntax.specs.declared.expr.Operator.TheVariants as operator
use Rattle.ligo_syntax.specs.declared.expr.ValueField.{ValueField}
use Rattle.ligo_syntax.specs.declared.expr.Arm.{Arm}
use Rattle.ligo_syntax.specs.Kinds.{Tokens, Kinds, Ends}
use Rattle.ligo_syntax.specs.Classes.{name_kinds, leaf_kinds, link_kinds, product_kinds, sum_kinds, comparison_kinds, atom_firsts, op_firsts, condition_firsts, expr_firsts, arm_firsts}
use Rattle.ligo_syntax.specs.Readers.{Reader, then_do, both, made}
use Rattle.ligo_syntax.specs.Phrases.{optional, key, closed, listed}
use Rattle.ligo_syntax.specs.Depth.{expr_depth}
use Rattle.ligo_syntax.specs.Said.{name_of}
use Rattle.ligo_syntax.specs.AtomTrees.{leaf_expr, dotted, record_inside, field_of, paren_expr, list_expr, brace_expr, upper_expr}
use Rattle.ligo_syntax.specs.ExprTrees.{applied, negated, binary, maybe_binary, tuple_expr, if_expr, match_expr, let_expr, arm_of}
use Rattle.ligo_syntax.specs.AtomGrammar.{Form, Whole, Part, Condition, Disjunction, Conjunction, Comparison, Joined, Consed, Sum, Product, Unary, Application, Atom}
use Rattle.ligo_syntax.specs.TypeReading.{token, Several, read_type}
use Rattle.ligo_syntax.specs.AtomReading.{paren_rule, square_rule, field_rule, record_rest, brace_rest, brace_inside, brace_rule, upper_rule, atom_rule, application_rule, name_alone, upper_link_at}
use Rattle.ligo_syntax.specs.OperatorReading.{unary_rule, product_rule, sum_rule, consed_rule, joined_rule, comparison_rule, conjunction_rule, disjunction_rule}
use Rattle.ligo_syntax.specs.ExprReading.{if_rule, condition_rule, tuple_rule, match_rule, let_rule, firsts_of, form_at, arm_at}
use Rattle.ligo_syntax.proofs.RuleLaws.{Least, token_least, made_least}
use Rattle.ligo_syntax.proofs.Sequences.{both_least}
use Rattle.ligo_syntax.proofs.Choices.{either_first}
use Rattle.ligo_syntax.proofs.Loops.{repeated_least}
use Rattle.ligo_syntax.proofs.Deep.{least_widened, Completes}
use Rattle.ligo_syntax.proofs.Words.{of_kind, key_least, closed_least, optional_least}
use Rattle.ligo_syntax.proofs.Links.{links_none}
use Rattle.ligo_syntax.proofs.Semicolons.{more_least}
use Rattle.ligo_syntax.proofs.Completions.{token_completes, made_completes, both_completes, either_completes, chain_completes, before_completes, completes_widened, from_completes}
use Rattle.ligo_syntax.proofs.TypeLaws.{a_name}
use Rattle.ligo_syntax.proofs.Names.{name_is}
use Rattle.ligo_syntax.proofs.PatternLaws.{pattern_least, arm_pattern_completes}
use Rattle.ligo_syntax.proofs.ExprLeasts.{atom_ext, application_ext, product_ext, sum_ext, consed_ext, joined_ext, comparison_ext, conjunction_ext, op_ext, all_ext, expr_all, expr_least, arm_least}

-- what may extend what stands in braces
abbrev pub inside_ext : Kinds
inside_ext = kind.Semicolon ∷ (name_kinds ++ op_ext)

abbrev pub inside_all : Kinds
inside_all = kind.Semicolon ∷ (name_kinds ++ all_ext)

-- a name is read as one, where no dot stands behind it
pub name_read : (k : ℕ) (r : Tokens) → Ends (kind.Dot ∷ []) r → form_at (suc k) Atom (a_name ∷ r) ≡ Ok (leaf_expr a_name, r)
name_read k r m = links_none expr_depth (suc k) dotted (kind.Dot ∷ []) (key kind.Dot (token link_kinds)) (length r) (leaf_expr a_name) r m

module _ (d : ℕ) (e : Form → Reader Expr) (arm : Reader Arm) (whole : Least (e Whole) expr_firsts false all_ext) where
  abbrev pub field_least : Least (field_rule d e arm) name_kinds false all_ext
  field_least = made_least field_of (both_least (token_least expected.Token name_kinds a_name refl) (key_least kind.Equals whole) refl)

  abbrev pub record_least : Least (record_rest d e arm (name_of a_name)) (kind.Equals ∷ []) false inside_all
  record_least = least_widened (kind.Equals ∷ []) inside_all (made_least (λ (p : Expr × List ValueField). record_inside (record { name = name_of a_name; value = p.0 } ∷ p.1))
      (both_least (key_least kind.Equals whole) (more_least (field_rule d e arm) name_kinds []) refl)) refl refl

abbrev pub brace_least : (k : ℕ) → Least (brace_inside (suc (suc k)) (form_at (suc (suc k))) (arm_at (suc (suc k)))) atom_firsts false inside_all
brace_least k = record {
  word = a_name ∷ inside.word;
  value = inside.value;
  reads = λ r m. on (inside.word ++ r) (name_read (suc k) (inside.word ++ r) refl) ∙ inside.reads r m;
  shape = inr (refl, (a_name, inside.word, refl, refl));
} where
  inside : Least (record_rest (suc (suc k)) (form_at (suc (suc k))) (arm_at (suc (suc k))) (name_of a_name)) (kind.Equals ∷ []) false inside_all
  inside = record_least (suc (suc k)) (form_at (suc (suc k))) (arm_at (suc (suc k))) (expr_least (suc k) Whole)

  on : (r : Tokens) → form_at (suc (suc k)) Atom (a_name ∷ r) ≡ Ok (leaf_expr a_name, r) →
      brace_inside (suc (suc k)) (form_at (suc (suc k))) (arm_at (suc (suc k))) (a_name ∷ r) ≡ brace_rest (suc (suc k)) (form_at (suc (suc k))) (arm_at (suc (suc k))) (leaf_expr a_name) (Some []) r
  on r h = ap (λ x. then_do x (λ first rest. brace_rest (suc (suc k)) (form_at (suc (suc k))) (arm_at (suc (suc k))) first (name_alone first) rest)) h ∙
      ap (λ o. brace_rest (suc (suc k)) (form_at (suc (suc k))) (arm_at (suc (suc k))) (leaf_expr a_name) o r) (name_is a_name refl)

module _ (k : ℕ) where
  abbrev d : ℕ
  d = suc (suc k)

  abbrev e : Form → Reader Expr
  e = form_at (suc (suc k))

  abbrev arm : Reader Arm
  arm = arm_at (suc (suc k))

  abbrev least : (f : Form) → Least (form_at (suc (suc k)) f) (firsts_of f) false (expr_all f)
  least f = expr_least (suc k) f

  paren_completes : Completes (paren_rule d e arm) (kind.OpenParen ∷ []) []
  paren_completes = made_completes paren_expr (from_completes kind.OpenParen (either_first (made Some (closed (both (e Whole) (optional (kind.Colon ∷ []) (key kind.Colon (read_type d)))) kind.CloseParen)) [] false []
      (made_least (λ t. None) (token_least expected.Token (kind.CloseParen ∷ []) (of_kind kind.CloseParen) refl))))

  square_completes : Completes (square_rule d e arm) (kind.OpenSquare ∷ []) []
  square_completes = made_completes list_expr (from_completes kind.OpenSquare (closed_least kind.CloseSquare (optional_least (listed expr_firsts (e Whole)) expr_firsts [] refl) refl))

  brace_completes : Completes (brace_rule d e arm) (kind.OpenBrace ∷ []) []
  brace_completes = made_completes brace_expr (from_completes kind.OpenBrace (closed_least kind.CloseBrace (brace_least k) refl))

  upper_completes : Completes (upper_rule d e arm) (kind.Upper ∷ []) (kind.Dot ∷ [])
  upper_completes = made_completes upper_expr (both_completes (token_completes expected.Token (kind.Upper ∷ [])) (optional_least (key kind.Dot (upper_link_at d)) (kind.Dot ∷ []) [] refl) refl)

  atom_completes : Completes (atom_rule d e arm) atom_firsts atom_ext
  atom_completes = completes_widened atom_firsts atom_ext (chain_completes expr_depth (suc d) dotted (kind.Dot ∷ []) (key kind.Dot (token link_kinds)) []
      (either_completes paren_completes (either_completes square_completes (either_completes brace_completes (either_completes upper_completes (made_completes leaf_expr (token_completes expected.Expression leaf_kinds))))))) refl refl

  application_completes : Completes (application_rule d e arm) atom_firsts application_ext
  application_completes = completes_widened atom_firsts application_ext (made_completes applied (both_completes (before_completes expr_depth (suc d) atom_firsts atom_completes) (repeated_least (e Atom) atom_firsts []) refl)) refl refl

  unary_completes : Completes (unary_rule d e arm) op_firsts application_ext
  unary_completes = completes_widened op_firsts application_ext (either_completes (made_completes negated (from_completes kind.Minus (least Unary))) application_completes) refl refl

  product_completes : Completes (product_rule d e arm) op_firsts product_ext
  product_completes = completes_widened op_firsts product_ext (chain_completes expr_depth (suc d) binary product_kinds (both (token product_kinds) (e Unary)) [] unary_completes) refl refl

  sum_completes : Completes (sum_rule d e arm) op_firsts sum_ext
  sum_completes = completes_widened op_firsts sum_ext (chain_completes expr_depth (suc d) binary sum_kinds (both (token sum_kinds) (e Product)) [] product_completes) refl refl

  consed_completes : Completes (consed_rule d e arm) op_firsts consed_ext
  consed_completes = completes_widened op_firsts consed_ext (made_completes (maybe_binary operator.Cons) (both_completes (before_completes expr_depth (suc d) (kind.Cons ∷ []) sum_completes)
      (optional_least (key kind.Cons (e Consed)) (kind.Cons ∷ []) [] refl) refl)) refl refl

  joined_completes : Completes (joined_rule d e arm) op_firsts joined_ext
  joined_completes = completes_widened op_firsts joined_ext (made_completes (maybe_binary operator.Join) (both_completes (before_completes expr_depth (suc d) (kind.Caret ∷ []) consed_completes)
      (optional_least (key kind.Caret (e Joined)) (kind.Caret ∷ []) [] refl) refl)) refl refl

  comparison_completes : Completes (comparison_rule d e arm) op_firsts comparison_ext
  comparison_completes = completes_widened op_firsts comparison_ext (chain_completes expr_depth (suc d) binary comparison_kinds (both (token comparison_kinds) (e Joined)) [] joined_completes) refl refl

  conjunction_completes : Completes (conjunction_rule d e arm) op_firsts conjunction_ext
  conjunction_completes = completes_widened op_firsts conjunction_ext (chain_completes expr_depth (suc d) binary (kind.And ∷ []) (both (token (kind.And ∷ [])) (e Comparison)) [] comparison_completes) refl refl

  disjunction_completes : Completes (disjunction_rule d e arm) op_firsts op_ext
  disjunction_completes = completes_widened op_firsts op_ext (chain_completes expr_depth (suc d) binary (kind.Or ∷ []) (both (token (kind.Or ∷ [])) (e Conjunction)) [] conjunction_completes) refl refl

  if_completes : Completes (if_rule d e arm) (kind.If ∷ []) all_ext
  if_completes = completes_widened (kind.If ∷ []) all_ext (made_completes if_expr (from_completes kind.If (both_least (least Whole) (both_least (key_least kind.Then (least Part))
      (optional_least (key kind.Else (e Part)) (kind.Else ∷ []) [] refl) refl) refl))) refl refl

  condition_completes : Completes (condition_rule d e arm) condition_firsts all_ext
  condition_completes = completes_widened condition_firsts all_ext (either_completes if_completes disjunction_completes) refl refl

  tuple_completes : Completes (tuple_rule d e arm) condition_firsts all_ext
  tuple_completes = completes_widened condition_firsts all_ext (made_completes tuple_expr (both_completes (before_completes expr_depth (suc d) (kind.Comma ∷ []) condition_completes)
      (repeated_least (key kind.Comma (e Condition)) (kind.Comma ∷ []) []) refl)) refl refl

  match_completes : Completes (match_rule d e arm) (kind.Match ∷ []) all_ext
  match_completes = completes_widened (kind.Match ∷ []) all_ext (made_completes match_expr (from_completes kind.Match (both_least (least Whole) (key_least kind.With (both_least (optional_least (token (kind.Bar ∷ [])) (kind.Bar ∷ []) [] refl)
      (both_least (arm_least k) (repeated_least (key kind.Bar arm) (kind.Bar ∷ []) []) refl) refl)) refl))) refl refl

  let_completes : Completes (let_rule d e arm) (kind.Let ∷ []) all_ext
  let_completes = completes_widened (kind.Let ∷ []) all_ext (made_completes let_expr (from_completes kind.Let (both_least (pattern_least (suc k) Several) (both_least (optional_least (key kind.Colon (read_type d)) (kind.Colon ∷ []) [] refl)
      (both_least (key_least kind.Equals (least Whole)) (key_least kind.In (least Whole)) refl) refl) refl))) refl refl

  pub expr_completes : (f : Form) → Completes (form_at (suc (suc (suc k))) f) (firsts_of f) (expr_all f)
  expr_completes Whole = completes_widened expr_firsts all_ext (either_completes let_completes (either_completes match_completes tuple_completes)) refl refl
  expr_completes Part = completes_widened expr_firsts all_ext (either_completes let_completes (either_completes match_completes condition_completes)) refl refl
  expr_completes Condition = condition_completes
  expr_completes Disjunction = disjunction_completes
  expr_completes Conjunction = conjunction_completes
  expr_completes Comparison = comparison_completes
  expr_completes Joined = joined_completes
  expr_completes Consed = consed_completes
  expr_completes Sum = sum_completes
  expr_completes Product = product_completes
  expr_completes Unary = unary_completes
  expr_completes Application = application_completes
  expr_completes Atom = atom_completes

  pub arm_completes : Completes (arm_at (suc (suc k))) arm_firsts all_ext
  arm_completes = completes_widened arm_firsts all_ext (made_completes arm_of (both_completes (arm_pattern_completes k) (key_least kind.Arrow (expr_least k Whole)) refl)) refl refl
