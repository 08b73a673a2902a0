-- The least expression of each form, and what each begins with.
use Rattle.std.proofs.Common.{ℕ, suc, false, [], ◌∷◌, ◌++◌, refl}
use Rattle.ligo_tokens.specs.declared.token.Token.{Token}
use Rattle.ligo_tokens.specs.declared.token.Kind.TheVariants as kind
use Rattle.ligo_syntax.specs.declared.fault.Expected.TheVariants as expected
use Rattle.ligo_syntax.specs.declared.expr.Expr.{Expr}
use Rattle.ligo_syntax.specs.declared.expr.Operator.TheVariants as operator
use Rattle.ligo_syntax.specs.declared.expr.Arm.{Arm}
use Rattle.ligo_syntax.specs.Kinds.{Kinds}
use Rattle.ligo_syntax.specs.Classes.{leaf_kinds, link_kinds, product_kinds, sum_kinds, comparison_kinds, atom_firsts, op_firsts, condition_firsts, expr_firsts, arm_firsts}
use Rattle.ligo_syntax.specs.Readers.{Reader, both, made, repeated}
use Rattle.ligo_syntax.specs.Phrases.{optional, key, from}
use Rattle.ligo_syntax.specs.Depth.{expr_depth}
use Rattle.ligo_syntax.specs.AtomTrees.{leaf_expr, dotted}
use Rattle.ligo_syntax.specs.ExprTrees.{applied, negated, binary, maybe_binary, tuple_expr, arm_of}
use Rattle.ligo_syntax.specs.AtomGrammar.{Form, Whole, Part, Condition, Disjunction, Conjunction, Comparison, Joined, Consed, Sum, Product, Unary, Application, Atom}
use Rattle.ligo_syntax.specs.TypeReading.{token}
use Rattle.ligo_syntax.specs.AtomReading.{paren_rule, square_rule, brace_rule, upper_rule, base_rule, atom_rule, application_rule}
use Rattle.ligo_syntax.specs.OperatorReading.{unary_rule, product_rule, sum_rule, consed_rule, joined_rule, comparison_rule, conjunction_rule, disjunction_rule}
use Rattle.ligo_syntax.specs.ExprReading.{if_rule, condition_rule, tuple_rule, match_rule, let_rule, form_rule, firsts_of, form_at, arm_at}
use Rattle.ligo_syntax.proofs.RuleLaws.{Least, token_least, made_least}
use Rattle.ligo_syntax.proofs.Sequences.{both_least}
use Rattle.ligo_syntax.proofs.Choices.{either_least}
use Rattle.ligo_syntax.proofs.Loops.{repeated_least}
use Rattle.ligo_syntax.proofs.Deep.{least_widened, Refuses, token_refuses, made_refuses, both_refuses, either_refuses}
use Rattle.ligo_syntax.proofs.Words.{of_kind, key_least, optional_least}
use Rattle.ligo_syntax.proofs.Links.{chain_least}
use Rattle.ligo_syntax.proofs.Completions.{chain_refuses, before_refuses, before_least}
use Rattle.ligo_syntax.proofs.PatternLaws.{arm_pattern_least}

abbrev pub a_number : Token
a_number = of_kind kind.Int

-- ---- what may extend expressions; and what with it is taken as much as it can

abbrev pub atom_ext : Kinds
atom_ext = kind.Dot ∷ []

abbrev pub application_ext : Kinds
application_ext = kind.Dot ∷ atom_firsts

abbrev pub product_ext : Kinds
product_ext = product_kinds ++ application_ext

abbrev pub sum_ext : Kinds
sum_ext = sum_kinds ++ product_ext

abbrev pub consed_ext : Kinds
consed_ext = kind.Cons ∷ sum_ext

abbrev pub joined_ext : Kinds
joined_ext = kind.Caret ∷ consed_ext

abbrev pub comparison_ext : Kinds
comparison_ext = comparison_kinds ++ joined_ext

abbrev pub conjunction_ext : Kinds
conjunction_ext = kind.And ∷ comparison_ext

abbrev pub op_ext : Kinds
op_ext = kind.Or ∷ conjunction_ext

abbrev pub all_ext : Kinds
all_ext = kind.Else ∷ kind.Comma ∷ kind.Bar ∷ op_ext

abbrev pub expr_ext : Form → Kinds
expr_ext Whole = op_ext
expr_ext Part = op_ext
expr_ext Condition = op_ext
expr_ext Disjunction = op_ext
expr_ext Conjunction = conjunction_ext
expr_ext Comparison = comparison_ext
expr_ext Joined = joined_ext
expr_ext Consed = consed_ext
expr_ext Sum = sum_ext
expr_ext Product = product_ext
expr_ext Unary = application_ext
expr_ext Application = application_ext
expr_ext Atom = atom_ext

abbrev pub expr_all : Form → Kinds
expr_all Whole = all_ext
expr_all Part = all_ext
expr_all Condition = all_ext
expr_all f = expr_ext f

module _ (d : ℕ) (e : Form → Reader Expr) (arm : Reader Arm) where
  abbrev pub base_least : Least (base_rule d e arm) atom_firsts false []
  base_least = least_widened atom_firsts [] (either_least (paren_rule d e arm) (kind.OpenParen ∷ []) [] (either_least (square_rule d e arm) (kind.OpenSquare ∷ []) []
      (either_least (brace_rule d e arm) (kind.OpenBrace ∷ []) [] (either_least (upper_rule d e arm) (kind.Upper ∷ []) [] (made_least leaf_expr (token_least expected.Expression leaf_kinds a_number refl)) refl) refl) refl) refl) refl refl

  abbrev pub atom_least : Least (atom_rule d e arm) atom_firsts false atom_ext
  atom_least = least_widened atom_firsts atom_ext (chain_least expr_depth (suc d) dotted (kind.Dot ∷ []) (key kind.Dot (token link_kinds)) [] base_least refl) refl refl

  abbrev pub application_least : Least (application_rule d e arm) atom_firsts false application_ext
  application_least = least_widened atom_firsts application_ext (made_least applied (both_least (before_least expr_depth (suc d) atom_firsts atom_least) (repeated_least (e Atom) atom_firsts []) refl)) refl refl

  abbrev pub unary_least : Least (unary_rule d e arm) op_firsts false application_ext
  unary_least = least_widened op_firsts application_ext (either_least (made negated (from kind.Minus (e Unary))) (kind.Minus ∷ []) [] application_least refl) refl refl

  abbrev pub product_least : Least (product_rule d e arm) op_firsts false product_ext
  product_least = least_widened op_firsts product_ext (chain_least expr_depth (suc d) binary product_kinds (both (token product_kinds) (e Unary)) [] unary_least refl) refl refl

  abbrev pub sum_least : Least (sum_rule d e arm) op_firsts false sum_ext
  sum_least = least_widened op_firsts sum_ext (chain_least expr_depth (suc d) binary sum_kinds (both (token sum_kinds) (e Product)) [] product_least refl) refl refl

  abbrev pub consed_least : Least (consed_rule d e arm) op_firsts false consed_ext
  consed_least = least_widened op_firsts consed_ext (made_least (maybe_binary operator.Cons) (both_least (before_least expr_depth (suc d) (kind.Cons ∷ []) sum_least) (optional_least (key kind.Cons (e Consed)) (kind.Cons ∷ []) [] refl) refl)) refl refl

  abbrev pub joined_least : Least (joined_rule d e arm) op_firsts false joined_ext
  joined_least = least_widened op_firsts joined_ext (made_least (maybe_binary operator.Join) (both_least (before_least expr_depth (suc d) (kind.Caret ∷ []) consed_least) (optional_least (key kind.Caret (e Joined)) (kind.Caret ∷ []) [] refl) refl)) refl refl

  abbrev pub comparison_least : Least (comparison_rule d e arm) op_firsts false comparison_ext
  comparison_least = least_widened op_firsts comparison_ext (chain_least expr_depth (suc d) binary comparison_kinds (both (token comparison_kinds) (e Joined)) [] joined_least refl) refl refl

  abbrev pub conjunction_least : Least (conjunction_rule d e arm) op_firsts false conjunction_ext
  conjunction_least = least_widened op_firsts conjunction_ext (chain_least expr_depth (suc d) binary (kind.And ∷ []) (both (token (kind.And ∷ [])) (e Comparison)) [] comparison_least refl) refl refl

  abbrev pub disjunction_least : Least (disjunction_rule d e arm) op_firsts false op_ext
  disjunction_least = least_widened op_firsts op_ext (chain_least expr_depth (suc d) binary (kind.Or ∷ []) (both (token (kind.Or ∷ [])) (e Conjunction)) [] conjunction_least refl) refl refl

  abbrev pub condition_least : Least (condition_rule d e arm) condition_firsts false all_ext
  condition_least = least_widened condition_firsts all_ext (either_least (if_rule d e arm) (kind.If ∷ []) [] disjunction_least refl) refl refl

  abbrev pub tuple_least : Least (tuple_rule d e arm) condition_firsts false all_ext
  tuple_least = least_widened condition_firsts all_ext (made_least tuple_expr (both_least (before_least expr_depth (suc d) (kind.Comma ∷ []) condition_least) (repeated_least (key kind.Comma (e Condition)) (kind.Comma ∷ []) []) refl)) refl refl

  abbrev pub form_least : (f : Form) → Least (form_rule d e arm f) (firsts_of f) false (expr_all f)
  form_least Whole = least_widened expr_firsts all_ext (either_least (let_rule d e arm) (kind.Let ∷ []) [] (either_least (match_rule d e arm) (kind.Match ∷ []) [] tuple_least refl) refl) refl refl
  form_least Part = least_widened expr_firsts all_ext (either_least (let_rule d e arm) (kind.Let ∷ []) [] (either_least (match_rule d e arm) (kind.Match ∷ []) [] condition_least refl) refl) refl refl
  form_least Condition = condition_least
  form_least Disjunction = disjunction_least
  form_least Conjunction = conjunction_least
  form_least Comparison = comparison_least
  form_least Joined = joined_least
  form_least Consed = consed_least
  form_least Sum = sum_least
  form_least Product = product_least
  form_least Unary = unary_least
  form_least Application = application_least
  form_least Atom = atom_least

  -- ---- what begins with none of its kinds

  atom_refuses : Refuses (atom_rule d e arm) expected.Expression atom_firsts
  atom_refuses = chain_refuses expr_depth (suc d) dotted (kind.Dot ∷ []) (key kind.Dot (token link_kinds)) (either_refuses (paren_rule d e arm) (kind.OpenParen ∷ []) (either_refuses (square_rule d e arm) (kind.OpenSquare ∷ [])
      (either_refuses (brace_rule d e arm) (kind.OpenBrace ∷ []) (either_refuses (upper_rule d e arm) (kind.Upper ∷ []) (made_refuses leaf_expr (token_refuses expected.Expression leaf_kinds))))))

  application_refuses : Refuses (application_rule d e arm) expected.Expression atom_firsts
  application_refuses = made_refuses applied (both_refuses (repeated atom_firsts (e Atom)) (before_refuses expr_depth (suc d) atom_firsts atom_refuses))

  unary_refuses : Refuses (unary_rule d e arm) expected.Expression op_firsts
  unary_refuses = either_refuses (made negated (from kind.Minus (e Unary))) (kind.Minus ∷ []) application_refuses

  product_refuses : Refuses (product_rule d e arm) expected.Expression op_firsts
  product_refuses = chain_refuses expr_depth (suc d) binary product_kinds (both (token product_kinds) (e Unary)) unary_refuses

  sum_refuses : Refuses (sum_rule d e arm) expected.Expression op_firsts
  sum_refuses = chain_refuses expr_depth (suc d) binary sum_kinds (both (token sum_kinds) (e Product)) product_refuses

  consed_refuses : Refuses (consed_rule d e arm) expected.Expression op_firsts
  consed_refuses = made_refuses (maybe_binary operator.Cons) (both_refuses (optional (kind.Cons ∷ []) (key kind.Cons (e Consed))) (before_refuses expr_depth (suc d) (kind.Cons ∷ []) sum_refuses))

  joined_refuses : Refuses (joined_rule d e arm) expected.Expression op_firsts
  joined_refuses = made_refuses (maybe_binary operator.Join) (both_refuses (optional (kind.Caret ∷ []) (key kind.Caret (e Joined))) (before_refuses expr_depth (suc d) (kind.Caret ∷ []) consed_refuses))

  comparison_refuses : Refuses (comparison_rule d e arm) expected.Expression op_firsts
  comparison_refuses = chain_refuses expr_depth (suc d) binary comparison_kinds (both (token comparison_kinds) (e Joined)) joined_refuses

  conjunction_refuses : Refuses (conjunction_rule d e arm) expected.Expression op_firsts
  conjunction_refuses = chain_refuses expr_depth (suc d) binary (kind.And ∷ []) (both (token (kind.And ∷ [])) (e Comparison)) comparison_refuses

  disjunction_refuses : Refuses (disjunction_rule d e arm) expected.Expression op_firsts
  disjunction_refuses = chain_refuses expr_depth (suc d) binary (kind.Or ∷ []) (both (token (kind.Or ∷ [])) (e Conjunction)) conjunction_refuses

  condition_refuses : Refuses (condition_rule d e arm) expected.Expression condition_firsts
  condition_refuses = either_refuses (if_rule d e arm) (kind.If ∷ []) disjunction_refuses

  pub form_refuses : (f : Form) → Refuses (form_rule d e arm f) expected.Expression (firsts_of f)
  form_refuses Whole = either_refuses (let_rule d e arm) (kind.Let ∷ []) (either_refuses (match_rule d e arm) (kind.Match ∷ [])
      (made_refuses tuple_expr (both_refuses (repeated (kind.Comma ∷ []) (key kind.Comma (e Condition))) (before_refuses expr_depth (suc d) (kind.Comma ∷ []) condition_refuses))))
  form_refuses Part = either_refuses (let_rule d e arm) (kind.Let ∷ []) (either_refuses (match_rule d e arm) (kind.Match ∷ []) condition_refuses)
  form_refuses Condition = condition_refuses
  form_refuses Disjunction = disjunction_refuses
  form_refuses Conjunction = conjunction_refuses
  form_refuses Comparison = comparison_refuses
  form_refuses Joined = joined_refuses
  form_refuses Consed = consed_refuses
  form_refuses Sum = sum_refuses
  form_refuses Product = product_refuses
  form_refuses Unary = unary_refuses
  form_refuses Application = application_refuses
  form_refuses Atom = atom_refuses

abbrev pub expr_least : (d : ℕ) (f : Form) → Least (form_at (suc d) f) (firsts_of f) false (expr_all f)
expr_least d f = form_least d (form_at d) (arm_at d) f

abbrev pub arm_least : (d : ℕ) → Least (arm_at (suc (suc d))) arm_firsts false all_ext
arm_least d = least_widened arm_firsts all_ext (made_least arm_of (both_least (arm_pattern_least d) (key_least kind.Arrow (expr_least d Whole)) refl)) refl refl
