-- Reading whole expressions and arms, and all that is read at one depth.
use Rattle.std.specs.Prelude.{ℕ, zero, suc, [], ◌∷◌}
use Rattle.ligo_tokens.specs.declared.token.Kind.TheVariants as kind
use Rattle.ligo_syntax.specs.declared.fault.Expected.TheVariants as expected
use Rattle.ligo_syntax.specs.declared.expr.Expr.{Expr}
use Rattle.ligo_syntax.specs.declared.expr.Arm.{Arm}
use Rattle.ligo_syntax.specs.Kinds.{Kinds}
use Rattle.ligo_syntax.specs.Classes.{arm_firsts, atom_firsts, op_firsts, condition_firsts, expr_firsts}
use Rattle.ligo_syntax.specs.Readers.{Reader, both, made, either, repeated, too_deep, before}
use Rattle.ligo_syntax.specs.Phrases.{key, from, optional}
use Rattle.ligo_syntax.specs.ExprTrees.{tuple_expr, if_expr, arm_of, match_expr, let_expr}
use Rattle.ligo_syntax.specs.Depth.{expr_depth}
use Rattle.ligo_syntax.specs.AtomGrammar.{Form, Whole, Part, Condition, Disjunction, Conjunction, Comparison, Joined, Consed, Sum, Product, Unary, Application, Atom}
use Rattle.ligo_syntax.specs.TypeReading.{token, read_type, read_pattern, arm_pattern_at}
use Rattle.ligo_syntax.specs.AtomReading.{atom_rule, application_rule}
use Rattle.ligo_syntax.specs.OperatorReading.{unary_rule, product_rule, sum_rule, consed_rule, joined_rule, comparison_rule, conjunction_rule, disjunction_rule}

-- what is read at depth d in expressions of depth d + 1
module _ (d : ℕ) (e : Form → Reader Expr) (arm : Reader Arm) where
  -- `if`, with its `else` where one follows
  abbrev pub if_rule : Reader Expr
  if_rule = made if_expr (from kind.If (both (e Whole) (both (key kind.Then (e Part)) (optional (kind.Else ∷ []) (key kind.Else (e Part))))))

  -- an `if`, or operators
  abbrev pub condition_rule : Reader Expr
  condition_rule = either (kind.If ∷ []) if_rule (disjunction_rule d e arm)

  -- conditions between commas
  abbrev pub tuple_rule : Reader Expr
  tuple_rule = made tuple_expr (both (before expr_depth (suc d) (kind.Comma ∷ []) condition_rule) (repeated (kind.Comma ∷ []) (key kind.Comma (e Condition))))

  -- `match` and its arms
  abbrev pub match_rule : Reader Expr
  match_rule = made match_expr (from kind.Match (both (e Whole) (key kind.With (both
      (optional (kind.Bar ∷ []) (token (kind.Bar ∷ []))) (both arm (repeated (kind.Bar ∷ []) (key kind.Bar arm)))))))

  -- `let` and its body
  abbrev pub let_rule : Reader Expr
  let_rule = made let_expr (from kind.Let (both (read_pattern d) (both (optional (kind.Colon ∷ []) (key kind.Colon (read_type d)))
      (both (key kind.Equals (e Whole)) (key kind.In (e Whole))))))

  -- each form
  abbrev pub form_rule : Form → Reader Expr
  form_rule Whole = either (kind.Let ∷ []) let_rule (either (kind.Match ∷ []) match_rule tuple_rule)
  form_rule Part = either (kind.Let ∷ []) let_rule (either (kind.Match ∷ []) match_rule condition_rule)
  form_rule Condition = condition_rule
  form_rule Disjunction = disjunction_rule d e arm
  form_rule Conjunction = conjunction_rule d e arm
  form_rule Comparison = comparison_rule d e arm
  form_rule Joined = joined_rule d e arm
  form_rule Consed = consed_rule d e arm
  form_rule Sum = sum_rule d e arm
  form_rule Product = product_rule d e arm
  form_rule Unary = unary_rule d e arm
  form_rule Application = application_rule d e arm
  form_rule Atom = atom_rule d e arm

-- what each begins with
abbrev pub firsts_of : Form → Kinds
firsts_of Whole = expr_firsts
firsts_of Part = expr_firsts
firsts_of Condition = condition_firsts
firsts_of Application = atom_firsts
firsts_of Atom = atom_firsts
firsts_of level = op_firsts

-- all that is read at one depth
pub record Ring : Type 0 where
  pub forms : Form → Reader Expr
  pub arm : Reader Arm

-- a pattern and what it leads to
abbrev pub arm_rule : ℕ → Reader Expr → Reader Arm
arm_rule d whole = made arm_of (both (arm_pattern_at d) (key kind.Arrow whole))

-- at depth d + 1, by what is read at depth d
abbrev pub ring_above : ℕ → Ring → Ring
ring_above d below = record { forms = form_rule d below.forms below.arm; arm = arm_rule d (below.forms Whole) }

-- at most so deep
abbrev pub ring_at : ℕ → Ring
ring_at zero = record { forms = λ form. too_deep expected.Expression (firsts_of form); arm = too_deep expected.Pattern arm_firsts }
ring_at (suc d) = ring_above d (ring_at d)

-- expressions, at most so deep
abbrev pub form_at : ℕ → Form → Reader Expr
form_at d = (ring_at d).forms

-- arms, at most so deep
abbrev pub arm_at : ℕ → Reader Arm
arm_at d = (ring_at d).arm
