-- How deep expressions are, by what they are made of.
use Rattle.std.proofs.Common.{◌≡◌, ℕ, zero, suc, max, ◌≤◌, List, [], ◌∷◌, arith, Option, Some, None}
use Rattle.ligo_tokens.specs.declared.token.Token.{Token}
use Rattle.ligo_syntax.specs.Rules.{greedy}
use Rattle.ligo_syntax.specs.declared.type_expr.TypeExpr.{TypeExpr}
use Rattle.ligo_syntax.specs.declared.pattern.Pattern.{Pattern}
use Rattle.ligo_syntax.specs.declared.expr.Expr.{Expr}
use Rattle.ligo_syntax.specs.declared.expr.ExprForm.{ExprForm}
use Rattle.ligo_syntax.specs.declared.expr.Operator.{Operator}
use Rattle.ligo_syntax.specs.declared.expr.Operator.TheVariants as operator
use Rattle.ligo_syntax.specs.declared.expr.ValueField.{ValueField}
use Rattle.ligo_syntax.specs.declared.expr.Arm.{Arm}
use Rattle.ligo_syntax.specs.declared.expr.ArmPattern.{ArmPattern}
use Rattle.ligo_syntax.specs.Kinds.{Tokens}
use Rattle.ligo_syntax.specs.Depth.{type_depth, pattern_depth, expr_depth, arm_depth, arm_pattern_depth, field_depth, if_there, deepest}
use Rattle.ligo_syntax.specs.AtomTrees.{link_depth, upper_expr, paren_expr, list_expr, field_of, record_inside, with_inside, brace_expr, dotted, leaf_expr}
use Rattle.ligo_syntax.specs.ExprTrees.{applied, negated, binary, maybe_binary, tuple_expr, if_expr, arm_of, match_expr, let_expr}
use Rattle.ligo_syntax.specs.TypeGrammar.{PatternRule, IsType, IsPattern}
use Rattle.ligo_syntax.specs.AtomGrammar.{Form, Whole, Part, Condition, Disjunction, Conjunction, Comparison, Joined, Consed, Sum, Product, Unary, Application, Atom}
use Rattle.ligo_syntax.specs.ExprGrammar.{FormRule, ArmRule, IsExpr}
use Rattle.ligo_syntax.proofs.RuleLaws.{Rules, flat}
use Rattle.ligo_syntax.proofs.Sequences.{deeper}
use Rattle.ligo_syntax.proofs.Moves.{under}
use Rattle.ligo_syntax.proofs.Links.{Grows}
use Rattle.ligo_syntax.proofs.Tailed.{tailed, are_many, is_some}
use Rattle.ligo_syntax.proofs.Completions.{Positive, made_positive, either_positive, chain_positive, both_positive}
use Rattle.ligo_syntax.proofs.Nodes.{so_deep, deepest_inside}

abbrev pub inner : Expr → ℕ
inner = so_deep expr_depth

-- of what stands in braces
abbrev pub inside_depth : ℕ × ExprForm → ℕ
inside_depth p = suc p.0

pub upper_depth : (p : Token × Option Token) → expr_depth (upper_expr p) ≡ max 1 (deeper flat (if_there (so_deep link_depth)) p)
upper_depth (u, None) = omega arith
upper_depth (u, Some t) = omega arith

pub paren_deep : (p : ℕ × Option (Expr × Option TypeExpr)) → expr_depth (paren_expr p) ≡ max 1 (if_there (deeper inner (if_there (so_deep type_depth))) p.1)
paren_deep (at, None) = omega arith
paren_deep (at, Some (e, None)) = omega arith
paren_deep (at, Some (e, Some t)) = omega arith

pub list_depth : (p : ℕ × Option (List Expr)) → expr_depth (list_expr p) ≡ max 1 (if_there (deepest inner) p.1)
list_depth (at, None) = omega arith
list_depth (at, Some []) = omega arith
list_depth (at, Some (e ∷ more)) = let i = deepest_inside expr_depth e more in omega (arith, i)

pub field_deep : (p : Token × Expr) → so_deep field_depth (field_of p) ≡ deeper flat inner p
field_deep (t, e) = omega arith

pub record_depth : (fields : List ValueField) → inside_depth (record_inside fields) ≡ max 1 (deepest (so_deep field_depth) fields)
record_depth [] = omega arith
record_depth (f ∷ more) = let i = deepest_inside field_depth f more in omega (arith, i)

pub with_depth : (p : Expr × (ValueField × List ValueField)) → inside_depth (with_inside p) ≡ deeper inner (deeper (so_deep field_depth) (deepest (so_deep field_depth))) p
with_depth (e, (f, [])) = omega arith
with_depth (e, (f, g ∷ more)) = let i = deepest_inside field_depth g more in omega (arith, i)

pub brace_depth : (p : ℕ × (ℕ × ExprForm)) → expr_depth (brace_expr p) ≡ max 1 (inside_depth p.1)
brace_depth (at, (depth, form)) = omega arith

pub applied_depth : (p : Expr × List Expr) → expr_depth (applied p) ≡ tailed expr_depth (deepest inner) are_many p
applied_depth (e, []) = omega arith
applied_depth (e, f ∷ more) = let i = deepest_inside expr_depth f more in omega (arith, i)

pub negated_depth : (p : ℕ × Expr) → expr_depth (negated p) ≡ max 1 (inner p.1)
negated_depth (at, e) = omega arith

pub binary_grows : Grows expr_depth (deeper flat inner) binary
binary_grows e (sign, f) = omega arith

pub dotted_grows : Grows expr_depth flat dotted
dotted_grows e t = omega arith

pub maybe_depth : (o : Operator) (p : Expr × Option Expr) → expr_depth (maybe_binary o p) ≡ tailed expr_depth (if_there inner) is_some p
maybe_depth o (e, None) = omega arith
maybe_depth o (e, Some f) = omega arith

pub tuple_depth : (p : Expr × List Expr) → expr_depth (tuple_expr p) ≡ tailed expr_depth (deepest inner) are_many p
tuple_depth (e, []) = omega arith
tuple_depth (e, f ∷ more) = let i = deepest_inside expr_depth f more in omega (arith, i)

pub if_depth : (p : ℕ × (Expr × (Expr × Option Expr))) → expr_depth (if_expr p) ≡ max 1 (deeper inner (deeper inner (if_there inner)) p.1)
if_depth (at, (e, (f, None))) = omega arith
if_depth (at, (e, (f, Some g))) = omega arith

pub arm_deep : (p : ArmPattern × Expr) → arm_depth (arm_of p) ≡ max 1 (deeper (so_deep arm_pattern_depth) inner p)
arm_deep (p, e) = omega arith

-- the arms, behind a bar or none
abbrev pub arms_depth : Option Token × (Arm × List Arm) → ℕ
arms_depth = deeper (if_there flat) (deeper (so_deep arm_depth) (deepest (so_deep arm_depth)))

pub match_depth : (p : ℕ × (Expr × (Option Token × (Arm × List Arm)))) → expr_depth (match_expr p) ≡ max 1 (deeper inner arms_depth p.1)
match_depth (at, (e, (None, (a, [])))) = omega arith
match_depth (at, (e, (Some bar, (a, [])))) = omega arith
match_depth (at, (e, (None, (a, b ∷ more)))) = let i = deepest_inside arm_depth b more in omega (arith, i)
match_depth (at, (e, (Some bar, (a, b ∷ more)))) = let i = deepest_inside arm_depth b more in omega (arith, i)

pub let_depth : (p : ℕ × (Pattern × (Option TypeExpr × (Expr × Expr)))) → expr_depth (let_expr p) ≡ max 1 (deeper (so_deep pattern_depth) (deeper (if_there (so_deep type_depth)) (deeper inner inner)) p.1)
let_depth (at, (p, (None, (e, f)))) = omega arith
let_depth (at, (p, (Some t, (e, f)))) = omega arith

-- ---- each has a depth

abbrev pub Exprs : Form → Rules Expr
Exprs f n = FormRule greedy (under IsType n) (under IsPattern n) (PatternRule (under IsPattern n)) (λ g. under (λ m. IsExpr m g) n) f

abbrev pub Arms : Rules Arm
Arms n = ArmRule greedy (under IsType n) (under IsPattern n) (PatternRule (under IsPattern n)) (λ g. under (λ m. IsExpr m g) n)

applied_counts : (p : Expr × List Expr) → 1 ≤ expr_depth p.0 → 1 ≤ expr_depth (applied p)
applied_counts (e, []) le = le
applied_counts (e, f ∷ more) le = omega arith

maybe_counts : (o : Operator) (p : Expr × Option Expr) → 1 ≤ expr_depth p.0 → 1 ≤ expr_depth (maybe_binary o p)
maybe_counts o (e, None) le = le
maybe_counts o (e, Some f) le = omega arith

tuple_counts : (p : Expr × List Expr) → 1 ≤ expr_depth p.0 → 1 ≤ expr_depth (tuple_expr p)
tuple_counts (e, []) le = le
tuple_counts (e, f ∷ more) le = omega arith

module _ (n : ℕ) where
  atoms_count : Positive expr_depth (Exprs Atom n)
  atoms_count = chain_positive dotted _ (λ b a. let i = dotted_grows b a in omega (arith, i)) (either_positive (made_positive expr_depth paren_expr _ (λ p. let i = paren_deep p in omega (arith, i)))
      (either_positive (made_positive expr_depth list_expr _ (λ p. let i = list_depth p in omega (arith, i))) (either_positive (made_positive expr_depth brace_expr _ (λ p. let i = brace_depth p in omega (arith, i)))
      (either_positive (made_positive expr_depth upper_expr _ (λ p. let i = upper_depth p in omega (arith, i))) (made_positive expr_depth leaf_expr _ (λ t. omega arith))))))

  applications_count : Positive expr_depth (Exprs Application n)
  applications_count = both_positive expr_depth applied _ applied_counts atoms_count

  unaries_count : Positive expr_depth (Exprs Unary n)
  unaries_count = either_positive (made_positive expr_depth negated _ (λ p. let i = negated_depth p in omega (arith, i))) applications_count

  products_count : Positive expr_depth (Exprs Product n)
  products_count = chain_positive binary _ (λ b a. let i = binary_grows b a in omega (arith, i)) unaries_count

  sums_count : Positive expr_depth (Exprs Sum n)
  sums_count = chain_positive binary _ (λ b a. let i = binary_grows b a in omega (arith, i)) products_count

  consed_count : Positive expr_depth (Exprs Consed n)
  consed_count = both_positive expr_depth (maybe_binary operator.Cons) _ (maybe_counts operator.Cons) sums_count

  joined_count : Positive expr_depth (Exprs Joined n)
  joined_count = both_positive expr_depth (maybe_binary operator.Join) _ (maybe_counts operator.Join) consed_count

  comparisons_count : Positive expr_depth (Exprs Comparison n)
  comparisons_count = chain_positive binary _ (λ b a. let i = binary_grows b a in omega (arith, i)) joined_count

  conjunctions_count : Positive expr_depth (Exprs Conjunction n)
  conjunctions_count = chain_positive binary _ (λ b a. let i = binary_grows b a in omega (arith, i)) comparisons_count

  disjunctions_count : Positive expr_depth (Exprs Disjunction n)
  disjunctions_count = chain_positive binary _ (λ b a. let i = binary_grows b a in omega (arith, i)) conjunctions_count

  conditions_count : Positive expr_depth (Exprs Condition n)
  conditions_count = either_positive (made_positive expr_depth if_expr _ (λ p. let i = if_depth p in omega (arith, i))) disjunctions_count

  wholes_count : Positive expr_depth (Exprs Whole n)
  wholes_count = either_positive (made_positive expr_depth let_expr _ (λ p. let i = let_depth p in omega (arith, i))) (either_positive (made_positive expr_depth match_expr _ (λ p. let i = match_depth p in omega (arith, i)))
      (both_positive expr_depth tuple_expr _ tuple_counts conditions_count))

  parts_count : Positive expr_depth (Exprs Part n)
  parts_count = either_positive (made_positive expr_depth let_expr _ (λ p. let i = let_depth p in omega (arith, i))) (either_positive (made_positive expr_depth match_expr _ (λ p. let i = match_depth p in omega (arith, i))) conditions_count)

  pub exprs_count : (f : Form) → Positive expr_depth (Exprs f n)
  exprs_count Whole = wholes_count
  exprs_count Part = parts_count
  exprs_count Condition = conditions_count
  exprs_count Disjunction = disjunctions_count
  exprs_count Conjunction = conjunctions_count
  exprs_count Comparison = comparisons_count
  exprs_count Joined = joined_count
  exprs_count Consed = consed_count
  exprs_count Sum = sums_count
  exprs_count Product = products_count
  exprs_count Unary = unaries_count
  exprs_count Application = applications_count
  exprs_count Atom = atoms_count

pub no_expr : (f : Form) (n : ℕ) (ts : Tokens) (a : Expr) (rest : Tokens) → Exprs f n ts a rest → expr_depth a ≤ 0 → ⊥
no_expr f n ts a rest r le = let i = exprs_count n f ts a rest r in absurd (omega (arith, i, le))

pub no_arm : (n : ℕ) (ts : Tokens) (a : Arm) (rest : Tokens) → Arms n ts a rest → arm_depth a ≤ 0 → ⊥
no_arm n ts a rest r le = absurd (omega (arith, le))

-- an expression further inside
pub expr_counts : (f : Form) (n : ℕ) (ts : Tokens) (a : Expr) (rest : Tokens) → under (λ m. IsExpr m f) n ts a rest → 1 ≤ expr_depth a
expr_counts f zero ts a rest r = absurd r
expr_counts f (suc zero) ts a rest r = absurd r
expr_counts f (suc (suc n)) ts a rest r = exprs_count (suc n) f ts a rest r
