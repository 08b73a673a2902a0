-- Pairs that are written out, in brackets or not.
use Rattle.std.specs.Prelude.{List, None, Option, Some, [], suc, zero, ℕ, ◌∷◌}
use Rattle.ligo_syntax.specs.declared.expr.Arm.{Arm}
use Rattle.ligo_syntax.specs.declared.expr.Expr.{Expr}
use Rattle.ligo_syntax.specs.declared.expr.ExprForm.{ExprForm, size-ExprForm}
use Rattle.ligo_syntax.specs.declared.expr.ExprForm.TheOpen as expr
use Rattle.ligo_syntax.specs.declared.expr.ExprForm.TheOpen.{ExprForm-F}
use Rattle.ligo_syntax.specs.declared.expr.ExprForm.TheViews.{out-ExprForm}
use Rattle.ligo_syntax.specs.declared.expr.ValueField.{ValueField}

-- what stands in brackets
abbrev pub in_brackets : (Expr → Expr) → Expr → ExprForm-F ExprForm Arm Expr ValueField → Expr
in_brackets next e (expr.Brackets f) = next f
in_brackets next e form = e

-- out of at most so many
abbrev pub taken_out : ℕ → Expr → Expr
taken_out zero e = e
taken_out (suc n) e = in_brackets (taken_out n) e (out-ExprForm e.form)

-- without the brackets around it
abbrev pub unbracketed : Expr → Expr
unbracketed e = taken_out (size-ExprForm e.form) e

abbrev pub with_first : {A : Type 0} → Option A → Option (List A) → Option (List A)
with_first (Some a) (Some as') = Some (a ∷ as')
with_first a as' = None

abbrev pub pair_level : ExprForm-F ExprForm Arm Expr ValueField → Option (Expr × Expr)
pair_level (expr.Tuple (k ∷ v ∷ [])) = Some (k, v)
pair_level form = None

-- a pair, in brackets or not
abbrev pub written_pair : Expr → Option (Expr × Expr)
written_pair e = pair_level (out-ExprForm (unbracketed e).form)

abbrev pub all_pairs : List Expr → Option (List (Expr × Expr))
all_pairs [] = Some []
all_pairs (e ∷ es) = with_first (written_pair e) (all_pairs es)

abbrev pub pairs_level : ExprForm-F ExprForm Arm Expr ValueField → Option (List (Expr × Expr))
pairs_level (expr.List es) = all_pairs es
pairs_level form = None

-- a list of pairs, in brackets or not
abbrev pub written_pairs : Expr → Option (List (Expr × Expr))
written_pairs e = pairs_level (out-ExprForm (unbracketed e).form)
