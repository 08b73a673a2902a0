-- Reading atoms and applications.
use Rattle.std.specs.Prelude.{ℕ, zero, suc, List, [], ◌∷◌, Option, Some, None}
use Rattle.ligo_tokens.specs.declared.token.Token.{Token}
use Rattle.ligo_tokens.specs.declared.token.Kind.TheVariants as kind
use Rattle.ligo_syntax.specs.declared.fault.Expected.TheVariants as expected
use Rattle.ligo_syntax.specs.declared.expr.Expr.{Expr}
use Rattle.ligo_syntax.specs.declared.expr.ExprForm.{ExprForm}
use Rattle.ligo_syntax.specs.declared.expr.ExprForm.TheOpen as expr
use Rattle.ligo_syntax.specs.declared.expr.ExprForm.TheOpen.{ExprForm-F}
use Rattle.ligo_syntax.specs.declared.expr.ExprForm.TheViews.{out-ExprForm}
use Rattle.ligo_syntax.specs.declared.name.Name.{Name}
use Rattle.ligo_syntax.specs.declared.expr.ValueField.{ValueField}
use Rattle.ligo_syntax.specs.declared.expr.Arm.{Arm}
use Rattle.ligo_syntax.specs.Classes.{name_kinds, leaf_kinds, link_kinds, atom_firsts, expr_firsts}
use Rattle.ligo_syntax.specs.Readers.{Reader, then_do, one_of, both, made, either, repeated, too_deep, before, chain}
use Rattle.ligo_syntax.specs.Phrases.{key, from, closed, optional, parted, more_of, listed}
use Rattle.ligo_syntax.specs.AtomTrees.{leaf_expr, dotted, upper_expr, paren_expr, list_expr, field_of, record_inside, with_inside, brace_expr}
use Rattle.ligo_syntax.specs.ExprTrees.{applied}
use Rattle.ligo_syntax.specs.Depth.{expr_depth}
use Rattle.ligo_syntax.specs.AtomGrammar.{Form, Whole, Atom}
use Rattle.ligo_syntax.specs.TypeReading.{token, read_type}

-- digits or a name behind an upper name and a dot: digits make it deeper
abbrev pub upper_link_at : ℕ → Reader Token
upper_link_at zero = either (kind.Int ∷ []) (too_deep expected.Token (kind.Int ∷ [])) (token name_kinds)
upper_link_at (suc d) = token link_kinds

-- a name alone
abbrev pub name_in : ExprForm-F ExprForm Arm Expr ValueField → Option (List ℕ)
name_in (expr.Name word) = Some word
name_in form = None

-- the word of an expression that is a name alone
abbrev pub name_alone : Expr → Option (List ℕ)
name_alone e = name_in (out-ExprForm e.form)

-- what is read at depth d in expressions of depth d + 1
module _ (d : ℕ) (e : Form → Reader Expr) (arm : Reader Arm) where
  -- brackets
  abbrev pub paren_rule : Reader Expr
  paren_rule = made paren_expr (from kind.OpenParen (either (kind.CloseParen ∷ [])
      (made (λ t. None) (token (kind.CloseParen ∷ [])))
      (made Some (closed (both (e Whole) (optional (kind.Colon ∷ []) (key kind.Colon (read_type d)))) kind.CloseParen))))

  -- a list that is written out
  abbrev pub square_rule : Reader Expr
  square_rule = made list_expr (from kind.OpenSquare (closed (optional expr_firsts (listed expr_firsts (e Whole))) kind.CloseSquare))

  -- a field and its value
  abbrev pub field_rule : Reader ValueField
  field_rule = made field_of (both (token name_kinds) (key kind.Equals (e Whole)))

  -- `= value` and more fields, behind the name of the first
  abbrev pub record_rest : Name → Reader (ℕ × ExprForm)
  record_rest name = made (λ (p : Expr × List ValueField). record_inside (record { name = name; value = p.0 } ∷ p.1))
      (both (key kind.Equals (e Whole)) (more_of name_kinds field_rule))

  -- `with` and fields, behind what they replace
  abbrev pub with_rest : Expr → Reader (ℕ × ExprForm)
  with_rest first = made (λ (p : ValueField × List ValueField). with_inside (first, p))
      (key kind.With (parted field_rule kind.Semicolon field_rule))

  -- a name alone may be that of a field
  abbrev pub brace_rest : Expr → Option (List ℕ) → Reader (ℕ × ExprForm)
  brace_rest first None = with_rest first
  brace_rest first (Some word) = either (kind.Equals ∷ []) (record_rest (record { at = first.at; word = word })) (with_rest first)

  -- what stands in braces
  abbrev pub brace_inside : Reader (ℕ × ExprForm)
  brace_inside ts = then_do (e Atom ts) (λ first rest. brace_rest first (name_alone first) rest)

  -- braces
  abbrev pub brace_rule : Reader Expr
  brace_rule = made brace_expr (from kind.OpenBrace (closed brace_inside kind.CloseBrace))

  -- an upper name
  abbrev pub upper_rule : Reader Expr
  upper_rule = made upper_expr (both (token (kind.Upper ∷ [])) (optional (kind.Dot ∷ []) (key kind.Dot (upper_link_at d))))

  -- what stands alone
  abbrev pub base_rule : Reader Expr
  base_rule = either (kind.OpenParen ∷ []) paren_rule (either (kind.OpenSquare ∷ []) square_rule
      (either (kind.OpenBrace ∷ []) brace_rule (either (kind.Upper ∷ []) upper_rule
      (made leaf_expr (one_of expected.Expression leaf_kinds)))))

  -- the same with dots
  abbrev pub atom_rule : Reader Expr
  atom_rule = chain expr_depth (suc d) dotted base_rule (kind.Dot ∷ []) (key kind.Dot (token link_kinds))

  -- a function and its arguments
  abbrev pub application_rule : Reader Expr
  application_rule = made applied (both (before expr_depth (suc d) atom_firsts atom_rule) (repeated atom_firsts (e Atom)))
