-- The grammar without greed: where something may go on it need not, so a text may have several trees.
use Rattle.std.specs.Prelude.{ℕ, zero, suc, List, []}
use Rattle.ligo_syntax.specs.declared.expr.Expr.{Expr}
use Rattle.ligo_syntax.specs.declared.program.Decl.{Decl}
use Rattle.ligo_syntax.specs.Kinds.{Tokens}
use Rattle.ligo_syntax.specs.Rules.{Rule, Never, Repeated, free}
use Rattle.ligo_syntax.specs.TypeGrammar.{PatternRule, IsType, IsPattern}
use Rattle.ligo_syntax.specs.AtomGrammar.{Form, Whole}
use Rattle.ligo_syntax.specs.ExprGrammar.{FormRule}
use Rattle.ligo_syntax.specs.Grammar.{DeclRule}

-- with one in another at most so often
abbrev pub IsFreeExpr : ℕ → Form → Rule Expr
IsFreeExpr zero form = Never
IsFreeExpr (suc n) form =
    FormRule free (IsType n) (IsPattern n) (PatternRule (IsPattern n)) (IsFreeExpr n) form

-- program = { decl }
abbrev pub IsFreeProgram : ℕ → Rule (List Decl)
IsFreeProgram n = Repeated (DeclRule (IsType n) (IsPattern n) (IsFreeExpr n Whole))

-- a text of it, in which a tree may be of any depth
abbrev pub IsFreeText : Tokens → List Decl → Type 0
IsFreeText ts ds = (n : ℕ) × IsFreeProgram n ts ds []
