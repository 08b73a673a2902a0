-- Where a text goes wrong: the first token after which no text of the loose grammar goes on, or a
-- token with which every tree is too deep.
use Rattle.std.specs.Prelude.{◌≡◌, ℕ, pos, ◌⊎◌, List, [], ◌∷◌, ◌++◌, length, Some}
use Rattle.ligo_tokens.specs.declared.token.Token.{Token}
use Rattle.ligo_tokens.specs.declared.token.Kind.{Kind}
use Rattle.ligo_tokens.specs.declared.token.Kind.TheVariants as kind
use Rattle.ligo_tokens.specs.declared.token.Says.{Says}
use Rattle.ligo_tokens.specs.declared.token.Says.TheVariants as says
use Rattle.ligo_tokens.specs.Layout.{AreLaid}
use Rattle.ligo_syntax.specs.declared.fault.SyntaxFault.{SyntaxFault}
use Rattle.ligo_syntax.specs.declared.fault.Expected.{Expected}
use Rattle.ligo_syntax.specs.declared.fault.Expected.TheVariants as expected
use Rattle.ligo_syntax.specs.declared.pattern.Pattern.{Pattern}
use Rattle.ligo_syntax.specs.declared.expr.Expr.{Expr}
use Rattle.ligo_syntax.specs.declared.expr.ArmPattern.{ArmPattern}
use Rattle.ligo_syntax.specs.declared.program.Definition.{Definition}
use Rattle.ligo_syntax.specs.declared.program.Decl.{Decl}
use Rattle.ligo_syntax.specs.declared.program.Program.{Program}
use Rattle.ligo_syntax.specs.Kinds.{Tokens}
use Rattle.ligo_syntax.specs.TypeGrammar.{IsType, IsPattern, PatternRule, ArmPatternRule}
use Rattle.ligo_syntax.specs.AtomGrammar.{Form, Whole}
use Rattle.ligo_syntax.specs.ExprGrammar.{IsExpr}
use Rattle.ligo_syntax.specs.Grammar.{DefinitionRule, DeclRule, IsLooseText, IsText}

-- some tokens behind these make them a text of the loose grammar
abbrev pub GoesOn : Tokens → Type 0
GoesOn ts = (more : Tokens) × (ds : List Decl) × IsLooseText (ts ++ more) ds

-- and one that isn't too deep
abbrev pub Fits : Tokens → Type 0
Fits ts = (more : Tokens) × (ds : List Decl) × IsText (ts ++ more) ds

-- with the next token no text begins; at the end, these are no text
abbrev pub IsStuck : Tokens → Tokens → Type 0
IsStuck before [] = (ds : List Decl) → IsLooseText before ds → ⊥
IsStuck before (t ∷ after) = GoesOn (before ++ t ∷ []) → ⊥

-- something of this kind stands in front; the end counts as a token
abbrev pub Begins : Expected → Tokens → Type 0
Begins expected.Declaration ts = (w rest : Tokens) × (n : ℕ) × (d : Decl) × (ts ≡ w ++ rest) ×
    DeclRule (IsType n) (IsPattern n) (IsExpr n Whole) w d []
Begins expected.TypeExpr ts = (w rest : Tokens) × (n : ℕ) × (d : Definition) × (ts ≡ w ++ rest) × DefinitionRule (IsType n) w d []
Begins expected.Expression ts = (w rest : Tokens) × (n : ℕ) × (form : Form) × (e : Expr) × (ts ≡ w ++ rest) × IsExpr n form w e []
Begins expected.Pattern ts = (w rest : Tokens) × (n : ℕ) × (ts ≡ w ++ rest) ×
    (((p : Pattern) × IsPattern n w p []) ⊎ ((p : ArmPattern) × ArmPatternRule (PatternRule (IsPattern n)) w p []))
Begins expected.Token ts = Unit {0}
Begins expected.NumberInRange ts = ⊥
Begins expected.TooDeep ts = ⊥

-- the least numeral with the same suffix
abbrev pub least_says : Kind → Says
least_says kind.Tez = says.Mutez 0
least_says k = says.Number (pos 0)

-- a numeral, made the least
abbrev pub smaller : Token → Token
smaller t = record { at = t.at; kind = t.kind; says = Some (least_says t.kind) }

-- the next token is a numeral past its range, and a smaller one could stand there
abbrev pub WantsSmaller : Tokens → Tokens → Type 0
WantsSmaller before after = (t : Token) × (more : Tokens) × (after ≡ t ∷ more) × (t.says ≡ Some says.Wide) × GoesOn (before ++ smaller t ∷ [])

-- something of this kind can stand behind them
abbrev pub CanStand : Expected → Tokens → Type 0
CanStand e before = (more : Tokens) × (ds : List Decl) × Begins e more × IsLooseText (before ++ more) ds

-- what each kind says of the tokens before its place and of those from there on
abbrev pub IsPlace : Expected → Tokens → Tokens → Type 0
IsPlace expected.TooDeep before after =
    (t : Token) × (more : Tokens) × (after ≡ t ∷ more) × GoesOn (before ++ t ∷ []) × (Fits (before ++ t ∷ []) → ⊥)
IsPlace expected.NumberInRange before after = IsStuck before after × WantsSmaller before after
IsPlace e before after = IsStuck before after × CanStand e before × (WantsSmaller before after → ⊥)

-- the offset of the next token, or of the end
abbrev pub place_of : ℕ → Tokens → ℕ
place_of end [] = end
place_of end (t ∷ ts) = t.at

-- the fault of bytes, by the tokens that they are laid out as
pub record IsFaultOf (bytes : List ℕ) (f : SyntaxFault) : Type 0 where
  pub front : Tokens
  pub after : Tokens
  pub laid : AreLaid 0 bytes (front ++ after)
  pub place : f.at ≡ place_of (length bytes) after
  pub kind : IsPlace f.expected front after

-- bytes that are laid out as a text of the grammar, and how many they are
abbrev pub IsTextOf : List ℕ → Program → Type 0
IsTextOf bytes p = (ts : Tokens) × AreLaid 0 bytes ts × IsText ts p.decls × (p.end ≡ length bytes)
