-- Whether an expression has a type by itself, by its form.
use Rattle.std.specs.List.{list_all, list_any}
use Rattle.std.specs.Prelude.{Bool, List, None, Option, Some, [], false, not, true, ◌&&◌, ◌||◌, ◌∷◌}
use Rattle.ligo_syntax.specs.declared.expr.Expr.{Expr}
use Rattle.ligo_syntax.specs.declared.expr.ExprForm.TheFolds.{fold-Expr}
use Rattle.ligo_syntax.specs.declared.expr.ExprForm.TheOpen as expr
use Rattle.ligo_syntax.specs.declared.expr.ExprForm.TheOpen.{ExprForm-F}
use Rattle.ligo_syntax.specs.declared.expr.Operator.TheVariants as operator
use Rattle.ligo_typer.specs.declared.builtin.Library.{Library}
use Rattle.ligo_typer.specs.declared.builtin.Library.TheVariants as library
use Rattle.ligo_typer.specs.Libraries.{library_of}
use Rattle.ligo_typer.specs.Scopes.{Known, meaning_of}
use Rattle.ligo_typer.specs.Shapes.{CaseOf, NothingOf, latest_case}
use Rattle.ligo_typer.specs.Sights.{Maker, NoHead, OfLibrary, Sight, Value, alone_of, applied_alone, first_is, heading, plain}

abbrev pub is_empty_map : Option Library → Bool
is_empty_map (Some library.EmptyMap) = true
is_empty_map l = false

abbrev pub is_nothing : Option CaseOf → Bool
is_nothing (Some NothingOf) = true
is_nothing c = false

-- a tuple: two parts are a pair
abbrev pub is_pair : List Sight → Bool
is_pair (s ∷ t ∷ []) = s.alone && t.alone
is_pair ss = false

-- one level of an expression, by what is seen of its parts
abbrev pub sight_level : Known → ExprForm-F Sight Bool Sight Bool → Sight
sight_level known (expr.Let q t e f) = plain f.alone
sight_level known (expr.Match e arms) = plain (list_any (λ b. b) arms)
sight_level known (expr.If c a None) = plain true
sight_level known (expr.If c a (Some b)) = plain (a.alone || b.alone)
sight_level known (expr.Tuple es) = record { alone = list_all alone_of es; head = NoHead; pair = is_pair es; pairs = false }
sight_level known (expr.Binary operator.Cons a b) = plain a.alone
sight_level known (expr.Apply f es) = plain (applied_alone f.head es)
sight_level known (expr.Name word) = heading true (Value (meaning_of known.values word))
sight_level known (expr.Library upper lower) = heading (not (is_empty_map (library_of upper lower))) (OfLibrary (library_of upper lower))
sight_level known (expr.Constructor word) = heading (not (is_nothing (latest_case known word))) (Maker (latest_case known word))
sight_level known (expr.Brackets e) = record { alone = e.alone; head = NoHead; pair = e.pair; pairs = e.pairs }
sight_level known (expr.List es) = record { alone = first_is alone_of es; head = NoHead; pair = false; pairs = first_is (λ s. s.pair) es }
sight_level known (expr.With e fields) = plain e.alone
sight_level known form = plain true

-- what is seen of an expression
abbrev pub sight : Known → Expr → Sight
sight known = fold-Expr Sight Bool Sight Bool (sight_level known) (λ a. a.body.alone) (λ e. e.form) (λ f. true)

-- whether it has a type by itself, by its form
abbrev pub stands_alone : Known → Expr → Bool
stands_alone known e = (sight known e).alone
