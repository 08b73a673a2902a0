-- Literals and names: how they are typed.
use Rattle.std.specs.Prelude.{Bool, List, None, Option, Some, false, if◌then◌else◌, true, ℕ}
use Rattle.value_core.specs.Leaves.{is_address}
use Rattle.ligo_syntax.specs.declared.expr.Literal.{Literal}
use Rattle.ligo_syntax.specs.declared.expr.Literal.TheVariants as literal
use Rattle.ligo_typer.specs.declared.builtin.Library.{Library}
use Rattle.ligo_typer.specs.declared.builtin.Library.TheVariants as library
use Rattle.ligo_typer.specs.declared.fault.LigoKind.TheVariants as kind
use Rattle.ligo_typer.specs.declared.source_type.SrcTy.TheVariants as type
use Rattle.ligo_typer.specs.declared.typed_expr.TypedForm.TheVariants as form
use Rattle.ligo_typer.specs.Plans.{Gives, Part, Plan, wants, wrong}
use Rattle.ligo_typer.specs.Scopes.{Constant, Local, Meaning, Truth}
use Rattle.ligo_typer.specs.Views.{is_address_type, map_parts}

module _ (p : Part) where
  -- a bytes literal against address is one
  abbrev pub bytes_plan : List ℕ → Bool → Plan
  bytes_plan bytes true = if is_address bytes then Gives type.Addr (form.Addr bytes) else wrong p kind.Mismatch
  bytes_plan bytes false = Gives type.Bytes (form.Literal (literal.Bytes bytes))

  abbrev pub literal_plan : Literal → Plan
  literal_plan (literal.Int n) = Gives type.Int (form.Literal (literal.Int n))
  literal_plan (literal.Nat n) = Gives type.Nat (form.Literal (literal.Nat n))
  literal_plan (literal.Tez n) = Gives type.Tez (form.Literal (literal.Tez n))
  literal_plan (literal.Text bytes) = Gives type.Text (form.Literal (literal.Text bytes))
  literal_plan (literal.Bytes bytes) = bytes_plan bytes (is_address_type p.expected)

  -- a name of a value; a function is none
  abbrev pub name_plan : List ℕ → Option Meaning → Plan
  name_plan word None = wrong p kind.Unknown
  name_plan word (Some (Local t)) = Gives t (form.Local word)
  name_plan word (Some (Constant n t)) = Gives t (form.Constant n)
  name_plan word (Some (Truth b)) = Gives type.Bool (form.Bool b)
  name_plan word (Some m) = wrong p kind.HigherOrder

  -- a name of a library alone: `Map.empty` takes its type from its place
  abbrev pub library_plan : Option Library → Plan
  library_plan None = wrong p kind.LeftOut
  library_plan (Some library.EmptyMap) =
      wants p map_parts (wrong p kind.NeedsType) (λ kv. Gives (type.Map kv.0 kv.1) form.EmptyMap)
  library_plan (Some l) = wrong p kind.HigherOrder
