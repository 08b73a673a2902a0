-- Calls of functions of the language: how they are typed.
use Rattle.std.specs.Prelude.{List, None, Option, Some, [], if◌then◌else◌, ◌∷◌}
use Rattle.value_core.specs.Kinds.{is_passable}
use Rattle.ligo_syntax.specs.declared.expr.Expr.{Expr}
use Rattle.ligo_typer.specs.declared.builtin.Builtin.{Builtin}
use Rattle.ligo_typer.specs.declared.builtin.Builtin.TheVariants as builtin
use Rattle.ligo_typer.specs.declared.fault.LigoKind.TheVariants as kind
use Rattle.ligo_typer.specs.declared.source_type.SrcTy.{SrcTy}
use Rattle.ligo_typer.specs.declared.source_type.SrcTy.TheVariants as type
use Rattle.ligo_typer.specs.declared.typed_expr.TypedExpr.{TypedExpr}
use Rattle.ligo_typer.specs.declared.typed_expr.TypedForm.TheVariants as form
use Rattle.ligo_typer.specs.Image.{ty_image}
use Rattle.ligo_typer.specs.Libraries.{signature}
use Rattle.ligo_typer.specs.Plans.{Gives, Part, Plan, against, alone, ask, ask_two, by_found, handed, wants, wrong}
use Rattle.ligo_typer.specs.Views.{contract_option, contract_part}

module _ (p : Part) where
  -- the value of `failwith` is passable
  abbrev pub fail_given : SrcTy → TypedExpr → Plan
  fail_given t x = if is_passable (ty_image x.of) then Gives t (form.Builtin builtin.Failwith (x ∷ [])) else wrong p kind.Mismatch

  -- the map first, then its keys and values against it
  abbrev pub on_map : Builtin → List Expr → TypedExpr → SrcTy × SrcTy → Plan
  on_map builtin.FindOpt (k ∷ m ∷ []) z (t, u) = ask (against p t k) (λ x. Gives (type.Option u) (form.Builtin builtin.FindOpt (x ∷ z ∷ [])))
  on_map builtin.Mem (k ∷ m ∷ []) z (t, u) = ask (against p t k) (λ x. Gives type.Bool (form.Builtin builtin.Mem (x ∷ z ∷ [])))
  on_map builtin.Add (k ∷ v ∷ m ∷ []) z (t, u) =
      ask_two (against p t k) (against p u v) (λ x y. Gives z.of (form.Builtin builtin.Add (x ∷ y ∷ z ∷ [])))
  on_map builtin.Remove (k ∷ m ∷ []) z (t, u) = ask (against p t k) (λ x. Gives z.of (form.Builtin builtin.Remove (x ∷ z ∷ [])))
  on_map builtin.Update (k ∷ o ∷ m ∷ []) z (t, u) =
      ask_two (against p t k) (against p (type.Option u) o) (λ x y. Gives z.of (form.Builtin builtin.Update (x ∷ y ∷ z ∷ [])))
  on_map b es z kv = wrong p kind.HigherOrder

  -- what is expected is handed to the map where it is given back
  abbrev pub map_part : Builtin → Expr → Part
  map_part builtin.Add m = handed p m
  map_part builtin.Remove m = handed p m
  map_part builtin.Update m = handed p m
  map_part b m = alone p m

  abbrev pub map_plan : (SrcTy → Option (SrcTy × SrcTy)) → Builtin → List Expr → Plan
  map_plan view b (k ∷ m ∷ []) = ask (map_part b m) (λ z. by_found p (on_map b (k ∷ m ∷ []) z) (view z.of))
  map_plan view b (k ∷ v ∷ m ∷ []) = ask (map_part b m) (λ z. by_found p (on_map b (k ∷ v ∷ m ∷ []) z) (view z.of))
  map_plan view b es = wrong p kind.HigherOrder

  abbrev pub transaction_plan : Expr → Expr → Expr → Plan
  transaction_plan a n c = ask (alone p c) (λ z. by_found p (λ t. ask_two (against p t a) (against p type.Tez n)
      (λ x y. Gives type.Operation (form.Builtin builtin.Transaction (x ∷ y ∷ z ∷ [])))) (contract_part z.of))

  abbrev pub signed_plan : Builtin → Expr → Option (SrcTy × SrcTy) → Plan
  signed_plan b e None = wrong p kind.HigherOrder
  signed_plan b e (Some (t, u)) = ask (against p t e) (λ x. Gives u (form.Builtin b (x ∷ [])))

  -- a function of the language on arguments, as many as it takes
  abbrev pub builtin_on : Builtin → List Expr → Plan
  builtin_on builtin.Failwith (e ∷ []) = wants p Some (wrong p kind.NeedsType) (λ t. ask (alone p e) (fail_given t))
  builtin_on builtin.GetContractOpt (e ∷ []) = wants p contract_option (wrong p kind.NeedsType) (λ t. ask (against p type.Addr e)
      (λ x. Gives (type.Option (type.Contract t)) (form.Builtin builtin.GetContractOpt (x ∷ []))))
  builtin_on builtin.Transaction (a ∷ n ∷ c ∷ []) = transaction_plan a n c
  builtin_on b (e ∷ []) = signed_plan b e (signature b)
  builtin_on b es = wrong p kind.HigherOrder
