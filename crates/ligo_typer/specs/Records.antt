-- Records: how they are written out, changed and read.
use Rattle.std.specs.List.{filter_map}
use Rattle.std.specs.Prelude.{List, None, Option, Some, [], if◌then◌else◌, is_some, length, map, ℕ, ◌++◌, ◌==◌, ◌∷◌}
use Rattle.ligo_syntax.specs.declared.expr.Expr.{Expr}
use Rattle.ligo_syntax.specs.declared.expr.ValueField.{ValueField}
use Rattle.ligo_syntax.specs.declared.name.Name.{Name}
use Rattle.ligo_typer.specs.declared.fault.LigoKind.TheVariants as kind
use Rattle.ligo_typer.specs.declared.source_type.SrcTy.{SrcTy}
use Rattle.ligo_typer.specs.declared.typed_expr.TypedExpr.{TypedExpr}
use Rattle.ligo_typer.specs.declared.typed_expr.TypedField.{TypedField}
use Rattle.ligo_typer.specs.declared.typed_expr.TypedForm.TheVariants as form
use Rattle.ligo_typer.specs.Faults.{Faults, fault, faults_at, of_each, repeated_as}
use Rattle.ligo_typer.specs.Limits.{type_breaches}
use Rattle.ligo_typer.specs.Names.{Named, first_of, place_of}
use Rattle.ligo_typer.specs.Plans.{Asks, Breaks, Gives, Part, Plan, against, alone, ask, handed, sound, wrong, zip_with}
use Rattle.ligo_typer.specs.Scopes.{Known}
use Rattle.ligo_typer.specs.Shapes.{is_field, record_of}
use Rattle.ligo_typer.specs.Views.{fields_in, record_fields}

module _ (known : Known) (p : Part) where
  -- nothing declares the field
  abbrev pub unknown_field : ValueField → Faults
  unknown_field f = if is_field known f.name.word then [] else fault kind.Unknown f.name.at ∷ []

  -- a field that the type hasn't is declared elsewhere, or nowhere
  abbrev pub field_faults : Named SrcTy → ValueField → Faults
  field_faults fields f =
      if is_some (place_of f.name.word fields) then []
      else fault (if is_field known f.name.word then kind.Mismatch else kind.Unknown) f.name.at ∷ []

  abbrev pub fields_faults : Named SrcTy → List ValueField → Faults
  fields_faults fields written =
      of_each (field_faults fields) written ++ repeated_as kind.Mismatch (map (λ (f : ValueField). (f.name.word, f.name.at)) written)

  -- the place and the type of each
  abbrev pub field_places : Named SrcTy → List ValueField → List (ℕ × SrcTy)
  field_places fields written = filter_map (λ (f : ValueField). place_of f.name.word fields) written

  abbrev pub typed_field : ℕ × SrcTy → TypedExpr → TypedField
  typed_field q x = record { place = q.0; value = x }

  -- each field against its type
  abbrev pub fields_asked : Named SrcTy → List ValueField → (List TypedField → Plan) → Plan
  fields_asked fields written next = let places = field_places fields written in
      Asks (zip_with (λ (q : ℕ × SrcTy) (f : ValueField). against p q.1 f.value) places written) (λ xs. next (zip_with typed_field places xs))

  -- all fields of a type
  abbrev pub record_against : List ValueField → SrcTy → Option (Named SrcTy) → Plan
  record_against written t None = sound (fields_faults [] written) (wrong p kind.Mismatch)
  record_against written t (Some fields) = sound (faults_at p.expr.at (type_breaches t)) (sound (fields_faults fields written)
      (if length written == length fields then fields_asked fields written (λ xs. Gives t (form.Record xs)) else wrong p kind.Mismatch))

  -- without a type: of the latest with exactly these fields
  abbrev pub record_alone : List ValueField → Option SrcTy → Plan
  record_alone written None = sound (of_each unknown_field written) (wrong p kind.Mismatch)
  record_alone written (Some t) = record_against written t (record_fields t)

  abbrev pub record_plan : List ValueField → Plan
  record_plan written = record_alone written (first_of p.expected (record_of known (map (λ (f : ValueField). f.name.word) written)))

  -- some fields of the record before `with`
  abbrev pub with_plan : Expr → List ValueField → Plan
  with_plan e written = ask (handed p e) (λ x. sound (fields_faults (fields_in x.of) written)
      (fields_asked (fields_in x.of) written (λ xs. Gives x.of (form.With x xs))))

  abbrev pub field_found : Name → TypedExpr → Option (ℕ × SrcTy) → Plan
  field_found name x (Some (place, t)) = Gives t (form.Field x place)
  field_found name x None = if is_field known name.word then wrong p kind.Mismatch else Breaks (fault kind.Unknown name.at ∷ [])

  abbrev pub field_plan : Expr → Name → Plan
  field_plan e name = ask (alone p e) (λ x. field_found name x (place_of name.word (fields_in x.of)))
