-- Which programs are typed, and where one goes wrong that isn't.
use Rattle.std.specs.Prelude.{List, None, Option, Some, [], false, length, true, ◌++◌, ◌∷◌, ◌≡◌}
use Rattle.ligo_syntax.specs.declared.program.Decl.{Decl}
use Rattle.ligo_syntax.specs.declared.program.Decl.TheVariants as decl
use Rattle.ligo_syntax.specs.declared.program.Program.{Program}
use Rattle.ligo_syntax.specs.declared.program.TypeDecl.{TypeDecl}
use Rattle.ligo_syntax.specs.declared.program.ValueDecl.{ValueDecl}
use Rattle.ligo_typer.specs.declared.fault.LigoFault.{LigoFault}
use Rattle.ligo_typer.specs.declared.fault.LigoKind.{LigoKind}
use Rattle.ligo_typer.specs.declared.fault.LigoKind.TheVariants as kind
use Rattle.ligo_typer.specs.declared.source_type.SrcTy.{SrcTy}
use Rattle.ligo_typer.specs.declared.typed_expr.TypedExpr.{TypedExpr}
use Rattle.ligo_typer.specs.declared.typed_program.TypedProgram.{TypedProgram}
use Rattle.ligo_typer.specs.Entries.{Above, BreaksEntry, IsEntry, is_entry, nothing_above}
use Rattle.ligo_typer.specs.Faults.{IsOneOf, fault}
use Rattle.ligo_typer.specs.TypeDecls.{type_decl_faults, with_type}
use Rattle.ligo_typer.specs.Typing.{IsFaulty, IsTyped}
use Rattle.ligo_typer.specs.ValueDecls.{body_of, head_faults, typed_decl, with_value}

-- behind the declaration of a type
abbrev pub behind_type : Above → TypeDecl → Above
behind_type a d = record { known = with_type a.known d; decls = a.decls; storage = a.storage; params = a.params }

-- behind the declaration of a value
abbrev pub behind_value : Above → ValueDecl → TypedExpr → Option SrcTy → List SrcTy → Above
behind_value a d x storage params = record {
  known = with_value a.known (length a.decls) d x.of;
  decls = a.decls ++ typed_decl a.known d x ∷ [];
  storage = storage;
  params = params;
}

-- a declaration is typed, and this is above the next
pub data IsDeclared (a : Above) : Decl → Above → Type 0 where
  a_type : (d : TypeDecl) → type_decl_faults a.known d ≡ [] → IsDeclared a (decl.Type d) (behind_type a d)
  a_value : (d : ValueDecl) (x : TypedExpr) → is_entry d ≡ false → head_faults a.known d ≡ [] →
      IsTyped a.known (body_of a.known d) x → IsDeclared a (decl.Value d) (behind_value a d x a.storage a.params)
  an_entry : (d : ValueDecl) (x : TypedExpr) (param storage : SrcTy) → is_entry d ≡ true → head_faults a.known d ≡ [] →
      IsTyped a.known (body_of a.known d) x → IsEntry a d x.of param storage →
      IsDeclared a (decl.Value d) (behind_value a d x (Some storage) (a.params ++ param ∷ []))

-- a rule that a declaration breaks
pub data BreaksIn (a : Above) : Decl → LigoFault → Type 0 where
  in_a_type : (d : TypeDecl) (f : LigoFault) → IsOneOf (type_decl_faults a.known d) f → BreaksIn a (decl.Type d) f
  in_a_head : (d : ValueDecl) (f : LigoFault) → IsOneOf (head_faults a.known d) f → BreaksIn a (decl.Value d) f
  in_a_body : (d : ValueDecl) (f : LigoFault) → head_faults a.known d ≡ [] → IsFaulty a.known (body_of a.known d) f → BreaksIn a (decl.Value d) f
  as_an_entry : (d : ValueDecl) (x : TypedExpr) (k : LigoKind) → is_entry d ≡ true → head_faults a.known d ≡ [] →
      IsTyped a.known (body_of a.known d) x → BreaksEntry a d x.of k → BreaksIn a (decl.Value d) (fault k d.at)

-- ---- programs

-- declarations, one after another
pub data AreDeclared : Above → List Decl → Above → Type 0 where
  none : (a : Above) → AreDeclared a [] a
  one_more : (a b c : Above) (d : Decl) (ds : List Decl) → IsDeclared a d b → AreDeclared b ds c → AreDeclared a (d ∷ ds) c

-- a program is typed so: each declaration is, and some are entries
pub record IsTypedProgram (p : Program) (t : TypedProgram) : Type 0 where
  pub above : Above
  pub declared : AreDeclared nothing_above p.decls above
  pub decls : t.decls ≡ above.decls
  pub storage : above.storage ≡ Some t.storage

-- the declaration behind those before it, which are typed, with what stands above it
pub record Stands (p : Program) (before : List Decl) (d : Decl) (a : Above) : Type 0 where
  pub after : List Decl
  pub parts : p.decls ≡ before ++ d ∷ after
  pub declared : AreDeclared nothing_above before a

-- the fault of a program: in the first declaration that isn't typed, or at the end that none is an entry
pub data IsProgramFault (p : Program) : LigoFault → Type 0 where
  in_a_declaration : (before : List Decl) (d : Decl) (a : Above) (f : LigoFault) →
      Stands p before d a → BreaksIn a d f → IsProgramFault p f
  no_entry : (a : Above) → AreDeclared nothing_above p.decls a → a.storage ≡ None → IsProgramFault p (fault kind.NoEntry p.end)
