-- Entries: what is asked of their params, their result and the storage.
use Rattle.std.specs.List.{list_any}
use Rattle.std.specs.Prelude.{Bool, List, None, Option, [], false, map, true, ℕ, ◌++◌, ◌∷◌, ◌≡◌}
use Rattle.value_core.specs.Leaves.{is_name}
use Rattle.value_core.specs.declared.ty.Ty.{Ty}
use Rattle.value_core.specs.declared.ty.Ty.TheVariants as image
use Rattle.michelson_code.specs.WrittenTypes.{has_storage_big_maps, is_free_of_big_maps, is_kept}
use Rattle.ligo_syntax.specs.declared.program.Attribute.{Attribute}
use Rattle.ligo_syntax.specs.declared.program.Attribute.TheVariants as attribute
use Rattle.ligo_syntax.specs.declared.program.ValueDecl.{ValueDecl}
use Rattle.ligo_typer.specs.declared.fault.LigoKind.{LigoKind}
use Rattle.ligo_typer.specs.declared.fault.LigoKind.TheVariants as kind
use Rattle.ligo_typer.specs.declared.source_type.SrcTy.{SrcTy}
use Rattle.ligo_typer.specs.declared.source_type.SrcTy.TheVariants as type
use Rattle.ligo_typer.specs.declared.typed_program.TypedDecl.{TypedDecl}
use Rattle.ligo_typer.specs.Faults.{IsOneOf}
use Rattle.ligo_typer.specs.Image.{right_comb, ty_image}
use Rattle.ligo_typer.specs.Limits.{is_narrow, unless}
use Rattle.ligo_typer.specs.Params.{param_types}
use Rattle.ligo_typer.specs.Scopes.{Known}
use Rattle.ligo_typer.specs.Typing.{Expects}

abbrev pub is_entry_mark : Attribute → Bool
is_entry_mark attribute.Entry = true
is_entry_mark attribute.Inline = false

abbrev pub is_entry : ValueDecl → Bool
is_entry d = list_any is_entry_mark d.attributes

-- what an entry gives
abbrev pub entry_result : SrcTy → SrcTy
entry_result storage = type.Tuple (type.List type.Operation ∷ storage ∷ [])

-- by the rules of Michelson on parameter and storage
abbrev pub parameter_kinds : Ty → List LigoKind
parameter_kinds t = unless (is_kept t) kind.Mismatch ++ unless (is_free_of_big_maps t) kind.BigMapPlace

abbrev pub storage_kinds : Ty → List LigoKind
storage_kinds t = unless (is_kept t) kind.Mismatch ++ unless (has_storage_big_maps t) kind.BigMapPlace

-- the parameter with all entries so far
abbrev pub parameter_image : List SrcTy → Ty
parameter_image ts = right_comb image.Or (map ty_image ts)

-- what is wrong with an entry of such a param and such a storage behind those of these params
abbrev pub entry_kinds : List ℕ → List SrcTy → SrcTy → SrcTy → List LigoKind
entry_kinds word above t s =
    unless (is_name word) kind.Mismatch
    ++ (parameter_kinds (ty_image t)
    ++ (storage_kinds (ty_image s)
    ++ unless (is_narrow (parameter_image (above ++ t ∷ []))) kind.TooWide))

-- what stands above a declaration: what is known, the typed values, and of the entries the storage and the params
pub record Above : Type 0 where
  pub known : Known
  pub decls : List TypedDecl
  pub storage : Option SrcTy
  pub params : List SrcTy

-- above the first declaration
abbrev pub nothing_above : Above
nothing_above = record { known = record { types = []; shapes = []; values = [] }; decls = []; storage = None; params = [] }

-- an entry with that param and that storage
pub record IsEntry (a : Above) (d : ValueDecl) (result param storage : SrcTy) : Type 0 where
  pub params : param_types a.known d ≡ param ∷ storage ∷ []
  pub result_is : result ≡ entry_result storage
  pub one_storage : Expects a.storage storage
  pub rules : entry_kinds d.name.word a.params param storage ≡ []

-- what an entry that is none breaks
pub data BreaksEntry (a : Above) (d : ValueDecl) (result : SrcTy) : LigoKind → Type 0 where
  no_two_params : ((t s : SrcTy) → param_types a.known d ≡ t ∷ s ∷ [] → ⊥) → BreaksEntry a d result kind.Mismatch
  other_result : (t s : SrcTy) → param_types a.known d ≡ t ∷ s ∷ [] → (result ≡ entry_result s → ⊥) → BreaksEntry a d result kind.Mismatch
  other_storage : (t s : SrcTy) → param_types a.known d ≡ t ∷ s ∷ [] → (Expects a.storage s → ⊥) → BreaksEntry a d result kind.Mismatch
  a_rule : (t s : SrcTy) (k : LigoKind) → param_types a.known d ≡ t ∷ s ∷ [] → IsOneOf (entry_kinds d.name.word a.params t s) k → BreaksEntry a d result k
