-- Entries of a parameter: the nodes that `or` alone reaches, their names, and the params that calls of them are wrapped in.
use Rattle.std.specs.Prelude.{ℕ, Bool, true, false, ◌&&◌, List, [], ◌∷◌, codes, if◌then◌else◌, Option, None, Some}
use Rattle.std.specs.Option.{option_and_then}
use Rattle.std.specs.Str.{bytes_eq}
use Rattle.value_core.specs.declared.ty.Ty.{Ty}
use Rattle.value_core.specs.declared.ty.Ty.TheOpen as ty
use Rattle.value_core.specs.declared.ty.Ty.TheOpen.{Ty-F}
use Rattle.value_core.specs.declared.ty.Ty.TheViews.{out-Ty}
use Rattle.value_core.specs.declared.val.Val.{Val}
use Rattle.value_core.specs.declared.val.Val.TheVariants as value
use Rattle.michelson_code.specs.declared.script.Script.{Script}
use Rattle.michelson_code.specs.declared.script.Side.{Side}
use Rattle.michelson_code.specs.declared.script.Side.TheVariants.{Left, Right}

-- the way from the parameter's root to a node
abbrev pub Path : Type 0
Path = List Side

-- an entry with a name: the way to its node, and the name that stands there
abbrev pub NamedEntry : Type 0
NamedEntry = Path × List ℕ

-- one level of a type: its part on a side, where it is an `or`
abbrev pub part_at : Side → Ty-F Ty → Option Ty
part_at Left (ty.Or s t) = Some s
part_at Right (ty.Or s t) = Some t
part_at side x = None

-- the type at the end of a way through `or` alone
abbrev pub type_at : Path → Ty → Option Ty
type_at [] t = Some t
type_at (side ∷ path) t = option_and_then (type_at path) (part_at side (out-Ty t))

-- a value as the case of a side
abbrev pub as_case : Side → Val → Val
as_case Left v = value.Left v
as_case Right v = value.Right v

-- a param in the Lefts and Rights of a way
abbrev pub wrapped : Path → Val → Val
wrapped [] v = v
wrapped (side ∷ path) v = as_case side (wrapped path v)

-- the way to the node of a name; `default` is the whole parameter where no node has that name
abbrev pub path_of : List ℕ → List NamedEntry → Option Path
path_of name [] = if bytes_eq name (codes "default") then Some [] else None
path_of name (e ∷ entries) = if bytes_eq name e.1 then Some e.0 else path_of name entries

-- the type of the entry of a name
abbrev pub entry_type : Script → List ℕ → Option Ty
entry_type s name = option_and_then (λ path. type_at path s.param) (path_of name s.names)

-- a node stands before those below it, and what is left below before what is right
abbrev pub is_before : Path → Path → Bool
is_before [] [] = false
is_before [] (side ∷ q) = true
is_before (side ∷ p) [] = false
is_before (Left ∷ p) (Left ∷ q) = is_before p q
is_before (Left ∷ p) (Right ∷ q) = true
is_before (Right ∷ p) (Left ∷ q) = false
is_before (Right ∷ p) (Right ∷ q) = is_before p q

-- in the order of the text, and so at most one at each node
abbrev pub are_in_order : List NamedEntry → Bool
are_in_order [] = true
are_in_order (e ∷ []) = true
are_in_order (e ∷ f ∷ more) = is_before e.0 f.0 && are_in_order (f ∷ more)
