-- What stands in a type, where it is of that form.
use Rattle.std.specs.Prelude.{Bool, List, None, Option, Some, [], false, true, ℕ}
use Rattle.ligo_typer.specs.declared.source_type.SrcTy.{SrcTy}
use Rattle.ligo_typer.specs.declared.source_type.SrcTy.TheOpen as ty
use Rattle.ligo_typer.specs.declared.source_type.SrcTy.TheOpen.{SrcTy-F}
use Rattle.ligo_typer.specs.declared.source_type.SrcTy.TheViews.{out-SrcTy}

abbrev pub option_then : {A B : Type 0} → (A → Option B) → Option A → Option B
option_then f None = None
option_then f (Some a) = f a

abbrev pub option_level : SrcTy-F SrcTy → Option SrcTy
option_level (ty.Option t) = Some t
option_level _ = None

-- of an option
abbrev pub option_part : SrcTy → Option SrcTy
option_part t = option_level (out-SrcTy t)

abbrev pub list_level : SrcTy-F SrcTy → Option SrcTy
list_level (ty.List t) = Some t
list_level _ = None

-- of the items of a list
abbrev pub list_part : SrcTy → Option SrcTy
list_part t = list_level (out-SrcTy t)

abbrev pub contract_level : SrcTy-F SrcTy → Option SrcTy
contract_level (ty.Contract t) = Some t
contract_level _ = None

-- of what a contract takes
abbrev pub contract_part : SrcTy → Option SrcTy
contract_part t = contract_level (out-SrcTy t)

-- an option of contracts
abbrev pub contract_option : SrcTy → Option SrcTy
contract_option t = option_then contract_part (option_part t)

abbrev pub map_level : SrcTy-F SrcTy → Option (SrcTy × SrcTy)
map_level (ty.Map k v) = Some (k, v)
map_level _ = None

-- of the keys and the values of a map
abbrev pub map_parts : SrcTy → Option (SrcTy × SrcTy)
map_parts t = map_level (out-SrcTy t)

abbrev pub big_map_level : SrcTy-F SrcTy → Option (SrcTy × SrcTy)
big_map_level (ty.BigMap k v) = Some (k, v)
big_map_level _ = None

-- of a big map
abbrev pub big_map_parts : SrcTy → Option (SrcTy × SrcTy)
big_map_parts t = big_map_level (out-SrcTy t)

abbrev pub tuple_level : SrcTy-F SrcTy → Option (List SrcTy)
tuple_level (ty.Tuple ts) = Some ts
tuple_level _ = None

-- of the parts of a tuple
abbrev pub tuple_parts : SrcTy → Option (List SrcTy)
tuple_parts t = tuple_level (out-SrcTy t)

abbrev pub record_level : SrcTy-F SrcTy → Option (List (List ℕ × SrcTy))
record_level (ty.Record fields) = Some fields
record_level _ = None

-- the fields of a record
abbrev pub record_fields : SrcTy → Option (List (List ℕ × SrcTy))
record_fields t = record_level (out-SrcTy t)

abbrev pub or_none : {A : Type 0} → Option (List A) → List A
or_none None = []
or_none (Some as') = as'

-- the fields of a record, and of nothing else
abbrev pub fields_in : SrcTy → List (List ℕ × SrcTy)
fields_in t = or_none (record_fields t)

abbrev pub variant_level : SrcTy-F SrcTy → Option (List (List ℕ × Option SrcTy))
variant_level (ty.Variant cases) = Some cases
variant_level _ = None

-- the cases of a variant
abbrev pub variant_cases : SrcTy → Option (List (List ℕ × Option SrcTy))
variant_cases t = variant_level (out-SrcTy t)

-- the cases of a variant, and of nothing else
abbrev pub cases_in : SrcTy → List (List ℕ × Option SrcTy)
cases_in t = or_none (variant_cases t)

abbrev pub address_level : SrcTy-F SrcTy → Bool
address_level ty.Addr = true
address_level _ = false

-- address is expected
abbrev pub is_address_type : Option SrcTy → Bool
is_address_type None = false
is_address_type (Some t) = address_level (out-SrcTy t)
