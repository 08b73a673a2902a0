-- Values of data, level by level.
use Rattle.std.proofs.Common.{◌≡◌, Bool, true, false, refl, sym, ◌∙◌}
use Rattle.std.specs.Prelude.{◌&&◌}
use Rattle.std.specs.List.{list_all}
use Rattle.std.proofs.lemmas.Bool.{and_parts}
use Rattle.value_core.specs.declared.val.Val.{Val}
use Rattle.value_core.specs.declared.val.Val.TheOpen as one
use Rattle.value_core.specs.declared.val.Val.TheViews.{out-Val}
use Rattle.value_core.specs.Layer.{Layer, parts_of}
use Rattle.value_core.specs.Everywhere.{everywhere}
use Rattle.value_core.specs.Sound.{is_settled_level, is_sound_level}
use Rattle.value_core.proofs.Everywhere.{everywhere-is}
use Rattle.value_core.proofs.PlainTyped.{everywhere-joins}
use Rattle.value_core.specs.BigMaps.{is_no_big_map}
use Rattle.data_nodes.specs.Printed.{is_printed_whole}

-- one level of a value that is written as data
abbrev pub is_data_level : Layer Val → Bool
is_data_level (one.BigMap place version) = false
is_data_level (one.Contract address entry) = false
is_data_level (one.Operation emit) = false
is_data_level _ = true

abbrev pub is_data : Val → Bool
is_data = everywhere is_data_level

level_joins : (x : Layer Val) → (is_sound_level x && is_settled_level x) ≡ true → is_no_big_map x ≡ true → is_data_level x ≡ true
level_joins (one.BigMap place version) plain whole = whole
level_joins (one.Contract address entry) plain whole = plain
level_joins (one.Operation emit) plain whole = (and_parts _ _ plain).1
level_joins _ plain whole = refl

-- what is printable is data at each level
pub printed_whole_is_data : (v : Val) → is_printed_whole v ≡ true → is_data v ≡ true
printed_whole_is_data v h =
    let both = and_parts _ _ h in
    everywhere-joins (λ x. is_sound_level x && is_settled_level x) is_no_big_map is_data_level level_joins v both.0 both.1

pub data_level : (v : Val) → is_data v ≡ true → (is_data_level (out-Val v) ≡ true) × (list_all is_data (parts_of (out-Val v)) ≡ true)
data_level v h = and_parts _ _ (sym (everywhere-is is_data_level v) ∙ h)
