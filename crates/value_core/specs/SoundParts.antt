-- Sound lists, sets and maps, by what they hold.
use Rattle.std.specs.Prelude.{List, Bool, ◌&&◌, map}
use Rattle.std.specs.List.{list_all}
use Rattle.value_core.specs.declared.val.Val.{Val}
use Rattle.value_core.specs.Layer.{flat}
use Rattle.value_core.specs.Sound.{ascends, is_countable, is_sound}

-- countable, and each item sound
abbrev pub is_sound_list : List Val → Bool
is_sound_list items = is_countable items && list_all is_sound items

-- countable, strictly ascending, and each item sound
abbrev pub is_sound_set : List Val → Bool
is_sound_set items = (is_countable items && ascends items) && list_all is_sound items

-- countable, with keys that strictly ascend, and each key and value sound
abbrev pub is_sound_map : List (Val × Val) → Bool
is_sound_map entries = (is_countable entries && ascends (map (λ e. e.0) entries)) && list_all is_sound (flat entries)
