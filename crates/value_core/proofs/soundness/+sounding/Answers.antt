-- Lists, sets and maps by what they hold, and pairs by what stands behind a sound first part.
use Rattle.std.proofs.Common.{◌≡◌, true, rules}
use Rattle.value_core.specs.declared.val.Val.TheViews.{the_lemmas}
use Rattle.value_core.specs.Sound.{is_sound}
use Rattle.value_core.proofs.SoundLemmas.{sound-behind, sound-list, sound-map, sound-set}
use Rattle.value_core.proofs.soundness.+sounding.Goals as goal

pub is_sound-returns-in-List : goal.is_sound-returns-in-List
is_sound-returns-in-List t c = search (rules, sound-list)

pub is_sound-returns-in-Set : goal.is_sound-returns-in-Set
is_sound-returns-in-Set t c = search (rules, sound-set)

pub is_sound-returns-in-Map : goal.is_sound-returns-in-Map
is_sound-returns-in-Map t c = search (rules, sound-map)

pub is_sound-loop-v-preserved-in-Pair-1 : goal.is_sound-loop-v-preserved-in-Pair-1
is_sound-loop-v-preserved-in-Pair-1 t c =
    let first : is_sound c.in-Pair.first ≡ true = search rules in
    let behind = sound-behind c.loop-v.v.now c.in-Pair.first c.in-Pair.rest c.in-Pair.is first in
    (cc behind, search (rules, the_lemmas))
