-- As many nodes as tests of them.
use Rattle.std.proofs.Common.{◌≡◌, suc, true, List, [], ◌∷◌, length, map, refl, ap}
use Rattle.std.proofs.lemmas.Bool.{and_parts}
use Rattle.std.proofs.lemmas.List.{length-map}
use Rattle.value_core.specs.Sound.{is_countable}
use Rattle.micheline_text.specs.declared.node.Node.{Node}
use Rattle.data_nodes.specs.Nodes.{Test, all_are}
use Rattle.data_nodes.specs.Faults.{reader}

pub lengths : (tests : List Test) (nodes : List Node) → all_are tests nodes ≡ true → length tests ≡ length nodes
lengths [] [] h = refl
lengths [] (n ∷ nodes) h = absurd cc
lengths (p ∷ tests) [] h = absurd cc
lengths (p ∷ tests) (n ∷ nodes) h = ap suc (lengths tests nodes (and_parts (p n) _ h).1)

pub same_count : (tests : List Test) (nodes : List Node) → all_are tests nodes ≡ true → is_countable tests ≡ true → is_countable (map reader nodes) ≡ true
same_count tests nodes h few = rw (length-map nodes reader) (rw (← lengths tests nodes h) few)
