-- Names of entries: where they stand, and at which nodes.
use Rattle.std.specs.Prelude.{ℕ, ◌==◌, List, [], ◌∷◌, ◌++◌, map, codes, if◌then◌else◌, Option, None, Some}
use Rattle.std.specs.Option.{option_and_then, option_map}
use Rattle.std.specs.Str.{bytes_eq}
use Rattle.value_core.specs.Leaves.{is_name}
use Rattle.micheline_text.specs.Kinds.{percent}
use Rattle.micheline_text.specs.declared.node.Node.{Node}
use Rattle.micheline_text.specs.declared.node.Body.TheOpen as body
use Rattle.micheline_text.specs.declared.node.Body.TheOpen.{Body-F}
use Rattle.micheline_text.specs.declared.node.Body.TheFolds.{fold-Node}
use Rattle.michelson_code.specs.declared.script.Side.{Side}
use Rattle.michelson_code.specs.declared.script.Side.TheVariants.{Left, Right}
use Rattle.michelson_code.specs.Entries.{NamedEntry}

-- the annotations that begin with `%`, without it
abbrev pub name_in : List ℕ → List (List ℕ)
name_in [] = []
name_in (b ∷ note) = if b == percent then note ∷ [] else []

-- all of them
abbrev pub names_in : List (List ℕ) → List (List ℕ)
names_in [] = []
names_in (note ∷ notes) = name_in note ++ names_in notes

-- none, or one that is a name
abbrev pub only_name : List (List ℕ) → Option (Option (List ℕ))
only_name [] = Some None
only_name (name ∷ []) = if is_name name then Some (Some name) else None
only_name (name ∷ other ∷ more) = None

-- the name of an entry that annotations give, or that there is none; else they aren't fit
abbrev pub entry_in : List (List ℕ) → Option (Option (List ℕ))
entry_in notes = only_name (names_in notes)

-- the name of a node
abbrev pub own : Option (List ℕ) → List NamedEntry
own None = []
own (Some name) = ([], name) ∷ []

-- the names of a part, by the way from the whole
abbrev pub from : Side → List NamedEntry → List NamedEntry
from side = map (λ e. (side ∷ e.0, e.1))

-- the name of a node, then those below its left part, then those below its right one
abbrev pub in_order : Option (List ℕ) → List NamedEntry → List NamedEntry → List NamedEntry
in_order name left right = own name ++ (from Left left ++ from Right right)

-- where both parts are fit
abbrev pub both : Option (List ℕ) → Option (List NamedEntry) → Option (List NamedEntry) → Option (List NamedEntry)
both name left right = option_and_then (λ ls. option_map (λ rs. in_order name ls rs) right) left

-- the names below a word, whose own is the last
abbrev pub entries_below : List ℕ → List (Option (List NamedEntry)) → Option (List ℕ) → Option (List NamedEntry)
entries_below name (x ∷ y ∷ []) e = if bytes_eq name (codes "or") then both e x y else Some (own e)
entries_below name _ e = Some (own e)

-- one level of a node
abbrev pub entries_level : Body-F (Option (List NamedEntry)) (Option (List NamedEntry)) → Option (List NamedEntry)
entries_level (body.Prim name notes args) = option_and_then (entries_below name args) (entry_in notes)
entries_level _ = Some []

-- the names at the nodes that `or` alone reaches, in the order of the text; none where annotations there aren't fit
abbrev pub entries_of : Node → Option (List NamedEntry)
entries_of = fold-Node (Option (List NamedEntry)) (Option (List NamedEntry)) entries_level (λ n. n.body)
