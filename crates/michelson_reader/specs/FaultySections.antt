-- What is wrong with a section of a script by itself: its word, that the word stood before, or the number of its arguments.
use Rattle.std.specs.Prelude.{ℕ, Bool, false, ◌&&◌, not, List, [], ◌∷◌, Option, None, Some, codes, if◌then◌else◌}
use Rattle.std.specs.List.{list_any}
use Rattle.std.specs.Str.{bytes_eq}
use Rattle.micheline_text.specs.declared.node.Node.{Node}
use Rattle.micheline_text.specs.declared.node.Body.TheOpen as body
use Rattle.micheline_text.specs.declared.node.Body.TheViews.{out-Body}
use Rattle.michelson_reader.specs.declared.fault.ReadFault.{ReadFault}
use Rattle.michelson_reader.specs.declared.fault.ReadFault.TheVariants as fault
use Rattle.michelson_reader.specs.FaultyNodes.{Level}

-- the words of sections
abbrev pub section_words : List (List ℕ)
section_words = codes "parameter" ∷ codes "storage" ∷ codes "code" ∷ []

-- the node is the word with arguments
abbrev pub is_at : List ℕ → Level → Bool
is_at word (body.Prim name notes args) = bytes_eq name word
is_at word _ = false

-- the word is that of one of the nodes
abbrev pub stands_in : List ℕ → List Node → Bool
stands_in word = list_any (λ n. is_at word (out-Body n.body))

-- the word of a section that didn't stand before
abbrev pub is_new : List ℕ → List Node → Bool
is_new name before = list_any (bytes_eq name) section_words && not (stands_in name before)

-- what is wrong with a section behind other nodes; its word comes before the number of its arguments
abbrev pub section_fault : ℕ → List Node → Level → Option ReadFault
section_fault at before (body.Prim name notes (x ∷ [])) = if is_new name before then None else Some (fault.Sections at)
section_fault at before (body.Prim name notes args) = if is_new name before then Some (fault.Arity at) else Some (fault.Sections at)
section_fault at before _ = Some (fault.Sections at)

-- a word of a section that is none of the nodes'
abbrev pub is_section_missing : List Node → Bool
is_section_missing ns = list_any (λ word. not (stands_in word ns)) section_words
