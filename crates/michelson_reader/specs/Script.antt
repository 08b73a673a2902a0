-- The grammar of scripts: three sections in any order.
use Rattle.std.specs.Prelude.{◌≡◌, ◌⊎◌, ℕ, IsTrue, List, [], ◌∷◌, Some, codes}
use Rattle.value_core.specs.declared.ty.Ty.{Ty}
use Rattle.micheline_text.specs.declared.node.Node.{Node}
use Rattle.micheline_text.specs.declared.node.Body.{Body}
use Rattle.micheline_text.specs.declared.node.Body.TheVariants as variant
use Rattle.micheline_text.specs.declared.node.Body.TheOpen as body
use Rattle.micheline_text.specs.declared.node.Body.TheOpen.{Body-F}
use Rattle.micheline_text.specs.declared.node.Body.TheViews.{out-Body}
use Rattle.micheline_text.specs.Text.{IsTextOf}
use Rattle.michelson_code.specs.declared.script.Script.{Script}
use Rattle.michelson_reader.specs.Code.{is_code}
use Rattle.michelson_code.specs.Entries.{NamedEntry}
use Rattle.michelson_reader.specs.Entries.{entries_of}
use Rattle.michelson_reader.specs.Types.{is_type}

-- a word with one argument, of which this holds
abbrev pub IsSection : List ℕ → (Node → Type 0) → Node → Type 0
IsSection name Holds n = (notes : List (List ℕ)) × (x : Node) × (n.body ≡ variant.Prim name notes (x ∷ [])) × Holds x

-- the type of the parameter, with the names of its entries
abbrev pub IsParameter : Ty → List NamedEntry → Node → Type 0
IsParameter t names n = IsTrue (is_type t n) × (entries_of n ≡ Some names)

-- three nodes, in any order
abbrev pub AreInAnyOrder : Node → Node → Node → List Node → Type 0
AreInAnyOrder p s c ns =
    (ns ≡ p ∷ s ∷ c ∷ []) ⊎ ((ns ≡ p ∷ c ∷ s ∷ []) ⊎ ((ns ≡ s ∷ p ∷ c ∷ [])
    ⊎ ((ns ≡ s ∷ c ∷ p ∷ []) ⊎ ((ns ≡ c ∷ p ∷ s ∷ []) ⊎ (ns ≡ c ∷ s ∷ p ∷ [])))))

-- the nodes are written for the script
pub record AreSections (ns : List Node) (s : Script) : Type 0 where
  pub parameter : Node
  pub storage : Node
  pub code : Node
  pub order : AreInAnyOrder parameter storage code ns
  pub is_parameter : IsSection (codes "parameter") (IsParameter s.param s.names) parameter
  pub is_storage : IsSection (codes "storage") (λ x. IsTrue (is_type s.storage x)) storage
  pub has_code : IsSection (codes "code") (λ x. IsTrue (is_code s.code x)) code

-- the nodes inside, where the only node is a pair of braces
abbrev unbraced_body : List Node → Body-F Body Node → List Node
unbraced_body ns (body.Seq inner) = inner
unbraced_body ns _ = ns

-- one pair of braces round all nodes is taken away
abbrev pub unbraced : List Node → List Node
unbraced [] = []
unbraced (n ∷ []) = unbraced_body (n ∷ []) (out-Body n.body)
unbraced (n ∷ m ∷ more) = n ∷ m ∷ more

-- the bytes are a text of the script
abbrev pub IsScriptOf : List ℕ → Script → Type 0
IsScriptOf bytes s = (ns : List Node) × IsTextOf bytes ns × AreSections (unbraced ns) s
