-- The script that a text spells, and the storage that a line says.
use Rattle.std.specs.Prelude.{ℕ, ◌≡◌, ◌≤◌, ◌↔◌, List, [], ◌∷◌, length, if◌then◌else◌, Option, Some, None, Ok, Err, ◌⊎◌}
use Rattle.std.proofs.Common.{inl, inr}
use Rattle.value_core.specs.declared.ty.Ty.{Ty}
use Rattle.value_core.specs.declared.val.Val.{Val}
use Rattle.value_core.specs.BigMaps.{big_maps_of}
use Rattle.micheline_text.specs.declared.node.Node.{Node}
use Rattle.micheline_text.specs.Text.{IsTextOf}
use Rattle.micheline_text.proofs.Answered as texts
use Rattle.michelson_code.specs.declared.script.Script.{Script}
use Rattle.michelson_code.specs.TypedScript.{IsTypedScript}
use Rattle.michelson_reader.specs.Script.{IsScriptOf}
use Rattle.data_nodes.specs.Faults.{storage_read}
use Rattle.data_nodes.specs.Parts.{parted}
use Rattle.data_nodes.specs.Readers.{Read}
use Rattle.data_nodes.specs.Storage.{IsStorage, Kept, with_maps}
use Rattle.ledger_state.specs.Scripts.{may_run, read_script_of}

-- ---- scripts

-- the script, if it may run
abbrev pub if_it_may_run : Option Script → Option Script
if_it_may_run None = None
if_it_may_run (Some s) = if may_run s then Some s else None

-- the script that a text spells and that may run
abbrev pub script_of : List ℕ → Option Script
script_of text = if_it_may_run (read_script_of text)

-- the text is one of the script, which may run
pub record IsSpelt (text : List ℕ) (s : Script) : Type 0 where
  pub read : IsScriptOf text s
  pub typed : ∥ IsTypedScript s ∥₁

-- a text spells a script exactly where it is one of a script that may run
abbrev pub ScriptsAreSpelt : Type 0
ScriptsAreSpelt = (text : List ℕ) (s : Script) → (script_of text ≡ Some s) ↔ IsSpelt text s

-- ---- storages

-- the storage with its entries that data is
abbrev pub kept_or_none : Ty → Read Val → Option Kept
kept_or_none t (Ok v) = Some (parted t v)
kept_or_none t (Err fault) = None

-- the one node of a list
abbrev pub kept_of_one : Ty → List Node → Option Kept
kept_of_one t (n ∷ []) = kept_or_none t (storage_read (with_maps t) n)
kept_of_one t _ = None

-- where these bytes are a text of nodes: any bytes are, or else have a fault
abbrev pub kept_of_text : {Is : List Node → Type 0} {Fault : Type 0} → Ty → ((nodes : List Node) × Is nodes) ⊎ Fault → Option Kept
kept_of_text t (inl (nodes, is)) = kept_of_one t nodes
kept_of_text t (inr fault) = None

-- the storage of the type that a text of one node says, with the entries of its big maps
unfoldable pub storage_of : Ty → List ℕ → Option Kept
storage_of t text = kept_of_text t (texts.either text)

-- the text is one of a node that is a storage of the type with these entries
pub record IsSaid (t : Ty) (text : List ℕ) (kept : Kept) : Type 0 where
  pub node : Node
  pub spelt : IsTextOf text (node ∷ [])
  pub storage : IsStorage t node kept

-- a text says a storage of a type that isn't too wide exactly where it is one of a node that is the storage
abbrev pub StoragesAreSaid : Type 0
StoragesAreSaid = (t : Ty) (text : List ℕ) (kept : Kept) → length (big_maps_of t) ≤ 16 → (storage_of t text ≡ Some kept) ↔ IsSaid t text kept
