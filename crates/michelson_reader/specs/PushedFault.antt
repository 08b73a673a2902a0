-- Why a node isn't pushed data: its fault as data, or a word in it that is left out.
use Rattle.std.specs.Prelude.{◌≡◌, ℕ, ◌<◌, ◌≤◌, ◌⊎◌, IsSomeAnd, IsTrue, List, [], ◌∷◌, slice_get}
use Rattle.value_core.specs.declared.ty.Ty.{Ty}
use Rattle.micheline_text.specs.declared.node.Node.{Node}
use Rattle.micheline_text.specs.declared.node.Body.TheOpen as body
use Rattle.micheline_text.specs.declared.node.Body.TheViews.{out-Body}
use Rattle.data_nodes.specs.declared.fault.DataFault.{DataFault}
use Rattle.data_nodes.specs.FirstFault.{IsDataFault, IsFirstOf, Place}
use Rattle.michelson_reader.specs.declared.fault.ReadFault.{ReadFault}
use Rattle.michelson_reader.specs.declared.fault.ReadFault.TheVariants as fault
use Rattle.michelson_reader.specs.FaultyNodes.{Level}
use Rattle.michelson_reader.specs.Names.{is_left_out}

-- the nodes that stand in a node
abbrev pub nodes_in : Level → List Node
nodes_in (body.Prim name notes args) = args
nodes_in (body.Seq nodes) = nodes
nodes_in _ = []

-- an offset, and the word that stands there
abbrev pub Word : Type 0
Word = ℕ × List ℕ

-- a node at the offset has this word, which is left out
abbrev pub IsLeftOut : ℕ → Level → Word → Type 0
IsLeftOut at (body.Prim name notes args) w = IsTrue (is_left_out name) × (w ≡ (at, name))
IsLeftOut at _ w = ⊥

-- it stands at the place in the node
abbrev pub LeftOutAt : Place → Node → Word → Type 0
LeftOutAt [] n w = IsLeftOut n.at (out-Body n.body) w
LeftOutAt (i ∷ place) n w = IsSomeAnd (slice_get (nodes_in (out-Body n.body)) i) (λ m. LeftOutAt place m w)

-- the first such word in the node
abbrev pub IsFirstLeftOut : Node → Word → Type 0
IsFirstLeftOut n = IsFirstOf (λ p w. LeftOutAt p n w)

-- the first word in it that is left out, at the offset of its fault as data or before that, or else that fault
abbrev pub IsPushedFault : Ty → Node → ReadFault → Type 0
IsPushedFault t n f = (g : DataFault) × IsDataFault t n g × (
    ((w : Word) × IsFirstLeftOut n w × (w.0 ≤ g.at) × (f ≡ fault.LeftOut w.0 w.1))
    ⊎ (((w : Word) → IsFirstLeftOut n w → g.at < w.0) × (f ≡ fault.Data g)))
