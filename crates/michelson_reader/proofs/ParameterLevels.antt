-- What is read of nodes as the parameter, and the names that stand there, one level at a time.
use Rattle.std.proofs.Common.{◌≡◌, ℕ, List, [], ◌∷◌, map, Option, refl, ap, ◌∙◌}
use Rattle.micheline_text.specs.declared.node.Node.{Node}
use Rattle.micheline_text.specs.declared.node.Body.{Body}
use Rattle.micheline_text.specs.declared.node.Body.TheOpen as body
use Rattle.micheline_text.specs.declared.node.Body.TheOpen.{Body-F, Node-F}
use Rattle.micheline_text.specs.declared.node.Body.TheViews.{out-Body, roll-Body}
use Rattle.micheline_text.specs.declared.node.Body.TheFolds.{fold-Body, fold-Node, fold_out-Body, fold-roll-Node, map-Body}
use Rattle.michelson_code.specs.Entries.{NamedEntry}
use Rattle.michelson_reader.specs.Entries.{entries_level, entries_of}
use Rattle.michelson_reader.specs.ScriptFaults.{ParameterReader, body_of, parameter_at, parameter_read, reader_at}
use Rattle.michelson_reader.proofs.NodeInduction.{Each, induction, parts_of, roll-out}

abbrev pub reader : Node → ParameterReader
reader = fold-Node (ℕ → ParameterReader) ParameterReader reader_at (λ n. n.body n.at)

abbrev body_reader : Body → ℕ → ParameterReader
body_reader = fold-Body (ℕ → ParameterReader) ParameterReader reader_at (λ n. n.body n.at)

one_node : Node → Node-F Body Node
one_node n = record { at = n.at; body = n.body }

reader_is : (n : Node) → reader n ≡ body_reader n.body n.at
unfolding one_node
reader_is n = fold-roll-Node (ℕ → ParameterReader) ParameterReader reader_at (λ m. m.body m.at) (one_node n)

-- one level of a node, with a reader in the place of each part
abbrev pub readers : Body-F Body Node → Body-F (ℕ → ParameterReader) ParameterReader
readers = map-Body Body Node (ℕ → ParameterReader) ParameterReader body_reader reader

reader-level : (n : Node) → reader n ≡ reader_at (readers (out-Body n.body)) n.at
reader-level n = reader_is n ∙ ap (λ (f : ℕ → ParameterReader). f n.at) (fold_out-Body (ℕ → ParameterReader) ParameterReader reader_at (λ m. m.body m.at) n.body)

-- ---- a reader has its node

abbrev Stays : Node → Type 0
Stays n = (reader n).node ≡ n

nodes_stay : (ns : List Node) → Each Stays ns → map (λ r. r.node) (map reader ns) ≡ ns
nodes_stay [] stay = refl
nodes_stay (n ∷ ns) stay = λ i. stay.0 i ∷ nodes_stay ns stay.1 i

body_stays : (x : Body-F Body Node) → Each Stays (parts_of x) → body_of (readers x) ≡ roll-Body x
body_stays (body.Prim name notes args) stay = λ i. roll-Body (body.Prim name notes (nodes_stay args stay i))
body_stays (body.Seq nodes) stay = λ i. roll-Body (body.Seq (nodes_stay nodes stay i))
body_stays _ stay = refl

abbrev with_body : Node → Body → Node
with_body n b = record { at = n.at; body = b }

node_stays : (n : Node) → Stays n
node_stays = induction Stays (λ n stay.
    ap (λ (r : ParameterReader). r.node) (reader-level n) ∙ ap (with_body n) (body_stays (out-Body n.body) stay ∙ roll-out n.body))

all_stay : (ns : List Node) → Each Stays ns
all_stay [] = tt
all_stay (n ∷ ns) = (node_stays n, all_stay ns)

-- ---- levels

pub parameter-level : (n : Node) → parameter_read n ≡ parameter_at n (readers (out-Body n.body))
parameter-level n =
    ap (λ (r : ParameterReader). r.read) (reader-level n)
    ∙ ap (λ (b : Body). parameter_at (with_body n b) (readers (out-Body n.body))) (body_stays (out-Body n.body) (all_stay (parts_of (out-Body n.body))) ∙ roll-out n.body)

abbrev Found : Type 0
Found = Option (List NamedEntry)

abbrev body_entries : Body → Found
body_entries = fold-Body Found Found entries_level (λ n. n.body)

entries_are : (n : Node) → entries_of n ≡ body_entries n.body
unfolding one_node
entries_are n = fold-roll-Node Found Found entries_level (λ m. m.body) (one_node n)

-- one level of a node, with the names in the place of each part
abbrev pub parts_entries : Body-F Body Node → Body-F Found Found
parts_entries = map-Body Body Node Found Found body_entries entries_of

pub entries-level : (n : Node) → entries_of n ≡ entries_level (parts_entries (out-Body n.body))
entries-level n = entries_are n ∙ fold_out-Body Found Found entries_level (λ m. m.body) n.body
