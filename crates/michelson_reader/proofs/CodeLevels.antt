-- What is read of a node as code, one level at a time.
use Rattle.std.proofs.Common.{◌≡◌, ℕ, List, [], ◌∷◌, map, refl, ap, ◌∙◌}
use Rattle.micheline_text.specs.declared.node.Node.{Node}
use Rattle.micheline_text.specs.declared.node.Body.{Body}
use Rattle.micheline_text.specs.declared.node.Body.TheOpen as one
use Rattle.micheline_text.specs.declared.node.Body.TheOpen.{Body-F, Node-F}
use Rattle.micheline_text.specs.declared.node.Body.TheViews.{out-Body, roll-Body}
use Rattle.micheline_text.specs.declared.node.Body.TheFolds.{fold-Body, fold_out-Body, fold-roll-Node, map-Body}
use Rattle.michelson_code.specs.declared.instr.Instr.{Instr}
use Rattle.data_nodes.specs.Nodes.{Test}
use Rattle.michelson_reader.specs.Code.{is_instruction}
use Rattle.michelson_reader.specs.CodeFaults.{Reader, body_of, code_at, code_read, instruction_at, instruction_read, reader, reader_at}
use Rattle.michelson_code.specs.Forms.{Form, form_of}
use Rattle.michelson_code.specs.Levels.{form_map}
use Rattle.michelson_reader.proofs.NodeInduction.{Each, induction, parts_of, roll-out}

-- ---- what is read of a node

abbrev body_reader : Body → ℕ → Reader
body_reader = fold-Body (ℕ → Reader) Reader reader_at (λ n. n.body n.at)

one_node : Node → Node-F Body Node
one_node n = record { at = n.at; body = n.body }

reader_is : (n : Node) → reader n ≡ body_reader n.body n.at
unfolding one_node
reader_is n = fold-roll-Node (ℕ → Reader) Reader reader_at (λ m. m.body m.at) (one_node n)

-- one level of a node, with a reader in the place of each node in it
abbrev pub readers : Body-F Body Node → Body-F (ℕ → Reader) Reader
readers = map-Body Body Node (ℕ → Reader) Reader body_reader reader

reader-level : (n : Node) → reader n ≡ reader_at (readers (out-Body n.body)) n.at
reader-level n = reader_is n ∙ ap (λ (f : ℕ → Reader). f n.at) (fold_out-Body (ℕ → Reader) Reader reader_at (λ m. m.body m.at) n.body)

same_nodes : (ns : List Node) → Each (λ n. (reader n).node ≡ n) ns → map (λ (r : Reader). r.node) (map reader ns) ≡ ns
same_nodes [] same = refl
same_nodes (n ∷ ns) same = λ i. same.0 i ∷ same_nodes ns same.1 i

same_level : (b : Body-F Body Node) → Each (λ n. (reader n).node ≡ n) (parts_of b) → body_of (readers b) ≡ roll-Body b
same_level (one.Prim name notes args) same = λ i. roll-Body (one.Prim name notes (same_nodes args same i))
same_level (one.Seq nodes) same = λ i. roll-Body (one.Seq (same_nodes nodes same i))
same_level _ same = refl

-- a node's reader holds the node itself
pub same_node : (n : Node) → (reader n).node ≡ n
same_node = induction (λ n. (reader n).node ≡ n) (λ n same.
    ap (λ (r : Reader). r.node) (reader-level n)
    ∙ (λ i. record { at = n.at; body = (same_level (out-Body n.body) same ∙ roll-out n.body) i }))

pub instruction_read-level : (n : Node) → instruction_read n ≡ instruction_at n.at (readers (out-Body n.body))
instruction_read-level n = ap (λ (r : Reader). r.instruction) (reader-level n)

pub code_read-level : (n : Node) → code_read n ≡ code_at n.at (readers (out-Body n.body))
code_read-level n = ap (λ (r : Reader). r.code) (reader-level n)

-- ---- what an instruction is written as

-- how an instruction is written, with what is written for each instruction of a body in its place
abbrev pub test_of : Instr → Form Test
test_of i = form_map is_instruction (form_of i)
