-- What is read of a node, by what stands at it.
use Rattle.std.proofs.Common.{◌≡◌, ℕ, List, map, Option, ap, ◌∙◌, rules}
use Rattle.value_core.specs.declared.ty.Ty.{Ty}
use Rattle.value_core.specs.declared.ty.Ty.TheViews.{out-Ty}
use Rattle.value_core.specs.declared.val.Val.{Val}
use Rattle.micheline_text.specs.declared.node.Node.{Node}
use Rattle.micheline_text.specs.declared.node.Body.{Body}
use Rattle.micheline_text.specs.declared.node.Body.TheVariants as variant
use Rattle.micheline_text.specs.declared.node.Body.TheOpen as one
use Rattle.micheline_text.specs.declared.node.Body.TheOpen.{Body-F, Node-F}
use Rattle.micheline_text.specs.declared.node.Body.TheViews.{out-Body, the_lemmas}
use Rattle.micheline_text.specs.declared.node.Body.TheFolds.{fold-Body, fold_out-Body, fold-roll-Node, map-Body}
use Rattle.data_nodes.specs.Readers.{Reader}
use Rattle.data_nodes.specs.Faults.{applied, entry_at, entry_of, reader, sequence, storage_read, value_at}

abbrev pub level : Body-F (ℕ → Reader) Reader → ℕ → Reader
level b at = record { place = at; value = value_at at b; entry = entry_at at b }

abbrev pub body_reader : Body → ℕ → Reader
body_reader = fold-Body (ℕ → Reader) Reader level (λ n. n.body n.at)

one_node : Node → Node-F Body Node
one_node n = record { at = n.at; body = n.body }

reader-is : (n : Node) → reader n ≡ body_reader n.body n.at
unfolding one_node
reader-is n = fold-roll-Node (ℕ → Reader) Reader level (λ m. m.body m.at) (one_node n)

-- one level of a node, with a reader in the place of each part
abbrev pub readers : Body-F Body Node → Body-F (ℕ → Reader) Reader
readers = map-Body Body Node (ℕ → Reader) Reader body_reader reader

pub reader-level : (n : Node) → reader n ≡ level (readers (out-Body n.body)) n.at
reader-level n = reader-is n ∙ ap (λ (f : ℕ → Reader). f n.at) (fold_out-Body (ℕ → Reader) Reader level (λ m. m.body m.at) n.body)

-- where that level is known
pub reader_of : (n : Node) (b : Body-F Body Node) → out-Body n.body ≡ b → reader n ≡ level (readers b) n.at
reader_of n b e = reader-level n ∙ ap (λ (x : Body-F Body Node). level (readers x) n.at) e

pub shows_prim : (name : List ℕ) (notes : List (List ℕ)) (args : List Node) → out-Body (variant.Prim name notes args) ≡ one.Prim name notes args
shows_prim name notes args = search (rules, the_lemmas)

pub shows_seq : (nodes : List Node) → out-Body (variant.Seq nodes) ≡ one.Seq nodes
shows_seq nodes = search (rules, the_lemmas)

pub read_prim : (n : Node) (name : List ℕ) (notes : List (List ℕ)) (args : List Node) (t : Ty) → n.body ≡ variant.Prim name notes args →
    storage_read t n ≡ applied n.at name (map reader args) t
read_prim n name notes args t e = ap (λ (r : Reader). r.value t) (reader_of n (one.Prim name notes args) (ap out-Body e ∙ shows_prim name notes args))

pub read_seq : (n : Node) (nodes : List Node) (t : Ty) → n.body ≡ variant.Seq nodes → storage_read t n ≡ sequence n.at (map reader nodes) t (out-Ty t)
read_seq n nodes t e = ap (λ (r : Reader). r.value t) (reader_of n (one.Seq nodes) (ap out-Body e ∙ shows_seq nodes))

pub entry_prim : (n : Node) (name : List ℕ) (notes : List (List ℕ)) (args : List Node) (last : Option Val) (k v : Ty) → n.body ≡ variant.Prim name notes args →
    (reader n).entry last k v ≡ entry_of n.at name (map reader args) last k v
entry_prim n name notes args last k v e = ap (λ (r : Reader). r.entry last k v) (reader_of n (one.Prim name notes args) (ap out-Body e ∙ shows_prim name notes args))
