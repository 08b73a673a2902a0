-- What is read of a node, by what stands at it.
use Rattle.std.proofs.Common.{◌≡◌, ℕ, ℤ, List, [], ◌∷◌, map, Option, Ok, refl, ap, ◌∙◌, rules}
use Rattle.std.specs.Option.{option_map_or}
use Rattle.micheline_text.specs.declared.node.Node.{Node}
use Rattle.micheline_text.specs.declared.node.Body.{Body}
use Rattle.micheline_text.specs.declared.node.Body.TheVariants as variant
use Rattle.micheline_text.specs.declared.node.Body.TheOpen as one
use Rattle.micheline_text.specs.declared.node.Body.TheOpen.{Body-F, Node-F}
use Rattle.micheline_text.specs.declared.node.Body.TheViews.{out-Body, the_lemmas}
use Rattle.micheline_text.specs.declared.node.Body.TheFolds.{fold-Body, fold_out-Body, fold-roll-Node, map-Body}
use Rattle.michelson_code.specs.declared.instr.Instr.{Instr}
use Rattle.data_nodes.proofs.NodeLevels.{shows_prim, shows_seq}
use Rattle.michelson_reader.specs.CodeFaults.{applied, code_at, code_read, first_found, in_order, instruction_at, instruction_read, left_out_at, left_out_in, number, reader}
use Rattle.michelson_reader.specs.Entries.{entry_in}
use Rattle.michelson_reader.specs.Returned.{each, read_of}
use Rattle.michelson_reader.specs.ScriptFaults.{below, parameter_at, parameter_read}
use Rattle.michelson_reader.specs.TypeFaults as types
use Rattle.michelson_reader.specs.TypeFaults.{Read, no_form, then_read, type_read}
use Rattle.michelson_reader.proofs.CodeLevels.{code_read-level, instruction_read-level, readers, same_node}
use Rattle.michelson_reader.proofs.ParameterLevels.{parameter-level}
use Rattle.michelson_reader.proofs.ParameterLevels.{reader as parameter_reader, readers as parameter_readers}
use Rattle.michelson_reader.proofs.TypeNodes.{read_shown}

pub shows_int : (z : ℤ) → out-Body (variant.Int z) ≡ one.Int z
shows_int z = search (rules, the_lemmas)

-- ---- types

pub type_prim : (n : Node) (name : List ℕ) (notes : List (List ℕ)) (args : List Node) → n.body ≡ variant.Prim name notes args →
    type_read n ≡ types.applied n.at name (map type_read args)
type_prim n name notes args e = read_shown n name args (notes, ap out-Body e ∙ shows_prim name notes args)

-- ---- code

-- a node's reader holds the node itself, and what is read of it
reader-is : (n : Node) → reader n ≡ read_of n
reader-is n = λ i. record { node = same_node n i; instruction = instruction_read n; code = code_read n }

pub readers-are : (ns : List Node) → map reader ns ≡ map read_of ns
readers-are [] = refl
readers-are (n ∷ ns) = λ i. reader-is n i ∷ readers-are ns i

pub instruction_prim : (n : Node) (name : List ℕ) (notes : List (List ℕ)) (args : List Node) → n.body ≡ variant.Prim name notes args →
    instruction_read n ≡ applied n.at name notes (map read_of args)
instruction_prim n name notes args e =
    instruction_read-level n
    ∙ ap (λ (b : Body-F Body Node). instruction_at n.at (readers b)) (ap out-Body e ∙ shows_prim name notes args)
    ∙ ap (applied n.at name notes) (readers-are args)

pub code_prim : (n : Node) (name : List ℕ) (notes : List (List ℕ)) (args : List Node) → n.body ≡ variant.Prim name notes args → code_read n ≡ no_form n.at name
code_prim n name notes args e =
    code_read-level n ∙ ap (λ (b : Body-F Body Node). code_at n.at (readers b)) (ap out-Body e ∙ shows_prim name notes args)

in_order-is : (ns : List Node) → in_order (map reader ns) ≡ each (map instruction_read ns)
in_order-is [] = refl
in_order-is (n ∷ ns) = ap (λ (rest : Read (List Instr)). then_read (instruction_read n) (λ x. then_read rest (λ xs. Ok (x ∷ xs)))) (in_order-is ns)

pub code_seq : (n : Node) (nodes : List Node) → n.body ≡ variant.Seq nodes → code_read n ≡ each (map instruction_read nodes)
code_seq n nodes e =
    code_read-level n ∙ ap (λ (b : Body-F Body Node). code_at n.at (readers b)) (ap out-Body e ∙ shows_seq nodes) ∙ in_order-is nodes

pub number_prim : (at least : ℕ) (n : Node) (name : List ℕ) (notes : List (List ℕ)) (args : List Node) → n.body ≡ variant.Prim name notes args → number at least n ≡ no_form n.at name
number_prim at least n name notes args e = let shown : out-Body n.body ≡ one.Prim name notes args = ap out-Body e ∙ shows_prim name notes args in rw shown refl

-- ---- words that are left out

abbrev FoundWord : Type 0
FoundWord = Option (ℕ × List ℕ)

abbrev pub found_in_body : Body → ℕ → FoundWord
found_in_body = fold-Body (ℕ → FoundWord) FoundWord left_out_at (λ n. n.body n.at)

abbrev pub words_in : Body-F Body Node → Body-F (ℕ → FoundWord) FoundWord
words_in = map-Body Body Node (ℕ → FoundWord) FoundWord found_in_body left_out_in

one_node : Node → Node-F Body Node
one_node n = record { at = n.at; body = n.body }

left_out-is : (n : Node) → left_out_in n ≡ found_in_body n.body n.at
unfolding one_node
left_out-is n = fold-roll-Node (ℕ → FoundWord) FoundWord left_out_at (λ m. m.body m.at) (one_node n)

pub left_out-level : (n : Node) → left_out_in n ≡ left_out_at (words_in (out-Body n.body)) n.at
left_out-level n = left_out-is n ∙ ap (λ (f : ℕ → FoundWord). f n.at) (fold_out-Body (ℕ → FoundWord) FoundWord left_out_at (λ m. m.body m.at) n.body)

pub left_out_prim : (n : Node) (name : List ℕ) (notes : List (List ℕ)) (args : List Node) → n.body ≡ variant.Prim name notes args →
    left_out_in n ≡ left_out_at (one.Prim name notes (map left_out_in args)) n.at
left_out_prim n name notes args e =
    left_out-level n ∙ ap (λ (b : Body-F Body Node). left_out_at (words_in b) n.at) (ap out-Body e ∙ shows_prim name notes args)

pub left_out_seq : (n : Node) (nodes : List Node) → n.body ≡ variant.Seq nodes → left_out_in n ≡ first_found (map left_out_in nodes)
left_out_seq n nodes e =
    left_out-level n ∙ ap (λ (b : Body-F Body Node). left_out_at (words_in b) n.at) (ap out-Body e ∙ shows_seq nodes)

-- ---- the parameter

pub parameter_prim : (n : Node) (name : List ℕ) (notes : List (List ℕ)) (args : List Node) → n.body ≡ variant.Prim name notes args →
    parameter_read n ≡ option_map_or (below n name (map parameter_reader args)) (entry_in notes) (no_form n.at name)
parameter_prim n name notes args e =
    parameter-level n ∙ ap (λ (b : Body-F Body Node). parameter_at n (parameter_readers b)) (ap out-Body e ∙ shows_prim name notes args)
