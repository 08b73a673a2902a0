-- Scripts read from the left: the script, or the first fault and its place.
use Rattle.std.specs.Prelude.{ℕ, List, [], ◌∷◌, codes, if◌then◌else◌, Option, None, Some, Ok, Err}
use Rattle.std.specs.Option.{option_map_or}
use Rattle.std.specs.Str.{bytes_eq}
use Rattle.value_core.specs.declared.ty.Ty.{Ty}
use Rattle.value_core.specs.declared.ty.Ty.TheVariants as type
use Rattle.micheline_text.specs.declared.node.Node.{Node}
use Rattle.micheline_text.specs.declared.node.Body.{Body}
use Rattle.micheline_text.specs.declared.node.Body.TheOpen as body
use Rattle.micheline_text.specs.declared.node.Body.TheOpen.{Body-F}
use Rattle.micheline_text.specs.declared.node.Body.TheViews.{out-Body, roll-Body}
use Rattle.micheline_text.specs.declared.node.Body.TheFolds.{fold-Node, map-Body}
use Rattle.michelson_code.specs.declared.instr.Instr.{Instr}
use Rattle.michelson_code.specs.declared.script.Script.{Script}
use Rattle.michelson_reader.specs.declared.fault.ReadFault.TheVariants as fault
use Rattle.michelson_reader.specs.CodeFaults.{code_read}
use Rattle.michelson_code.specs.Entries.{NamedEntry}
use Rattle.michelson_reader.specs.Entries.{entry_in, in_order, own}
use Rattle.michelson_reader.specs.Script.{unbraced}
use Rattle.michelson_reader.specs.TypeFaults.{Read, no_form, then_read, type_read}

-- ---- the parameter's type, with the names of entries at the nodes that `or` alone reaches

-- a type, with the names of entries
abbrev pub Parameter : Type 0
Parameter = Ty × List NamedEntry

-- a node itself, and what is read of it as a part of the parameter
pub record ParameterReader : Type 0 where
  pub node : Node
  pub read : Read Parameter

-- an `or` of two parts
abbrev pub either : Option (List ℕ) → ParameterReader → ParameterReader → Read Parameter
either name x y = then_read x.read (λ s. then_read y.read (λ t. Ok (type.Or s.0 t.0, in_order name s.1 t.1)))

-- any other type
abbrev pub other : Node → Option (List ℕ) → Read Parameter
other n name = then_read (type_read n) (λ t. Ok (t, own name))

-- by the word and its arguments
abbrev pub below : Node → List ℕ → List ParameterReader → Option (List ℕ) → Read Parameter
below n word (x ∷ y ∷ []) name = if bytes_eq word (codes "or") then either name x y else other n name
below n word _ name = other n name

-- annotations that aren't fit are told at the node, where its word isn't at fault before them
abbrev pub parameter_at : Node → Body-F (ℕ → ParameterReader) ParameterReader → Read Parameter
parameter_at n (body.Prim word notes args) = option_map_or (below n word args) (entry_in notes) (no_form n.at word)
parameter_at n _ = other n None

-- the body itself
abbrev pub body_of : Body-F (ℕ → ParameterReader) ParameterReader → Body
body_of b = roll-Body (map-Body (ℕ → ParameterReader) ParameterReader Body Node (λ r. (r 0).node.body) (λ r. r.node) b)

-- a part of the parameter with such a body
abbrev pub reader_at : Body-F (ℕ → ParameterReader) ParameterReader → ℕ → ParameterReader
reader_at b at = let n : Node = record { at = at; body = body_of b } in record { node = n; read = parameter_at n b }

-- the parameter that a node is
abbrev pub parameter_read : Node → Read Parameter
parameter_read n = (fold-Node (ℕ → ParameterReader) ParameterReader reader_at (λ n. n.body n.at) n).read

-- ---- sections, each once

-- the sections so far
pub record Sections : Type 0 where
  pub parameter : Option Parameter
  pub storage : Option Ty
  pub code : Option (List Instr)

-- the one argument of a section that didn't stand before
abbrev pub once : {A : Type 0} → ℕ → Option A → List Node → (Node → Read A) → Read A
once at (Some before) args read = Err (fault.Sections at)
once at None (x ∷ []) read = read x
once at None _ read = Err (fault.Arity at)

-- a section by its word
abbrev pub section : ℕ → List ℕ → List Node → Sections → Read Sections
section at name args s =
    if bytes_eq name (codes "parameter") then then_read (once at s.parameter args parameter_read) (λ p. Ok (record s { parameter = Some p }))
    else if bytes_eq name (codes "storage") then then_read (once at s.storage args type_read) (λ t. Ok (record s { storage = Some t }))
    else if bytes_eq name (codes "code") then then_read (once at s.code args code_read) (λ c. Ok (record s { code = Some c }))
    else Err (fault.Sections at)

-- a section, by the kind of node
abbrev pub section_body : ℕ → Body-F Body Node → Sections → Read Sections
section_body at (body.Prim name notes args) s = section at name args s
section_body at _ s = Err (fault.Sections at)

-- what is missing is told at the text's end
abbrev pub all_three : ℕ → Option Parameter → Option Ty → Option (List Instr) → Read Script
all_three end (Some p) (Some t) (Some c) = Ok (record { param = p.0; names = p.1; storage = t; code = c })
all_three end _ _ _ = Err (fault.Sections end)

-- all of them, from the left
abbrev pub sections : ℕ → Sections → List Node → Read Script
sections end s [] = all_three end s.parameter s.storage s.code
sections end s (n ∷ ns) = then_read (section_body n.at (out-Body n.body) s) (λ more. sections end more ns)

-- the script that nodes are, where a text ends there
abbrev pub script_read : ℕ → List Node → Read Script
script_read end ns = sections end (record { parameter = None; storage = None; code = None }) (unbraced ns)
