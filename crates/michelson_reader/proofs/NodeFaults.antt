-- What is read of nodes is never told as a fault of the text itself, nor as want of memory.
use Rattle.std.proofs.Common.{◌≡◌, ℕ, Bool, true, false, List, [], ◌∷◌, map, Option, None, Some, Result, Ok, Err, refl, sym, subst}
use Rattle.std.specs.Prelude.{pos, ◌&&◌, codes, int_le, nat_abs, nat_le, if◌then◌else◌}
use Rattle.std.specs.Option.{option_map_or}
use Rattle.std.specs.Str.{bytes_eq}
use Rattle.value_core.specs.declared.ty.Ty.{Ty}
use Rattle.value_core.specs.declared.ty.Ty.TheVariants as type
use Rattle.micheline_text.specs.declared.node.Node.{Node}
use Rattle.micheline_text.specs.declared.node.Body.{Body}
use Rattle.micheline_text.specs.declared.node.Body.TheOpen as body
use Rattle.micheline_text.specs.declared.node.Body.TheOpen.{Body-F}
use Rattle.micheline_text.specs.declared.node.Body.TheViews.{out-Body}
use Rattle.michelson_code.specs.declared.instr.Instr.{Instr}
use Rattle.michelson_code.specs.declared.instr.Instr.TheVariants as instr
use Rattle.michelson_code.specs.declared.script.Script.{Script}
use Rattle.data_nodes.specs.declared.fault.DataFault.{DataFault}
use Rattle.data_nodes.specs.Faults.{data_read}
use Rattle.michelson_reader.specs.declared.fault.ReadFault.{ReadFault}
use Rattle.michelson_reader.specs.declared.fault.ReadFault.TheVariants as fault
use Rattle.michelson_reader.specs.CodeFaults.{alone, code_at, code_read, data_fault, entry, in_order, instruction_at, instruction_read, left_out_in, number, pushed, reader, told, with_one, with_two}
use Rattle.michelson_reader.specs.CodeFaults.{applied as code_applied}
use Rattle.michelson_reader.specs.Entries.{entry_in}
use Rattle.michelson_reader.specs.Names.{forms_of_body, forms_of_number, forms_of_two_bodies, forms_of_type, is_known, is_left_out, named, plain_forms, plain_types, types_of_one, types_of_two}
use Rattle.michelson_reader.specs.Script.{unbraced}
use Rattle.michelson_reader.specs.ScriptFaults.{Parameter, Sections, all_three, below, either, once, other, parameter_at, parameter_read, script_read, section, section_body, sections}
use Rattle.michelson_reader.specs.TypeFaults.{Read, applied, comb, no_form, then_read, type_at, type_read}
use Rattle.michelson_reader.proofs.CodeLevels.{code_read-level, instruction_read-level}
use Rattle.michelson_reader.proofs.CodeLevels.{readers as code_readers}
use Rattle.michelson_reader.proofs.NodeInduction.{Each, induction, parts_of}
use Rattle.michelson_reader.proofs.ParameterLevels.{parameter-level, readers}
use Rattle.michelson_reader.proofs.ParameterLevels.{reader as parameter_reader}
use Rattle.michelson_reader.proofs.TypeLevels.{read_parts, type_read-level}

abbrev pub IsOfNodes : ReadFault → Type 0
IsOfNodes (fault.Text f) = ⊥
IsOfNodes fault.NoMemory = ⊥
IsOfNodes _ = Unit {0}

-- no fault of the text is told
abbrev pub IsFree : {A : Type 0} → Read A → Type 0
IsFree (Ok x) = Unit {0}
IsFree (Err e) = IsOfNodes e

-- ---- steps and choices

module _ {A B : Type 0} where
  then_free : (r : Read A) (f : A → Read B) → IsFree r → ((x : A) → IsFree (f x)) → IsFree (then_read r f)
  then_free (Ok x) f first next = next x
  then_free (Err e) f first next = first

  -- one thing, and by it a value
  made_free : (r : Read A) (f : A → B) → IsFree r → IsFree (then_read r (λ x. Ok (f x)))
  made_free r f first = then_free r (λ x. Ok (f x)) first (λ x. tt)

  by_free : (f : A → Read B) (o : Option A) (r : Read B) → ((x : A) → IsFree (f x)) → IsFree r → IsFree (option_map_or f o r)
  by_free f None r some none = none
  by_free f (Some x) r some none = some x

if_free : {A : Type 0} (b : Bool) (x y : Read A) → IsFree x → IsFree y → IsFree (if b then x else y)
if_free true x y first second = first
if_free false x y first second = second

no_form_free : (A : Type 0) (at : ℕ) (name : List ℕ) → IsFree {A = A} (no_form at name)
no_form_free A at name = if_free (is_known name) _ _ tt (if_free (is_left_out name) _ _ tt tt)

-- ---- types

abbrev FreeType : Node → Type 0
FreeType n = IsFree (type_read n)

comb_free : (n : Node) (ns : List Node) → FreeType n → Each FreeType ns → IsFree (comb (type_read n) (map type_read ns))
comb_free n [] first more = first
comb_free n (m ∷ ns) first more =
    then_free (type_read n) (λ s. then_read (comb (type_read m) (map type_read ns)) (λ t. Ok (type.Pair s t))) first
    (λ s. made_free (comb (type_read m) (map type_read ns)) (λ t. type.Pair s t) (comb_free m ns more.0 more.1))

applied_free : (at : ℕ) (name : List ℕ) (args : List Node) → Each FreeType args → IsFree (applied at name (map type_read args))
applied_free at name [] parts = by_free (λ t. Ok t) (named name plain_types) (no_form at name) (λ t. tt) (no_form_free _ at name)
applied_free at name (x ∷ []) parts =
    by_free (λ f. then_read (type_read x) (λ t. Ok (f t))) (named name types_of_one) (no_form at name) (λ f. made_free (type_read x) f parts.0) (no_form_free _ at name)
applied_free at name (x ∷ y ∷ []) parts =
    by_free (λ f. then_read (type_read x) (λ s. then_read (type_read y) (λ t. Ok (f s t)))) (named name types_of_two) (no_form at name)
    (λ f. then_free (type_read x) (λ s. then_read (type_read y) (λ t. Ok (f s t))) parts.0 (λ s. made_free (type_read y) (f s) parts.1.0)) (no_form_free _ at name)
applied_free at name (x ∷ y ∷ z ∷ more) parts = if_free (bytes_eq name (codes "pair")) _ _ (comb_free x (y ∷ z ∷ more) parts.0 parts.1) (no_form_free _ at name)

type_level_free : (at : ℕ) (x : Body-F Body Node) → Each FreeType (parts_of x) → IsFree (type_at (read_parts x) at)
type_level_free at (body.Prim name notes args) parts = applied_free at name args parts
type_level_free at _ parts = tt

type_free : (n : Node) → FreeType n
type_free = induction FreeType (λ n parts. subst (λ (r : Read Ty). IsFree r) (sym (type_read-level n)) (type_level_free n.at (out-Body n.body) parts))

-- ---- operands

number_free : (at least : ℕ) (n : Node) → IsFree (number at least n)
number_free at least n = by_level (out-Body n.body) refl
  where
    by_level : (b : Body-F Body Node) → out-Body n.body ≡ b → IsFree (number at least n)
    by_level (body.Int z) is = rw is (if_free (int_le (pos least) z && int_le z (pos 65535)) (Ok (nat_abs z)) (Err (fault.Arity at)) tt tt)
    by_level (body.Prim name notes args) is = rw is (no_form_free _ n.at name)
    by_level _ is = rw is tt

entry_free : (at : ℕ) (notes : List (List ℕ)) → IsFree (entry at notes)
entry_free at notes = by_free (λ e. Ok e) (entry_in notes) (Err (fault.Arity at)) (λ e. tt) tt

data_fault_free : (A : Type 0) (f : DataFault) (found : Option (ℕ × List ℕ)) → IsFree {A = A} (data_fault f found)
data_fault_free A f None = tt
data_fault_free A f (Some found) = if_free (nat_le found.0 f.at) _ _ tt tt

told_free : {A : Type 0} (n : Node) (r : Result A DataFault) → IsFree (told n r)
told_free n (Ok v) = tt
told_free n (Err f) = data_fault_free _ f (left_out_in n)

-- ---- instructions

record FreeCode (n : Node) : Type 0 where
  instruction : IsFree (instruction_read n)
  code : IsFree (code_read n)

in_order_free : (ns : List Node) → Each FreeCode ns → IsFree (in_order (map reader ns))
in_order_free [] parts = tt
in_order_free (n ∷ ns) parts =
    then_free (instruction_read n) (λ i. then_read (in_order (map reader ns)) (λ is. Ok (i ∷ is))) parts.0.instruction
    (λ i. made_free (in_order (map reader ns)) (λ is. i ∷ is) (in_order_free ns parts.1))

alone_free : (at : ℕ) (name : List ℕ) (notes : List (List ℕ)) → IsFree (alone at name notes)
alone_free at name notes = if_free (bytes_eq name (codes "SELF")) _ _
    (made_free (entry at notes) (λ e. instr.SelfEntry e) (entry_free at notes))
    (by_free (λ i. Ok i) (named name plain_forms) (no_form at name) (λ i. tt) (no_form_free _ at name))

with_one_free : (at : ℕ) (name : List ℕ) (notes : List (List ℕ)) (x : Node) → FreeCode x → IsFree (with_one at name notes (reader x))
with_one_free at name notes x part = if_free (bytes_eq name (codes "CONTRACT")) _ _
    (then_free (entry at notes) _ (entry_free at notes) (λ e. made_free (type_read (reader x).node) (λ t. instr.Contract e t) (type_free (reader x).node)))
    (by_free _ (named name forms_of_number) _ (λ f. made_free (number at f.0 (reader x).node) f.1 (number_free at f.0 (reader x).node))
    (by_free _ (named name forms_of_type) _ (λ f. made_free (type_read (reader x).node) f (type_free (reader x).node))
    (by_free _ (named name forms_of_body) _ (λ f. made_free (code_read x) f part.code) (no_form_free _ at name))))

with_two_free : (at : ℕ) (name : List ℕ) (x y : Node) → FreeCode x → FreeCode y → IsFree (with_two at name (reader x) (reader y))
with_two_free at name x y first second = if_free (bytes_eq name (codes "PUSH")) _ _
    (then_free (type_read (reader x).node) _ (type_free (reader x).node)
    (λ t. made_free (pushed t (reader y).node) (λ v. instr.Push t v) (told_free (reader y).node (data_read t (reader y).node))))
    (if_free (bytes_eq name (codes "EMPTY_MAP")) _ _
    (then_free (type_read (reader x).node) _ (type_free (reader x).node) (λ k. made_free (type_read (reader y).node) (λ v. instr.EmptyMap k v) (type_free (reader y).node)))
    (if_free (bytes_eq name (codes "DIP")) _ _
    (then_free (number at 0 (reader x).node) _ (number_free at 0 (reader x).node) (λ n. made_free (code_read y) (λ c. instr.DipN n c) second.code))
    (by_free _ (named name forms_of_two_bodies) _ (λ f. then_free (code_read x) _ first.code (λ c. made_free (code_read y) (f c) second.code)) (no_form_free _ at name))))

code_applied_free : (at : ℕ) (name : List ℕ) (notes : List (List ℕ)) (args : List Node) → Each FreeCode args → IsFree (code_applied at name notes (map reader args))
code_applied_free at name notes [] parts = alone_free at name notes
code_applied_free at name notes (x ∷ []) parts = with_one_free at name notes x parts.0
code_applied_free at name notes (x ∷ y ∷ []) parts = with_two_free at name x y parts.0 parts.1.0
code_applied_free at name notes (x ∷ y ∷ z ∷ more) parts = no_form_free _ at name

instruction_level_free : (at : ℕ) (b : Body-F Body Node) → Each FreeCode (parts_of b) → IsFree (instruction_at at (code_readers b))
instruction_level_free at (body.Prim name notes args) parts = code_applied_free at name notes args parts
instruction_level_free at _ parts = tt

code_level_free : (at : ℕ) (b : Body-F Body Node) → Each FreeCode (parts_of b) → IsFree (code_at at (code_readers b))
code_level_free at (body.Seq nodes) parts = in_order_free nodes parts
code_level_free at (body.Prim name notes args) parts = no_form_free _ at name
code_level_free at _ parts = tt

code_free : (n : Node) → FreeCode n
code_free = induction FreeCode (λ n parts. record {
  instruction = subst (λ (r : Read Instr). IsFree r) (sym (instruction_read-level n)) (instruction_level_free n.at (out-Body n.body) parts);
  code = subst (λ (r : Read (List Instr)). IsFree r) (sym (code_read-level n)) (code_level_free n.at (out-Body n.body) parts);
})

-- ---- the parameter

abbrev FreeParameter : Node → Type 0
FreeParameter n = IsFree (parameter_read n)

other_free : (n : Node) (name : Option (List ℕ)) → IsFree (other n name)
other_free n name = made_free (type_read n) _ (type_free n)

either_free : (name : Option (List ℕ)) (x y : Node) → FreeParameter x → FreeParameter y → IsFree (either name (parameter_reader x) (parameter_reader y))
either_free name x y first second = then_free (parameter_read x) _ first (λ s. made_free (parameter_read y) _ second)

below_free : (n : Node) (word : List ℕ) (args : List Node) (name : Option (List ℕ)) → Each FreeParameter args → IsFree (below n word (map parameter_reader args) name)
below_free n word [] name parts = other_free n name
below_free n word (x ∷ []) name parts = other_free n name
below_free n word (x ∷ y ∷ []) name parts = if_free (bytes_eq word (codes "or")) _ _ (either_free name x y parts.0 parts.1.0) (other_free n name)
below_free n word (x ∷ y ∷ z ∷ more) name parts = other_free n name

parameter_level_free : (n : Node) (b : Body-F Body Node) → Each FreeParameter (parts_of b) → IsFree (parameter_at n (readers b))
parameter_level_free n (body.Prim word notes args) parts =
    by_free (below n word (map parameter_reader args)) (entry_in notes) (no_form n.at word) (λ name. below_free n word args name parts) (no_form_free _ n.at word)
parameter_level_free n _ parts = other_free n None

parameter_free : (n : Node) → FreeParameter n
parameter_free = induction FreeParameter (λ n parts. subst (λ (r : Read Parameter). IsFree r) (sym (parameter-level n)) (parameter_level_free n (out-Body n.body) parts))

-- ---- sections

once_free : {A : Type 0} (at : ℕ) (before : Option A) (args : List Node) (read : Node → Read A) → ((n : Node) → IsFree (read n)) → IsFree (once at before args read)
once_free at (Some before) args read each = tt
once_free at None [] read each = tt
once_free at None (x ∷ []) read each = each x
once_free at None (x ∷ y ∷ more) read each = tt

section_free : (at : ℕ) (name : List ℕ) (args : List Node) (s : Sections) → IsFree (section at name args s)
section_free at name args s = if_free (bytes_eq name (codes "parameter")) _ _ (made_free (once at s.parameter args parameter_read) _ (once_free at s.parameter args parameter_read parameter_free))
    (if_free (bytes_eq name (codes "storage")) _ _ (made_free (once at s.storage args type_read) _ (once_free at s.storage args type_read type_free))
    (if_free (bytes_eq name (codes "code")) _ _ (made_free (once at s.code args code_read) _ (once_free at s.code args code_read (λ n. (code_free n).code))) tt))

section_body_free : (at : ℕ) (b : Body-F Body Node) (s : Sections) → IsFree (section_body at b s)
section_body_free at (body.Prim name notes args) s = section_free at name args s
section_body_free at _ s = tt

all_three_free : (end : ℕ) (p : Option Parameter) (t : Option Ty) (c : Option (List Instr)) → IsFree (all_three end p t c)
all_three_free end (Some p) (Some t) (Some c) = tt
all_three_free end _ _ _ = tt

sections_free : (end : ℕ) (s : Sections) (ns : List Node) → IsFree (sections end s ns)
sections_free end s [] = all_three_free end s.parameter s.storage s.code
sections_free end s (n ∷ ns) = then_free (section_body n.at (out-Body n.body) s) (λ more. sections end more ns) (section_body_free n.at (out-Body n.body) s) (λ more. sections_free end more ns)

-- a script that can't be read of nodes isn't told as a fault of the text
pub of_nodes : (end : ℕ) (ns : List Node) (f : ReadFault) → script_read end ns ≡ Err f → IsOfNodes f
of_nodes end ns f e = subst (λ (r : Read Script). IsFree r) e (sections_free end _ (unbraced ns))
