-- Which scripts are typed: one line for each rule of docs/MICHELSON.md on a script as a whole.
use Rattle.std.specs.Prelude.{◌≤◌, ◌≢◌, IsTrue, List, [], ◌∷◌, AllPairs}
use Rattle.value_core.specs.declared.ty.Ty.{Ty}
use Rattle.value_core.specs.declared.ty.Ty.TheVariants as type
use Rattle.value_core.specs.Kinds.{is_passable}
use Rattle.michelson_code.specs.declared.instr.Instr.TheVariants as instr
use Rattle.michelson_code.specs.declared.script.Script.{Script}
use Rattle.michelson_code.specs.Brackets.{script_brackets}
use Rattle.michelson_code.specs.Entries.{NamedEntry}
use Rattle.michelson_code.specs.Printable.{are_entries_of}
use Rattle.michelson_code.specs.Typing.{CodeTyped, EndsWith, Outcome}
use Rattle.michelson_code.specs.Weight.{code_count}
use Rattle.michelson_code.specs.WrittenTypes.{has_comparable_keys, has_storage_big_maps, is_kept, is_within_limits}

-- two entries have different names
abbrev pub AreNamedApart : NamedEntry → NamedEntry → Type 0
AreNamedApart e f = e.1 ≢ f.1

-- the stack on which the code begins: one pair of parameter and storage
abbrev pub first_stack : Script → List Ty
first_stack s = type.Pair s.param s.storage ∷ []

-- the stack with which it ends: one pair of operations and storage
abbrev pub last_stack : Script → List Ty
last_stack s = type.Pair (type.List type.Operation) s.storage ∷ []

-- the script may run
pub record IsTypedScript (s : Script) : Type 0 where
  -- keys and elements are comparable
  pub param_keys : IsTrue (has_comparable_keys s.param)
  pub storage_keys : IsTrue (has_comparable_keys s.storage)
  -- the parameter may be passed: no contract, no operation and no big map stands in it
  pub param : IsTrue (is_passable s.param)
  -- no contract and no operation stands in the storage, and its big maps stand on the path of pairs from the root
  pub storage : IsTrue (is_kept s.storage)
  pub big_maps : IsTrue (has_storage_big_maps s.storage)
  -- no name stands twice, and each stands at a node that `or` alone reaches, in the order of the text
  pub names : AllPairs AreNamedApart s.names
  pub entries : IsTrue (are_entries_of s.param s.names)
  -- the types are within the limits, and so are the code and its text
  pub param_limits : IsTrue (is_within_limits s.param)
  pub storage_limits : IsTrue (is_within_limits s.storage)
  pub count : code_count s.code ≤ 65536
  pub brackets : script_brackets s ≤ 256
  -- the code goes from the one stack to the other, or fails
  pub ends : (o : Outcome) × (CodeTyped s 0 s.code (first_stack s) o × EndsWith (last_stack s) o)

-- a counter: `parameter int ; storage int ; code { UNPAIR ; ADD ; NIL operation ; PAIR }`, which is typed
abbrev pub counter : Script
counter = record {
  param = type.Int;
  names = [];
  storage = type.Int;
  code = instr.Unpair ∷ instr.Add ∷ instr.Nil type.Operation ∷ instr.Pair ∷ [];
}
