-- A written type on its way into the table: levels that wait for their last part.
use Rattle.std.specs.Prelude.{◌≡◌, ℕ, ◌<◌, IsTrue, List, [], ◌∷◌}
use Rattle.value_core.specs.declared.ty.Ty.{Ty}
use Rattle.value_core.specs.declared.ty.Ty.TheVariants as type
use Rattle.value_core.specs.Nodes.{nodes_of}
use Rattle.michelson_code.specs.declared.operands.Level.{Level}
use Rattle.michelson_code.specs.declared.operands.Level.TheVariants as level
use Rattle.michelson_typer.specs.declared.written.Begun.{Begun}
use Rattle.michelson_typer.specs.declared.written.Begun.TheVariants.{Whole, Waits}
use Rattle.michelson_typer.specs.declared.written.Waiting.{Waiting}
use Rattle.michelson_typer.specs.declared.written.Waiting.TheVariants as waiting
use Rattle.michelson_typer.specs.Stacks.{IsLevelFor}
use Rattle.michelson_typer.specs.Tables.{are_in, type_at}

-- the first parts of a level that waits
abbrev pub first_parts : Waiting → List ℕ
first_parts (waiting.Or id) = id ∷ []
first_parts (waiting.Pair id) = id ∷ []
first_parts (waiting.Map id) = id ∷ []
first_parts (waiting.BigMap id) = id ∷ []
first_parts _ = []

-- the level that waited, with its last part
abbrev pub filled : Waiting → ℕ → Level ℕ
filled waiting.Option last = level.Option last
filled waiting.List last = level.List last
filled waiting.Set last = level.Set last
filled waiting.Contract last = level.Contract last
filled (waiting.Or id) last = level.Or id last
filled (waiting.Pair id) last = level.Pair id last
filled (waiting.Map id) last = level.Map id last
filled (waiting.BigMap id) last = level.BigMap id last

-- the type of a level that waits, with its last part
abbrev pub over_last : List Ty → Waiting → Ty → Ty
over_last table waiting.Option t = type.Option t
over_last table waiting.List t = type.List t
over_last table waiting.Set t = type.Set t
over_last table waiting.Contract t = type.Contract t
over_last table (waiting.Or id) t = type.Or (type_at table id) t
over_last table (waiting.Pair id) t = type.Pair (type_at table id) t
over_last table (waiting.Map id) t = type.Map (type_at table id) t
over_last table (waiting.BigMap id) t = type.BigMap (type_at table id) t

-- the type under levels that wait, the outermost first
abbrev pub over_all : List Ty → List Waiting → Ty → Ty
over_all table [] t = t
over_all table (w ∷ ws) t = over_last table w (over_all table ws t)

-- the first parts of levels that wait are types of the table
abbrev pub AreWaiting : List Ty → List Waiting → Type 0
AreWaiting table [] = Unit {0}
AreWaiting table (w ∷ ws) = IsTrue (are_in table (first_parts w)) × AreWaiting table ws

-- a type whose first part has its number, and which has more nodes than what it waits for
abbrev pub IsBegun : List Ty → Ty → Begun → Type 0
IsBegun table t (Whole l) = IsLevelFor table l t
IsBegun table t (Waits w last) = IsTrue (are_in table (first_parts w)) × (over_last table w last.now ≡ t) × (nodes_of last.now < nodes_of t)
