-- Which modes exclude one another, and which mode stands for two.
use Rattle.std.specs.Prelude.{Bool, true, false}
use Rattle.cell_names.specs.declared.mode.Mode.{Mode}
use Rattle.cell_names.specs.declared.mode.Mode.TheVariants.{Read, Credit, Own}

-- two modes of one cell conflict unless both read or both credit
abbrev pub conflicts : Mode → Mode → Bool
conflicts Read Read = false
conflicts Credit Credit = false
conflicts _ _ = true

-- a mode with itself is that mode, and two different modes are Own
abbrev pub joined : Mode → Mode → Mode
joined Read Read = Read
joined Credit Credit = Credit
joined _ _ = Own
