-- Reading cells and footprints: what is read, and where the first fault is.
use Rattle.std.specs.Prelude.{ℕ, ◌-◌, List, length, Bool, true, Option, Some, None, Err, nat_le, ◌==◌, if◌then◌else◌, slice_get}
use Rattle.std.specs.Int.{w8, w32}
use Rattle.std.specs.Option.{option_map}
use Rattle.std.specs.Ordering.{is_lt}
use Rattle.byte_fields.specs.Stops.{Faulty, Stopped}
use Rattle.byte_fields.specs.Readers.{Reader, made, both, with, checked, chained, number, tagged}
use Rattle.value_codec.specs.declared.tag.TheConstants.{KEY_VALUE}
use Rattle.value_codec.specs.Reading.{address, place, value}
use Rattle.cell_names.specs.declared.cell.Cell.{Cell}
use Rattle.cell_names.specs.declared.cell.Cell.TheVariants.{Balance, Storage, Entry}
use Rattle.cell_names.specs.declared.footprint.TheConstants.{MOST_CELLS}
use Rattle.cell_names.specs.declared.mode.Mode.{Mode}
use Rattle.cell_names.specs.declared.mode.Mode.TheVariants as modes
use Rattle.cell_names.specs.Cells.{cell_cmp}

-- the kinds of cells
abbrev pub is_kind : ℕ → Bool
is_kind k = nat_le k 2

-- what stands behind the kind of an entry: the address, the place and the key
abbrev pub entry : Reader Cell
entry = made (λ p. Entry p.0 p.1.0 p.1.1) (both address (both place (value KEY_VALUE 128)))

-- what stands behind each kind
abbrev pub behind : ℕ → Reader Cell
behind k =
    if k == 0 then made Balance address else
    if k == 1 then made Storage address else
    if k == 2 then entry else
    λ bytes. Err (Stopped Faulty (length bytes))

-- the kind, and what stands behind it
abbrev pub cell : Reader Cell
cell = tagged is_kind behind

-- what a byte up to 2 means as a mode
abbrev pub mode_of_byte : ℕ → Mode
mode_of_byte b = if b == 0 then modes.Read else if b == 1 then modes.Credit else modes.Own

-- the byte of a mode
abbrev pub mode : Reader Mode
mode = made mode_of_byte (checked (λ b. nat_le b 2) (number w8))

-- the cell is above the last one, if there is one
abbrev pub is_above : Option Cell → Cell → Bool
is_above None c = true
is_above (Some last) c = is_lt (cell_cmp last c)

-- the order is tested before the mode is read, and told at the cell's first byte
abbrev pub touch : Option Cell → Reader (Cell × Mode)
touch last = both (checked (is_above last) cell) mode

-- the cell that the next one has to be above
abbrev pub next_last : Option Cell → Cell × Mode → Option Cell
next_last last t = Some t.0

-- so many touches, counted before
abbrev pub footprint : Reader (List (Cell × Mode))
footprint = with (checked (λ n. nat_le n MOST_CELLS) (number w32)) (chained touch next_last None)

-- the last cell of those that were read
abbrev pub last_cell : List (Cell × Mode) → Option Cell
last_cell f = option_map (λ (t : Cell × Mode). t.0) (slice_get f (length f - 1))
