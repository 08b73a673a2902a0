-- How far blanks and comments go, byte by byte.
use Rattle.std.specs.Prelude.{ℕ, ◌≤◌, List, [], ◌∷◌, length, ◌==◌, if◌then◌else◌}
use Rattle.micheline_text.specs.Kinds.{is_blank}
use Rattle.micheline_text.specs.declared.gap.Mode.{Mode}
use Rattle.micheline_text.specs.declared.gap.Mode.TheVariants as mode
use Rattle.micheline_text.specs.declared.gap.Move.{Move}
use Rattle.micheline_text.specs.declared.gap.Move.TheVariants as move
use Rattle.micheline_text.specs.declared.gap.Gap.{Gap}
use Rattle.micheline_text.specs.declared.gap.Gap.TheVariants as gap

-- what a byte does to what was seen before it; so many bytes are left, it among them
abbrev pub move_at : Mode → ℕ → ℕ → Move
move_at mode.Between left b =
    if is_blank b then move.On mode.Between else if b == 35 then move.On mode.Line
    else if b == 47 then move.On (mode.Slash left) else move.Stop left
move_at mode.Line left b = if b == 10 then move.On mode.Between else move.On mode.Line
move_at (mode.Slash from) left b = if b == 42 then move.On (mode.Block from) else move.Stop from
move_at (mode.Block from) left b =
    if b == 42 then move.On (mode.Star from) else move.On (mode.Block from)
move_at (mode.Star from) left b =
    if b == 47 then move.On mode.Between
    else if b == 42 then move.On (mode.Star from) else move.On (mode.Block from)

-- what follows where the bytes end
abbrev pub gap_end : Mode → Gap
gap_end mode.Between = gap.End
gap_end mode.Line = gap.End
gap_end (mode.Slash from) = gap.Token from
gap_end (mode.Block from) = gap.Comment from
gap_end (mode.Star from) = gap.Comment from

-- the next byte, or the token that stands there
abbrev pub after_move : Move → (Mode → Gap) → Gap
after_move (move.On m) next = next m
after_move (move.Stop left) next = gap.Token left

-- what follows the gap, after what was seen of it
abbrev pub gap_from : Mode → List ℕ → Gap
gap_from m [] = gap_end m
gap_from m (b ∷ bytes) = after_move (move_at m (length (b ∷ bytes)) b) (λ n. gap_from n bytes)

-- so many bytes are left there, of so many
abbrev pub IsLeft : ℕ → ℕ → Type 0
IsLeft left total = (1 ≤ left) × (left ≤ total)

-- what follows is within so many bytes
abbrev pub GapWithin : ℕ → Gap → Type 0
GapWithin total gap.End = Unit {0}
GapWithin total (gap.Token left) = IsLeft left total
GapWithin total (gap.Comment left) = IsLeft left total

-- the comment that is open began within so many bytes
abbrev pub ModeWithin : ℕ → Mode → Type 0
ModeWithin total mode.Between = Unit {0}
ModeWithin total mode.Line = Unit {0}
ModeWithin total (mode.Slash from) = IsLeft from total
ModeWithin total (mode.Block from) = IsLeft from total
ModeWithin total (mode.Star from) = IsLeft from total

-- the same after one more byte
abbrev pub MoveWithin : ℕ → Move → Type 0
MoveWithin total (move.On m) = ModeWithin total m
MoveWithin total (move.Stop left) = IsLeft left total
