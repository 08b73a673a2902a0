-- How far blanks and comments go, byte by byte.
use Rattle.std.specs.Prelude.{ℕ, zero, suc, ◌+◌, List, [], ◌∷◌, length, ◌==◌, if◌then◌else◌}
use Rattle.micheline_text.specs.Kinds.{is_blank}
use Rattle.micheline_text.specs.Gaps.{IsLeft}
use Rattle.ligo_tokens.specs.declared.gap.Mode.{Mode}
use Rattle.ligo_tokens.specs.declared.gap.Mode.TheVariants as mode
use Rattle.ligo_tokens.specs.declared.gap.Move.{Move}
use Rattle.ligo_tokens.specs.declared.gap.Move.TheVariants as move
use Rattle.micheline_text.specs.declared.gap.Gap.{Gap}
use Rattle.micheline_text.specs.declared.gap.Gap.TheVariants as gap

-- a comment ends, in which so many further ones are open
abbrev pub closed : ℕ → ℕ → Mode
closed from zero = mode.Between
closed from (suc further) = mode.Block from further

-- what a byte does to what was seen before it; so many bytes are left, it among them
abbrev pub move_at : Mode → ℕ → ℕ → Move
move_at mode.Between left b =
    if is_blank b then move.On mode.Between else if b == 47 then move.On (mode.Slash left)
    else if b == 40 then move.On (mode.Paren left) else move.Stop left
move_at (mode.Slash from) left b = if b == 47 then move.On mode.Line else move.Stop from
move_at mode.Line left b = if b == 10 then move.On mode.Between else move.On mode.Line
move_at (mode.Paren from) left b = if b == 42 then move.On (mode.Block from 0) else move.Stop from
move_at (mode.Block from further) left b =
    if b == 42 then move.On (mode.Star from further) else if b == 40 then move.On (mode.Inner from further)
    else move.On (mode.Block from further)
move_at (mode.Star from further) left b =
    if b == 41 then move.On (closed from further) else if b == 42 then move.On (mode.Star from further)
    else if b == 40 then move.On (mode.Inner from further) else move.On (mode.Block from further)
move_at (mode.Inner from further) left b =
    if b == 42 then move.On (mode.Block from (further + 1)) else if b == 40 then move.On (mode.Inner from further)
    else move.On (mode.Block from further)

-- what follows where the bytes end
abbrev pub gap_end : Mode → Gap
gap_end mode.Between = gap.End
gap_end mode.Line = gap.End
gap_end (mode.Slash from) = gap.Token from
gap_end (mode.Paren from) = gap.Token from
gap_end (mode.Block from further) = gap.Comment from
gap_end (mode.Star from further) = gap.Comment from
gap_end (mode.Inner from further) = gap.Comment from

-- the next byte, or the token that stands there
abbrev pub after_move : Move → (Mode → Gap) → Gap
after_move (move.On m) next = next m
after_move (move.Stop left) next = gap.Token left

-- what follows the gap, after what was seen of it
abbrev pub gap_from : Mode → List ℕ → Gap
gap_from m [] = gap_end m
gap_from m (b ∷ bytes) = after_move (move_at m (length (b ∷ bytes)) b) (λ n. gap_from n bytes)

-- how many further comments are open
abbrev pub opened : Mode → ℕ
opened (mode.Block from further) = further
opened (mode.Star from further) = further
opened (mode.Inner from further) = further
opened m = 0

-- the same after one more byte
abbrev pub moved : Move → ℕ
moved (move.On m) = opened m
moved (move.Stop left) = 0

-- the comment that is open began within so many bytes
abbrev pub ModeWithin : ℕ → Mode → Type 0
ModeWithin total mode.Between = Unit {0}
ModeWithin total mode.Line = Unit {0}
ModeWithin total (mode.Slash from) = IsLeft from total
ModeWithin total (mode.Paren from) = IsLeft from total
ModeWithin total (mode.Block from further) = IsLeft from total
ModeWithin total (mode.Star from further) = IsLeft from total
ModeWithin total (mode.Inner from further) = IsLeft from total

-- the same after one more byte
abbrev pub MoveWithin : ℕ → Move → Type 0
MoveWithin total (move.On m) = ModeWithin total m
MoveWithin total (move.Stop left) = IsLeft left total
