-- The lines that are left, one after another; and the state of what stands.
use Rattle.std.proofs.Common.{◌≡◌, ◌<◌, List, [], ◌∷◌, length, Ok, sym, ap, ◌∙◌, arith}
use Rattle.micheline_text.specs.Told.{IsTold}
use Rattle.chain_text.specs.declared.fault.LineEnd.{LineEnd}
use Rattle.chain_text.specs.declared.fault.LineEnd.TheVariants as ends
use Rattle.chain_text.specs.Fields.{Read, ◌>>=◌}
use Rattle.chain_text.specs.Genesis.{line}
use Rattle.chain_text.specs.Standing.{Standing}
use Rattle.chain_text.specs.Groups.{Group}
use Rattle.chain_text.specs.Heads.{Told, at_line}
use Rattle.chain_text.specs.Inside.{chain_fault, line_kind, told_at}
use Rattle.chain_text.specs.Reading.{all_lines}

-- a line that is said
pub one_line : (s next : Standing) (g : Group) (left others : List Group) (whole : Told Standing) → left ≡ g ∷ others → line s g ≡ Ok next → all_lines s left ≡ whole → all_lines next others ≡ whole
one_line s next g left others whole is said so_far =
    sym (ap (all_lines s) is ∙ ap (λ (r : Read Standing). at_line g.line r >>= λ t. all_lines t others) said) ∙ so_far

-- a line with a fault
pub line_fails : (s : Standing) (g : Group) (left others : List Group) (whole : Told Standing) (end : LineEnd) → left ≡ g ∷ others → IsTold (line_kind end) (line s g) → all_lines s left ≡ whole → IsTold (chain_fault (told_at g.line end)) whole
line_fails s g left others whole ends.NoMemory is told so_far = tt
line_fails s g left others whole (ends.Faulty kind) is told so_far =
    sym so_far ∙ ap (all_lines s) is ∙ ap (λ (r : Read Standing). at_line g.line r >>= λ t. all_lines t others) told

pub no_line : (s : Standing) (left : List Group) (whole : Told Standing) → left ≡ [] → all_lines s left ≡ whole → whole ≡ Ok s
no_line s left whole none so_far = sym so_far ∙ ap (all_lines s) none

pub fewer : (g : Group) (left others : List Group) → left ≡ g ∷ others → length others < length left
fewer g left others is = let n : length left ≡ length (g ∷ others) = ap length is in omega arith
