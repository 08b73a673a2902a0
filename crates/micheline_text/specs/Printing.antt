-- Printing piece by piece: what stands round an argument, and a word with its last argument still to come.
use Rattle.std.specs.Prelude.{◌≡◌, ℕ, List, ◌++◌, if◌then◌else◌, codes, replicate, Option, Some, None}
use Rattle.micheline_text.specs.declared.node.Body.{Body}
use Rattle.micheline_text.specs.Printed.{Print, argument, print_body}

-- what stands in front of an argument
abbrev pub opening : Print → List ℕ
opening p = if p.1 then codes " (" else codes " "

-- how many parentheses it opens
abbrev pub parentheses : Print → ℕ
parentheses p = if p.1 then 1 else 0

-- so many parentheses are closed
abbrev pub closings : ℕ → List ℕ
closings count = replicate count 41

-- the text of a body up to its last argument, or all of it
abbrev pub IsUntilLast : List ℕ → Body → Option Body → Type 0
IsUntilLast text body None = text ≡ (print_body body).0
IsUntilLast text body (Some last) = text ++ argument (print_body last) ≡ (print_body body).0
