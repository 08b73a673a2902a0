-- How a node is printed.
use Rattle.std.specs.Prelude.{ℕ, codes, ◌+◌, ◌/◌, ◌%◌, Bool, true, false, not, ◌&&◌, ◌||◌, ◌==◌, List, [], ◌∷◌, ◌++◌, nat_lt, if◌then◌else◌}
use Rattle.std.specs.List.{flat_map}
use Rattle.std.specs.Fmt.{signed_decimal}
use Rattle.micheline_text.specs.declared.node.Node.{Node}
use Rattle.micheline_text.specs.declared.node.Body.{Body}
use Rattle.micheline_text.specs.declared.node.Body.TheOpen as one
use Rattle.micheline_text.specs.declared.node.Body.TheOpen.{Body-F, Node-F}
use Rattle.micheline_text.specs.declared.node.Body.TheFolds.{fold-Body, fold-Node}

-- a newline, a quote and a `\` are escaped, all else stands as it is
abbrev pub escaped : ℕ → List ℕ
escaped b =
    if b == 10 then codes "\\n" else if (b == 34) || (b == 92) then 92 ∷ b ∷ [] else b ∷ []

-- a digit in lower case
abbrev pub hex_digit : ℕ → ℕ
hex_digit n = if nat_lt n 10 then n + 48 else n + 87

-- two digits for a byte
abbrev pub hex_pair : ℕ → List ℕ
hex_pair b = hex_digit (b / 16) ∷ hex_digit (b % 16) ∷ []

-- a text, and whether it stands in parentheses as an argument
abbrev pub Print : Type 0
Print = List ℕ × Bool

-- an argument behind its blank
abbrev pub argument : Print → List ℕ
argument p = if p.1 then codes " (" ++ (p.0 ++ codes ")") else codes " " ++ p.0

-- an annotation behind its blank
abbrev pub annotation : List ℕ → List ℕ
annotation note = codes " " ++ note

-- a node behind ` ; `
abbrev pub next_item : Print → List ℕ
next_item p = codes " ; " ++ p.0

-- a node in braces, the first or a later one
abbrev pub item : Bool → Print → List ℕ
item first p = if first then codes " " ++ p.0 else next_item p

-- each node behind a blank, the later ones behind a `;` too
abbrev pub items : List Print → List ℕ
items [] = []
items (p ∷ ps) = codes " " ++ (p.0 ++ flat_map next_item ps)

-- `{}`, `{ a }`, `{ a ; b }`
abbrev pub braces : List Print → List ℕ
braces [] = codes "{}"
braces (p ∷ ps) = codes "{" ++ (items (p ∷ ps) ++ codes " }")

-- whether it has no items
abbrev pub is_empty : {A : Type 0} → List A → Bool
is_empty [] = true
is_empty (x ∷ xs) = false

-- a string in quotes
abbrev pub in_quotes : List ℕ → List ℕ
in_quotes text = codes "\"" ++ (flat_map escaped text ++ codes "\"")

-- one level of a node, with the text of each part in its place
abbrev pub print_level : Body-F Print Print → Print
print_level (one.Int z) = (signed_decimal z, false)
print_level (one.Text t) = (in_quotes t, false)
print_level (one.Bytes b) = (codes "0x" ++ flat_map hex_pair b, false)
print_level (one.Prim name notes args) =
    (name ++ (flat_map annotation notes ++ flat_map argument args), not (is_empty notes && is_empty args))
print_level (one.Seq ns) = (braces ns, false)

-- the text of what stands at a node, and whether it stands in parentheses as an argument
abbrev pub print_body : Body → Print
print_body = fold-Body Print Print print_level (λ n. n.body)

-- the text of a node, and whether it stands in parentheses as an argument
abbrev pub print : Node → Print
print = fold-Node Print Print print_level (λ n. n.body)

-- the text of a node
abbrev pub printed : Node → List ℕ
printed n = (print n).0
