-- The lines that are printed, each with its newline.
use Rattle.std.specs.Prelude.{ℕ, zero, suc, List, [], ◌∷◌, ◌++◌, codes}
use Rattle.std.specs.Fmt.{decimal}
use Rattle.michelson_code.specs.declared.script.Script.{Script}
use Rattle.michelson_reader.specs.Printed.{script_text}
use Rattle.chain_text.specs.Addresses.{address_word}

-- a line of a word and what stands behind it
abbrev pub line_text : List ℕ → List ℕ → List ℕ
line_text word rest = word ++ (32 ∷ (rest ++ 10 ∷ []))

-- a line of a word, an address and what stands behind it
abbrev pub address_line : List ℕ → List ℕ → List ℕ → List ℕ
address_line word a rest = line_text word (address_word a ++ 32 ∷ rest)

-- the line of a balance; one of 0 has none
abbrev pub balance_text : List ℕ → ℕ → List ℕ
balance_text a zero = []
balance_text a (suc n) = address_line (codes "balance") a (decimal (suc n))

-- the line of a contract, and its script up to `end`
abbrev pub script_lines : List ℕ → Script → List ℕ
script_lines a s = line_text (codes "contract") (address_word a) ++ (script_text s ++ codes "end\n")
