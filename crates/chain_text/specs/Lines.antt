-- The lines of a text, and the words of a line.
use Rattle.std.specs.Prelude.{ℕ, ◌==◌, Bool, not, List, [], ◌∷◌, take, drop, if◌then◌else◌, Option, Some, None}
use Rattle.std.specs.List.{onto_first, prefix_len}

-- ---- lines

-- what a line is made of: all but newlines
abbrev pub is_inside : ℕ → Bool
is_inside byte = not (byte == 10)

-- the lines of a text: a newline ends each, and the last may lack it
abbrev pub lines_of : List ℕ → List (List ℕ)
lines_of [] = []
lines_of (byte ∷ text) = if is_inside byte then onto_first byte (lines_of text) else [] ∷ lines_of text

-- ---- words

-- what parts words
abbrev pub is_space : ℕ → Bool
is_space byte = byte == 32

-- what words are made of
abbrev pub is_part : ℕ → Bool
is_part byte = not (is_space byte)

-- a line without the spaces at its front
abbrev pub unspaced : List ℕ → List ℕ
unspaced line = drop (prefix_len is_space line) line

-- the word at the front, and what stands behind it; none where nothing is left
abbrev pub word_at_front : List ℕ → Option (List ℕ × List ℕ)
word_at_front [] = None
word_at_front (byte ∷ line) =
    let n = prefix_len is_part (byte ∷ line) in Some (take n (byte ∷ line), drop n (byte ∷ line))

-- the first word of a line, and what stands behind it; none where spaces alone are left
abbrev pub next_word : List ℕ → Option (List ℕ × List ℕ)
next_word line = word_at_front (unspaced line)
