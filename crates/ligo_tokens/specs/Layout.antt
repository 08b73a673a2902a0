-- Which bytes are laid out as which tokens: what may part two, and where each begins.
use Rattle.std.specs.Prelude.{◌≡◌, ℕ, zero, suc, ◌+◌, ◌-◌, ◌⊎◌, Bool, false, not, ◌==◌, ◌&&◌, if◌then◌else◌, IsTrue, List, [], ◌∷◌, ◌++◌, length, drop, Option, Some, None}
use Rattle.std.specs.List.{AllByRecursion}
use Rattle.micheline_text.specs.Kinds.{is_blank}
use Rattle.ligo_tokens.specs.Lexing.{front, front_of_kind, placed}
use Rattle.ligo_tokens.specs.declared.token.Kind.TheVariants as kind
use Rattle.ligo_tokens.specs.declared.token.Token.{Token}

-- ---- what parts tokens

-- the innermost comment ends: with the outermost one all do, else so many further ones are open
abbrev pub at_end : ℕ → List ℕ → (ℕ → Option (List ℕ)) → Option (List ℕ)
at_end zero bytes inside = Some bytes
at_end (suc further) bytes inside = inside further

-- what stands behind a comment, from inside it, where so many further ones are open in it: `(*` opens one, `*)` ends one
abbrev pub behind_comment : ℕ → List ℕ → Option (List ℕ)
behind_comment further [] = None
behind_comment further (a ∷ []) = None
behind_comment further (a ∷ b ∷ bytes) =
    if (a == 40) && (b == 42) then behind_comment (further + 1) bytes
    else if (a == 42) && (b == 41) then at_end further bytes (λ n. behind_comment n bytes)
    else behind_comment further (b ∷ bytes)

-- what stands in a line
abbrev pub HasNoNewline : List ℕ → Type 0
HasNoNewline = AllByRecursion (λ b. IsTrue (not (b == 10)))

-- a blank, a comment to the end of its line, or a comment in brackets stands in front, and then the rest
abbrev pub PartBefore : List ℕ → List ℕ → Type 0
PartBefore bytes rest = ((b : ℕ) × (bytes ≡ b ∷ rest) × IsTrue (is_blank b))
    ⊎ (((line : List ℕ) × (bytes ≡ 47 ∷ 47 ∷ (line ++ 10 ∷ rest)) × HasNoNewline line)
    ⊎ ((inner : List ℕ) × (bytes ≡ 40 ∷ 42 ∷ inner) × (behind_comment 0 inner ≡ Some rest)))

-- so many of these, one behind another
abbrev pub PartsBefore : ℕ → List ℕ → List ℕ → Type 0
PartsBefore zero bytes rest = bytes ≡ rest
PartsBefore (suc n) bytes rest = (between : List ℕ) × PartBefore bytes between × PartsBefore n between rest

-- any number of them
abbrev pub GapBefore : List ℕ → List ℕ → Type 0
GapBefore bytes rest = (n : ℕ) × PartsBefore n bytes rest

-- ---- what stands between gaps

-- nothing, or a comment whose line ends with the text
abbrev pub IsEnd : List ℕ → Type 0
IsEnd rest = (rest ≡ []) ⊎ ((line : List ℕ) × (rest ≡ 47 ∷ 47 ∷ line) × HasNoNewline line)

-- a comment without an end
abbrev pub IsUnclosedComment : List ℕ → Type 0
IsUnclosedComment rest = (inner : List ℕ) × (rest ≡ 40 ∷ 42 ∷ inner) × (behind_comment 0 inner ≡ None)

-- the byte stands in front
abbrev pub first_is : ℕ → List ℕ → Bool
first_is a [] = false
first_is a (b ∷ bytes) = b == a

-- a byte that begins no gap
abbrev pub begins_token : List ℕ → Bool
begins_token [] = false
begins_token (a ∷ bytes) = not (is_blank a) && (not ((a == 47) && first_is 47 bytes) && not ((a == 40) && first_is 42 bytes))

-- the bytes, before which so many stand, are these tokens with gaps between them
abbrev pub AreLaid : ℕ → List ℕ → List Token → Type 0
AreLaid at bytes [] = (rest : List ℕ) × GapBefore bytes rest × IsEnd rest
AreLaid at bytes (t ∷ ts) = (rest : List ℕ) × GapBefore bytes rest ×
    ((IsUnclosedComment rest × (t ≡ placed (at + (length bytes - length rest)) (front_of_kind kind.Faulty None (length rest))) × (ts ≡ []))
    ⊎ (IsTrue (begins_token rest) × (t ≡ placed (at + (length bytes - length rest)) (front rest)) ×
    AreLaid (at + (length bytes - length rest) + (front rest).taken) (drop (front rest).taken rest) ts))
