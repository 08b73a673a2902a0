-- The lines of a script, one after another: what is taken of a text, and the groups behind.
use Rattle.std.proofs.Common.{◌≡◌, ℕ, ◌+◌, ◌-◌, ◌≤◌, true, false, List, [], ◌∷◌, ◌++◌, length, take, drop, Some, None, refl, sym, ap, ◌∙◌, arith, inl, inr}
use Rattle.std.proofs.Math.Seq.{drop-append_seam, take-append_seam}
use Rattle.std.proofs.lemmas.List.{append_assoc, append-nil, length-append, take-append-drop}
use Rattle.chain_text.specs.Groups.{Opened, closed, grouped, is_end, unclosed, with_line}
use Rattle.chain_text.specs.Inside.{Closes, IsParted, Left, behind, left_lines}
use Rattle.chain_text.specs.Lines.{lines_of}

pub ends : (o : Opened) (at : ℕ) (line : List ℕ) (lines : List (List ℕ)) → is_end line ≡ true → grouped (Some o) at (line ∷ lines) ≡ closed o ∷ grouped None (at + 1) lines
ends o at line lines e = rw e refl

pub goes_on : (o : Opened) (at : ℕ) (line : List ℕ) (lines : List (List ℕ)) → is_end line ≡ false → grouped (Some o) at (line ∷ lines) ≡ grouped (Some (with_line o line)) (at + 1) lines
goes_on o at line lines e = rw e refl

-- what is taken of a text, and what is left
pub record IsTaken (text : List ℕ) (size : ℕ) (rest : List ℕ) : Type 0 where
  pub within : size ≤ length text
  pub left : drop size text ≡ rest

-- a text by what is taken and what is left
split : (text rest : List ℕ) (size : ℕ) → IsTaken text size rest → text ≡ take size text ++ rest
split text rest size t = sym (take-append-drop size text) ∙ ap (λ (l : List ℕ). take size text ++ l) t.left

pub no_longer : (text rest : List ℕ) (size : ℕ) → IsTaken text size rest → length rest ≤ length text
no_longer text rest size t = let sizes : length text ≡ length (take size text) + length rest = ap length (split text rest size t) ∙ length-append (take size text) rest in omega arith

-- the length of what stands in front
in_front : (text front rest : List ℕ) → text ≡ front ++ rest → length text - length rest ≡ length front
in_front text front rest e = let sizes : length text ≡ length front + length rest = ap length e ∙ length-append front rest in omega arith

pub taken : (text front rest : List ℕ) → text ≡ front ++ rest → IsTaken text (length text - length rest) rest
taken text front rest e =
    let size : length text - length rest ≡ length front = in_front text front rest e in
    record {
      within = omega arith;
      left = ap (λ (k : ℕ). drop k text) size ∙ ap (drop (length front)) e ∙ drop-append_seam front rest;
    }

front_is : (text front rest : List ℕ) → text ≡ front ++ rest → take (length text - length rest) text ≡ front
front_is text front rest e = ap (λ (k : ℕ). take k text) (in_front text front rest e) ∙ ap (take (length front)) e ∙ take-append_seam front rest

-- one line more is taken
pub one_more : (text rest line others : List ℕ) (size : ℕ) → IsTaken text size rest → IsParted rest line others → IsTaken text (length text - length others) others
one_more text rest line others size t (inl e) = taken text (take size text ++ (line ++ 10 ∷ [])) others (whole text rest line others size t e)
  where
    whole : (text rest line others : List ℕ) (size : ℕ) → IsTaken text size rest → rest ≡ line ++ 10 ∷ others → text ≡ (take size text ++ (line ++ 10 ∷ [])) ++ others
    whole text rest line others size t e = split text rest size t ∙ ap (λ (l : List ℕ). take size text ++ l) (e ∙ sym (append_assoc line (10 ∷ []) others)) ∙ sym (append_assoc (take size text) (line ++ 10 ∷ []) others)
one_more text rest line others size t (inr (e, none)) = taken text text others (sym (append-nil text) ∙ ap (λ (l : List ℕ). text ++ l) (sym none))

-- ---- inside a script

-- so much of a text is taken since some lines, and a contract line before those is open now with what is taken
pub record IsInside (old : Left) (text : List ℕ) (size : ℕ) (new : Left) : Type 0 where
  pub taken : IsTaken text size new.rest
  pub behind : behind new ≡ behind old
  pub groups : (line : ℕ) (bytes : List ℕ) → grouped (Some (record { line = line; bytes = bytes; text = [] })) old.number (left_lines old) ≡ grouped (Some (record { line = line; bytes = bytes; text = take size text })) new.number (left_lines new)

pub begun : (old : Left) (text : List ℕ) → text ≡ old.rest → IsInside old text 0 old
begun old text e = record {
  taken = record { within = omega arith; left = e };
  behind = refl;
  groups = λ line bytes. refl;
}

-- the next line has the next number
next_number : (new next : Left) (line : List ℕ) → left_lines new ≡ line ∷ left_lines next → behind next ≡ behind new → next.number ≡ new.number + 1
next_number new next line e b = let sizes : length (left_lines new) ≡ 1 + length (left_lines next) = ap length e ∙ length_more line (left_lines next) in omega (arith, b, sizes)
  where
    length_more : (line : List ℕ) (lines : List (List ℕ)) → length (line ∷ lines) ≡ 1 + length lines
    length_more line lines = omega arith

-- the groups of the lines, by the first
by_first : (o : Opened) (new next : Left) (line : List ℕ) → left_lines new ≡ line ∷ left_lines next → grouped (Some o) new.number (left_lines new) ≡ grouped (Some o) new.number (line ∷ left_lines next)
by_first o new next line e = ap (λ (ls : List (List ℕ)). grouped (Some o) new.number ls) e

pub closes : (old new next : Left) (text line script : List ℕ) (size : ℕ) → IsInside old text size new → left_lines new ≡ line ∷ left_lines next → behind next ≡ behind new → is_end line ≡ true → script ≡ take size text → Closes old (Some script) next
closes old new next text line script size inside e b end is = λ n bytes.
    let o : Opened = record { line = n; bytes = bytes; text = take size text } in
    inside.groups n bytes ∙ by_first o new next line e ∙ ends o new.number line (left_lines next) end
    ∙ (λ i. record { line = n; bytes = bytes; script = Some (sym is i) } ∷ grouped None (sym (next_number new next line e b) i) (left_lines next))

pub open_at_end : (old new : Left) (text : List ℕ) (size : ℕ) → IsInside old text size new → new.rest ≡ [] → Closes old None new
open_at_end old new text size inside none = λ n bytes.
    let o : Opened = record { line = n; bytes = bytes; text = take size text } in
    let empty : left_lines new ≡ [] = ap lines_of none in
    inside.groups n bytes ∙ ap (λ (ls : List (List ℕ)). grouped (Some o) new.number ls) empty
    ∙ ap (λ (ls : List (List ℕ)). unclosed o ∷ grouped None new.number ls) (sym empty)

-- what is taken once one line more is
more_text : (text rest line others : List ℕ) (size n at : ℕ) (bytes : List ℕ) → IsTaken text size rest → IsParted rest line others → grouped (Some (record { line = n; bytes = bytes; text = take size text ++ (line ++ 10 ∷ []) })) at (lines_of others) ≡ grouped (Some (record { line = n; bytes = bytes; text = take (length text - length others) text })) at (lines_of others)
more_text text rest line others size n at bytes t (inl e) =
    let whole : text ≡ (take size text ++ (line ++ 10 ∷ [])) ++ others = split text rest size t ∙ ap (λ (l : List ℕ). take size text ++ l) (e ∙ sym (append_assoc line (10 ∷ []) others)) ∙ sym (append_assoc (take size text) (line ++ 10 ∷ []) others) in
    ap (λ (l : List ℕ). grouped (Some (record { line = n; bytes = bytes; text = l })) at (lines_of others)) (sym (front_is text (take size text ++ (line ++ 10 ∷ [])) others whole))
more_text text rest line others size n at bytes t (inr (e, none)) =
    let a : Opened = record { line = n; bytes = bytes; text = take size text ++ (line ++ 10 ∷ []) } in
    let b : Opened = record { line = n; bytes = bytes; text = take (length text - length others) text } in
    ap (λ (l : List ℕ). grouped (Some a) at (lines_of l)) none ∙ ap (λ (l : List ℕ). grouped (Some b) at (lines_of l)) (sym none)

pub more : (old new next : Left) (text line : List ℕ) (size : ℕ) → IsInside old text size new → left_lines new ≡ line ∷ left_lines next → behind next ≡ behind new → IsParted new.rest line next.rest → is_end line ≡ false → IsInside old text (length text - length next.rest) next
more old new next text line size inside e b parted end = record {
  taken = one_more text new.rest line next.rest size inside.taken parted;
  behind = b ∙ inside.behind;
  groups = λ n bytes.
      let o : Opened = record { line = n; bytes = bytes; text = take size text } in
      inside.groups n bytes ∙ by_first o new next line e ∙ goes_on o new.number line (left_lines next) end
      ∙ (λ i. grouped (Some (with_line o line)) (sym (next_number new next line e b) i) (left_lines next))
      ∙ more_text text new.rest line next.rest size n next.number bytes inside.taken parted;
}
