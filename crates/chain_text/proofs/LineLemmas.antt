-- The first line of a text, and what stands behind it.
use Rattle.std.proofs.Common.{◌≡◌, ◌≢◌, ℕ, Bool, true, false, List, [], ◌∷◌, ◌++◌, length, take, drop, refl, sym, ap, subst, ◌∙◌, arith, inl, inr}
use Rattle.std.specs.Prelude.{not, ◌==◌}
use Rattle.std.specs.List.{onto_first, prefix_len}
use Rattle.std.proofs.Math.Seq.{drop-append_seam, take-append_seam}
use Rattle.std.proofs.lemmas.Bool.{eqb-true}
use Rattle.std.proofs.lemmas.List.{append-nil}
use Rattle.chain_text.specs.Inside.{IsParted}
use Rattle.chain_text.specs.Lines.{is_inside, lines_of}

-- a text is cut where its first line ends
record IsCut (text : List ℕ) : Type 0 where
  line : List ℕ
  rest : List ℕ
  parts : text ≡ line ++ rest
  size : prefix_len is_inside text ≡ length line
  -- the line is the only one, also with one more byte before it; or it ends at a newline
  ends : rest ≡ [] → (byte : ℕ) → onto_first byte (lines_of text) ≡ (byte ∷ line) ∷ []
  alone : rest ≡ [] → text ≢ [] → lines_of text ≡ line ∷ []
  goes : (byte : ℕ) (others : List ℕ) → rest ≡ byte ∷ others → (byte ≡ 10) × (lines_of text ≡ line ∷ lines_of others)

newline : (byte : ℕ) → is_inside byte ≡ false → byte ≡ 10
newline byte e = eqb-true byte 10 (at (byte == 10) e)
  where
    at : (b : Bool) → not b ≡ false → b ≡ true
    at true e = refl
    at false e = absurd cc

first_of : (xs ys : List ℕ) (x y : ℕ) → x ∷ xs ≡ y ∷ ys → x ≡ y
first_of xs ys x y e = cc

rest_of : (xs ys : List ℕ) (x y : ℕ) → x ∷ xs ≡ y ∷ ys → xs ≡ ys
rest_of xs ys x y e = cc

cut_of : (text : List ℕ) → IsCut text
cut_of [] = record { line = []; rest = []; parts = refl; size = refl; ends = λ e byte. refl; alone = λ e some. absurd (some refl); goes = λ byte others e. absurd cc }
cut_of (x ∷ text) = at (is_inside x) refl (cut_of text)
  where
    at : (v : Bool) → is_inside x ≡ v → IsCut text → IsCut (x ∷ text)
    at true e c =
        let lines : lines_of (x ∷ text) ≡ onto_first x (lines_of text) = rw e refl in
        record {
          line = x ∷ c.line;
          rest = c.rest;
          parts = ap (λ (l : List ℕ). x ∷ l) c.parts;
          size = rw (e, c.size) (omega arith);
          ends = λ none byte. ap (onto_first byte) (lines ∙ c.ends none x);
          alone = λ none some. lines ∙ c.ends none x;
          goes = λ byte others is. ((c.goes byte others is).0, lines ∙ ap (onto_first x) (c.goes byte others is).1);
        }
    at false e c =
        let lines : lines_of (x ∷ text) ≡ [] ∷ lines_of text = rw e refl in
        record {
          line = [];
          rest = x ∷ text;
          parts = refl;
          size = rw e refl;
          ends = λ none byte. absurd cc;
          alone = λ none some. absurd cc;
          goes = λ byte others is. (sym (first_of text others x byte is) ∙ newline x e, lines ∙ ap (λ (l : List ℕ). [] ∷ lines_of l) (rest_of text others x byte is));
        }

-- the cut of a text in terms of the length of its first line
taken : (text : List ℕ) (c : IsCut text) → take (prefix_len is_inside text) text ≡ c.line
taken text c = ap (λ (k : ℕ). take k text) c.size ∙ ap (take (length c.line)) c.parts ∙ take-append_seam c.line c.rest

left : (text : List ℕ) (c : IsCut text) → drop (prefix_len is_inside text) text ≡ c.rest
left text c = ap (λ (k : ℕ). drop k text) c.size ∙ ap (drop (length c.line)) c.parts ∙ drop-append_seam c.line c.rest

-- the lines of a text that isn't empty, by what stands behind the first
cut_lines : (text : List ℕ) (c : IsCut text) → text ≢ [] → lines_of text ≡ c.line ∷ lines_of (drop 1 c.rest)
cut_lines text c some = at c.rest refl
  where
    at : (rest : List ℕ) → c.rest ≡ rest → lines_of text ≡ c.line ∷ lines_of (drop 1 c.rest)
    at [] none = c.alone none some ∙ ap (λ (l : List ℕ). c.line ∷ lines_of (drop 1 l)) (sym none)
    at (byte ∷ others) is = (c.goes byte others is).1 ∙ ap (λ (l : List ℕ). c.line ∷ lines_of (drop 1 l)) (sym is)

cut_parts : (text : List ℕ) (c : IsCut text) → IsParted text c.line (drop 1 c.rest)
cut_parts text c = at c.rest refl
  where
    at : (rest : List ℕ) → c.rest ≡ rest → IsParted text c.line (drop 1 c.rest)
    at [] none =
        let whole : text ≡ c.line = c.parts ∙ ap (λ (l : List ℕ). c.line ++ l) none ∙ append-nil c.line in
        inr (whole, ap (drop 1) none)
    at (byte ∷ others) is =
        let first : byte ≡ 10 = (c.goes byte others is).0 in
        let behind : others ≡ drop 1 c.rest = ap (drop 1) (sym is) in
        inl (c.parts ∙ ap (λ (l : List ℕ). c.line ++ l) is ∙ (λ i. c.line ++ first i ∷ behind i))

pub lines : (text : List ℕ) → text ≢ [] → lines_of text ≡ take (prefix_len is_inside text) text ∷ lines_of (drop 1 (drop (prefix_len is_inside text) text))
lines text some =
    let c = cut_of text in
    cut_lines text c some ∙ (λ i. sym (taken text c) i ∷ lines_of (drop 1 (sym (left text c) i)))

pub parted : (text : List ℕ) → IsParted text (take (prefix_len is_inside text) text) (drop 1 (drop (prefix_len is_inside text) text))
parted text =
    let c = cut_of text in
    subst (λ (rest : List ℕ). IsParted text (take (prefix_len is_inside text) text) (drop 1 rest)) (sym (left text c))
    (subst (λ (line : List ℕ). IsParted text line (drop 1 c.rest)) (sym (taken text c)) (cut_parts text c))
