-- The tokens of a text, from one to the next.
use Rattle.std.proofs.Common.{◌≡◌, ℕ, zero, suc, ◌+◌, ◌-◌, ◌≤◌, ◌<◌, Bool, true, false, cond, List, [], ◌∷◌, length, drop, get_or, refl, ap, subst, ◌∙◌, arith}
use Rattle.std.proofs.lemmas.List.{length-drop, drop-drop}
use Rattle.std.proofs.Math.Seq.{drop-length}
use Rattle.std.specs.List.{prefix_len}
use Rattle.std.specs.Prelude.{slice_index, ◌==◌}
use Rattle.micheline_text.specs.Kinds.{is_blank, is_digit, is_letter, is_word_byte, begins_note}
use Rattle.micheline_text.specs.Gaps.{gap_from, gap_end, move_at, after_move, IsLeft, GapWithin, ModeWithin, MoveWithin}
use Rattle.micheline_text.specs.Lexing.{front_token, is_faulty, token_at, minus_at, digits_at, word_at, begins_hex, tokens_from, tokens_of, after_gap}
use Rattle.micheline_text.specs.declared.token.Token.{Token}
use Rattle.micheline_text.specs.declared.token.Token.TheVariants as token
use Rattle.micheline_text.specs.declared.gap.Gap.{Gap}
use Rattle.micheline_text.specs.declared.gap.Gap.TheVariants as gap
use Rattle.micheline_text.specs.declared.gap.Mode.{Mode}
use Rattle.micheline_text.specs.declared.gap.Mode.TheVariants as mode
use Rattle.micheline_text.specs.declared.gap.Move.{Move}
use Rattle.micheline_text.specs.declared.gap.Move.TheVariants as move

-- a run of what its first byte belongs to isn't empty
pub run_begins : (p : ℕ → Bool) (bytes : List ℕ) → 1 ≤ length bytes → p (get_or bytes 0 0) ≡ true → 1 ≤ prefix_len p bytes
run_begins p [] some first = absurd (omega arith)
run_begins p (b ∷ bytes) some first = rw first (omega arith)

-- ---- each token takes a byte

chosen : (b : Bool) (x y : Token × ℕ) → (b ≡ true → 1 ≤ x.1) → (b ≡ false → 1 ≤ y.1) → 1 ≤ (cond b x y).1
chosen true x y f g = f refl
chosen false x y f g = g refl

word_takes : (bytes : List ℕ) → 1 ≤ length bytes → is_letter (slice_index bytes 0) ≡ true → 1 ≤ (word_at bytes).1
word_takes bytes some first = run_begins is_word_byte bytes some (rw first refl)

digits_take : (bytes : List ℕ) → 1 ≤ length bytes → is_digit (slice_index bytes 0) ≡ true → 1 ≤ (digits_at bytes).1
digits_take bytes some first = chosen (begins_hex bytes) _ _ (λ e. omega arith) (λ e. run_begins is_digit bytes some first)

minus_takes : (bytes : List ℕ) → 1 ≤ (minus_at bytes).1
minus_takes bytes = chosen (prefix_len is_digit (drop 1 bytes) == 0) _ _ (λ e. omega arith) (λ e. omega arith)

front_takes : (bytes : List ℕ) → 1 ≤ length bytes → 1 ≤ (front_token bytes).1
front_takes bytes some =
    let b = slice_index bytes 0 in
    chosen (b == 34) _ _ (λ e. omega arith)
    (λ e. chosen (b == 45) _ _ (λ e. minus_takes bytes)
    (λ e. chosen (is_digit b) _ _ (digits_take bytes some)
    (λ e. chosen (is_letter b) _ _ (word_takes bytes some)
    (λ e. chosen (begins_note b) _ _ (λ e. omega arith) (λ e. omega arith)))))

reach_takes : (none : Bool) (left taken : ℕ) → 1 ≤ left → 1 ≤ taken → 1 ≤ cond none left taken
reach_takes true left taken some takes = some
reach_takes false left taken some takes = takes

pub token_takes : (bytes : List ℕ) → 1 ≤ length bytes → 1 ≤ (token_at bytes).1
token_takes bytes some = reach_takes (is_faulty (front_token bytes).0) (length bytes) (front_token bytes).1 some (front_takes bytes some)

-- ---- what follows a gap stands in the bytes

pick_move : (total : ℕ) (b : Bool) (x y : Move) → MoveWithin total x → MoveWithin total y → MoveWithin total (cond b x y)
pick_move total true x y f g = f
pick_move total false x y f g = g

move_within : (m : Mode) (left b total : ℕ) → IsLeft left total → ModeWithin total m → MoveWithin total (move_at m left b)
move_within mode.Between left b total l w =
    pick_move total (is_blank b) (move.On mode.Between) (cond (b == 35) (move.On mode.Line) (cond (b == 47) (move.On (mode.Slash left)) (move.Stop left))) tt
    (pick_move total (b == 35) (move.On mode.Line) (cond (b == 47) (move.On (mode.Slash left)) (move.Stop left)) tt
    (pick_move total (b == 47) (move.On (mode.Slash left)) (move.Stop left) l l))
move_within mode.Line left b total l w = pick_move total (b == 10) (move.On mode.Between) (move.On mode.Line) tt tt
move_within (mode.Slash from) left b total l w = pick_move total (b == 42) (move.On (mode.Block from)) (move.Stop from) w w
move_within (mode.Block from) left b total l w = pick_move total (b == 42) (move.On (mode.Star from)) (move.On (mode.Block from)) w w
move_within (mode.Star from) left b total l w =
    pick_move total (b == 47) (move.On mode.Between) (cond (b == 42) (move.On (mode.Star from)) (move.On (mode.Block from))) tt
    (pick_move total (b == 42) (move.On (mode.Star from)) (move.On (mode.Block from)) w w)

end_within : (m : Mode) (total : ℕ) → ModeWithin total m → GapWithin total (gap_end m)
end_within mode.Between total w = tt
end_within mode.Line total w = tt
end_within (mode.Slash from) total w = w
end_within (mode.Block from) total w = w
end_within (mode.Star from) total w = w

moved_within : (m : Move) (total : ℕ) (next : Mode → Gap) → MoveWithin total m → ((n : Mode) → ModeWithin total n → GapWithin total (next n)) → GapWithin total (after_move m next)
moved_within (move.On n) total next w h = h n w
moved_within (move.Stop left) total next w h = w

pub gap_within : (m : Mode) (bytes : List ℕ) (total : ℕ) → length bytes ≤ total → ModeWithin total m → GapWithin total (gap_from m bytes)
gap_within m [] total le w = end_within m total w
gap_within m (b ∷ bytes) total le w =
    let left : IsLeft (length (b ∷ bytes)) total = (omega arith, omega arith) in
    let shorter : length bytes ≤ total = omega arith in
    moved_within (move_at m (length (b ∷ bytes)) b) total _ (move_within m (length (b ∷ bytes)) b total left w) (λ n v. gap_within n bytes total shorter v)

-- ---- enough turns are as good as more

same_after : (at : ℕ) (bytes : List ℕ) (g : Gap) (f h : ℕ → List ℕ → List (ℕ × Token)) → GapWithin (length bytes) g →
    ((to : ℕ) (rest : List ℕ) → length rest < length bytes → f to rest ≡ h to rest) → after_gap at bytes g f ≡ after_gap at bytes g h
same_after at bytes gap.End f h w e = refl
same_after at bytes (gap.Comment left) f h w e = refl
same_after at bytes (gap.Token left) f h w e =
    let from = length bytes - left in
    let found = token_at (drop from bytes) in
    let some : 1 ≤ length (drop from bytes) = omega (arith, length-drop from bytes, w.0, w.1) in
    let takes = token_takes (drop from bytes) some in
    let shorter : length (drop found.1 (drop from bytes)) < length bytes = omega (arith, length-drop found.1 (drop from bytes), length-drop from bytes, takes, w.0, w.1) in
    ap (λ (l : List (ℕ × Token)). (at + from, found.0) ∷ l) (e (at + from + found.1) (drop found.1 (drop from bytes)) shorter)

turns : (n m at : ℕ) (bytes : List ℕ) → length bytes < n → length bytes < m → tokens_from n at bytes ≡ tokens_from m at bytes
turns zero m at bytes h k = absurd (omega arith)
turns (suc n) zero at bytes h k = absurd (omega arith)
turns (suc n) (suc m) at bytes h k =
    same_after at bytes (gap_from mode.Between bytes) (tokens_from n) (tokens_from m) (gap_within mode.Between bytes (length bytes) (omega arith) tt)
    (λ to rest shorter. turns n m to rest (omega arith) (omega arith))

-- the tokens from one to the next
pub tokens_step : (at : ℕ) (bytes : List ℕ) → tokens_of at bytes ≡ after_gap at bytes (gap_from mode.Between bytes) tokens_of
unfolding tokens_of
tokens_step at bytes =
    same_after at bytes (gap_from mode.Between bytes) (tokens_from (length bytes)) tokens_of (gap_within mode.Between bytes (length bytes) (omega arith) tt)
    (λ to rest shorter. turns (length bytes) (suc (length rest)) to rest shorter (omega arith))

pub no_token : (at : ℕ) (bytes : List ℕ) → gap_from mode.Between bytes ≡ gap.End → tokens_of at bytes ≡ []
no_token at bytes e = tokens_step at bytes ∙ rw e refl

pub open_comment : (at : ℕ) (bytes : List ℕ) (left : ℕ) → gap_from mode.Between bytes ≡ gap.Comment left → tokens_of at bytes ≡ (at + (length bytes - left), token.OpenComment) ∷ []
open_comment at bytes left e = tokens_step at bytes ∙ rw e refl

pub one_token : (at : ℕ) (bytes : List ℕ) (left : ℕ) → gap_from mode.Between bytes ≡ gap.Token left →
    let from = length bytes - left in let found = token_at (drop from bytes) in
    tokens_of at bytes ≡ (at + from, found.0) ∷ tokens_of (at + from + found.1) (drop found.1 (drop from bytes))
one_token at bytes left e = tokens_step at bytes ∙ rw e refl

-- ---- as places in the whole text

left_within : (bytes : List ℕ) (g : Gap) → gap_from mode.Between bytes ≡ g → GapWithin (length bytes) g
left_within bytes g e = subst (GapWithin (length bytes)) e (gap_within mode.Between bytes (length bytes) (omega arith) tt)

pub comment_step : (b : List ℕ) (at left : ℕ) → at ≤ length b → gap_from mode.Between (drop at b) ≡ gap.Comment left →
    tokens_of at (drop at b) ≡ (length b - left, token.OpenComment) ∷ tokens_of (length b) (drop (length b) b)
comment_step b at left le e =
    let w = left_within (drop at b) (gap.Comment left) e in
    let place : at + (length (drop at b) - left) ≡ length b - left = omega (arith, length-drop at b, w.1) in
    let nothing : tokens_of (length b) (drop (length b) b) ≡ [] = rw (drop-length b) (no_token (length b) [] refl) in
    open_comment at (drop at b) left e ∙ rw (place, nothing) refl

pub token_step : (b : List ℕ) (at left : ℕ) → at ≤ length b → gap_from mode.Between (drop at b) ≡ gap.Token left →
    let from = length b - left in let found = token_at (drop from b) in
    tokens_of at (drop at b) ≡ (from, found.0) ∷ tokens_of (from + found.1) (drop (from + found.1) b)
token_step b at left le e =
    let w = left_within (drop at b) (gap.Token left) e in
    let from = length (drop at b) - left in
    let place : at + from ≡ length b - left = omega (arith, length-drop at b, w.1) in
    let there : drop from (drop at b) ≡ drop (length b - left) b = drop-drop from at b ∙ ap (λ k. drop k b) place in
    let found = token_at (drop (length b - left) b) in
    one_token at (drop at b) left e ∙ rw (there, place, drop-drop found.1 (length b - left) b) refl
