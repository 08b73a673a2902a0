-- The tokens of a text, from one to the next.
use Rattle.std.proofs.Common.{◌≡◌, ℕ, zero, suc, ◌+◌, ◌-◌, ◌≤◌, ◌<◌, Bool, true, false, cond, List, [], ◌∷◌, length, take, drop, get_or, refl, ap, subst, ◌∙◌, arith, length-take, Option, Some, None}
use Rattle.std.proofs.lemmas.List.{length-drop, drop-drop}
use Rattle.std.proofs.Math.Seq.{drop-length}
use Rattle.std.specs.List.{prefix_len}
use Rattle.std.specs.Prelude.{slice_index, ◌==◌, codes}
use Rattle.micheline_text.specs.Kinds.{is_blank, is_digit, is_hex}
use Rattle.micheline_text.specs.Lexing.{begins_hex}
use Rattle.ligo_tokens.specs.declared.token.Says.{Says}
use Rattle.micheline_text.specs.Gaps.{IsLeft, GapWithin}
use Rattle.micheline_text.specs.Literals.{hexadecimal, quoted}
use Rattle.ligo_tokens.specs.Gaps.{gap_from, gap_end, move_at, after_move, closed, ModeWithin, MoveWithin}
use Rattle.ligo_tokens.specs.Lexing.{is_lower, is_upper, is_name_byte, is_number_byte, begins_with, name_run, keyword, word_front, literal_front, bytes_says, text_says, double_at, single_sign, single_front, sign_front, front, front_of_kind, placed, tokens_from, tokens_of, after_gap}
use Rattle.ligo_tokens.specs.declared.token.Kind.{Kind}
use Rattle.ligo_tokens.specs.declared.token.Kind.TheVariants as kind
use Rattle.ligo_tokens.specs.declared.token.Token.{Token}
use Rattle.ligo_tokens.specs.declared.lexer.Front.{Front}
use Rattle.micheline_text.specs.declared.gap.Gap.{Gap}
use Rattle.micheline_text.specs.declared.gap.Gap.TheVariants as gap
use Rattle.ligo_tokens.specs.declared.gap.Mode.{Mode}
use Rattle.ligo_tokens.specs.declared.gap.Mode.TheVariants as mode
use Rattle.ligo_tokens.specs.declared.gap.Move.{Move}
use Rattle.ligo_tokens.specs.declared.gap.Move.TheVariants as move

-- a run of what its first byte belongs to isn't empty
run_begins : (p : ℕ → Bool) (bytes : List ℕ) → 1 ≤ length bytes → p (get_or bytes 0 0) ≡ true → 1 ≤ prefix_len p bytes
run_begins p [] some first = absurd (omega arith)
run_begins p (b ∷ bytes) some first = rw first (omega arith)

run_is : (p : ℕ → Bool) (bytes : List ℕ) → 1 ≤ length bytes → p (get_or bytes 0 0) ≡ true → 1 ≤ length (take (prefix_len p bytes) bytes)
run_is p bytes some first =
    let begins = run_begins p bytes some first in
    let l = length-take (prefix_len p bytes) bytes in omega (arith, some, begins, l)

-- ---- each token takes a byte

chosen : (b : Bool) (x y : Front) → (b ≡ true → 1 ≤ x.taken) → (b ≡ false → 1 ≤ y.taken) → 1 ≤ (cond b x y).taken
chosen true x y f g = f refl
chosen false x y f g = g refl

pub lower_begins : (b : ℕ) → is_lower b ≡ true → is_name_byte b ≡ true
lower_begins b h = grind arith

pub upper_begins : (b : ℕ) → is_upper b ≡ true → is_name_byte b ≡ true
upper_begins b h = grind arith

pub digit_begins : (b : ℕ) → is_digit b ≡ true → is_number_byte b ≡ true
digit_begins b h = grind arith

word_takes : (k : Option Kind) (word : List ℕ) → 1 ≤ length word → 1 ≤ (word_front k word).taken
word_takes (Some k) word some = some
word_takes None word some = some

literal_takes : (k : Kind) (s : Option Says) (taken left : ℕ) → 1 ≤ taken → 1 ≤ left → 1 ≤ (literal_front k s taken left).taken
literal_takes k (Some s) taken left h i = h
literal_takes k None taken left h i = i

single_takes : (k : Option Kind) (left : ℕ) → 1 ≤ left → 1 ≤ (single_front k left).taken
single_takes (Some k) left h = omega arith
single_takes None left h = h

sign_takes : (k : Option Kind) (a left : ℕ) → 1 ≤ left → 1 ≤ (sign_front k a left).taken
sign_takes (Some k) a left h = omega arith
sign_takes None a left h = single_takes (single_sign a) left h

pub front_takes : (bytes : List ℕ) → 1 ≤ length bytes → 1 ≤ (front bytes).taken
front_takes bytes some =
    let b = slice_index bytes 0 in
    chosen (is_lower b) _ _ (λ e. word_takes (keyword (name_run bytes)) (name_run bytes) (run_is is_name_byte bytes some (lower_begins b e)))
    (λ e. chosen (is_upper b) _ _ (λ e. run_is is_name_byte bytes some (upper_begins b e))
    (λ e. chosen (is_digit b) _ _
    (λ e. chosen (begins_hex bytes) _ _ (λ h. literal_takes kind.Bytes (bytes_says (hexadecimal (take (prefix_len is_hex (drop 2 bytes)) (drop 2 bytes)))) (2 + prefix_len is_hex (drop 2 bytes)) (length bytes) (omega arith) some)
    (λ h. let r = run_is is_number_byte bytes some (digit_begins b e) in omega (arith, r)))
    (λ e. chosen (b == 34) _ _ (λ e. literal_takes kind.Text (text_says (quoted false (drop 1 bytes)).2 (quoted false (drop 1 bytes)).0) (1 + (quoted false (drop 1 bytes)).1) (length bytes) (omega arith) some)
    (λ e. chosen (begins_with bytes (codes "[@entry]")) _ _ (λ e. omega arith)
    (λ e. chosen (begins_with bytes (codes "[@inline]")) _ _ (λ e. omega arith) (λ e. sign_takes (double_at b bytes) b (length bytes) some))))))

-- ---- what follows a gap stands in the bytes

pick_move : (total : ℕ) (b : Bool) (x y : Move) → MoveWithin total x → MoveWithin total y → MoveWithin total (cond b x y)
pick_move total true x y f g = f
pick_move total false x y f g = g

closed_within : (from further total : ℕ) → IsLeft from total → MoveWithin total (move.On (closed from further))
closed_within from zero total w = tt
closed_within from (suc further) total w = w

move_within : (m : Mode) (left b total : ℕ) → IsLeft left total → ModeWithin total m → MoveWithin total (move_at m left b)
move_within mode.Between left b total l w =
    pick_move total (is_blank b) _ _ tt (pick_move total (b == 47) _ _ l (pick_move total (b == 40) _ _ l l))
move_within (mode.Slash from) left b total l w = pick_move total (b == 47) _ _ tt w
move_within mode.Line left b total l w = pick_move total (b == 10) _ _ tt tt
move_within (mode.Paren from) left b total l w = pick_move total (b == 42) _ _ w w
move_within (mode.Block from further) left b total l w = pick_move total (b == 42) _ _ w (pick_move total (b == 40) _ _ w w)
move_within (mode.Star from further) left b total l w =
    pick_move total (b == 41) _ _ (closed_within from further total w) (pick_move total (b == 42) _ _ w (pick_move total (b == 40) _ _ w w))
move_within (mode.Inner from further) left b total l w = pick_move total (b == 42) _ _ w (pick_move total (b == 40) _ _ w w)

end_within : (m : Mode) (total : ℕ) → ModeWithin total m → GapWithin total (gap_end m)
end_within mode.Between total w = tt
end_within mode.Line total w = tt
end_within (mode.Slash from) total w = w
end_within (mode.Paren from) total w = w
end_within (mode.Block from further) total w = w
end_within (mode.Star from further) total w = w
end_within (mode.Inner from further) total w = w

moved_within : (m : Move) (total : ℕ) (next : Mode → Gap) → MoveWithin total m → ((n : Mode) → ModeWithin total n → GapWithin total (next n)) → GapWithin total (after_move m next)
moved_within (move.On n) total next w h = h n w
moved_within (move.Stop left) total next w h = w

pub gap_within : (m : Mode) (bytes : List ℕ) (total : ℕ) → length bytes ≤ total → ModeWithin total m → GapWithin total (gap_from m bytes)
gap_within m [] total le w = end_within m total w
gap_within m (b ∷ bytes) total le w =
    let left : IsLeft (length (b ∷ bytes)) total = (omega arith, omega arith) in
    let shorter : length bytes ≤ total = omega arith in
    moved_within (move_at m (length (b ∷ bytes)) b) total _ (move_within m (length (b ∷ bytes)) b total left w) (λ n v. gap_within n bytes total shorter v)

-- ---- enough turns are as good as more

same_after : (at : ℕ) (bytes : List ℕ) (g : Gap) (f h : ℕ → List ℕ → List Token) → GapWithin (length bytes) g →
    ((to : ℕ) (rest : List ℕ) → length rest < length bytes → f to rest ≡ h to rest) → after_gap at bytes g f ≡ after_gap at bytes g h
same_after at bytes gap.End f h w e = refl
same_after at bytes (gap.Comment left) f h w e = refl
same_after at bytes (gap.Token left) f h w e =
    let from = length bytes - left in
    let found = front (drop from bytes) in
    let some : 1 ≤ length (drop from bytes) = omega (arith, length-drop from bytes, w.0, w.1) in
    let takes = front_takes (drop from bytes) some in
    let shorter : length (drop found.taken (drop from bytes)) < length bytes = omega (arith, length-drop found.taken (drop from bytes), length-drop from bytes, takes, w.0, w.1) in
    ap (λ (l : List Token). placed (at + from) found ∷ l) (e (at + from + found.taken) (drop found.taken (drop from bytes)) shorter)

turns : (n m at : ℕ) (bytes : List ℕ) → length bytes < n → length bytes < m → tokens_from n at bytes ≡ tokens_from m at bytes
turns zero m at bytes h k = absurd (omega arith)
turns (suc n) zero at bytes h k = absurd (omega arith)
turns (suc n) (suc m) at bytes h k =
    same_after at bytes (gap_from mode.Between bytes) (tokens_from n) (tokens_from m) (gap_within mode.Between bytes (length bytes) (omega arith) tt)
    (λ to rest shorter. turns n m to rest (omega arith) (omega arith))

-- the tokens from one to the next
pub tokens_step : (at : ℕ) (bytes : List ℕ) → tokens_of at bytes ≡ after_gap at bytes (gap_from mode.Between bytes) tokens_of
unfolding tokens_of
tokens_step at bytes =
    same_after at bytes (gap_from mode.Between bytes) (tokens_from (length bytes)) tokens_of (gap_within mode.Between bytes (length bytes) (omega arith) tt)
    (λ to rest shorter. turns (length bytes) (suc (length rest)) to rest shorter (omega arith))

pub no_token : (at : ℕ) (bytes : List ℕ) → gap_from mode.Between bytes ≡ gap.End → tokens_of at bytes ≡ []
no_token at bytes e = tokens_step at bytes ∙ rw e refl

pub open_comment : (at : ℕ) (bytes : List ℕ) (left : ℕ) → gap_from mode.Between bytes ≡ gap.Comment left → tokens_of at bytes ≡ placed (at + (length bytes - left)) (front_of_kind kind.Faulty None left) ∷ []
open_comment at bytes left e = tokens_step at bytes ∙ rw e refl

pub one_token : (at : ℕ) (bytes : List ℕ) (left : ℕ) → gap_from mode.Between bytes ≡ gap.Token left →
    let from = length bytes - left in let found = front (drop from bytes) in
    tokens_of at bytes ≡ placed (at + from) found ∷ tokens_of (at + from + found.taken) (drop found.taken (drop from bytes))
one_token at bytes left e = tokens_step at bytes ∙ rw e refl

-- ---- as places in the whole text

left_within : (bytes : List ℕ) (g : Gap) → gap_from mode.Between bytes ≡ g → GapWithin (length bytes) g
left_within bytes g e = subst (GapWithin (length bytes)) e (gap_within mode.Between bytes (length bytes) (omega arith) tt)

pub comment_step : (b : List ℕ) (at left : ℕ) → at ≤ length b → gap_from mode.Between (drop at b) ≡ gap.Comment left →
    tokens_of at (drop at b) ≡ placed (length b - left) (front_of_kind kind.Faulty None left) ∷ tokens_of (length b) (drop (length b) b)
comment_step b at left le e =
    let w = left_within (drop at b) (gap.Comment left) e in
    let place : at + (length (drop at b) - left) ≡ length b - left = omega (arith, length-drop at b, w.1) in
    let nothing : tokens_of (length b) (drop (length b) b) ≡ [] = rw (drop-length b) (no_token (length b) [] refl) in
    open_comment at (drop at b) left e ∙ rw (place, nothing) refl

pub token_step : (b : List ℕ) (at left : ℕ) → at ≤ length b → gap_from mode.Between (drop at b) ≡ gap.Token left →
    let from = length b - left in let found = front (drop from b) in
    tokens_of at (drop at b) ≡ placed from found ∷ tokens_of (from + found.taken) (drop (from + found.taken) b)
token_step b at left le e =
    let w = left_within (drop at b) (gap.Token left) e in
    let from = length (drop at b) - left in
    let place : at + from ≡ length b - left = omega (arith, length-drop at b, w.1) in
    let there : drop from (drop at b) ≡ drop (length b - left) b = drop-drop from at b ∙ ap (λ k. drop k b) place in
    let found = front (drop (length b - left) b) in
    one_token at (drop at b) left e ∙ rw (there, place, drop-drop found.taken (length b - left) b) refl
