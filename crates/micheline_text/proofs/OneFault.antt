-- A text has the fault that the reader tells, and no other.
use Rattle.std.proofs.Common.{◌≡◌, ◌≢◌, ℕ, ◌⊎◌, inl, inr, Bool, true, false, List, [], ◌∷◌, ◌++◌, map, Result, Ok, Err, refl, sym, ap, subst, ◌∙◌, append_assoc}
use Rattle.std.proofs.lemmas.List.{append-nil}
use Rattle.micheline_text.specs.declared.fault.TextFault.{TextFault}
use Rattle.micheline_text.specs.declared.fault.TextFault.TheVariants as fault
use Rattle.micheline_text.specs.declared.node.Node.{Node}
use Rattle.micheline_text.specs.declared.level.Level.{Level}
use Rattle.micheline_text.specs.declared.level.Open.{Open}
use Rattle.micheline_text.specs.declared.token.Token.{Token}
use Rattle.micheline_text.specs.declared.token.Token.TheVariants as token
use Rattle.micheline_text.specs.Reading.{State, takes_literal, step, run, finish, first_open}
use Rattle.micheline_text.specs.Grammar.{Tokens, Bracket, begins}
use Rattle.micheline_text.specs.Faults.{GoesOn, LiteralGoes, BracketGoes, open_places, outermost, IsStuck, IsNoOther, IsOpen, IsFault}
use Rattle.micheline_text.proofs.Spelt.{text_is_read}
use Rattle.micheline_text.proofs.Held.{after_ok}
use Rattle.micheline_text.proofs.Goes.{start, Arrives, arrives_at_start, arrives_next, follows_at}
use Rattle.micheline_text.proofs.FaultLaws.{StepFault, step_fault, never_wide, never_open, never_text}
use Rattle.micheline_text.proofs.FirstFault.{place_of, IsPlaced, placed_next, first_is, literal_follows, bracket_follows, literal_never, bracket_never}

-- ---- tokens that go on lead to a state

pub record Led (ts : Tokens) : Type 0 where
  pub state : State
  pub arrives : Arrives ts state
  pub placed : IsPlaced ts state

led_on : (us more ts : Tokens) (s : State) (ns : List Node) → Arrives ts s → IsPlaced ts s → run 0 s (us ++ more) ≡ Ok ns → Led (ts ++ us)
led_on [] more ts s ns a places e = subst Led (sym (append-nil ts)) (record { state = s; arrives = a; placed = places })
led_on (t ∷ us) more ts s ns a places e =
    let w = after_ok (step t.0 t.1 s.0 s.1) (λ next. run 0 next (us ++ more)) ns e in
    subst Led (append_assoc ts (t ∷ []) us)
    (led_on us more (ts ++ t ∷ []) w.value ns (arrives_next ts s w.value t a w.was) (placed_next ts s w.value t places w.was) w.then_is)

led : (ts : Tokens) → GoesOn ts → Led ts
led ts (more, ns, text) = led_on ts more [] start ns arrives_at_start refl (text_is_read 0 (ts ++ more) ns text)

-- ---- the token after which none goes on

-- a step fails there, and the reader tells its fault
fails_with : (end : ℕ) (before us : Tokens) (p : ℕ) (t : Token) (f : TextFault) → (l : Led before) → step p t l.state.0 l.state.1 ≡ Err f → run end start (before ++ (p, t) ∷ us) ≡ Err f
fails_with end before us p t f l e = l.arrives.leads end ((p, t) ∷ us) ∙ rw e refl

-- it is this fault, where a failing step tells no other
stuck_tells : (end : ℕ) (before us : Tokens) (p : ℕ) (t : Token) (f : TextFault) → (stuck : IsStuck before p t) →
    ((l : Led before) (g : TextFault) → StepFault p t l.state.0 l.state.1 g → g ≡ f) → run end start (before ++ (p, t) ∷ us) ≡ Err f
stuck_tells end before us p t f stuck one = at (led before stuck.goes_on)
  where
    at : Led before → run end start (before ++ (p, t) ∷ us) ≡ Err f
    at l = stepped (step p t l.state.0 l.state.1) refl
      where
        stepped : (told : Result State TextFault) → step p t l.state.0 l.state.1 ≡ told → run end start (before ++ (p, t) ∷ us) ≡ Err f
        stepped (Ok next) e = absurd (stuck.stuck (follows_at before l.state next (p, t) l.arrives e))
        stepped (Err g) e = fails_with end before us p t f l (e ∙ ap Err (one l g (step_fault p t l.state.0 l.state.1 g e)))

-- where a token can't follow, and is no other fault, that is told
bad_one : (before : Tokens) (p : ℕ) (t : Token) → IsNoOther before p t → (l : Led before) (g : TextFault) → StepFault p t l.state.0 l.state.1 g → g ≡ fault.BadToken p
bad_one before p t n l (fault.BadToken q) is = ap (λ (x : ℕ). fault.BadToken x) is.0
bad_one before p t n l (fault.WiderNumber q) is = absurd (n.not_wide is.1 (literal_follows before l.state p l.arrives is.2))
bad_one before p t n l (fault.TooDeep q) is = absurd (n.not_deep is.1.0 is.1.1 (bracket_follows is.1.0 before l.state p l.arrives is.1.2))
bad_one before p t n l (fault.Unclosed q) is = absurd (opens is.1)
  where
    opens : (t ≡ token.OpenComment) ⊎ ((t ≡ token.OpenText) × (takes_literal l.state.0 ≡ true)) → ⊥
    opens (inl c) = n.not_open c
    opens (inr c) = n.not_unclosed c.0 (literal_follows before l.state p l.arrives c.1)
bad_one before p t n l fault.NoMemory is = absurd is

wide_one : (before : Tokens) (p : ℕ) → LiteralGoes before p → (l : Led before) (g : TextFault) → StepFault p token.Wide l.state.0 l.state.1 g → g ≡ fault.WiderNumber p
wide_one before p goes l (fault.BadToken q) is = absurd (literal_never before l.state p l.arrives (is.1 refl) goes)
wide_one before p goes l (fault.WiderNumber q) is = ap (λ (x : ℕ). fault.WiderNumber x) is.0
wide_one before p goes l (fault.TooDeep q) is = absurd (never_wide is.1.0 (sym is.1.1))
wide_one before p goes l (fault.Unclosed q) is = absurd (opens is.1)
  where
    opens : (token.Wide ≡ token.OpenComment) ⊎ ((token.Wide ≡ token.OpenText) × (takes_literal l.state.0 ≡ true)) → ⊥
    opens (inl c) = cc
    opens (inr c) = let no = c.0 in cc
wide_one before p goes l fault.NoMemory is = absurd is

deep_one : (before : Tokens) (p : ℕ) (k : Bracket) → BracketGoes k before p → (l : Led before) (g : TextFault) → StepFault p (begins k) l.state.0 l.state.1 g → g ≡ fault.TooDeep p
deep_one before p k goes l (fault.BadToken q) is = absurd (bracket_never k before l.state p l.arrives (is.2 k refl) goes)
deep_one before p k goes l (fault.WiderNumber q) is = absurd (never_wide k is.1)
deep_one before p k goes l (fault.TooDeep q) is = ap (λ (x : ℕ). fault.TooDeep x) is.0
deep_one before p k goes l (fault.Unclosed q) is = absurd (opens is.1)
  where
    opens : (begins k ≡ token.OpenComment) ⊎ ((begins k ≡ token.OpenText) × (takes_literal l.state.0 ≡ true)) → ⊥
    opens (inl c) = never_open k c
    opens (inr c) = never_text k c.0
deep_one before p k goes l fault.NoMemory is = absurd is

-- ---- what has no end

outermost_is : (before : Tokens) (l : Led before) (at : ℕ) → first_open l.state.1 at ≡ outermost (open_places [] before) at
outermost_is before l at = first_is l.state.1 at ∙ ap (λ (x : List ℕ). outermost x at) l.placed

-- a bracket
end_tells : (end at : ℕ) (l : Level) (os : List Open) → map place_of os ≢ [] → finish end l os ≡ Err (fault.Unclosed (first_open os at))
end_tells end at l [] some = absurd (some refl)
end_tells end at l (o ∷ os) some = ap (λ (x : ℕ). Err (fault.Unclosed x)) (first_is (o ∷ os) end ∙ sym (first_is (o ∷ os) at))

bracket_tells : (end : ℕ) (before : Tokens) (l : Led before) → open_places [] before ≢ [] → run end start before ≡ Err (fault.Unclosed (outermost (open_places [] before) 0))
bracket_tells end before l some =
    ap (run end start) (sym (append-nil before)) ∙ l.arrives.leads end [] ∙ end_tells end 0 l.state.0 l.state.1 (λ none. some (sym l.placed ∙ none))
    ∙ ap (λ (x : ℕ). Err (fault.Unclosed x)) (outermost_is before l 0)

-- a string
text_step : (before : Tokens) (p : ℕ) (l : Led before) → LiteralGoes before p → step p token.OpenText l.state.0 l.state.1 ≡ Err (fault.Unclosed (first_open l.state.1 p))
text_step before p l goes = at (takes_literal l.state.0) refl
  where
    at : (b : Bool) → takes_literal l.state.0 ≡ b → step p token.OpenText l.state.0 l.state.1 ≡ Err (fault.Unclosed (first_open l.state.1 p))
    at true e = rw e refl
    at false e = absurd (literal_never before l.state p l.arrives e goes)

open_tells : (end p : ℕ) (before after : Tokens) (l : Led before) → IsOpen before after p → run end start (before ++ after) ≡ Err (fault.Unclosed p)
open_tells end p before [] l (some, place) =
    ap (run end start) (append-nil before) ∙ bracket_tells end before l some ∙ ap (λ (x : ℕ). Err (fault.Unclosed x)) (sym place)
open_tells end p before (t ∷ us) l (place, kind) = at kind
  where
    told : Path (Result (List Node) TextFault) (Err (fault.Unclosed (first_open l.state.1 t.0))) (Err (fault.Unclosed p))
    told = ap (λ (x : ℕ). Err (fault.Unclosed x)) (outermost_is before l t.0 ∙ sym place)

    at : (t.1 ≡ token.OpenComment) ⊎ ((t.1 ≡ token.OpenText) × LiteralGoes before t.0) → run end start (before ++ t ∷ us) ≡ Err (fault.Unclosed p)
    at (inl c) = ap (λ (x : Token). run end start (before ++ (t.0, x) ∷ us)) c ∙ fails_with end before us t.0 token.OpenComment (fault.Unclosed (first_open l.state.1 t.0)) l refl ∙ told
    at (inr c) =
        ap (λ (x : Token). run end start (before ++ (t.0, x) ∷ us)) c.0
        ∙ fails_with end before us t.0 token.OpenText (fault.Unclosed (first_open l.state.1 t.0)) l (text_step before t.0 l c.1) ∙ told

-- ---- the whole text

-- a fault of the tokens is told
pub fault_is_told : (end : ℕ) (ts : Tokens) (f : TextFault) → IsFault ts f → run end start ts ≡ Err f
fault_is_told end ts (fault.BadToken p) (before, us, t, is, stuck, n) = ap (run end start) is ∙ stuck_tells end before us p t (fault.BadToken p) stuck (bad_one before p t n)
fault_is_told end ts (fault.WiderNumber p) (before, us, is, stuck, goes) = ap (run end start) is ∙ stuck_tells end before us p token.Wide (fault.WiderNumber p) stuck (wide_one before p goes)
fault_is_told end ts (fault.TooDeep p) (before, us, k, is, stuck, goes, deep) = ap (run end start) is ∙ stuck_tells end before us p (begins k) (fault.TooDeep p) stuck (deep_one before p k goes)
fault_is_told end ts (fault.Unclosed p) (before, us, is, goes, no_end) = ap (run end start) is ∙ open_tells end p before us (led before goes) no_end
fault_is_told end ts fault.NoMemory is = absurd is
