-- The fault that the reader tells is the first one.
use Rattle.std.proofs.Common.{◌≡◌, ◌≢◌, ℕ, ◌≤◌, ◌⊎◌, inl, inr, pos, Bool, true, false, List, [], ◌∷◌, ◌++◌, length, map, Result, Ok, Err, refl, sym, ap, subst, ◌∙◌, append_assoc}
use Rattle.std.proofs.lemmas.List.{append-nil, length-map, reverse-append}
use Rattle.std.specs.Prelude.{reverse, slice_get, unwrap_or}
use Rattle.std.specs.Option.{option_map}
use Rattle.micheline_text.specs.declared.fault.TextFault.{TextFault}
use Rattle.micheline_text.specs.declared.fault.TextFault.TheVariants as fault
use Rattle.micheline_text.specs.declared.node.Node.{Node}
use Rattle.micheline_text.specs.declared.node.Body.TheVariants as body
use Rattle.micheline_text.specs.declared.level.Level.{Level}
use Rattle.micheline_text.specs.declared.level.Level.TheVariants as level
use Rattle.micheline_text.specs.declared.level.Open.{Open}
use Rattle.micheline_text.specs.declared.token.Token.{Token}
use Rattle.micheline_text.specs.declared.token.Token.TheVariants as token
use Rattle.micheline_text.specs.Reading.{State, taken, named, noted, parted, ended, applied, takes_literal, takes_argument, after, within, opened, step, run, finish, first_open}
use Rattle.micheline_text.specs.Grammar.{Tokens, Bracket, Brace, Paren, node_at}
use Rattle.micheline_text.specs.Faults.{LiteralGoes, BracketGoes, open_after, open_places, outermost, IsStuck, IsNoOther, IsFault}
use Rattle.micheline_text.proofs.Spelt.{fed, allows, literal_taken}
use Rattle.micheline_text.proofs.Held.{after_ok, within_ok}
use Rattle.micheline_text.proofs.Found.{opened_ok}
use Rattle.micheline_text.proofs.Goes.{start, Arrives, arrives_at_start, arrives_next, arrived_goes_on, stuck_at, follows_at}
use Rattle.micheline_text.proofs.FaultLaws.{StepFault, step_fault, fault_is}

-- ---- the brackets that are open

abbrev pub place_of : Open → ℕ
place_of o = o.at

places_within : (os : List Open) (told : Result Level TextFault) (s : State) → within os told ≡ Ok s → map place_of s.1 ≡ map place_of os
places_within os told s e = ap (map place_of) (within_ok os told s e).1

places_opened : (allowed : Bool) (inner : Level) (at : ℕ) (l : Level) (os : List Open) (s : State) → opened allowed inner at l os ≡ Ok s → map place_of s.1 ≡ at ∷ map place_of os
places_opened allowed inner at l os s e = ap (λ (x : State). map place_of x.1) (opened_ok allowed inner at l os s e).2

step_places : (at : ℕ) (t : Token) (l : Level) (os : List Open) (s : State) → step at t l os ≡ Ok s → map place_of s.1 ≡ open_after (map place_of os) at t
step_places at (token.Number z) l os s e = places_within os (taken at l (node_at at (body.Int z))) s e
step_places at (token.Text t) l os s e = places_within os (taken at l (node_at at (body.Text t))) s e
step_places at (token.Bytes t) l os s e = places_within os (taken at l (node_at at (body.Bytes t))) s e
step_places at (token.Word w) l os s e = places_within os (named at l w) s e
step_places at (token.Note w) l os s e = places_within os (noted at l w) s e
step_places at token.OpenBrace l os s e = places_opened (takes_literal l) (level.Start []) at l os s e
step_places at token.CloseBrace l [] s e = absurd cc
step_places at token.CloseBrace l (o ∷ os) s e = let a = after_ok (ended at l) _ s e in places_within os (taken at o.outer (node_at o.at (body.Seq a.value))) s a.then_is
step_places at token.OpenParen l os s e = places_opened (takes_argument l) level.Head at l os s e
step_places at token.CloseParen l [] s e = absurd cc
step_places at token.CloseParen l (o ∷ os) s e = let a = after_ok (applied at l) _ s e in places_within os (taken at o.outer a.value) s a.then_is
step_places at token.Semicolon l os s e = places_within os (parted at l) s e
step_places at token.Wide l os s e = absurd cc
step_places at token.OpenText l os s e = absurd cc
step_places at token.OpenComment l os s e = absurd cc
step_places at token.Faulty l os s e = absurd cc

open_places-push : (places : List ℕ) (ts : Tokens) (t : ℕ × Token) → open_places places (ts ++ t ∷ []) ≡ open_after (open_places places ts) t.0 t.1
open_places-push places [] t = refl
open_places-push places (u ∷ ts) t = open_places-push (open_after places u.0 u.1) ts t

-- the brackets that are open at a state are those of the tokens before it
abbrev pub IsPlaced : Tokens → State → Type 0
IsPlaced ts s = map place_of s.1 ≡ open_places [] ts

pub placed_next : (ts : Tokens) (s next : State) (t : ℕ × Token) → IsPlaced ts s → step t.0 t.1 s.0 s.1 ≡ Ok next → IsPlaced (ts ++ t ∷ []) next
placed_next ts s next t p e = step_places t.0 t.1 s.0 s.1 next e ∙ ap (λ (x : List ℕ). open_after x t.0 t.1) p ∙ sym (open_places-push [] ts t)

abbrev pub front_place : List Open → ℕ → ℕ
front_place os at = unwrap_or (option_map (λ o. o.at) (slice_get os 0)) at

front_more : (os : List Open) (o : Open) (at : ℕ) → front_place (os ++ o ∷ []) at ≡ front_place os o.at
front_more [] o at = refl
front_more (p ∷ os) o at = refl

pub first_is : (os : List Open) (at : ℕ) → first_open os at ≡ outermost (map place_of os) at
first_is [] at = refl
first_is (o ∷ os) at = ap (λ (x : List Open). front_place x at) (reverse-append (o ∷ []) os) ∙ front_more (reverse os) o at ∙ first_is os o.at

-- ---- what can follow

pub literal_follows : (ts : Tokens) (s : State) (at : ℕ) → Arrives ts s → takes_literal s.0 ≡ true → LiteralGoes ts at
literal_follows ts s at a e =
    let n = node_at at (body.Int (pos 0)) in
    let next : step at (token.Number (pos 0)) s.0 s.1 ≡ Ok (fed s.0 n, s.1) = rw (literal_taken at s.0 n e) refl in
    follows_at ts s (fed s.0 n, s.1) (at, token.Number (pos 0)) a next

taken_never : (at : ℕ) (l : Level) (os : List Open) (n : Node) → takes_literal l ≡ false → within os (taken at l n) ≡ Err (fault.BadToken at)
taken_never at (level.Start ns) os n e = absurd cc
taken_never at (level.After ns) os n e = refl
taken_never at (level.Args ns a) os n e = absurd cc
taken_never at level.Head os n e = refl
taken_never at (level.Inner a) os n e = absurd cc

noted_never : (at : ℕ) (l : Level) (os : List Open) (note : List ℕ) → takes_argument l ≡ false → within os (noted at l note) ≡ Err (fault.BadToken at)
noted_never at (level.Start ns) os n e = refl
noted_never at (level.After ns) os n e = refl
noted_never at (level.Args ns a) os n e = absurd cc
noted_never at level.Head os n e = refl
noted_never at (level.Inner a) os n e = absurd cc

noted_ever : (at : ℕ) (l : Level) (os : List Open) (note : List ℕ) → takes_argument l ≡ true → (m : Level) × (within os (noted at l note) ≡ Ok (m, os))
noted_ever at (level.Start ns) os n e = absurd cc
noted_ever at (level.After ns) os n e = absurd cc
noted_ever at (level.Args ns a) os n e = (_, refl)
noted_ever at level.Head os n e = absurd cc
noted_ever at (level.Inner a) os n e = (_, refl)

pub bracket_follows : (k : Bracket) (ts : Tokens) (s : State) (at : ℕ) → Arrives ts s → allows k s.0 ≡ true → BracketGoes k ts at
bracket_follows Brace ts s at a e = literal_follows ts s at a e
bracket_follows Paren ts s at a e = let m = noted_ever at s.0 s.1 [] e in follows_at ts s (m.0, s.1) (at, token.Note []) a m.1

pub literal_never : (ts : Tokens) (s : State) (at : ℕ) → Arrives ts s → takes_literal s.0 ≡ false → LiteralGoes ts at → ⊥
literal_never ts s at a e = stuck_at ts s (at, token.Number (pos 0)) (fault.BadToken at) a (taken_never at s.0 s.1 (node_at at (body.Int (pos 0))) e)

pub bracket_never : (k : Bracket) (ts : Tokens) (s : State) (at : ℕ) → Arrives ts s → allows k s.0 ≡ false → BracketGoes k ts at → ⊥
bracket_never Brace ts s at a e = literal_never ts s at a e
bracket_never Paren ts s at a e = stuck_at ts s (at, token.Note []) (fault.BadToken at) a (noted_never at s.0 s.1 [] e)

-- ---- the fault of a step

fault_here : (ts us : Tokens) (s : State) (at : ℕ) (t : Token) (f : TextFault) → Arrives ts s → IsPlaced ts s → step at t s.0 s.1 ≡ Err f → StepFault at t s.0 s.1 f → IsFault (ts ++ (at, t) ∷ us) f
fault_here ts us s at t (fault.BadToken p) a places e q =
    let stuck : IsStuck ts at t = record { goes_on = arrived_goes_on ts s a; stuck = stuck_at ts s (at, t) (fault.BadToken p) a e } in
    let no_other : IsNoOther ts at t = record {
      not_wide = λ wide. literal_never ts s at a (q.1 wide);
      not_deep = λ k is. bracket_never k ts s at a (q.2 k is);
      not_open = q.3;
      not_unclosed = λ is. literal_never ts s at a (q.4 is);
    } in
    subst (λ (x : ℕ). IsFault (ts ++ (at, t) ∷ us) (fault.BadToken x)) (sym q.0) (ts, us, t, refl, stuck, no_other)
fault_here ts us s at t (fault.WiderNumber p) a places e q =
    let stuck : IsStuck ts at t = record { goes_on = arrived_goes_on ts s a; stuck = stuck_at ts s (at, t) (fault.WiderNumber p) a e } in
    subst (λ (x : ℕ). IsFault (ts ++ (at, t) ∷ us) (fault.WiderNumber x)) (sym q.0)
    (ts, us, ap (λ (x : Token). ts ++ (at, x) ∷ us) q.1, subst (IsStuck ts at) q.1 stuck, literal_follows ts s at a q.2)
fault_here ts us s at t (fault.TooDeep p) a places e q =
    let stuck : IsStuck ts at t = record { goes_on = arrived_goes_on ts s a; stuck = stuck_at ts s (at, t) (fault.TooDeep p) a e } in
    let deep : 256 ≤ length (open_places [] ts) = subst (λ (x : List ℕ). 256 ≤ length x) places (subst (λ (x : ℕ). 256 ≤ x) (sym (length-map s.1 place_of)) q.2) in
    subst (λ (x : ℕ). IsFault (ts ++ (at, t) ∷ us) (fault.TooDeep x)) (sym q.0)
    (ts, us, q.1.0, ap (λ (x : Token). ts ++ (at, x) ∷ us) q.1.1, subst (IsStuck ts at) q.1.1 stuck, bracket_follows q.1.0 ts s at a q.1.2, deep)
fault_here ts us s at t (fault.Unclosed p) a places e q =
    let place : p ≡ outermost (open_places [] ts) at = q.0 ∙ first_is s.1 at ∙ ap (λ (x : List ℕ). outermost x at) places in
    (ts, (at, t) ∷ us, refl, arrived_goes_on ts s a, (place, open_kind q.1))
  where
    open_kind : (t ≡ token.OpenComment) ⊎ ((t ≡ token.OpenText) × (takes_literal s.0 ≡ true)) → (t ≡ token.OpenComment) ⊎ ((t ≡ token.OpenText) × LiteralGoes ts at)
    open_kind (inl c) = inl c
    open_kind (inr c) = inr (c.0, literal_follows ts s at a c.1)
fault_here ts us s at t fault.NoMemory a places e q = absurd q

-- ---- the whole text

end_fault : (end : ℕ) (ts : Tokens) (l : Level) (os : List Open) (f : TextFault) → Arrives ts (l, os) → IsPlaced ts (l, os) → finish end l os ≡ Err f → IsFault ts f
end_fault end ts (level.Start ns) [] f a places e = absurd cc
end_fault end ts (level.After ns) [] f a places e = absurd cc
end_fault end ts (level.Args ns b) [] f a places e = absurd cc
end_fault end ts level.Head [] f a places e = let top : Paren ≡ Brace = a.reached.2.1 in absurd cc
end_fault end ts (level.Inner b) [] f a places e = let top : Paren ≡ Brace = a.reached.2.1 in absurd cc
end_fault end ts l (o ∷ os) f a places e =
    let place : first_open (o ∷ os) end ≡ outermost (open_places [] ts) 0 = first_is (o ∷ os) end ∙ ap (λ (x : List ℕ). outermost x 0) places in
    let some : open_places [] ts ≢ [] = λ none. absurd cc in
    subst (IsFault ts) (fault_is (fault.Unclosed (first_open (o ∷ os) end)) f e) (ts, [], sym (append-nil ts), arrived_goes_on ts (l, o ∷ os) a, (some, place))

run_fault : (end : ℕ) (us ts : Tokens) (s : State) (f : TextFault) → Arrives ts s → IsPlaced ts s → run end s us ≡ Err f → IsFault (ts ++ us) f
run_fault end [] ts s f a places e = subst (λ (x : Tokens). IsFault x f) (sym (append-nil ts)) (end_fault end ts s.0 s.1 f a places e)
run_fault end (t ∷ us) ts s f a places e = stepped (λ next is h. run_fault end us (ts ++ t ∷ []) next f (arrives_next ts s next t a is) (placed_next ts s next t places is) h) (step t.0 t.1 s.0 s.1) refl e
  where
    stepped : ((next : State) → step t.0 t.1 s.0 s.1 ≡ Ok next → run end next us ≡ Err f → IsFault ((ts ++ t ∷ []) ++ us) f) →
        (told : Result State TextFault) → step t.0 t.1 s.0 s.1 ≡ told → after told (λ next. run end next us) ≡ Err f → IsFault (ts ++ t ∷ us) f
    stepped on (Ok next) is h = subst (λ (x : Tokens). IsFault x f) (append_assoc ts (t ∷ []) us) (on next is h)
    stepped on (Err g) is h = subst (IsFault (ts ++ t ∷ us)) (fault_is g f h) (fault_here ts us s t.0 t.1 g a places is (step_fault t.0 t.1 s.0 s.1 g is))

pub first_fault : (end : ℕ) (ts : Tokens) (f : TextFault) → run end start ts ≡ Err f → IsFault ts f
first_fault end ts f e = run_fault end ts [] start f arrives_at_start refl e
