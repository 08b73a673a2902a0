-- Where a text goes on, and where it doesn't.
use Rattle.std.proofs.Common.{◌≡◌, ℕ, suc, inl, true, List, [], ◌∷◌, ◌++◌, Result, Ok, Err, refl, sym, ap, ◌∙◌, append_assoc}
use Rattle.micheline_text.specs.declared.fault.TextFault.{TextFault}
use Rattle.micheline_text.specs.declared.node.Node.{Node}
use Rattle.micheline_text.specs.declared.node.Body.TheVariants as body
use Rattle.micheline_text.specs.declared.level.Level.{Level}
use Rattle.micheline_text.specs.declared.level.Level.TheVariants as level
use Rattle.micheline_text.specs.declared.level.Open.{Open}
use Rattle.micheline_text.specs.declared.token.Token.{Token}
use Rattle.micheline_text.specs.declared.token.Token.TheVariants as token
use Rattle.micheline_text.specs.Reading.{State, node_of, begun, taken, takes_literal, within, step, run}
use Rattle.micheline_text.specs.Grammar.{Tokens, Bracket, Brace, Paren, node_at}
use Rattle.micheline_text.specs.Faults.{GoesOn}
use Rattle.micheline_text.proofs.Spelt.{fed, allows, allows_literal, literal_taken, text_is_read}
use Rattle.micheline_text.proofs.Held.{bracket_of, Held}
use Rattle.micheline_text.proofs.Found.{ReachedState, step_reached, read_is_text}

abbrev pub start : State
start = (level.Start [], [])

-- the tokens lead from the start to the state
pub record Arrives (ts : Tokens) (s : State) : Type 0 where
  pub leads : (end : ℕ) (rest : Tokens) → run end start (ts ++ rest) ≡ run end s rest
  pub reached : ReachedState s ts

pub arrives_at_start : Arrives [] start
arrives_at_start = record { leads = λ end rest. refl; reached = (256, refl, (inl (refl, refl), refl)) }

step_runs : (end : ℕ) (s next : State) (t : ℕ × Token) (rest : Tokens) → step t.0 t.1 s.0 s.1 ≡ Ok next → run end s (t ∷ rest) ≡ run end next rest
step_runs end s next t rest e = rw e refl

pub arrives_next : (ts : Tokens) (s next : State) (t : ℕ × Token) → Arrives ts s → step t.0 t.1 s.0 s.1 ≡ Ok next → Arrives (ts ++ t ∷ []) next
arrives_next ts s next t a e = record {
  leads = λ end rest. ap (run end start) (append_assoc ts (t ∷ []) rest) ∙ a.leads end (t ∷ rest) ∙ step_runs end s next t rest e;
  reached = step_reached t.0 t.1 s.0 s.1 next ts e a.reached;
}

-- ---- each state can be ended

-- tokens that end the text from here
abbrev pub CanEnd : Level → List Open → Type 0
CanEnd l os = (more : Tokens) × (ns : List Node) × (run 0 (l, os) more ≡ Ok ns)

end_top : (l : Level) → bracket_of l ≡ Brace → CanEnd l []
end_top (level.Start ns) e = ([], ns, refl)
end_top (level.After ns) e = ([], ns, refl)
end_top (level.Args ns a) e = ([], _, refl)
end_top level.Head e = absurd cc
end_top (level.Inner a) e = absurd cc

close_fed : (l : Level) (os : List Open) (n : Node) → takes_literal l ≡ true → within os (taken 0 l n) ≡ Ok (fed l n, os)
close_fed l os n e = rw (literal_taken 0 l n e) refl

via : (l : Level) (os : List Open) (m : Level) (ps : List Open) (t : ℕ × Token) → step t.0 t.1 l os ≡ Ok (m, ps) → CanEnd m ps → CanEnd l os
via l os m ps t e c = (t ∷ c.0, c.1, step_runs 0 (l, os) (m, ps) t c.0 e ∙ c.2)

fed_same : (l : Level) (n : Node) → bracket_of (fed l n) ≡ bracket_of l
fed_same (level.Start ns) n = refl
fed_same (level.After ns) n = refl
fed_same (level.Args ns a) n = refl
fed_same level.Head n = refl
fed_same (level.Inner a) n = refl

-- the brackets stand where they may, whatever stands in them
abbrev pub Nested : List Open → Level → Type 0
Nested [] l = bracket_of l ≡ Brace
Nested (o ∷ os) l = Nested os o.outer × (allows (bracket_of l) o.outer ≡ true)

nested_held : (d : ℕ) (os : List Open) (l : Level) (ts : Tokens) → Held d os l ts → Nested os l
nested_held d [] l ts h = h.1
nested_held d (o ∷ os) l ts h = (nested_held (suc d) os o.outer h.0 h.3, h.5)

nested_same : (os : List Open) (l m : Level) → bracket_of m ≡ bracket_of l → Nested os l → Nested os m
nested_same [] l m e n = e ∙ n
nested_same (o ∷ os) l m e n = (n.0, ap (λ (k : Bracket). allows k o.outer) e ∙ n.1)

-- ending one bracket
close_one : (l : Level) (o : Open) (os : List Open) → allows (bracket_of l) o.outer ≡ true → ((n : Node) → CanEnd (fed o.outer n) os) → CanEnd l (o ∷ os)
close_one (level.Start ns) o os e h = via (level.Start ns) (o ∷ os) (fed o.outer (node_at o.at (body.Seq ns))) os (0, token.CloseBrace) (close_fed o.outer os (node_at o.at (body.Seq ns)) e) (h (node_at o.at (body.Seq ns)))
close_one (level.After ns) o os e h = via (level.After ns) (o ∷ os) (fed o.outer (node_at o.at (body.Seq ns))) os (0, token.CloseBrace) (close_fed o.outer os (node_at o.at (body.Seq ns)) e) (h (node_at o.at (body.Seq ns)))
close_one (level.Args ns a) o os e h =
    let n = node_at o.at (body.Seq (ns ++ node_of a ∷ [])) in
    via (level.Args ns a) (o ∷ os) (fed o.outer n) os (0, token.CloseBrace) (close_fed o.outer os n e) (h n)
close_one level.Head o os e h =
    let a = begun 0 [] in
    via level.Head (o ∷ os) (level.Inner a) (o ∷ os) (0, token.Word []) refl
    (via (level.Inner a) (o ∷ os) (fed o.outer (node_of a)) os (0, token.CloseParen) (close_fed o.outer os (node_of a) (allows_literal Paren o.outer e)) (h (node_of a)))
close_one (level.Inner a) o os e h =
    via (level.Inner a) (o ∷ os) (fed o.outer (node_of a)) os (0, token.CloseParen) (close_fed o.outer os (node_of a) (allows_literal Paren o.outer e)) (h (node_of a))

can_end : (os : List Open) (l : Level) → Nested os l → CanEnd l os
can_end [] l n = end_top l n
can_end (o ∷ os) l n = close_one l o os n.1 (λ m. can_end os (fed o.outer m) (nested_same os o.outer (fed o.outer m) (fed_same o.outer m) n.0))

-- so the tokens up to a state go on
pub arrived_goes_on : (ts : Tokens) (s : State) → Arrives ts s → GoesOn ts
arrived_goes_on ts s a =
    let c = can_end s.1 s.0 (nested_held a.reached.0 s.1 s.0 ts a.reached.2) in
    (c.0, c.1, read_is_text 0 (ts ++ c.0) c.1 (a.leads 0 c.0 ∙ c.2))

-- a token that can't follow
pub stuck_at : (ts : Tokens) (s : State) (t : ℕ × Token) (f : TextFault) → Arrives ts s → step t.0 t.1 s.0 s.1 ≡ Err f → GoesOn (ts ++ t ∷ []) → ⊥
stuck_at ts s t f a e g =
    let read : run 0 start ((ts ++ t ∷ []) ++ g.0) ≡ Ok g.1 = text_is_read 0 ((ts ++ t ∷ []) ++ g.0) g.1 g.2 in
    let regrouped : run 0 start ((ts ++ t ∷ []) ++ g.0) ≡ run 0 start (ts ++ t ∷ g.0) = ap (run 0 start) (append_assoc ts (t ∷ []) g.0) in
    let fails : run 0 s (t ∷ g.0) ≡ Err f = rw e refl in
    let both : Path (Result (List Node) TextFault) (Ok g.1) (Err f) = sym read ∙ regrouped ∙ a.leads 0 (t ∷ g.0) ∙ fails in
    absurd cc

-- a token that can
pub follows_at : (ts : Tokens) (s next : State) (t : ℕ × Token) → Arrives ts s → step t.0 t.1 s.0 s.1 ≡ Ok next → GoesOn (ts ++ t ∷ [])
follows_at ts s next t a e = arrived_goes_on (ts ++ t ∷ []) next (arrives_next ts s next t a e)
