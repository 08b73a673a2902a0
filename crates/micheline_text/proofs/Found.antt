-- What is read is spelt so: each step, and the whole text.
use Rattle.std.proofs.Common.{◌≡◌, ℕ, suc, ◌+◌, ◌-◌, ◌<◌, inl, inr, Bool, true, false, cond, List, [], ◌∷◌, ◌++◌, length, Result, Ok, Err, refl, sym, ap, subst, ◌∙◌, arith, append_assoc, leb}
use Rattle.std.proofs.lemmas.List.{append-nil}
use Rattle.std.proofs.lemmas.Bool.{leb-false}
use Rattle.micheline_text.specs.declared.fault.TextFault.{TextFault}
use Rattle.micheline_text.specs.declared.fault.TextFault.TheVariants as fault
use Rattle.micheline_text.specs.declared.node.Node.{Node}
use Rattle.micheline_text.specs.declared.node.Body.TheVariants as body
use Rattle.micheline_text.specs.declared.level.Application.{Application}
use Rattle.micheline_text.specs.declared.level.Level.{Level}
use Rattle.micheline_text.specs.declared.level.Level.TheVariants as level
use Rattle.micheline_text.specs.declared.level.Open.{Open}
use Rattle.micheline_text.specs.declared.token.Token.{Token}
use Rattle.micheline_text.specs.declared.token.Token.TheVariants as token
use Rattle.micheline_text.specs.Reading.{State, node_of, begun, with_arg, with_note, taken, named, noted, parted, ended, applied, within, opened, step, run, close_brace, close_paren, finish}
use Rattle.micheline_text.specs.Grammar.{Tokens, IsLiteral, Bracket, Brace, Paren, begins, ends, IsParted, IsStart, IsApplication, IsArgument, IsNode, IsContent, IsBracketed, IsTextWithin, IsText, node_at}
use Rattle.micheline_text.proofs.Spelt.{fed, allows}
use Rattle.micheline_text.proofs.Held.{IsBegun, word_begins, note_more, arg_more, begun_is, start_more, Holds, bracket_of, Held, held_more, held_fed, after_ok, within_ok, taken_is}

-- the tokens so far, at each depth that is left
abbrev pub Reached : Level → List Open → Tokens → Type 0
Reached l os ts = (d : ℕ) × (d + length os ≡ 256) × Held d os l ts

-- ---- levels that change within the same brackets

abbrev pub Grows : Level → Tokens → Level → Type 0
Grows l us m = (bracket_of m ≡ bracket_of l) × ((d : ℕ) (since : Tokens) → Holds d l since → Holds d m (since ++ us))

ok_is : (l m : Level) → Path (Result Level TextFault) (Ok l) (Ok m) → l ≡ m
ok_is l m e = cc

named_grows : (at : ℕ) (l m : Level) (w : List ℕ) → named at l w ≡ Ok m → Grows l ((at, token.Word w) ∷ []) m
named_grows at (level.Start ns) m w e =
    subst (Grows (level.Start ns) ((at, token.Word w) ∷ [])) (ok_is (level.Args ns (begun at w)) m e)
    (refl, λ d since h. (since, (at, token.Word w) ∷ [], refl, h, word_begins (IsArgument (IsBracketed d)) at w))
named_grows at (level.After ns) m w e = absurd cc
named_grows at (level.Args ns a) m w e =
    let n = node_at at (body.Prim w [] []) in
    subst (Grows (level.Args ns a) ((at, token.Word w) ∷ [])) (ok_is (level.Args ns (with_arg a n)) m e) (
      refl,
      λ d since h. (
        h.0,
        h.1 ++ (at, token.Word w) ∷ [],
        ap (λ (x : Tokens). x ++ (at, token.Word w) ∷ []) h.2 ∙ append_assoc h.0 h.1 ((at, token.Word w) ∷ []),
        h.3,
        arg_more (IsArgument (IsBracketed d)) h.1 ((at, token.Word w) ∷ []) a n h.4 (inr (inl (at, w, refl, refl))),
      ),
    )
named_grows at level.Head m w e =
    subst (Grows level.Head ((at, token.Word w) ∷ [])) (ok_is (level.Inner (begun at w)) m e)
    (refl, λ d since h. subst (λ (x : Tokens). IsBegun (IsArgument (IsBracketed d)) (x ++ (at, token.Word w) ∷ []) (begun at w)) (sym h) (word_begins (IsArgument (IsBracketed d)) at w))
named_grows at (level.Inner a) m w e =
    let n = node_at at (body.Prim w [] []) in
    subst (Grows (level.Inner a) ((at, token.Word w) ∷ [])) (ok_is (level.Inner (with_arg a n)) m e)
    (refl, λ d since h. arg_more (IsArgument (IsBracketed d)) since ((at, token.Word w) ∷ []) a n h (inr (inl (at, w, refl, refl))))

noted_grows : (at : ℕ) (l m : Level) (note : List ℕ) → noted at l note ≡ Ok m → Grows l ((at, token.Note note) ∷ []) m
noted_grows at (level.Start ns) m note e = absurd cc
noted_grows at (level.After ns) m note e = absurd cc
noted_grows at (level.Args ns a) m note e =
    subst (Grows (level.Args ns a) ((at, token.Note note) ∷ [])) (ok_is (level.Args ns (with_note a note)) m e) (
      refl,
      λ d since h. (
        h.0,
        h.1 ++ (at, token.Note note) ∷ [],
        ap (λ (x : Tokens). x ++ (at, token.Note note) ∷ []) h.2 ∙ append_assoc h.0 h.1 ((at, token.Note note) ∷ []),
        h.3,
        note_more (IsArgument (IsBracketed d)) h.1 a at note h.4,
      ),
    )
noted_grows at level.Head m note e = absurd cc
noted_grows at (level.Inner a) m note e =
    subst (Grows (level.Inner a) ((at, token.Note note) ∷ [])) (ok_is (level.Inner (with_note a note)) m e)
    (refl, λ d since h. note_more (IsArgument (IsBracketed d)) since a at note h)

-- what an application at the top of a list ends as
args_parted : (d : ℕ) (ns : List Node) (a : Application) (ts : Tokens) → Holds d (level.Args ns a) ts → IsParted (IsNode (IsBracketed d)) ts (ns ++ node_of a ∷ [])
args_parted d ns a ts h =
    subst (λ (x : Tokens). IsParted (IsNode (IsBracketed d)) x (ns ++ node_of a ∷ [])) (sym h.2)
    (start_more (IsNode (IsBracketed d)) h.0 h.1 ns (node_of a) h.3 (inr (inr (begun_is (IsArgument (IsBracketed d)) h.1 a h.4))))

parted_grows : (at : ℕ) (l m : Level) → parted at l ≡ Ok m → Grows l ((at, token.Semicolon) ∷ []) m
parted_grows at (level.Start ns) m e = absurd cc
parted_grows at (level.After ns) m e =
    subst (Grows (level.After ns) ((at, token.Semicolon) ∷ [])) (ok_is (level.Start ns) m e) (refl, λ d since h. inr (at, since, refl, h))
parted_grows at (level.Args ns a) m e =
    subst (Grows (level.Args ns a) ((at, token.Semicolon) ∷ [])) (ok_is (level.Start (ns ++ node_of a ∷ [])) m e) (refl, λ d since h. inr (at, since, refl, args_parted d ns a since h))
parted_grows at level.Head m e = absurd cc
parted_grows at (level.Inner a) m e = absurd cc

nodes_are : (ns ms : List Node) → Path (Result (List Node) TextFault) (Ok ns) (Ok ms) → ns ≡ ms
nodes_are ns ms e = cc

-- a list that ends
ended_list : (d at : ℕ) (l : Level) (ns : List Node) (ts : Tokens) → ended at l ≡ Ok ns → Holds d l ts → (bracket_of l ≡ Brace) × IsTextWithin d ts ns
ended_list d at (level.Start ms) ns ts e h = (refl, inl (subst (IsStart (IsNode (IsBracketed d)) ts) (nodes_are ms ns e) h))
ended_list d at (level.After ms) ns ts e h = (refl, inr (subst (IsParted (IsNode (IsBracketed d)) ts) (nodes_are ms ns e) h))
ended_list d at (level.Args ms a) ns ts e h = (refl, inr (subst (IsParted (IsNode (IsBracketed d)) ts) (nodes_are (ms ++ node_of a ∷ []) ns e) (args_parted d ms a ts h)))
ended_list d at level.Head ns ts e h = absurd cc
ended_list d at (level.Inner a) ns ts e h = absurd cc

node_is : (n m : Node) → Path (Result Node TextFault) (Ok n) (Ok m) → n ≡ m
node_is n m e = cc

applied_is : (d at : ℕ) (l : Level) (n : Node) (ts : Tokens) → applied at l ≡ Ok n → Holds d l ts → (bracket_of l ≡ Paren) × IsApplication (IsArgument (IsBracketed d)) ts n
applied_is d at (level.Start ns) n ts e h = absurd cc
applied_is d at (level.After ns) n ts e h = absurd cc
applied_is d at (level.Args ns a) n ts e h = absurd cc
applied_is d at level.Head n ts e h = absurd cc
applied_is d at (level.Inner a) n ts e h = (refl, subst (IsApplication (IsArgument (IsBracketed d)) ts) (node_is (node_of a) n e) (begun_is (IsArgument (IsBracketed d)) ts a h))

-- ---- steps

-- after tokens that end at a state
abbrev pub ReachedState : State → Tokens → Type 0
ReachedState s ts = Reached s.0 s.1 ts

grown : (told : Result Level TextFault) (l : Level) (os : List Open) (s : State) (ts us : Tokens) → within os told ≡ Ok s → ((m : Level) → told ≡ Ok m → Grows l us m) → Reached l os ts → ReachedState s (ts ++ us)
grown told l os s ts us e g r =
    let w = within_ok os told s e in
    let grows = g s.0 w.0 in
    subst (λ (x : List Open). Reached s.0 x (ts ++ us)) (sym w.1) (r.0, r.1, held_more r.0 os l s.0 ts us grows.0 (grows.1 r.0) r.2)

fed_grown : (at : ℕ) (l : Level) (os : List Open) (s : State) (ts us : Tokens) (n : Node) → within os (taken at l n) ≡ Ok s → IsLiteral us n → Reached l os ts → ReachedState s (ts ++ us)
fed_grown at l os s ts us n e i r =
    let w = within_ok os (taken at l n) s e in
    let t = taken_is at l s.0 n w.0 in
    subst (λ (x : List Open). Reached s.0 x (ts ++ us)) (sym w.1)
    (subst (λ (m : Level). Reached m os (ts ++ us)) (sym t.1) (r.0, r.1, held_fed r.0 Brace os l ts us n t.0 (inl i) r.2))

pub opened_ok : (allowed : Bool) (inner : Level) (at : ℕ) (l : Level) (os : List Open) (s : State) → opened allowed inner at l os ≡ Ok s →
    (allowed ≡ true) × (length os < 256) × (s ≡ (inner, record { at = at; outer = l } ∷ os))
opened_ok true inner at l os s e = room (leb 256 (length os)) refl e
  where
    room : (b : Bool) → leb 256 (length os) ≡ b → cond {A = Result State TextFault} b (Err (fault.TooDeep at)) (Ok (inner, record { at = at; outer = l } ∷ os)) ≡ Ok s →
        (true ≡ true) × (length os < 256) × (s ≡ (inner, record { at = at; outer = l } ∷ os))
    room true is h = absurd cc
    room false is h = (refl, leb-false 256 (length os) is, cc)
opened_ok false inner at l os s e = absurd cc

open_grown : (k : Bracket) (inner : Level) (at : ℕ) (l : Level) (os : List Open) (s : State) (ts : Tokens) → bracket_of inner ≡ k → ((d : ℕ) → Holds d inner []) →
    opened (allows k l) inner at l os ≡ Ok s → Reached l os ts → ReachedState s (ts ++ (at, begins k) ∷ [])
open_grown k inner at l os s ts is empty e r =
    let o = opened_ok (allows k l) inner at l os s e in
    let d = r.0 - 1 in
    let deeper : r.0 ≡ suc d = omega (arith, r.1, o.1) in
    let room : d + suc (length os) ≡ 256 = omega (arith, r.1, o.1) in
    let held : Held (suc d) os l ts = subst (λ (x : ℕ). Held x os l ts) deeper r.2 in
    let here : Held d (record { at = at; outer = l } ∷ os) inner (ts ++ (at, begins k) ∷ []) =
    (ts, [], ap (λ (x : Bracket). ts ++ (at, begins x) ∷ []) (sym is), held, empty d, ap (λ (x : Bracket). allows x l) is ∙ o.0) in
    subst (λ (x : State). ReachedState x (ts ++ (at, begins k) ∷ [])) (sym o.2) (d, room, here)

closed_grown : (k : Bracket) (at : ℕ) (l : Level) (o : Open) (os : List Open) (s : State) (ts : Tokens) (n : Node) (d : ℕ) → d + suc (length os) ≡ 256 → within os (taken at o.outer n) ≡ Ok s →
    (h : Held d (o ∷ os) l ts) → bracket_of l ≡ k → IsContent k (IsBracketed d) o.at h.1 n → ReachedState s (ts ++ (at, ends k) ∷ [])
closed_grown k at l o os s ts n d room e h is content =
    let w = within_ok os (taken at o.outer n) s e in
    let t = taken_is at o.outer s.0 n w.0 in
    let bracket : Tokens = (o.at, begins k) ∷ (h.1 ++ (at, ends k) ∷ []) in
    let spelt : IsBracketed (suc d) k bracket n = (o.at, at, h.1, refl, content) in
    let allowed : allows k o.outer ≡ true = ap (λ (x : Bracket). allows x o.outer) (sym is) ∙ h.5 in
    let held : Held (suc d) os (fed o.outer n) (h.0 ++ bracket) = held_fed (suc d) k os o.outer h.0 bracket n allowed (inr spelt) h.3 in
    let same : h.0 ++ bracket ≡ ts ++ (at, ends k) ∷ [] =
    sym (append_assoc h.0 ((o.at, begins k) ∷ h.1) ((at, ends k) ∷ [])) ∙ ap (λ (x : Bracket). (h.0 ++ (o.at, begins x) ∷ h.1) ++ (at, ends k) ∷ []) (sym is) ∙ ap (λ (x : Tokens). x ++ (at, ends k) ∷ []) (sym h.2) in
    subst (λ (x : List Open). Reached s.0 x (ts ++ (at, ends k) ∷ [])) (sym w.1)
    (subst (λ (m : Level). Reached m os (ts ++ (at, ends k) ∷ [])) (sym t.1)
    (suc d, omega arith, subst (Held (suc d) os (fed o.outer n)) same held))

brace_grown : (at : ℕ) (l : Level) (os : List Open) (s : State) (ts : Tokens) → close_brace at l os ≡ Ok s → Reached l os ts → ReachedState s (ts ++ (at, token.CloseBrace) ∷ [])
brace_grown at l [] s ts e r = absurd cc
brace_grown at l (o ∷ os) s ts e r =
    let a = after_ok (ended at l) _ s e in
    let list = ended_list r.0 at l a.value r.2.1 a.was r.2.4 in
    closed_grown Brace at l o os s ts (node_at o.at (body.Seq a.value)) r.0 r.1 a.then_is r.2 list.0 (a.value, list.1, refl)

paren_grown : (at : ℕ) (l : Level) (os : List Open) (s : State) (ts : Tokens) → close_paren at l os ≡ Ok s → Reached l os ts → ReachedState s (ts ++ (at, token.CloseParen) ∷ [])
paren_grown at l [] s ts e r = absurd cc
paren_grown at l (o ∷ os) s ts e r =
    let a = after_ok (applied at l) _ s e in
    let app = applied_is r.0 at l a.value r.2.1 a.was r.2.4 in
    closed_grown Paren at l o os s ts a.value r.0 r.1 a.then_is r.2 app.0 app.1

pub step_reached : (at : ℕ) (t : Token) (l : Level) (os : List Open) (s : State) (ts : Tokens) → step at t l os ≡ Ok s → Reached l os ts → ReachedState s (ts ++ (at, t) ∷ [])
step_reached at (token.Number z) l os s ts e r = fed_grown at l os s ts ((at, token.Number z) ∷ []) (node_at at (body.Int z)) e (inl (at, z, refl, refl)) r
step_reached at (token.Text t) l os s ts e r = fed_grown at l os s ts ((at, token.Text t) ∷ []) (node_at at (body.Text t)) e (inr (inl (at, t, refl, refl))) r
step_reached at (token.Bytes t) l os s ts e r = fed_grown at l os s ts ((at, token.Bytes t) ∷ []) (node_at at (body.Bytes t)) e (inr (inr (at, t, refl, refl))) r
step_reached at (token.Word w) l os s ts e r = grown (named at l w) l os s ts ((at, token.Word w) ∷ []) e (λ m is. named_grows at l m w is) r
step_reached at (token.Note note) l os s ts e r = grown (noted at l note) l os s ts ((at, token.Note note) ∷ []) e (λ m is. noted_grows at l m note is) r
step_reached at token.OpenBrace l os s ts e r = open_grown Brace (level.Start []) at l os s ts refl (λ d. inl (refl, refl)) e r
step_reached at token.CloseBrace l os s ts e r = brace_grown at l os s ts e r
step_reached at token.OpenParen l os s ts e r = open_grown Paren level.Head at l os s ts refl (λ d. refl) e r
step_reached at token.CloseParen l os s ts e r = paren_grown at l os s ts e r
step_reached at token.Semicolon l os s ts e r = grown (parted at l) l os s ts ((at, token.Semicolon) ∷ []) e (λ m is. parted_grows at l m is) r
step_reached at token.Wide l os s ts e r = absurd cc
step_reached at token.OpenText l os s ts e r = absurd cc
step_reached at token.OpenComment l os s ts e r = absurd cc
step_reached at token.Faulty l os s ts e r = absurd cc

-- ---- texts

finished : (end : ℕ) (l : Level) (os : List Open) (ts : Tokens) (ns : List Node) → finish end l os ≡ Ok ns → Reached l os ts → IsText ts ns
finished end l [] ts ns e r = (r.0, omega (arith, r.1), (ended_list r.0 end l ns ts e r.2.0).1)
finished end l (o ∷ os) ts ns e r = absurd cc

run_found : (end : ℕ) (us ts : Tokens) (s : State) (ns : List Node) → run end s us ≡ Ok ns → ReachedState s ts → IsText (ts ++ us) ns
run_found end [] ts s ns e r = subst (λ (x : Tokens). IsText x ns) (sym (append-nil ts)) (finished end s.0 s.1 ts ns e r)
run_found end (t ∷ us) ts s ns e r =
    let a = after_ok (step t.0 t.1 s.0 s.1) (λ next. run end next us) ns e in
    subst (λ (x : Tokens). IsText x ns) (append_assoc ts (t ∷ []) us)
    (run_found end us (ts ++ t ∷ []) a.value ns a.then_is (step_reached t.0 t.1 s.0 s.1 a.value ts a.was r))

-- what is read is a text of the grammar, with those nodes
pub read_is_text : (end : ℕ) (ts : Tokens) (ns : List Node) → run end (level.Start [], []) ts ≡ Ok ns → IsText ts ns
read_is_text end ts ns e = run_found end ts [] (level.Start [], []) ns e (256, refl, (inl (refl, refl), refl))
