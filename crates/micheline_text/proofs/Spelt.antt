-- What is spelt so is read: the steps that the tokens of a node take.
use Rattle.std.proofs.Common.{◌≡◌, ℕ, zero, suc, ◌+◌, ◌≤◌, inl, inr, Bool, true, false, List, [], ◌∷◌, ◌++◌, length, Option, Some, None, Result, Ok, refl, sym, ap, subst, ◌∙◌, arith, append_assoc, leb}
use Rattle.std.proofs.lemmas.List.{append-nil}
use Rattle.std.proofs.lemmas.Bool.{lt-leb}
use Rattle.micheline_text.specs.declared.fault.TextFault.{TextFault}
use Rattle.micheline_text.specs.declared.node.Node.{Node}
use Rattle.micheline_text.specs.declared.node.Body.TheVariants as body
use Rattle.micheline_text.specs.declared.level.Application.{Application}
use Rattle.micheline_text.specs.declared.level.Level.{Level}
use Rattle.micheline_text.specs.declared.level.Level.TheVariants as level
use Rattle.micheline_text.specs.declared.level.Open.{Open}
use Rattle.micheline_text.specs.declared.token.Token.{Token}
use Rattle.micheline_text.specs.declared.token.Token.TheVariants as token
use Rattle.micheline_text.specs.Reading.{node_of, begun, with_arg, with_note, taken, parted, ended, takes_literal, takes_argument, within, step, run}
use Rattle.micheline_text.specs.Grammar.{Tokens, IsLiteral, Bracket, Brace, Paren, begins, ends, IsRest, IsParted, Piece, Note, Arg, notes_of, args_of, ArePieces, IsArgument, IsNode, IsContent, IsBracketed, IsTextWithin, IsText, node_at}

-- the level after a node that may stand there
abbrev pub fed : Level → Node → Level
fed (level.Start ns) n = level.After (ns ++ n ∷ [])
fed (level.After ns) n = level.After ns
fed (level.Args ns a) n = level.Args ns (with_arg a n)
fed level.Head n = level.Head
fed (level.Inner a) n = level.Inner (with_arg a n)

-- whether such a bracket may open here
abbrev pub allows : Bracket → Level → Bool
allows Brace l = takes_literal l
allows Paren l = takes_argument l

pub literal_taken : (at : ℕ) (l : Level) (n : Node) → takes_literal l ≡ true → taken at l n ≡ Ok (fed l n)
literal_taken at (level.Start ns) n e = refl
literal_taken at (level.After ns) n e = absurd cc
literal_taken at (level.Args ns a) n e = refl
literal_taken at level.Head n e = absurd cc
literal_taken at (level.Inner a) n e = refl

pub argument_literal : (l : Level) → takes_argument l ≡ true → takes_literal l ≡ true
argument_literal (level.Start ns) e = absurd cc
argument_literal (level.After ns) e = absurd cc
argument_literal (level.Args ns a) e = refl
argument_literal level.Head e = absurd cc
argument_literal (level.Inner a) e = refl

pub allows_literal : (k : Bracket) (l : Level) → allows k l ≡ true → takes_literal l ≡ true
allows_literal Brace l e = e
allows_literal Paren l e = argument_literal l e

-- ---- steps

-- tokens lead from one level to another, with these brackets open
abbrev pub Leads : List Open → Level → Tokens → Level → Type 0
Leads os l ts m = (end : ℕ) (rest : Tokens) → run end (l, os) (ts ++ rest) ≡ run end (m, os) rest

pub Leads-then : (os : List Open) (l m n : Level) (ts us : Tokens) → Leads os l ts m → Leads os m us n → Leads os l (ts ++ us) n
Leads-then os l m n ts us p q end rest = ap (run end (l, os)) (append_assoc ts us rest) ∙ p end (us ++ rest) ∙ q end rest

pub Leads-none : (os : List Open) (l : Level) → Leads os l [] l
Leads-none os l end rest = refl

pub Leads-one : (os : List Open) (l m : Level) (at : ℕ) (t : Token) → step at t l os ≡ Ok (m, os) → Leads os l ((at, t) ∷ []) m
Leads-one os l m at t e end rest = rw e refl

pub Leads-is : (os : List Open) (l m : Level) (ts us : Tokens) → ts ≡ us → Leads os l us m → Leads os l ts m
Leads-is os l m ts us e p = subst (λ (x : Tokens). Leads os l x m) (sym e) p

literal_step : (os : List Open) (l : Level) (at : ℕ) (n : Node) → takes_literal l ≡ true → within os (taken at l n) ≡ Ok (fed l n, os)
literal_step os l at n e = rw (literal_taken at l n e) refl

pub literal_leads : (os : List Open) (l : Level) (ts : Tokens) (n : Node) → takes_literal l ≡ true → IsLiteral ts n → Leads os l ts (fed l n)
literal_leads os l ts n e (inl p) =
    Leads-is os l (fed l n) ts ((p.0, token.Number p.1) ∷ []) p.2 (Leads-one os l (fed l n) p.0 (token.Number p.1) (rw (← p.3) (literal_step os l p.0 n e)))
literal_leads os l ts n e (inr (inl p)) =
    Leads-is os l (fed l n) ts ((p.0, token.Text p.1) ∷ []) p.2 (Leads-one os l (fed l n) p.0 (token.Text p.1) (rw (← p.3) (literal_step os l p.0 n e)))
literal_leads os l ts n e (inr (inr p)) =
    Leads-is os l (fed l n) ts ((p.0, token.Bytes p.1) ∷ []) p.2 (Leads-one os l (fed l n) p.0 (token.Bytes p.1) (rw (← p.3) (literal_step os l p.0 n e)))

-- ---- applications, at the top of a list or in a parenthesis

abbrev pub in_app : Option (List Node) → Application → Level
in_app (Some ns) a = level.Args ns a
in_app None a = level.Inner a

in_app_takes : (f : Option (List Node)) (a : Application) → takes_argument (in_app f a) ≡ true
in_app_takes (Some ns) a = refl
in_app_takes None a = refl

in_app_fed : (f : Option (List Node)) (a : Application) (n : Node) → fed (in_app f a) n ≡ in_app f (with_arg a n)
in_app_fed (Some ns) a n = refl
in_app_fed None a n = refl

note_leads : (os : List Open) (f : Option (List Node)) (a : Application) (at : ℕ) (note : List ℕ) → Leads os (in_app f a) ((at, token.Note note) ∷ []) (in_app f (with_note a note))
note_leads os (Some ns) a at note end rest = refl
note_leads os None a at note end rest = refl

word_leads : (os : List Open) (f : Option (List Node)) (a : Application) (at : ℕ) (w : List ℕ) →
    Leads os (in_app f a) ((at, token.Word w) ∷ []) (in_app f (with_arg a (node_at at (body.Prim w [] []))))
word_leads os (Some ns) a at w end rest = refl
word_leads os None a at w end rest = refl

abbrev pub with_pieces : Application → List Piece → Application
with_pieces a ps = record a { notes = a.notes ++ notes_of ps; args = a.args ++ args_of ps }

-- what brackets of this depth spell leads on from each level that allows them
abbrev pub Brackets : ℕ → Type 0
Brackets d = (k : Bracket) (os : List Open) (l : Level) (ts : Tokens) (n : Node) → allows k l ≡ true → length os + d ≤ 256 →
    IsBracketed d k ts n → Leads os l ts (fed l n)

argument_leads : (d : ℕ) → Brackets d → (os : List Open) (f : Option (List Node)) (a : Application) (ts : Tokens) (n : Node) → length os + d ≤ 256 →
    IsArgument (IsBracketed d) ts n → Leads os (in_app f a) ts (in_app f (with_arg a n))
argument_leads d h os f a ts n room (inl p) =
    subst (Leads os (in_app f a) ts) (in_app_fed f a n) (literal_leads os (in_app f a) ts n (argument_literal (in_app f a) (in_app_takes f a)) p)
argument_leads d h os f a ts n room (inr (inl p)) =
    Leads-is os (in_app f a) (in_app f (with_arg a n)) ts ((p.0, token.Word p.1) ∷ []) p.2
    (subst (λ (m : Node). Leads os (in_app f a) ((p.0, token.Word p.1) ∷ []) (in_app f (with_arg a m))) (sym p.3) (word_leads os f a p.0 p.1))
argument_leads d h os f a ts n room (inr (inr (inl p))) =
    subst (Leads os (in_app f a) ts) (in_app_fed f a n) (h Brace os (in_app f a) ts n (argument_literal (in_app f a) (in_app_takes f a)) room p)
argument_leads d h os f a ts n room (inr (inr (inr p))) =
    subst (Leads os (in_app f a) ts) (in_app_fed f a n) (h Paren os (in_app f a) ts n (in_app_takes f a) room p)

no_pieces : (a : Application) → a ≡ with_pieces a []
no_pieces a = ap (λ (x : List (List ℕ)). record a { notes = x }) (sym (append-nil a.notes)) ∙ ap (λ (x : List Node). record a { notes = a.notes ++ []; args = x }) (sym (append-nil a.args))

note_first : (a : Application) (note : List ℕ) (ps : List Piece) → with_pieces (with_note a note) ps ≡ with_pieces a (Note note ∷ ps)
note_first a note ps = ap (λ (x : List (List ℕ)). record a { notes = x; args = a.args ++ args_of ps }) (append_assoc a.notes (note ∷ []) (notes_of ps))

arg_first : (a : Application) (n : Node) (ps : List Piece) → with_pieces (with_arg a n) ps ≡ with_pieces a (Arg n ∷ ps)
arg_first a n ps = ap (λ (x : List Node). record a { notes = a.notes ++ notes_of ps; args = x }) (append_assoc a.args (n ∷ []) (args_of ps))

pieces_lead : (d : ℕ) → Brackets d → (os : List Open) (f : Option (List Node)) (a : Application) (ts : Tokens) (ps : List Piece) → length os + d ≤ 256 →
    ArePieces (IsArgument (IsBracketed d)) ts ps → Leads os (in_app f a) ts (in_app f (with_pieces a ps))
pieces_lead d h os f a ts [] room p =
    Leads-is os (in_app f a) (in_app f (with_pieces a [])) ts [] p (subst (λ (b : Application). Leads os (in_app f a) [] (in_app f b)) (no_pieces a) (Leads-none os (in_app f a)))
pieces_lead d h os f a ts (Note note ∷ ps) room p =
    let first = note_leads os f a p.0 note in
    let rest = pieces_lead d h os f (with_note a note) p.1 ps room p.3 in
    Leads-is os (in_app f a) (in_app f (with_pieces a (Note note ∷ ps))) ts ((p.0, token.Note note) ∷ p.1) p.2
    (subst (λ (b : Application). Leads os (in_app f a) ((p.0, token.Note note) ∷ p.1) (in_app f b)) (note_first a note ps)
    (Leads-then os (in_app f a) (in_app f (with_note a note)) (in_app f (with_pieces (with_note a note) ps)) ((p.0, token.Note note) ∷ []) p.1 first rest))
pieces_lead d h os f a ts (Arg n ∷ ps) room p =
    let first = argument_leads d h os f a p.0 n room p.3 in
    let rest = pieces_lead d h os f (with_arg a n) p.1 ps room p.4 in
    Leads-is os (in_app f a) (in_app f (with_pieces a (Arg n ∷ ps))) ts (p.0 ++ p.1) p.2
    (subst (λ (b : Application). Leads os (in_app f a) (p.0 ++ p.1) (in_app f b)) (arg_first a n ps)
    (Leads-then os (in_app f a) (in_app f (with_arg a n)) (in_app f (with_pieces (with_arg a n) ps)) p.0 p.1 first rest))

-- ---- nodes of a list

-- these nodes stand at the level, the last one whole
pub record Stands (l : Level) (ns : List Node) : Type 0 where
  pub parts : (at : ℕ) → parted at l ≡ Ok (level.Start ns)
  pub closes : (at : ℕ) → ended at l ≡ Ok ns

after_stands : (ns : List Node) → Stands (level.After ns) ns
after_stands ns = record { parts = λ at. refl; closes = λ at. refl }

args_stand : (ns : List Node) (a : Application) → Stands (level.Args ns a) (ns ++ node_of a ∷ [])
args_stand ns a = record { parts = λ at. refl; closes = λ at. refl }

-- where tokens lead
pub record Reaches (os : List Open) (l : Level) (ts : Tokens) (P : Level → Type 0) : Type 0 where
  pub level_after : Level
  pub leads : Leads os l ts level_after
  pub holds : P level_after

application_of : (at : ℕ) (w : List ℕ) (ps : List Piece) → node_of (with_pieces (begun at w) ps) ≡ node_at at (body.Prim w (notes_of ps) (args_of ps))
application_of at w ps = refl

node_reaches : (d : ℕ) → Brackets d → (os : List Open) (ns : List Node) (ts : Tokens) (n : Node) → length os + d ≤ 256 →
    IsNode (IsBracketed d) ts n → Reaches os (level.Start ns) ts (λ l. Stands l (ns ++ n ∷ []))
node_reaches d h os ns ts n room (inl p) =
    record { level_after = level.After (ns ++ n ∷ []); leads = literal_leads os (level.Start ns) ts n refl p; holds = after_stands (ns ++ n ∷ []) }
node_reaches d h os ns ts n room (inr (inl p)) =
    record { level_after = level.After (ns ++ n ∷ []); leads = h Brace os (level.Start ns) ts n refl room p; holds = after_stands (ns ++ n ∷ []) }
node_reaches d h os ns ts n room (inr (inr p)) =
    let a = begun p.0 p.1 in
    let first : Leads os (level.Start ns) ((p.0, token.Word p.1) ∷ []) (level.Args ns a) = λ end rest. refl in
    let rest = pieces_lead d h os (Some ns) a p.2 p.3 room p.5 in
    record {
      level_after = level.Args ns (with_pieces a p.3);
      leads = Leads-is os (level.Start ns) (level.Args ns (with_pieces a p.3)) ts ((p.0, token.Word p.1) ∷ p.2) p.4
          (Leads-then os (level.Start ns) (level.Args ns a) (level.Args ns (with_pieces a p.3)) ((p.0, token.Word p.1) ∷ []) p.2 first rest);
      holds = subst (λ (m : Node). Stands (level.Args ns (with_pieces a p.3)) (ns ++ m ∷ [])) (sym p.6) (args_stand ns (with_pieces a p.3));
    }

-- ---- lists

rest_reaches : (d : ℕ) → Brackets d → (os : List Open) (l : Level) (front ns : List Node) (ts : Tokens) → length os + d ≤ 256 → Stands l front →
    IsRest (IsNode (IsBracketed d)) ts ns → Reaches os l ts (λ m. Stands m (front ++ ns))
rest_reaches d h os l front [] ts room s p =
    record { level_after = l; leads = Leads-is os l l ts [] p (Leads-none os l); holds = subst (Stands l) (sym (append-nil front)) s }
rest_reaches d h os l front (n ∷ ns) ts room s p =
    let part : Leads os l ((p.0, token.Semicolon) ∷ []) (level.Start front) = Leads-one os l (level.Start front) p.0 token.Semicolon (rw (s.parts p.0) refl) in
    let one = node_reaches d h os front p.1 n room p.4 in
    let more = rest_reaches d h os one.level_after (front ++ n ∷ []) ns p.2 room one.holds p.5 in
    record {
      level_after = more.level_after;
      leads = Leads-is os l more.level_after ts ((p.0, token.Semicolon) ∷ (p.1 ++ p.2)) p.3
          (Leads-then os l (level.Start front) more.level_after ((p.0, token.Semicolon) ∷ []) (p.1 ++ p.2) part
          (Leads-then os (level.Start front) one.level_after more.level_after p.1 p.2 one.leads more.leads));
      holds = subst (Stands more.level_after) (append_assoc front (n ∷ []) ns) more.holds;
    }

parted_reaches : (d : ℕ) → Brackets d → (os : List Open) (ns : List Node) (ts : Tokens) → length os + d ≤ 256 →
    IsParted (IsNode (IsBracketed d)) ts ns → Reaches os (level.Start []) ts (λ m. Stands m ns)
parted_reaches d h os [] ts room p = absurd p
parted_reaches d h os (n ∷ ns) ts room p =
    let one = node_reaches d h os [] p.0 n room p.3 in
    let more = rest_reaches d h os one.level_after (n ∷ []) ns p.1 room one.holds p.4 in
    record {
      level_after = more.level_after;
      leads = Leads-is os (level.Start []) more.level_after ts (p.0 ++ p.1) p.2 (Leads-then os (level.Start []) one.level_after more.level_after p.0 p.1 one.leads more.leads);
      holds = more.holds;
    }

-- the list may end here with these nodes
abbrev pub Closes : List Node → Level → Type 0
Closes ns l = (at : ℕ) → ended at l ≡ Ok ns

pub list_reaches : (d : ℕ) → Brackets d → (os : List Open) (ns : List Node) (ts : Tokens) → length os + d ≤ 256 →
    IsTextWithin d ts ns → Reaches os (level.Start []) ts (Closes ns)
list_reaches d h os ns ts room (inl (inl p)) =
    record { level_after = level.Start []; leads = Leads-is os (level.Start []) (level.Start []) ts [] p.0 (Leads-none os (level.Start [])); holds = λ at. ap Ok (sym p.1) }
list_reaches d h os ns ts room (inl (inr p)) =
    let most = parted_reaches d h os ns p.1 room p.3 in
    let part : Leads os most.level_after ((p.0, token.Semicolon) ∷ []) (level.Start ns) = Leads-one os most.level_after (level.Start ns) p.0 token.Semicolon (rw (most.holds.parts p.0) refl) in
    record {
      level_after = level.Start ns;
      leads = Leads-is os (level.Start []) (level.Start ns) ts (p.1 ++ (p.0, token.Semicolon) ∷ []) p.2 (Leads-then os (level.Start []) most.level_after (level.Start ns) p.1 ((p.0, token.Semicolon) ∷ []) most.leads part);
      holds = λ at. refl;
    }
list_reaches d h os ns ts room (inr p) =
    let all = parted_reaches d h os ns ts room p in
    record { level_after = all.level_after; leads = all.leads; holds = all.holds.closes }

-- ---- brackets

abbrev pub inner_of : Bracket → Level
inner_of Brace = level.Start []
inner_of Paren = level.Head

opens : (k : Bracket) (os : List Open) (l : Level) (at d : ℕ) → allows k l ≡ true → length os + suc d ≤ 256 →
    step at (begins k) l os ≡ Ok (inner_of k, record { at = at; outer = l } ∷ os)
opens Brace os l at d e room =
    let shallow : leb 256 (length os) ≡ false = lt-leb 256 (length os) (omega arith) in
    rw (e, shallow) refl
opens Paren os l at d e room =
    let shallow : leb 256 (length os) ≡ false = lt-leb 256 (length os) (omega arith) in
    rw (e, shallow) refl

-- a level that the bracket's end closes with the node
abbrev pub Ends : Bracket → ℕ → Level → List Open → Node → Level → Type 0
Ends k at l os n m = (to : ℕ) → step to (ends k) m (record { at = at; outer = l } ∷ os) ≡ Ok (fed l n, os)

within_is : (os : List Open) (l m : Level) (told : Result Level TextFault) → told ≡ Ok m → within os told ≡ Ok (m, os)
within_is os l m told e = rw e refl

brace_ends : (at : ℕ) (l : Level) (os : List Open) (ns : List Node) (m : Level) → takes_literal l ≡ true → Closes ns m → Ends Brace at l os (node_at at (body.Seq ns)) m
brace_ends at l os ns m takes closes to = rw (closes to) (within_is os l (fed l (node_at at (body.Seq ns))) _ (literal_taken to l (node_at at (body.Seq ns)) takes))

paren_ends : (at : ℕ) (l : Level) (os : List Open) (a : Application) → takes_literal l ≡ true → Ends Paren at l os (node_of a) (level.Inner a)
paren_ends at l os a takes to = within_is os l (fed l (node_of a)) _ (literal_taken to l (node_of a) takes)

content_reaches : (k : Bracket) (d at : ℕ) → Brackets d → (os : List Open) (l : Level) (ts : Tokens) (n : Node) → suc (length os) + d ≤ 256 →
    IsContent k (IsBracketed d) at ts n → takes_literal l ≡ true → Reaches (record { at = at; outer = l } ∷ os) (inner_of k) ts (Ends k at l os n)
content_reaches Brace d at h os l ts n room p takes =
    let r = list_reaches d h (record { at = at; outer = l } ∷ os) p.0 ts room p.1 in
    record {
      level_after = r.level_after;
      leads = r.leads;
      holds = subst (λ (m : Node). Ends Brace at l os m r.level_after) (sym p.2) (brace_ends at l os p.0 r.level_after takes r.holds);
    }
content_reaches Paren d at h os l ts n room p takes =
    let a = begun p.0 p.1 in
    let os' : List Open = record { at = at; outer = l } ∷ os in
    let first : Leads os' level.Head ((p.0, token.Word p.1) ∷ []) (level.Inner a) = λ end rest. refl in
    let rest = pieces_lead d h os' None a p.2 p.3 room p.5 in
    record {
      level_after = level.Inner (with_pieces a p.3);
      leads = Leads-is os' level.Head (level.Inner (with_pieces a p.3)) ts ((p.0, token.Word p.1) ∷ p.2) p.4
          (Leads-then os' level.Head (level.Inner a) (level.Inner (with_pieces a p.3)) ((p.0, token.Word p.1) ∷ []) p.2 first rest);
      holds = subst (λ (m : Node). Ends Paren at l os m (level.Inner (with_pieces a p.3))) (sym p.6) (paren_ends at l os (with_pieces a p.3) takes);
    }

brackets : (d : ℕ) → Brackets d
brackets zero k os l ts n e room p = absurd p
brackets (suc d) k os l ts n e room p =
    let os' : List Open = record { at = p.0; outer = l } ∷ os in
    let r = content_reaches k d p.0 (brackets d) os l p.2 n (omega arith) p.4 (allows_literal k l e) in
    let start : (end : ℕ) (rest : Tokens) → run end (l, os) (((p.0, begins k) ∷ (p.2 ++ (p.1, ends k) ∷ [])) ++ rest) ≡ run end (inner_of k, os') ((p.2 ++ (p.1, ends k) ∷ []) ++ rest) = λ end rest. rw (opens k os l p.0 d e room) refl in
    let close : (end : ℕ) (rest : Tokens) → run end (r.level_after, os') ((p.1, ends k) ∷ rest) ≡ run end (fed l n, os) rest = λ end rest. rw (r.holds p.1) refl in
    λ end rest. ap (λ (x : Tokens). run end (l, os) (x ++ rest)) p.3 ∙ start end rest ∙ ap (run end (inner_of k, os')) (append_assoc p.2 ((p.1, ends k) ∷ []) rest) ∙ r.leads end ((p.1, ends k) ∷ rest) ∙ close end rest

-- ---- texts

-- a text of the grammar is read as its nodes
pub text_is_read : (end : ℕ) (ts : Tokens) (ns : List Node) → IsText ts ns → run end (level.Start [], []) ts ≡ Ok ns
text_is_read end ts ns p =
    let r = list_reaches p.0 (brackets p.0) [] ns ts (omega (arith, p.1)) p.2 in
    ap (run end (level.Start [], [])) (sym (append-nil ts)) ∙ r.leads end [] ∙ r.holds end
