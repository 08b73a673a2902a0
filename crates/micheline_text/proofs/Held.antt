-- What is read is spelt so: the tokens so far spell what is open.
use Rattle.std.proofs.Common.{◌≡◌, ℕ, suc, ◌⊎◌, inl, inr, true, List, [], ◌∷◌, ◌++◌, Result, Ok, Err, refl, sym, ap, subst, ◌∙◌, append_assoc}
use Rattle.std.proofs.lemmas.List.{append-nil}
use Rattle.micheline_text.specs.declared.fault.TextFault.{TextFault}
use Rattle.micheline_text.specs.declared.node.Node.{Node}
use Rattle.micheline_text.specs.declared.node.Body.TheVariants as body
use Rattle.micheline_text.specs.declared.level.Application.{Application}
use Rattle.micheline_text.specs.declared.level.Level.{Level}
use Rattle.micheline_text.specs.declared.level.Level.TheVariants as level
use Rattle.micheline_text.specs.declared.level.Open.{Open}
use Rattle.micheline_text.specs.declared.token.Token.TheVariants as token
use Rattle.micheline_text.specs.Reading.{State, node_of, begun, with_arg, with_note, taken, takes_literal, after, within}
use Rattle.micheline_text.specs.Grammar.{Tokens, IsLiteral, Bracket, Brace, Paren, begins, IsRest, IsParted, IsStart, Piece, Note, Arg, notes_of, args_of, ArePieces, IsApplication, IsArgument, IsNode, IsBracketed, node_at}
use Rattle.micheline_text.proofs.Spelt.{fed, allows}

-- ---- one more at the end

module _ (Item : Tokens → Node → Type 0) where
  rest_more : (ts us : Tokens) (ns : List Node) (at : ℕ) (n : Node) → IsRest Item ts ns → Item us n → IsRest Item (ts ++ (at, token.Semicolon) ∷ us) (ns ++ n ∷ [])
  rest_more ts us [] at n p i = (at, us, [], ap (λ (x : Tokens). x ++ (at, token.Semicolon) ∷ us) p ∙ ap (λ (x : Tokens). (at, token.Semicolon) ∷ x) (sym (append-nil us)), i, refl)
  rest_more ts us (m ∷ ns) at n p i =
      (p.0, p.1, p.2 ++ (at, token.Semicolon) ∷ us, ap (λ (x : Tokens). x ++ (at, token.Semicolon) ∷ us) p.3 ∙ ap (λ (x : Tokens). (p.0, token.Semicolon) ∷ x) (append_assoc p.1 p.2 ((at, token.Semicolon) ∷ us)), p.4, rest_more p.2 us ns at n p.5 i)

  pub parted_more : (ts us : Tokens) (ns : List Node) (at : ℕ) (n : Node) → IsParted Item ts ns → Item us n → IsParted Item (ts ++ (at, token.Semicolon) ∷ us) (ns ++ n ∷ [])
  parted_more ts us [] at n p i = absurd p
  parted_more ts us (m ∷ ns) at n p i =
      (p.0, p.1 ++ (at, token.Semicolon) ∷ us, ap (λ (x : Tokens). x ++ (at, token.Semicolon) ∷ us) p.2 ∙ append_assoc p.0 p.1 ((at, token.Semicolon) ∷ us), p.3, rest_more p.1 us ns at n p.4 i)

  -- a node after the start of a list
  pub start_more : (ts us : Tokens) (ns : List Node) (n : Node) → IsStart Item ts ns → Item us n → IsParted Item (ts ++ us) (ns ++ n ∷ [])
  start_more ts us ns n (inl p) i =
      subst (λ (x : Tokens). IsParted Item (x ++ us) (ns ++ n ∷ [])) (sym p.0)
      (subst (λ (x : List Node). IsParted Item us (x ++ n ∷ [])) (sym p.1) (us, [], sym (append-nil us), i, refl))
  start_more ts us ns n (inr p) i =
      subst (λ (x : Tokens). IsParted Item x (ns ++ n ∷ [])) (sym (ap (λ (x : Tokens). x ++ us) p.2 ∙ append_assoc p.1 ((p.0, token.Semicolon) ∷ []) us))
      (parted_more p.1 us ns p.0 n p.3 i)

module _ (Argument : Tokens → Node → Type 0) where
  pieces_more : (ts us : Tokens) (ps qs : List Piece) → ArePieces Argument ts ps → ArePieces Argument us qs → ArePieces Argument (ts ++ us) (ps ++ qs)
  pieces_more ts us [] qs p q = subst (λ (x : Tokens). ArePieces Argument (x ++ us) qs) (sym p) q
  pieces_more ts us (Note note ∷ ps) qs p q = (p.0, p.1 ++ us, ap (λ (x : Tokens). x ++ us) p.2, pieces_more p.1 us ps qs p.3 q)
  pieces_more ts us (Arg n ∷ ps) qs p q = (p.0, p.1 ++ us, ap (λ (x : Tokens). x ++ us) p.2 ∙ append_assoc p.0 p.1 us, p.3, pieces_more p.1 us ps qs p.4 q)

  notes_more : (ps qs : List Piece) → notes_of (ps ++ qs) ≡ notes_of ps ++ notes_of qs
  notes_more [] qs = refl
  notes_more (Note note ∷ ps) qs = ap (λ (x : List (List ℕ)). note ∷ x) (notes_more ps qs)
  notes_more (Arg n ∷ ps) qs = notes_more ps qs

  args_more : (ps qs : List Piece) → args_of (ps ++ qs) ≡ args_of ps ++ args_of qs
  args_more [] qs = refl
  args_more (Note note ∷ ps) qs = args_more ps qs
  args_more (Arg n ∷ ps) qs = ap (λ (x : List Node). n ∷ x) (args_more ps qs)

  -- the tokens of an application so far
  abbrev pub IsBegun : Tokens → Application → Type 0
  IsBegun ts a = (rest : Tokens) × (ps : List Piece) × (ts ≡ (a.at, token.Word a.name) ∷ rest) × ArePieces Argument rest ps × (a.notes ≡ notes_of ps) × (a.args ≡ args_of ps)

  pub word_begins : (at : ℕ) (w : List ℕ) → IsBegun ((at, token.Word w) ∷ []) (begun at w)
  word_begins at w = ([], [], refl, refl, refl, refl)

  pub note_more : (ts : Tokens) (a : Application) (at : ℕ) (note : List ℕ) → IsBegun ts a → IsBegun (ts ++ (at, token.Note note) ∷ []) (with_note a note)
  note_more ts a at note p = (
    p.0 ++ (at, token.Note note) ∷ [],
    p.1 ++ Note note ∷ [],
    ap (λ (x : Tokens). x ++ (at, token.Note note) ∷ []) p.2,
    pieces_more p.0 ((at, token.Note note) ∷ []) p.1 (Note note ∷ []) p.3 (at, [], refl, refl),
    ap (λ (x : List (List ℕ)). x ++ note ∷ []) p.4 ∙ sym (notes_more p.1 (Note note ∷ [])),
    p.5 ∙ sym (append-nil (args_of p.1)) ∙ sym (args_more p.1 (Note note ∷ [])),
  )

  pub arg_more : (ts us : Tokens) (a : Application) (n : Node) → IsBegun ts a → Argument us n → IsBegun (ts ++ us) (with_arg a n)
  arg_more ts us a n p i = (
    p.0 ++ us,
    p.1 ++ Arg n ∷ [],
    ap (λ (x : Tokens). x ++ us) p.2,
    pieces_more p.0 us p.1 (Arg n ∷ []) p.3 (us, [], sym (append-nil us), i, refl),
    p.4 ∙ sym (append-nil (notes_of p.1)) ∙ sym (notes_more p.1 (Arg n ∷ [])),
    ap (λ (x : List Node). x ++ n ∷ []) p.5 ∙ sym (args_more p.1 (Arg n ∷ [])),
  )

  pub begun_is : (ts : Tokens) (a : Application) → IsBegun ts a → IsApplication Argument ts (node_of a)
  begun_is ts a p = (a.at, a.name, p.0, p.1, p.2, p.3, λ i. node_at a.at (body.Prim a.name (p.4 i) (p.5 i)))

-- ---- levels

-- the tokens since the innermost open bracket, whose own brackets are at most so deep
abbrev pub Holds : ℕ → Level → Tokens → Type 0
Holds d (level.Start ns) ts = IsStart (IsNode (IsBracketed d)) ts ns
Holds d (level.After ns) ts = IsParted (IsNode (IsBracketed d)) ts ns
Holds d (level.Args ns a) ts = (front last : Tokens) × (ts ≡ front ++ last) × IsStart (IsNode (IsBracketed d)) front ns × IsBegun (IsArgument (IsBracketed d)) last a
Holds d level.Head ts = ts ≡ []
Holds d (level.Inner a) ts = IsBegun (IsArgument (IsBracketed d)) ts a

-- the bracket that the level stands in
abbrev pub bracket_of : Level → Bracket
bracket_of (level.Start ns) = Brace
bracket_of (level.After ns) = Brace
bracket_of (level.Args ns a) = Brace
bracket_of level.Head = Paren
bracket_of (level.Inner a) = Paren

-- the tokens so far, with these brackets open, each of them where it may be
abbrev pub Held : ℕ → List Open → Level → Tokens → Type 0
Held d [] l ts = Holds d l ts × (bracket_of l ≡ Brace)
Held d (o ∷ os) l ts = (front since : Tokens) × (ts ≡ front ++ (o.at, begins (bracket_of l)) ∷ since) ×
    Held (suc d) os o.outer front × Holds d l since × (allows (bracket_of l) o.outer ≡ true)

-- more tokens at the innermost level
pub held_more : (d : ℕ) (os : List Open) (l m : Level) (ts us : Tokens) → bracket_of m ≡ bracket_of l → ((since : Tokens) → Holds d l since → Holds d m (since ++ us)) →
    Held d os l ts → Held d os m (ts ++ us)
held_more d [] l m ts us same grow h = (grow ts h.0, same ∙ h.1)
held_more d (o ∷ os) l m ts us same grow h = (
  h.0,
  h.1 ++ us,
  ap (λ (x : Tokens). x ++ us) h.2 ∙ append_assoc h.0 ((o.at, begins (bracket_of l)) ∷ h.1) us ∙ ap (λ (k : Bracket). h.0 ++ (o.at, begins k) ∷ (h.1 ++ us)) (sym same),
  h.3,
  grow h.1 h.4,
  subst (λ (k : Bracket). allows k o.outer ≡ true) (sym same) h.5,
)

-- a literal, a sequence or a parenthesis where it may stand
abbrev pub IsFed : ℕ → Bracket → Tokens → Node → Type 0
IsFed d k ts n = IsLiteral ts n ⊎ IsBracketed d k ts n

fed_node : (d : ℕ) (ts : Tokens) (n : Node) → IsFed d Brace ts n → IsNode (IsBracketed d) ts n
fed_node d ts n (inl p) = inl p
fed_node d ts n (inr p) = inr (inl p)

fed_argument : (d : ℕ) (k : Bracket) (ts : Tokens) (n : Node) → IsFed d k ts n → IsArgument (IsBracketed d) ts n
fed_argument d k ts n (inl p) = inl p
fed_argument d Brace ts n (inr p) = inr (inr (inl p))
fed_argument d Paren ts n (inr p) = inr (inr (inr p))

pub holds_fed : (d : ℕ) (k : Bracket) (l : Level) (us : Tokens) (n : Node) → allows k l ≡ true → IsFed d k us n → (since : Tokens) → Holds d l since → Holds d (fed l n) (since ++ us)
holds_fed d Brace (level.Start ns) us n e i since h = start_more (IsNode (IsBracketed d)) since us ns n h (fed_node d us n i)
holds_fed d Paren (level.Start ns) us n e i since h = absurd cc
holds_fed d Brace (level.After ns) us n e i since h = absurd cc
holds_fed d Paren (level.After ns) us n e i since h = absurd cc
holds_fed d k (level.Args ns a) us n e i since h =
    (h.0, h.1 ++ us, ap (λ (x : Tokens). x ++ us) h.2 ∙ append_assoc h.0 h.1 us, h.3, arg_more (IsArgument (IsBracketed d)) h.1 us a n h.4 (fed_argument d k us n i))
holds_fed d Brace level.Head us n e i since h = absurd cc
holds_fed d Paren level.Head us n e i since h = absurd cc
holds_fed d k (level.Inner a) us n e i since h = arg_more (IsArgument (IsBracketed d)) since us a n h (fed_argument d k us n i)

fed_bracket : (l : Level) (n : Node) → bracket_of (fed l n) ≡ bracket_of l
fed_bracket (level.Start ns) n = refl
fed_bracket (level.After ns) n = refl
fed_bracket (level.Args ns a) n = refl
fed_bracket level.Head n = refl
fed_bracket (level.Inner a) n = refl

pub held_fed : (d : ℕ) (k : Bracket) (os : List Open) (l : Level) (ts us : Tokens) (n : Node) → allows k l ≡ true → IsFed d k us n → Held d os l ts → Held d os (fed l n) (ts ++ us)
held_fed d k os l ts us n e i h = held_more d os l (fed l n) ts us (fed_bracket l n) (holds_fed d k l us n e i) h

-- ---- what a step tells

module _ {A B : Type 0} where
  pub record Was (told : Result A TextFault) (f : A → Result B TextFault) (y : B) : Type 0 where
    pub value : A
    pub was : told ≡ Ok value
    pub then_is : f value ≡ Ok y

  pub after_ok : (told : Result A TextFault) (f : A → Result B TextFault) (y : B) → after told f ≡ Ok y → Was told f y
  after_ok (Ok x) f y e = record { value = x; was = refl; then_is = e }
  after_ok (Err e') f y e = absurd cc

pub taken_is : (at : ℕ) (l m : Level) (n : Node) → taken at l n ≡ Ok m → (takes_literal l ≡ true) × (m ≡ fed l n)
taken_is at (level.Start ns) m n e = (refl, cc)
taken_is at (level.After ns) m n e = absurd cc
taken_is at (level.Args ns a) m n e = (refl, cc)
taken_is at level.Head m n e = absurd cc
taken_is at (level.Inner a) m n e = (refl, cc)

ok_state : (x y : State) → Path (Result State TextFault) (Ok x) (Ok y) → x ≡ y
ok_state x y e = cc

pub within_ok : (os : List Open) (told : Result Level TextFault) (s : State) → within os told ≡ Ok s → (told ≡ Ok s.0) × (s.1 ≡ os)
within_ok os (Ok l) s e = (ap Ok (ap (λ (x : State). x.0) (ok_state (l, os) s e)), sym (ap (λ (x : State). x.1) (ok_state (l, os) s e)))
within_ok os (Err f) s e = absurd cc
