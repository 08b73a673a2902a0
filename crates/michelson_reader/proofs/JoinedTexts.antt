-- The texts of nodes in lines, each but the last with ` ;` behind it, are a text of all of them.
use Rattle.std.proofs.Common.{◌≡◌, ℕ, zero, suc, ◌+◌, ◌≤◌, inl, inr, Bool, true, false, List, [], ◌∷◌, ◌++◌, length, map, refl, sym, ap, subst, ◌∙◌, arith, append_assoc}
use Rattle.std.specs.List.{flat_map, AllByRecursion}
use Rattle.std.proofs.lemmas.List.{append-nil}
use Rattle.std.proofs.lemmas.List.Concat.{flat_map-cons, flat_map-append}
use Rattle.micheline_text.specs.declared.node.Node.{Node}
use Rattle.micheline_text.specs.declared.node.Body.{Body}
use Rattle.micheline_text.specs.declared.token.Token.{Token}
use Rattle.micheline_text.specs.declared.token.Token.TheVariants as token
use Rattle.micheline_text.specs.Kinds.{is_blank}
use Rattle.micheline_text.specs.Layout.{Stops, IsPart, IsGap, IsLast, IsSpelled, IsLaidOut}
use Rattle.micheline_text.specs.Grammar.{Tokens, Bracket, Brace, Paren, IsNode, IsBracketed, IsParted}
use Rattle.micheline_text.specs.Printed.{print_body, printed}
use Rattle.micheline_text.specs.Text.{IsTextOf}
use Rattle.micheline_text.specs.Again.{unplaced}
use Rattle.micheline_text.specs.Fits.{IsFitApplication, IsFitArgument, IsFitNode, IsFitContent, IsInside, IsPrintable}
use Rattle.micheline_text.proofs.AgainLaws.{inner_again, no_more, node_again, placed_same, printed_is}

-- ---- what fits into brackets fits into deeper ones

module _ (In Out : Bracket → Body → Type 0) (grows : (k : Bracket) (b : Body) → In k b → Out k b) where
  argument_grows : (b : Body) → IsFitArgument In b → IsFitArgument Out b
  argument_grows b (inl p) = inl p
  argument_grows b (inr (inl p)) = inr (inl p)
  argument_grows b (inr (inr (inl p))) = inr (inr (inl (grows Brace b p)))
  argument_grows b (inr (inr (inr p))) = inr (inr (inr (grows Paren b p)))

  arguments_grow : (ns : List Node) → AllByRecursion (λ n. IsFitArgument In n.body) ns → AllByRecursion (λ n. IsFitArgument Out n.body) ns
  arguments_grow [] fit = tt
  arguments_grow (n ∷ ns) fit = (argument_grows n.body fit.0, arguments_grow ns fit.1)

  application_grows : (b : Body) → IsFitApplication (IsFitArgument In) b → IsFitApplication (IsFitArgument Out) b
  application_grows b p = (p.0, p.1, p.2, p.3, p.4, p.5, arguments_grow p.2 p.6)

  node_grows : (b : Body) → IsFitNode In b → IsFitNode Out b
  node_grows b (inl p) = inl p
  node_grows b (inr (inl p)) = inr (inl (grows Brace b p))
  node_grows b (inr (inr p)) = inr (inr (application_grows b p))

  nodes_grow : (ns : List Node) → AllByRecursion (λ n. IsFitNode In n.body) ns → AllByRecursion (λ n. IsFitNode Out n.body) ns
  nodes_grow [] fit = tt
  nodes_grow (n ∷ ns) fit = (node_grows n.body fit.0, nodes_grow ns fit.1)

  content_grows : (k : Bracket) (b : Body) → IsFitContent k In b → IsFitContent k Out b
  content_grows Brace b p = (p.0, p.1, nodes_grow p.0 p.2)
  content_grows Paren b p = (application_grows b p.0, p.1)

inside_grows : (d e : ℕ) → d ≤ e → (k : Bracket) (b : Body) → IsInside d k b → IsInside e k b
inside_grows zero e le k b p = absurd p
inside_grows (suc d) zero le k b p = absurd (omega arith)
inside_grows (suc d) (suc e) le k b p = content_grows (IsInside d) (IsInside e) (inside_grows d e (omega arith)) k b p

-- a printable node is one at the greatest depth
at_most_deep : (n : Node) → IsPrintable n → IsFitNode (IsInside 256) n.body
at_most_deep n p = node_grows (IsInside p.0) (IsInside 256) (inside_grows p.0 256 p.1) n.body p.2

-- ---- a newline behind a text

newline_stops : (test : ℕ → Bool) (rest : List ℕ) → test 10 ≡ false → Stops test rest → Stops test (rest ++ 10 ∷ [])
newline_stops test [] e s = e
newline_stops test (b ∷ rest) e s = s

spelled_on : (t : Token) (s rest : List ℕ) → IsSpelled t s rest → IsSpelled t s (rest ++ 10 ∷ [])
spelled_on (token.Number z) s rest p = (p.0, p.1, (p.2.0, p.2.1, p.2.2, newline_stops _ rest refl p.2.3, λ e. newline_stops _ rest refl (p.2.4 e)), p.3, p.4)
spelled_on (token.Text t) s rest p = p
spelled_on (token.Bytes t) s rest p = (p.0, p.1, p.2, p.3, p.4, p.5, newline_stops _ rest refl p.6)
spelled_on (token.Word w) s rest p = (p.0, p.1, p.2, p.3, p.4, p.5, newline_stops _ rest refl p.6)
spelled_on (token.Note w) s rest p = (p.0, p.1, p.2, p.3, p.4, p.5, newline_stops _ rest refl p.6)
spelled_on token.OpenBrace s rest p = p
spelled_on token.CloseBrace s rest p = p
spelled_on token.OpenParen s rest p = p
spelled_on token.CloseParen s rest p = p
spelled_on token.Semicolon s rest p = p
spelled_on token.Wide s rest p = absurd p
spelled_on token.OpenText s rest p = absurd p
spelled_on token.OpenComment s rest p = absurd p
spelled_on token.Faulty s rest p = absurd p

all_parts : (parts : List (List ℕ)) (part : List ℕ) → AllByRecursion IsPart parts → IsPart part → AllByRecursion IsPart (parts ++ part ∷ [])
all_parts [] part all p = (p, tt)
all_parts (first ∷ parts) part all p = (all.0, all_parts parts part all.1 p)

gap_on : (gap part : List ℕ) → IsGap gap → IsPart part → IsGap (gap ++ part)
gap_on gap part g p = (
  g.0 ++ part ∷ [],
  ap (λ (x : List ℕ). x ++ part) g.1 ∙ ap (λ (x : List ℕ). flat_map (λ (part : List ℕ). part) g.0 ++ x) (sym (append-nil part)) ∙ sym (flat_map-append (λ (part : List ℕ). part) g.0 (part ∷ [])),
  all_parts g.0 part g.2 p,
)

last_on : (bytes : List ℕ) → IsLast bytes → IsLast (bytes ++ 10 ∷ [])
last_on bytes (gap, line, g, all, inl e) = (gap ++ 10 ∷ [], [], gap_on gap (10 ∷ []) g (inl (10, refl, refl)), tt, inl (ap (λ (x : List ℕ). x ++ 10 ∷ []) e))
last_on bytes (gap, line, g, all, inr e) = (
  gap ++ 35 ∷ (line ++ 10 ∷ []),
  [],
  gap_on gap (35 ∷ (line ++ 10 ∷ [])) g (inr (inl (line, refl, all))),
  tt,
  inl (ap (λ (x : List ℕ). x ++ 10 ∷ []) e ∙ append_assoc gap (35 ∷ line) (10 ∷ [])),
)

newline_behind : (at : ℕ) (bytes : List ℕ) (ts : Tokens) → IsLaidOut at bytes ts → IsLaidOut at (bytes ++ 10 ∷ []) ts
newline_behind at bytes [] p = last_on bytes p
newline_behind at bytes (t ∷ ts) p = (
  p.0,
  p.1,
  p.2 ++ 10 ∷ [],
  ap (λ (x : List ℕ). x ++ 10 ∷ []) p.3 ∙ append_assoc p.0 (p.1 ++ p.2) (10 ∷ []) ∙ ap (λ (x : List ℕ). p.0 ++ x) (append_assoc p.1 p.2 (10 ∷ [])),
  p.4,
  p.5,
  spelled_on t.1 p.1 p.2 p.6,
  newline_behind (t.0 + length p.1) p.2 ts p.7,
)

-- ---- a blank, and a `;`, before a text

blank_gap : (b : ℕ) (gap : List ℕ) → is_blank b ≡ true → IsGap gap → IsGap (b ∷ gap)
blank_gap b gap e g = ((b ∷ []) ∷ g.0, ap (λ (x : List ℕ). b ∷ x) g.1 ∙ sym (flat_map-cons (λ (x : List ℕ). x) (b ∷ []) g.0), (inl (b, refl, e), g.2))

blank_before : (at b : ℕ) (bytes : List ℕ) (ts : Tokens) → is_blank b ≡ true → IsLaidOut (at + 1) bytes ts → IsLaidOut at (b ∷ bytes) ts
blank_before at b bytes [] e (gap, line, g, all, inl is) = (b ∷ gap, line, blank_gap b gap e g, all, inl (ap (λ (x : List ℕ). b ∷ x) is))
blank_before at b bytes [] e (gap, line, g, all, inr is) = (b ∷ gap, line, blank_gap b gap e g, all, inr (ap (λ (x : List ℕ). b ∷ x) is))
blank_before at b bytes (t ∷ ts) e p =
    let place : t.0 ≡ at + length (b ∷ p.0) = p.5 ∙ omega arith in
    (b ∷ p.0, p.1, p.2, ap (λ (x : List ℕ). b ∷ x) p.3, blank_gap b p.0 e p.4, place, p.6, p.7)

semicolon_before : (at : ℕ) (bytes : List ℕ) (ts : Tokens) → IsLaidOut (at + 1) bytes ts → IsLaidOut at (59 ∷ bytes) ((at, token.Semicolon) ∷ ts)
semicolon_before at bytes ts p = let place : at ≡ at + 0 = omega arith in ([], 59 ∷ [], bytes, refl, ([], refl, tt), place, refl, p)

-- ---- nodes in lines

-- one node or more, each but the last with ` ;` and a newline behind it, the last with a newline
abbrev pub lines : Node → List Node → List ℕ
lines n [] = printed n ++ 10 ∷ []
lines n (m ∷ more) = printed n ++ 32 ∷ 59 ∷ 10 ∷ lines m more

record Listed (at : ℕ) (text : List ℕ) (n : Node) (ns : List Node) : Type 0 where
  pub tokens : Tokens
  pub node : Node
  pub nodes : List Node
  pub laid : IsLaidOut at text tokens
  pub spelt : IsParted (IsNode (IsBracketed 256)) tokens (node ∷ nodes)
  pub same : map unplaced (node ∷ nodes) ≡ map unplaced (n ∷ ns)

listed : (at : ℕ) (n : Node) (ns : List Node) → IsPrintable n → AllByRecursion IsPrintable ns → Listed at (lines n ns) n ns
listed at n [] p all =
    let one = node_again 256 (inner_again 256) n.body at (at_most_deep n p) in
    let text = (print_body n.body).0 in
    let alone : IsLaidOut at text one.tokens =
    subst (λ (x : List ℕ). IsLaidOut at x one.tokens) (append-nil text)
    (subst (IsLaidOut at (text ++ [])) (append-nil one.tokens) (one.lays [] [] tt (no_more (at + length text)))) in
    record {
      tokens = one.tokens;
      node = one.node;
      nodes = [];
      laid = newline_behind at (printed n) one.tokens (subst (λ (x : List ℕ). IsLaidOut at x one.tokens) (printed_is n) alone);
      spelt = (one.tokens, [], sym (append-nil one.tokens), one.spelt, refl);
      same = (λ i. placed_same n one.node one.same i ∷ []);
    }
listed at n (m ∷ more) p all =
    let one = node_again 256 (inner_again 256) n.body at (at_most_deep n p) in
    let text = (print_body n.body).0 in
    let to = at + length text in
    let behind = listed (to + 1 + 1 + 1) m more all.0 all.1 in
    let parted : IsLaidOut to (32 ∷ 59 ∷ 10 ∷ lines m more) ((to + 1, token.Semicolon) ∷ behind.tokens) =
    blank_before to 32 (59 ∷ 10 ∷ lines m more) ((to + 1, token.Semicolon) ∷ behind.tokens) refl
    (semicolon_before (to + 1) (10 ∷ lines m more) behind.tokens (blank_before (to + 1 + 1) 10 (lines m more) behind.tokens refl behind.laid)) in
    let tokens : Tokens = one.tokens ++ (to + 1, token.Semicolon) ∷ behind.tokens in
    record {
      tokens = tokens;
      node = one.node;
      nodes = behind.node ∷ behind.nodes;
      laid = subst (λ (x : List ℕ). IsLaidOut at (x ++ 32 ∷ 59 ∷ 10 ∷ lines m more) tokens) (printed_is n)
          (one.lays (32 ∷ 59 ∷ 10 ∷ lines m more) ((to + 1, token.Semicolon) ∷ behind.tokens) (inl refl) parted);
      spelt = (one.tokens, (to + 1, token.Semicolon) ∷ behind.tokens, refl, one.spelt, (to + 1, behind.spelt.0, behind.spelt.1, ap (λ (x : Tokens). (to + 1, token.Semicolon) ∷ x) behind.spelt.2, behind.spelt.3, behind.spelt.4));
      same = (λ i. placed_same n one.node one.same i ∷ behind.same i);
    }

-- printable nodes in lines are read again up to places
pub lines_again : (n : Node) (ns : List Node) → IsPrintable n → AllByRecursion IsPrintable ns → (read : List Node) × IsTextOf (lines n ns) read × (map unplaced read ≡ map unplaced (n ∷ ns))
lines_again n ns p all =
    let l = listed 0 n ns p all in
    (l.node ∷ l.nodes, (l.tokens, l.laid, (256, omega arith, inr l.spelt)), l.same)
