-- What is printed is read again: the text of each node lays out tokens that spell it.
use Rattle.std.proofs.Common.{◌≡◌, ℕ, zero, suc, ◌+◌, inl, inr, Bool, true, false, List, [], ◌∷◌, ◌++◌, length, map, refl, sym, ap, subst, ◌∙◌, append_assoc}
use Rattle.std.specs.List.{flat_map, AllByRecursion}
use Rattle.std.proofs.lemmas.List.{append-nil}
use Rattle.std.proofs.lemmas.List.Concat.{flat_map-cons}
use Rattle.micheline_text.specs.declared.node.Node.{Node}
use Rattle.micheline_text.specs.declared.node.Body.{Body}
use Rattle.micheline_text.specs.declared.node.Body.TheVariants as variant
use Rattle.micheline_text.specs.declared.node.Body.TheVariants.{rolls-Int, rolls-Text, rolls-Bytes, rolls-Prim, rolls-Seq}
use Rattle.micheline_text.specs.declared.node.Body.TheOpen as one
use Rattle.micheline_text.specs.declared.node.Body.TheOpen.{Body-F, Node-F}
use Rattle.micheline_text.specs.declared.node.Body.TheViews.{roll-Body}
use Rattle.micheline_text.specs.declared.node.Body.TheFolds.{fold-roll-Body, fold-roll-Node, map-Body}
use Rattle.micheline_text.specs.declared.token.Token.TheVariants as token
use Rattle.micheline_text.specs.Layout.{IsLaidOut}
use Rattle.micheline_text.specs.Grammar.{Tokens, IsLiteral, Bracket, Brace, Paren, IsRest, Piece, Note, Arg, notes_of, args_of, ArePieces, IsApplication, IsArgument, IsNode, IsBracketed, IsTextWithin, IsText, node_at}
use Rattle.micheline_text.specs.Printed.{Print, argument, annotation, next_item, braces, print_body, print, printed}
use Rattle.micheline_text.specs.Text.{IsTextOf}
use Rattle.micheline_text.specs.Again.{unplaced, unplaced_body, IsTextOfOne}
use Rattle.micheline_text.specs.Fits.{IsNote, IsFitLiteral, IsFitApplication, IsFitArgument, IsFitNode, IsInside, IsPrintable}
use Rattle.micheline_text.proofs.PrintLemmas.{print_is, print_int, print_text, print_bytes, print_prim, print_seq}
use Rattle.micheline_text.proofs.Lays.{Follows, Lays, lays_blank, lays_one, lays_then, lays_none, lays_word, lays_note, lays_text, lays_number, lays_bytes, lays_mark}

-- ---- places

rolled : (x : Body-F Body Node) → unplaced_body (roll-Body x) ≡ roll-Body (map-Body Body Node Body Node unplaced_body unplaced x)
rolled = fold-roll-Body Body Node roll-Body (λ n. record { at = 0; body = n.body })

one_node : Node → Node-F Body Node
one_node n = record { at = n.at; body = n.body }

unplaced_is : (n : Node) → unplaced n ≡ node_at 0 (unplaced_body n.body)
unfolding one_node
unplaced_is n = fold-roll-Node Body Node roll-Body (λ m. record { at = 0; body = m.body }) (one_node n)

unplaced_prim : (name : List ℕ) (notes : List (List ℕ)) (args : List Node) → unplaced_body (variant.Prim name notes args) ≡ variant.Prim name notes (map unplaced args)
unplaced_prim name notes args = ap unplaced_body (sym (rolls-Prim name notes args)) ∙ rolled (one.Prim name notes args) ∙ rolls-Prim name notes (map unplaced args)

unplaced_seq : (ns : List Node) → unplaced_body (variant.Seq ns) ≡ variant.Seq (map unplaced ns)
unplaced_seq ns = ap unplaced_body (sym (rolls-Seq ns)) ∙ rolled (one.Seq ns) ∙ rolls-Seq (map unplaced ns)

-- ---- a node printed at a place, and read

pub record Again (Sort : Tokens → Node → Type 0) (at : ℕ) (text : List ℕ) (b : Body) : Type 0 where
  pub tokens : Tokens
  pub node : Node
  pub lays : Lays at text tokens
  pub spelt : Sort tokens node
  pub same : unplaced_body node.body ≡ unplaced_body b

again_text : {Sort : Tokens → Node → Type 0} (at : ℕ) (text other : List ℕ) (b : Body) → text ≡ other → Again Sort at text b → Again Sort at other b
again_text {Sort} at text other b e a = subst (λ (x : List ℕ). Again Sort at x b) e a

again_as : {Sort Other : Tokens → Node → Type 0} (at : ℕ) (text : List ℕ) (b : Body) → ((ts : Tokens) (n : Node) → Sort ts n → Other ts n) → Again Sort at text b → Again Other at text b
again_as at text b f a = record { tokens = a.tokens; node = a.node; lays = a.lays; spelt = f a.tokens a.node a.spelt; same = a.same }

literal_again : (b : Body) (at : ℕ) → IsFitLiteral b → Again IsLiteral at (print_body b).0 b × ((print_body b).1 ≡ false)
literal_again b at (inl p) =
    let is = ap print_body p.1 ∙ print_int p.0 in (
      record {
        tokens = (at, token.Number p.0) ∷ [];
        node = node_at at (variant.Int p.0);
        lays = subst (λ (x : List ℕ). Lays at x ((at, token.Number p.0) ∷ [])) (sym (ap (λ (x : Print). x.0) is)) (lays_number at p.0 p.2);
        spelt = inl (at, p.0, refl, refl);
        same = ap unplaced_body (sym p.1);
      },
      ap (λ (x : Print). x.1) is,
    )
literal_again b at (inr (inl p)) =
    let is = ap print_body p.1 ∙ print_text p.0 in (
      record {
        tokens = (at, token.Text p.0) ∷ [];
        node = node_at at (variant.Text p.0);
        lays = subst (λ (x : List ℕ). Lays at x ((at, token.Text p.0) ∷ [])) (sym (ap (λ (x : Print). x.0) is)) (lays_text at p.0 p.2);
        spelt = inr (inl (at, p.0, refl, refl));
        same = ap unplaced_body (sym p.1);
      },
      ap (λ (x : Print). x.1) is,
    )
literal_again b at (inr (inr p)) =
    let is = ap print_body p.1 ∙ print_bytes p.0 in (
      record {
        tokens = (at, token.Bytes p.0) ∷ [];
        node = node_at at (variant.Bytes p.0);
        lays = subst (λ (x : List ℕ). Lays at x ((at, token.Bytes p.0) ∷ [])) (sym (ap (λ (x : Print). x.0) is)) (lays_bytes at p.0 p.2 p.3);
        spelt = inr (inr (at, p.0, refl, refl));
        same = ap unplaced_body (sym p.1);
      },
      ap (λ (x : Print). x.1) is,
    )

-- ---- arguments, behind their blanks

-- what brackets of this depth hold
abbrev bracket_text : Bracket → Body → List ℕ
bracket_text Brace b = (print_body b).0
bracket_text Paren b = 40 ∷ ((print_body b).0 ++ 41 ∷ [])

abbrev bracket_shown : Bracket → Bool
bracket_shown Brace = false
bracket_shown Paren = true

abbrev Inner : ℕ → Type 0
Inner d = (k : Bracket) (b : Body) (at : ℕ) → IsInside d k b → Again (IsBracketed d k) at (bracket_text k b) b × ((print_body b).1 ≡ bracket_shown k)

behind_blank : {Sort : Tokens → Node → Type 0} (at : ℕ) (text : List ℕ) (b : Body) → Again Sort (at + 1) text b → Again Sort at (32 ∷ text) b
behind_blank at text b a = record { tokens = a.tokens; node = a.node; lays = lays_blank at text a.tokens a.lays; spelt = a.spelt; same = a.same }

plain_argument : (b : Body) → (print_body b).1 ≡ false → 32 ∷ (print_body b).0 ≡ argument (print_body b)
plain_argument b e = rw e refl

paren_argument : (b : Body) → (print_body b).1 ≡ true → 32 ∷ bracket_text Paren b ≡ argument (print_body b)
paren_argument b e = rw e refl

argument_again : (d : ℕ) → Inner d → (b : Body) (at : ℕ) → IsFitArgument (IsInside d) b → Again (IsArgument (IsBracketed d)) at (argument (print_body b)) b
argument_again d h b at (inl p) =
    let l = literal_again b (at + 1) p in
    again_text at (32 ∷ (print_body b).0) (argument (print_body b)) b (plain_argument b l.1)
    (behind_blank at (print_body b).0 b (again_as (at + 1) (print_body b).0 b (λ ts n s. inl s) l.0))
argument_again d h b at (inr (inl p)) =
    let is = ap print_body p.1 ∙ print_prim p.0 [] [] in
    let text : (print_body b).0 ≡ p.0 = ap (λ (x : Print). x.0) is ∙ append-nil p.0 in
    let word : Again (IsArgument (IsBracketed d)) (at + 1) p.0 b = record {
      tokens = (at + 1, token.Word p.0) ∷ [];
      node = node_at (at + 1) (variant.Prim p.0 [] []);
      lays = lays_word (at + 1) p.0 p.2;
      spelt = inr (inl (at + 1, p.0, refl, refl));
      same = ap unplaced_body (sym p.1);
    } in
    again_text at (32 ∷ p.0) (argument (print_body b)) b (ap (λ (x : List ℕ). 32 ∷ x) (sym text) ∙ plain_argument b (ap (λ (x : Print). x.1) is)) (behind_blank at p.0 b word)
argument_again d h b at (inr (inr (inl p))) =
    let i = h Brace b (at + 1) p in
    again_text at (32 ∷ (print_body b).0) (argument (print_body b)) b (plain_argument b i.1)
    (behind_blank at (print_body b).0 b (again_as (at + 1) (print_body b).0 b (λ ts n s. inr (inr (inl s))) i.0))
argument_again d h b at (inr (inr (inr p))) =
    let i = h Paren b (at + 1) p in
    again_text at (32 ∷ bracket_text Paren b) (argument (print_body b)) b (paren_argument b i.1)
    (behind_blank at (bracket_text Paren b) b (again_as (at + 1) (bracket_text Paren b) b (λ ts n s. inr (inr (inr s))) i.0))

-- ---- what follows a word

record Follow (d at : ℕ) (text : List ℕ) (notes : List (List ℕ)) (args : List Node) : Type 0 where
  pub tokens : Tokens
  pub pieces : List Piece
  pub lays : Lays at text tokens
  pub spelt : ArePieces (IsArgument (IsBracketed d)) tokens pieces
  pub same_notes : notes_of pieces ≡ notes
  pub same_args : map unplaced (args_of pieces) ≡ map unplaced args
  pub begins_blank : (rest : List ℕ) → Follows rest → Follows (text ++ rest)

follow_text : (d at : ℕ) (text other : List ℕ) (notes : List (List ℕ)) (args : List Node) → text ≡ other → Follow d at text notes args → Follow d at other notes args
follow_text d at text other notes args e f = subst (λ (x : List ℕ). Follow d at x notes args) e f

first_is_blank : (p : Print) (more rest : List ℕ) → Follows ((argument p ++ more) ++ rest)
first_is_blank p more rest = at p.1 refl
  where
    at : (v : Bool) → p.1 ≡ v → Follows ((argument p ++ more) ++ rest)
    at true e = rw e (inl refl)
    at false e = rw e (inl refl)

pub placed_same : (n : Node) (m : Node) → unplaced_body m.body ≡ unplaced_body n.body → unplaced m ≡ unplaced n
placed_same n m e = unplaced_is m ∙ ap (node_at 0) e ∙ sym (unplaced_is n)

args_again : (d : ℕ) → Inner d → (args : List Node) (at : ℕ) → AllByRecursion (λ n. IsFitArgument (IsInside d) n.body) args → Follow d at (flat_map argument (map print args)) [] args
args_again d h [] at fit = record { tokens = []; pieces = []; lays = lays_none at; spelt = refl; same_notes = refl; same_args = refl; begins_blank = λ rest f. f }
args_again d h (n ∷ args) at fit =
    let text : List ℕ = argument (print_body n.body) in
    let one = argument_again d h n.body at fit.0 in
    let more = args_again d h args (at + length text) fit.1 in
    let behind : List ℕ = flat_map argument (map print args) in
    let split : text ++ behind ≡ flat_map argument (map print (n ∷ args)) = ap (λ (x : Print). argument x ++ behind) (sym (print_is n)) ∙ sym (flat_map-cons argument (print n) (map print args)) in
    follow_text d at (text ++ behind) (flat_map argument (map print (n ∷ args))) [] (n ∷ args) split (record {
      tokens = one.tokens ++ more.tokens;
      pieces = Arg one.node ∷ more.pieces;
      lays = lays_then at text behind one.tokens more.tokens one.lays more.lays more.begins_blank;
      spelt = (one.tokens, more.tokens, refl, one.spelt, more.spelt);
      same_notes = more.same_notes;
      same_args = (λ i. placed_same n one.node one.same i ∷ more.same_args i);
      begins_blank = λ rest f. first_is_blank (print_body n.body) behind rest;
    })

notes_again : (d : ℕ) → Inner d → (notes : List (List ℕ)) (args : List Node) (at : ℕ) → AllByRecursion IsNote notes → AllByRecursion (λ n. IsFitArgument (IsInside d) n.body) args →
    Follow d at (flat_map annotation notes ++ flat_map argument (map print args)) notes args
notes_again d h [] args at fine fit = args_again d h args at fit
notes_again d h (note ∷ notes) args at fine fit =
    let text : List ℕ = 32 ∷ note in
    let last : List ℕ = flat_map argument (map print args) in
    let behind : List ℕ = flat_map annotation notes ++ last in
    let more = notes_again d h notes args (at + length text) fine.1 fit in
    let split : text ++ behind ≡ flat_map annotation (note ∷ notes) ++ last = sym (append_assoc text (flat_map annotation notes) last) ∙ ap (λ (x : List ℕ). x ++ last) (sym (flat_map-cons annotation note notes)) in
    follow_text d at (text ++ behind) (flat_map annotation (note ∷ notes) ++ last) (note ∷ notes) args split (record {
      tokens = (at + 1, token.Note note) ∷ more.tokens;
      pieces = Note note ∷ more.pieces;
      lays = lays_then at text behind ((at + 1, token.Note note) ∷ []) more.tokens (lays_blank at note ((at + 1, token.Note note) ∷ []) (lays_note (at + 1) note fine.0)) more.lays more.begins_blank;
      spelt = (at + 1, more.tokens, refl, more.spelt);
      same_notes = ap (λ (x : List (List ℕ)). note ∷ x) more.same_notes;
      same_args = more.same_args;
      begins_blank = λ rest f. inl refl;
    })

application_again : (d : ℕ) → Inner d → (b : Body) (at : ℕ) → IsFitApplication (IsFitArgument (IsInside d)) b → Again (IsApplication (IsArgument (IsBracketed d))) at (print_body b).0 b
application_again d h b at p =
    let name = p.0 in
    let behind : List ℕ = flat_map annotation p.1 ++ flat_map argument (map print p.2) in
    let f = notes_again d h p.1 p.2 (at + length name) p.5 p.6 in
    let text : name ++ behind ≡ (print_body b).0 = sym (ap (λ (x : Print). x.0) (ap print_body p.3 ∙ print_prim name p.1 p.2)) in
    let same : unplaced_body (variant.Prim name (notes_of f.pieces) (args_of f.pieces)) ≡ unplaced_body b =
    unplaced_prim name (notes_of f.pieces) (args_of f.pieces) ∙ (λ i. variant.Prim name (f.same_notes i) (f.same_args i)) ∙ sym (unplaced_prim name p.1 p.2) ∙ ap unplaced_body (sym p.3) in
    again_text at (name ++ behind) (print_body b).0 b text (record {
      tokens = (at, token.Word name) ∷ f.tokens;
      node = node_at at (variant.Prim name (notes_of f.pieces) (args_of f.pieces));
      lays = lays_then at name behind ((at, token.Word name) ∷ []) f.tokens (lays_word at name p.4) f.lays f.begins_blank;
      spelt = (at, name, f.tokens, f.pieces, refl, f.spelt, refl);
      same = same;
    })

pub node_again : (d : ℕ) → Inner d → (b : Body) (at : ℕ) → IsFitNode (IsInside d) b → Again (IsNode (IsBracketed d)) at (print_body b).0 b
node_again d h b at (inl p) = again_as at (print_body b).0 b (λ ts n s. inl s) (literal_again b at p).0
node_again d h b at (inr (inl p)) = again_as at (print_body b).0 b (λ ts n s. inr (inl s)) (h Brace b at p).0
node_again d h b at (inr (inr p)) = again_as at (print_body b).0 b (λ ts n s. inr (inr s)) (application_again d h b at p)

-- ---- lists

record Rest (d at : ℕ) (text : List ℕ) (ns : List Node) : Type 0 where
  pub tokens : Tokens
  pub nodes : List Node
  pub lays : Lays at text tokens
  pub spelt : IsRest (IsNode (IsBracketed d)) tokens nodes
  pub same : map unplaced nodes ≡ map unplaced ns
  pub begins_blank : (rest : List ℕ) → Follows rest → Follows (text ++ rest)

rest_again : (d : ℕ) → Inner d → (ns : List Node) (at : ℕ) → AllByRecursion (λ n. IsFitNode (IsInside d) n.body) ns → Rest d at (flat_map next_item (map print ns)) ns
rest_again d h [] at fit = record { tokens = []; nodes = []; lays = lays_none at; spelt = refl; same = refl; begins_blank = λ rest f. f }
rest_again d h (n ∷ ns) at fit =
    let text : List ℕ = (print_body n.body).0 in
    let item : List ℕ = 32 ∷ 59 ∷ 32 ∷ text in
    let one = node_again d h n.body (at + 1 + 1 + 1) fit.0 in
    let more = rest_again d h ns (at + length item) fit.1 in
    let behind : List ℕ = flat_map next_item (map print ns) in
    let first : Lays at item ((at + 1, token.Semicolon) ∷ one.tokens) =
    lays_blank at (59 ∷ 32 ∷ text) ((at + 1, token.Semicolon) ∷ one.tokens)
    (lays_mark (at + 1) 59 token.Semicolon (32 ∷ text) one.tokens (λ rest. refl) (lays_blank (at + 1 + 1) text one.tokens one.lays)) in
    let split : item ++ behind ≡ flat_map next_item (map print (n ∷ ns)) = ap (λ (x : Print). next_item x ++ behind) (sym (print_is n)) ∙ sym (flat_map-cons next_item (print n) (map print ns)) in
    subst (λ (x : List ℕ). Rest d at x (n ∷ ns)) split (record {
      tokens = ((at + 1, token.Semicolon) ∷ one.tokens) ++ more.tokens;
      nodes = one.node ∷ more.nodes;
      lays = lays_then at item behind ((at + 1, token.Semicolon) ∷ one.tokens) more.tokens first more.lays more.begins_blank;
      spelt = (at + 1, one.tokens, more.tokens, refl, one.spelt, more.spelt);
      same = (λ i. placed_same n one.node one.same i ∷ more.same i);
      begins_blank = λ rest f. inl refl;
    })

record Braced (d at : ℕ) (text : List ℕ) (ns : List Node) : Type 0 where
  pub tokens : Tokens
  pub nodes : List Node
  pub lays : Lays at text ((at, token.OpenBrace) ∷ tokens)
  pub spelt : (to : ℕ) × (inner : Tokens) × (tokens ≡ inner ++ (to, token.CloseBrace) ∷ []) × IsTextWithin d inner nodes
  pub same : map unplaced nodes ≡ map unplaced ns

braced_again : (d : ℕ) → Inner d → (ns : List Node) (at : ℕ) → AllByRecursion (λ n. IsFitNode (IsInside d) n.body) ns → Braced d at (braces (map print ns)) ns
braced_again d h [] at fit = record {
  tokens = (at + 1, token.CloseBrace) ∷ [];
  nodes = [];
  lays = lays_mark at 123 token.OpenBrace (125 ∷ []) ((at + 1, token.CloseBrace) ∷ []) (λ rest. refl) (lays_one (at + 1) (125 ∷ []) token.CloseBrace (λ rest f. refl));
  spelt = (at + 1, [], refl, inl (inl (refl, refl)));
  same = refl;
}
braced_again d h (n ∷ ns) at fit =
    let text : List ℕ = (print_body n.body).0 in
    let one = node_again d h n.body (at + 1 + 1) fit.0 in
    let more = rest_again d h ns (at + 1 + 1 + length text) fit.1 in
    let behind : List ℕ = flat_map next_item (map print ns) in
    let all : Lays (at + 1 + 1) (text ++ behind) (one.tokens ++ more.tokens) = lays_then (at + 1 + 1) text behind one.tokens more.tokens one.lays more.lays more.begins_blank in
    let to = at + 1 + length (32 ∷ (text ++ behind)) in
    let close : Lays to (32 ∷ 125 ∷ []) ((to + 1, token.CloseBrace) ∷ []) = lays_blank to (125 ∷ []) ((to + 1, token.CloseBrace) ∷ []) (lays_one (to + 1) (125 ∷ []) token.CloseBrace (λ rest f. refl)) in
    let inside : Lays (at + 1) ((32 ∷ (text ++ behind)) ++ 32 ∷ 125 ∷ []) ((one.tokens ++ more.tokens) ++ (to + 1, token.CloseBrace) ∷ []) =
    lays_then (at + 1) (32 ∷ (text ++ behind)) (32 ∷ 125 ∷ []) (one.tokens ++ more.tokens) ((to + 1, token.CloseBrace) ∷ []) (lays_blank (at + 1) (text ++ behind) (one.tokens ++ more.tokens) all) close (λ rest f. inl refl) in
    let split : 123 ∷ ((32 ∷ (text ++ behind)) ++ 32 ∷ 125 ∷ []) ≡ braces (map print (n ∷ ns)) = ap (λ (x : Print). 123 ∷ ((32 ∷ (x.0 ++ behind)) ++ 32 ∷ 125 ∷ [])) (sym (print_is n)) in
    subst (λ (x : List ℕ). Braced d at x (n ∷ ns)) split (record {
      tokens = (one.tokens ++ more.tokens) ++ (to + 1, token.CloseBrace) ∷ [];
      nodes = one.node ∷ more.nodes;
      lays = lays_mark at 123 token.OpenBrace ((32 ∷ (text ++ behind)) ++ 32 ∷ 125 ∷ []) ((one.tokens ++ more.tokens) ++ (to + 1, token.CloseBrace) ∷ []) (λ rest. refl) inside;
      spelt = (to + 1, one.tokens ++ more.tokens, refl, inr (one.tokens, more.tokens, refl, one.spelt, more.spelt));
      same = (λ i. placed_same n one.node one.same i ∷ more.same i);
    })

-- ---- brackets

pub inner_again : (d : ℕ) → Inner d
inner_again zero k b at p = absurd p
inner_again (suc d) Brace b at p =
    let is = ap print_body p.1 ∙ print_seq p.0 in
    let r = braced_again d (inner_again d) p.0 at p.2 in
    let same : unplaced_body (variant.Seq r.nodes) ≡ unplaced_body b = unplaced_seq r.nodes ∙ ap variant.Seq r.same ∙ sym (unplaced_seq p.0) ∙ ap unplaced_body (sym p.1) in (
      again_text at (braces (map print p.0)) (print_body b).0 b (sym (ap (λ (x : Print). x.0) is)) (record {
        tokens = (at, token.OpenBrace) ∷ r.tokens;
        node = node_at at (variant.Seq r.nodes);
        lays = r.lays;
        spelt = (at, r.spelt.0, r.spelt.1, ap (λ (x : Tokens). (at, token.OpenBrace) ∷ x) r.spelt.2, (r.nodes, r.spelt.3, refl));
        same = same;
      }),
      ap (λ (x : Print). x.1) is,
    )
inner_again (suc d) Paren b at p =
    let text : List ℕ = (print_body b).0 in
    let a = application_again d (inner_again d) b (at + 1) p.0 in
    let to = at + 1 + length text in
    let close : Lays to (41 ∷ []) ((to, token.CloseParen) ∷ []) = lays_one to (41 ∷ []) token.CloseParen (λ rest f. refl) in
    let inside : Lays (at + 1) (text ++ 41 ∷ []) (a.tokens ++ (to, token.CloseParen) ∷ []) = lays_then (at + 1) text (41 ∷ []) a.tokens ((to, token.CloseParen) ∷ []) a.lays close (λ rest f. inr refl) in (
      record {
        tokens = (at, token.OpenParen) ∷ (a.tokens ++ (to, token.CloseParen) ∷ []);
        node = a.node;
        lays = lays_mark at 40 token.OpenParen (text ++ 41 ∷ []) (a.tokens ++ (to, token.CloseParen) ∷ []) (λ rest. refl) inside;
        spelt = (at, to, a.tokens, refl, a.spelt);
        same = a.same;
      },
      p.1,
    )

-- ---- texts

pub no_more : (at : ℕ) → IsLaidOut at [] []
no_more at = ([], [], ([], refl, tt), tt, inl refl)

-- a printable node is printed as a text of the grammar, which is read as that node up to places
pub printed_again : (n : Node) → IsPrintable n → (m : Node) × IsTextOf (printed n) (m ∷ []) × (unplaced m ≡ unplaced n)
printed_again n p =
    let a = node_again p.0 (inner_again p.0) n.body 0 p.2 in
    let text : printed n ≡ (print_body n.body).0 = ap (λ (x : Print). x.0) (print_is n) in
    let laid : IsLaidOut 0 ((print_body n.body).0 ++ []) (a.tokens ++ []) = a.lays [] [] tt (no_more (0 + length (print_body n.body).0)) in
    let whole : IsLaidOut 0 (printed n) a.tokens = subst (λ (x : List ℕ). IsLaidOut 0 x a.tokens) (sym text) (subst (λ (x : List ℕ). IsLaidOut 0 x a.tokens) (append-nil (print_body n.body).0) (subst (IsLaidOut 0 ((print_body n.body).0 ++ [])) (append-nil a.tokens) laid)) in
    let grammar : IsText a.tokens (a.node ∷ []) = (p.0, p.1, inr (a.tokens, [], sym (append-nil a.tokens), a.spelt, refl)) in
    (a.node, (a.tokens, whole, grammar), placed_same n a.node a.same)

pub printed_is : (n : Node) → (print_body n.body).0 ≡ printed n
printed_is n = ap (λ (x : Print). x.0) (sym (print_is n))

-- so are bytes that equal its text
pub read_again : (bytes : List ℕ) (n : Node) → bytes ≡ printed n → IsPrintable n → IsTextOfOne bytes n
read_again bytes n e p = subst (λ (x : List ℕ). IsTextOfOne x n) (sym e) (printed_again n p)
