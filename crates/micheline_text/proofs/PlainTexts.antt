-- What is printed of a well named node is bytes from blank to tilde.
use Rattle.std.proofs.Common.{◌≡◌, ℕ, ℤ, zero, suc, pos, negsuc, ◌⊎◌, inl, inr, Bool, true, false, List, [], ◌∷◌, ◌++◌, map, refl, sym, ap, subst, ◌∙◌, arith}
use Rattle.std.specs.Prelude.{◌==◌, ◌||◌}
use Rattle.std.specs.List.{AllByRecursion, flat_map, list_all}
use Rattle.std.specs.Fmt.{decimal, signed_decimal}
use Rattle.std.proofs.lemmas.Bool.{and_parts}
use Rattle.std.proofs.lemmas.Bool.Decides.{nat_tests}
use Rattle.std.proofs.lemmas.Int.{ints}
use Rattle.std.proofs.lemmas.List.Concat.{flat_map-cons}
use Rattle.std.proofs.lemmas.List.Folds.{list_all-append}
use Rattle.value_core.specs.Leaves.{IsNumber, is_blob, is_printable}
use Rattle.micheline_text.specs.declared.node.Node.{Node}
use Rattle.micheline_text.specs.declared.node.Body.{Body}
use Rattle.micheline_text.specs.Kinds.{is_digit, is_letter, is_word_byte, begins_note, is_note_byte, is_hex, is_plain}
use Rattle.micheline_text.specs.Layout.{AllAre}
use Rattle.micheline_text.specs.Grammar.{Brace, Paren}
use Rattle.micheline_text.specs.Printed.{Print, escaped, hex_pair, argument, annotation, next_item, braces, print, print_body, printed}
use Rattle.micheline_text.specs.Lawful.{is_lawful}
use Rattle.micheline_text.specs.Again.{is_well_named, brackets}
use Rattle.micheline_text.specs.Fits.{IsName, IsNote, IsFitLiteral, IsFitApplication, IsFitArgument, IsFitNode, IsInside}
use Rattle.micheline_text.proofs.Lays.{decimal_is, pairs_are}
use Rattle.micheline_text.proofs.PrintLemmas.{print_is, print_int, print_text, print_bytes, print_prim, print_seq}
use Rattle.micheline_text.proofs.FitDepths.{sound_fits}

abbrev pub IsPlain : List ℕ → Type 0
IsPlain bytes = list_all is_plain bytes ≡ true

plain_then : (xs ys : List ℕ) → IsPlain xs → IsPlain ys → IsPlain (xs ++ ys)
plain_then xs ys p q = list_all-append is_plain xs ys ∙ rw (p, q) refl

plain_first : (b : ℕ) (ys : List ℕ) → is_plain b ≡ true → IsPlain ys → IsPlain (b ∷ ys)
plain_first b ys p q = rw (p, q) refl

-- ---- bytes of a kind

digit_plain : (b : ℕ) → is_digit b ≡ true → is_plain b ≡ true
digit_plain b h = grind (arith, nat_tests)

hex_plain : (b : ℕ) → is_hex b ≡ true → is_plain b ≡ true
hex_plain b h = grind (arith, nat_tests)

letter_plain : (b : ℕ) → is_letter b ≡ true → is_plain b ≡ true
letter_plain b h = grind (arith, nat_tests)

word_plain : (b : ℕ) → is_word_byte b ≡ true → is_plain b ≡ true
word_plain b h = grind (arith, nat_tests)

mark_plain : (b : ℕ) → begins_note b ≡ true → is_plain b ≡ true
mark_plain b h = grind (arith, nat_tests)

note_plain : (b : ℕ) → is_note_byte b ≡ true → is_plain b ≡ true
note_plain b h = grind (arith, nat_tests)

all_plain : (test : ℕ → Bool) → ((b : ℕ) → test b ≡ true → is_plain b ≡ true) → (xs : List ℕ) → AllAre test xs → IsPlain xs
all_plain test each [] h = refl
all_plain test each (x ∷ xs) h = plain_first x xs (each x h.0) (all_plain test each xs h.1)

name_plain : (name : List ℕ) → IsName name → IsPlain name
name_plain [] h = refl
name_plain (b ∷ more) h = plain_first b more (letter_plain b h.0) (all_plain is_word_byte word_plain more h.1)

annotation_plain : (note : List ℕ) → IsNote note → IsPlain note
annotation_plain [] h = refl
annotation_plain (b ∷ more) h = plain_first b more (mark_plain b h.0) (all_plain is_note_byte note_plain more h.1)

-- ---- literals

byte_plain : (b : ℕ) → (b == 10) ≡ false → is_printable b ≡ true → is_plain b ≡ true
byte_plain b n h = rw n at h

escaped_plain : (b : ℕ) → is_printable b ≡ true → IsPlain (escaped b)
escaped_plain b h = at (b == 10) refl ((b == 34) || (b == 92)) refl
  where
    at : (n : Bool) → (b == 10) ≡ n → (m : Bool) → ((b == 34) || (b == 92)) ≡ m → IsPlain (escaped b)
    at true e m f = rw e refl
    at false e true f = let whole : escaped b ≡ 92 ∷ b ∷ [] = rw (e, f) refl in subst IsPlain (sym whole) (plain_first 92 (b ∷ []) refl (plain_first b [] (byte_plain b e h) refl))
    at false e false f = let whole : escaped b ≡ b ∷ [] = rw (e, f) refl in subst IsPlain (sym whole) (plain_first b [] (byte_plain b e h) refl)

text_plain : (t : List ℕ) → list_all is_printable t ≡ true → IsPlain (flat_map escaped t)
text_plain [] h = refl
text_plain (b ∷ t) h =
    let both = and_parts (is_printable b) (list_all is_printable t) h in
    subst IsPlain (sym (flat_map-cons escaped b t)) (plain_then (escaped b) (flat_map escaped t) (escaped_plain b both.0) (text_plain t both.1))

number_plain : (z : ℤ) → IsNumber z → IsPlain (signed_decimal z)
number_plain (pos n) h = all_plain is_digit digit_plain (signed_decimal (pos n)) (decimal_is n (omega (arith, ints, h.1))).all
number_plain (negsuc n) h = let d = decimal_is (suc n) (omega (arith, ints, h.0)) in plain_first 45 (decimal (suc n)) refl (all_plain is_digit digit_plain (decimal (suc n)) d.all)

literal_plain : (b : Body) → IsFitLiteral b → IsPlain (print_body b).0
literal_plain b (inl (z, is, number)) = subst (λ (p : Print). IsPlain p.0) (sym (ap print_body is ∙ print_int z)) (number_plain z number)
literal_plain b (inr (inl (t, is, text))) =
    let shown = (and_parts (is_blob t) (list_all is_printable t) text).1 in
    subst (λ (p : Print). IsPlain p.0) (sym (ap print_body is ∙ print_text t)) (plain_first 34 (flat_map escaped t ++ 34 ∷ []) refl (plain_then (flat_map escaped t) (34 ∷ []) (text_plain t shown) refl))
literal_plain b (inr (inr (t, is, short, small))) =
    let digits = all_plain is_hex hex_plain (flat_map hex_pair t) (pairs_are t small).all in
    subst (λ (p : Print). IsPlain p.0) (sym (ap print_body is ∙ print_bytes t)) (plain_first 48 (120 ∷ flat_map hex_pair t) refl (plain_first 120 (flat_map hex_pair t) refl digits))

-- ---- what brackets hold

argument_plain : (p : Print) → IsPlain p.0 → IsPlain (argument p)
argument_plain p h = at p.1 refl
  where
    at : (v : Bool) → p.1 ≡ v → IsPlain (argument p)
    at true e =
        let whole : argument p ≡ 32 ∷ 40 ∷ (p.0 ++ 41 ∷ []) = rw e refl in
        subst IsPlain (sym whole) (plain_first 32 (40 ∷ (p.0 ++ 41 ∷ [])) refl (plain_first 40 (p.0 ++ 41 ∷ []) refl (plain_then p.0 (41 ∷ []) h refl)))
    at false e = let whole : argument p ≡ 32 ∷ p.0 = rw e refl in subst IsPlain (sym whole) (plain_first 32 p.0 refl h)

-- a node in brackets of this depth is plain
abbrev pub InnerPlain : ℕ → Type 0
InnerPlain d = (b : Body) → IsInside d Brace b ⊎ IsInside d Paren b → IsPlain (print_body b).0

module _ (d : ℕ) (inner : InnerPlain d) where
  fit_argument_plain : (b : Body) → IsFitArgument (IsInside d) b → IsPlain (print_body b).0
  fit_argument_plain b (inl literal) = literal_plain b literal
  fit_argument_plain b (inr (inl (name, is, named))) =
      subst (λ (p : Print). IsPlain p.0) (sym (ap print_body is ∙ print_prim name [] [])) (plain_then name [] (name_plain name named) refl)
  fit_argument_plain b (inr (inr (inl inside))) = inner b (inl inside)
  fit_argument_plain b (inr (inr (inr inside))) = inner b (inr inside)

  arguments_plain : (ns : List Node) → AllByRecursion (λ n. IsFitArgument (IsInside d) n.body) ns → IsPlain (flat_map argument (map print ns))
  arguments_plain [] fit = refl
  arguments_plain (n ∷ ns) fit =
      let one : IsPlain (argument (print n)) = subst (λ (p : Print). IsPlain (argument p)) (sym (print_is n)) (argument_plain (print_body n.body) (fit_argument_plain n.body fit.0)) in
      subst IsPlain (sym (flat_map-cons argument (print n) (map print ns))) (plain_then (argument (print n)) (flat_map argument (map print ns)) one (arguments_plain ns fit.1))

  notes_plain : (notes : List (List ℕ)) → AllByRecursion IsNote notes → IsPlain (flat_map annotation notes)
  notes_plain [] fit = refl
  notes_plain (note ∷ notes) fit =
      subst IsPlain (sym (flat_map-cons annotation note notes)) (plain_then (annotation note) (flat_map annotation notes) (plain_first 32 note refl (annotation_plain note fit.0)) (notes_plain notes fit.1))

  application_plain : (b : Body) → IsFitApplication (IsFitArgument (IsInside d)) b → IsPlain (print_body b).0
  application_plain b (name, notes, args, is, named, fine, fit) =
      let behind = plain_then (flat_map annotation notes) (flat_map argument (map print args)) (notes_plain notes fine) (arguments_plain args fit) in
      subst (λ (p : Print). IsPlain p.0) (sym (ap print_body is ∙ print_prim name notes args)) (plain_then name (flat_map annotation notes ++ flat_map argument (map print args)) (name_plain name named) behind)

  node_plain : (b : Body) → IsFitNode (IsInside d) b → IsPlain (print_body b).0
  node_plain b (inl literal) = literal_plain b literal
  node_plain b (inr (inl inside)) = inner b (inl inside)
  node_plain b (inr (inr application)) = application_plain b application

  item_plain : (n : Node) → IsFitNode (IsInside d) n.body → IsPlain (print n).0
  item_plain n fit = subst (λ (p : Print). IsPlain p.0) (sym (print_is n)) (node_plain n.body fit)

  rest_plain : (ns : List Node) → AllByRecursion (λ n. IsFitNode (IsInside d) n.body) ns → IsPlain (flat_map next_item (map print ns))
  rest_plain [] fit = refl
  rest_plain (n ∷ ns) fit =
      let one : IsPlain (next_item (print n)) = plain_first 32 (59 ∷ 32 ∷ (print n).0) refl (plain_first 59 (32 ∷ (print n).0) refl (plain_first 32 (print n).0 refl (item_plain n fit.0))) in
      subst IsPlain (sym (flat_map-cons next_item (print n) (map print ns))) (plain_then (next_item (print n)) (flat_map next_item (map print ns)) one (rest_plain ns fit.1))

  braces_plain : (ns : List Node) → AllByRecursion (λ n. IsFitNode (IsInside d) n.body) ns → IsPlain (braces (map print ns))
  braces_plain [] fit = refl
  braces_plain (n ∷ ns) fit =
      let inside : List ℕ = (print n).0 ++ flat_map next_item (map print ns) in
      let plain : IsPlain inside = plain_then (print n).0 (flat_map next_item (map print ns)) (item_plain n fit.0) (rest_plain ns fit.1) in
      plain_first 123 ((32 ∷ inside) ++ 32 ∷ 125 ∷ []) refl (plain_then (32 ∷ inside) (32 ∷ 125 ∷ []) (plain_first 32 inside refl plain) refl)

inner_plain : (d : ℕ) → InnerPlain d
inner_plain zero b (inl p) = absurd p
inner_plain zero b (inr p) = absurd p
inner_plain (suc d) b (inl (ns, is, fit)) = subst (λ (p : Print). IsPlain p.0) (sym (ap print_body is ∙ print_seq ns)) (braces_plain d (inner_plain d) ns fit)
inner_plain (suc d) b (inr p) = application_plain d (inner_plain d) b p.0

-- the text of a well named node is plain
pub printed_is_plain : (n : Node) → is_lawful n ≡ true → is_well_named n ≡ true → IsPlain (printed n)
printed_is_plain n lawful named =
    let d = brackets n in
    subst (λ (p : Print). IsPlain p.0) (sym (print_is n)) (node_plain d (inner_plain d) n.body (sound_fits d n lawful named (omega arith)))
