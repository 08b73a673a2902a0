-- The law of what stands behind an upper name and a dot: digits make it deeper.
use Rattle.std.proofs.Common.{◌≡◌, ℕ, zero, suc, ◌≤◌, true, false, ◌||◌, cond, [], ◌∷◌, length, Ok, Err, refl, sym, ap, ◌∙◌, arith, inl, inr, ◌⊎◌}
use Rattle.ligo_tokens.specs.declared.token.Token.{Token}
use Rattle.ligo_tokens.specs.declared.token.Kind.{Kind}
use Rattle.ligo_tokens.specs.declared.token.Kind.TheVariants as kind
use Rattle.ligo_syntax.specs.declared.fault.Expected.TheVariants as expected
use Rattle.ligo_syntax.specs.Kinds.{Tokens, code, sort, has}
use Rattle.ligo_syntax.specs.Classes.{name_kinds, link_kinds}
use Rattle.ligo_syntax.specs.Rules.{OneOf, Either}
use Rattle.ligo_syntax.specs.Readers.{either}
use Rattle.ligo_syntax.specs.AtomTrees.{link_depth, digits_depth}
use Rattle.ligo_syntax.specs.TypeReading.{token}
use Rattle.ligo_syntax.specs.AtomReading.{upper_link_at}
use Rattle.ligo_syntax.specs.declared.fault.Stop.TheVariants as stop
use Rattle.ligo_syntax.proofs.Sets.{by_case, has_append, in_first, in_second}
use Rattle.ligo_syntax.proofs.RuleLaws.{Standing, Pair, Law, flat, token_law, token_least, taken}
use Rattle.ligo_syntax.proofs.Choices.{either_law, either_pair, choose_first, choose_second}
use Rattle.ligo_syntax.proofs.Deep.{widened, deep_law, sunk_pair, token_refuses}
use Rattle.ligo_syntax.proofs.Words.{of_kind}
use Rattle.ligo_syntax.proofs.Moves.{refit, measured}
use Rattle.ligo_syntax.proofs.Links.{limits}
use Rattle.ligo_syntax.proofs.Completions.{token_completes}
use Rattle.ligo_syntax.proofs.Nodes.{beyond, read_alike}
use Rattle.ligo_syntax.proofs.Names.{sort_is}

abbrev pub upper_pair : ℕ → Pair Token
upper_pair d i = upper_link_at (limits d (beyond d) i)

digits_bound : (k : Kind) → digits_depth k ≤ 1
digits_bound kind.Int = omega arith
digits_bound k = omega arith

int_digits : (k : Kind) → has (kind.Int ∷ []) (code k) ≡ true → digits_depth k ≡ 1
int_digits kind.Int h = refl
int_digits k h = absurd cc

name_digits : (k : Kind) → has name_kinds (code k) ≡ true → digits_depth k ≡ 0
name_digits kind.Int h = absurd cc
name_digits k h = refl

int_deep : (t : Token) → has (kind.Int ∷ []) (sort t) ≡ true → link_depth t ≡ 1
int_deep t h = by_sort (sort_is t.kind t.says) where
  by_sort : (sort t ≡ 64) ⊎ (sort t ≡ code t.kind) → link_depth t ≡ 1
  by_sort (inl e) = let f : has (kind.Int ∷ []) 64 ≡ true = ap (has (kind.Int ∷ [])) (sym e) ∙ h in absurd cc
  by_sort (inr e) = int_digits t.kind (ap (has (kind.Int ∷ [])) (sym e) ∙ h)

name_deep : (t : Token) → has name_kinds (sort t) ≡ true → link_depth t ≡ 0
name_deep t h = by_sort (sort_is t.kind t.says) where
  by_sort : (sort t ≡ 64) ⊎ (sort t ≡ code t.kind) → link_depth t ≡ 0
  by_sort (inl e) = let f : has name_kinds 64 ≡ true = ap (has name_kinds) (sym e) ∙ h in absurd cc
  by_sort (inr e) = name_digits t.kind (ap (has name_kinds) (sym e) ∙ h)

-- a token of a class, or of another one: of both
either_token : (ts : Tokens) → either (kind.Int ∷ []) (token (kind.Int ∷ [])) (token name_kinds) ts ≡ token link_kinds ts
either_token [] = refl
either_token (t ∷ ts) = by_case (has (kind.Int ∷ []) (sort t)) (λ is. first is) (λ is. second is) where
  joint : has link_kinds (sort t) ≡ (has (kind.Int ∷ []) (sort t) || has name_kinds (sort t))
  joint = has_append (kind.Int ∷ []) name_kinds (sort t)

  first : has (kind.Int ∷ []) (sort t) ≡ true → either (kind.Int ∷ []) (token (kind.Int ∷ [])) (token name_kinds) (t ∷ ts) ≡ token link_kinds (t ∷ ts)
  first is = let j : has link_kinds (sort t) ≡ true = joint ∙ ap (λ b. b || has name_kinds (sort t)) is in
      choose_first (kind.Int ∷ []) (token (kind.Int ∷ [])) (token name_kinds) (t ∷ ts) is ∙ taken expected.Token (kind.Int ∷ []) t ts is ∙ sym (taken expected.Token link_kinds t ts j)

  second : has (kind.Int ∷ []) (sort t) ≡ false → either (kind.Int ∷ []) (token (kind.Int ∷ [])) (token name_kinds) (t ∷ ts) ≡ token link_kinds (t ∷ ts)
  second is = choose_second (kind.Int ∷ []) (token (kind.Int ∷ [])) (token name_kinds) (t ∷ ts) is ∙
      ap (λ b. cond b (Ok (t, ts)) (Err (stop.Unexpected expected.Token (length (t ∷ ts))))) (sym (joint ∙ ap (λ b. b || has name_kinds (sort t)) is))

module _ (S : Standing) (any : (t : Token) (r : Tokens) → S expected.Token (t ∷ r)) where
  digits_law : Law S (λ n. OneOf (kind.Int ∷ [])) link_depth 0 (sunk_pair expected.Token (kind.Int ∷ []) (token (kind.Int ∷ []))) (kind.Int ∷ []) false [] []
  digits_law = deep_law S (λ n. OneOf (kind.Int ∷ [])) link_depth (token (kind.Int ∷ [])) expected.Token (kind.Int ∷ []) [] [] (λ n ts a rest r le. let i = int_deep a (r.1) in absurd (omega (arith, i, le))) refl
      (token_least expected.Token (kind.Int ∷ []) (of_kind kind.Int) refl) (token_refuses expected.Token (kind.Int ∷ [])) (token_completes expected.Token (kind.Int ∷ [])) (any (of_kind kind.Int))

  names_law : Law S (λ n. OneOf name_kinds) flat 0 (λ i. token name_kinds) name_kinds false [] []
  names_law = token_law S 0 expected.Token name_kinds (of_kind kind.Name) refl refl (any (of_kind kind.Name))

  named_law : Law S (λ n. OneOf name_kinds) link_depth 0 (λ i. token name_kinds) name_kinds false [] []
  named_law = refit (λ n. OneOf name_kinds) link_depth 0 (λ n ts a rest le h. names_law.found n ts a rest le h) (λ ts a rest h. let r = names_law.found 0 ts a rest (omega arith) h in let i = name_deep a (r.1) in omega (arith, i))
      (λ n ts a rest r le. (n, r, omega arith)) names_law

  both_kinds : Law S (λ n. Either (OneOf (kind.Int ∷ [])) (OneOf name_kinds)) link_depth 0 (either_pair (kind.Int ∷ []) (sunk_pair expected.Token (kind.Int ∷ []) (token (kind.Int ∷ []))) (λ i. token name_kinds)) link_kinds false [] []
  both_kinds = widened link_kinds [] [] (either_law digits_law named_law refl) refl refl refl refl

  joined : (n : ℕ) (ts : Tokens) (a : Token) (rest : Tokens) → Either (OneOf (kind.Int ∷ [])) (OneOf name_kinds) ts a rest → OneOf link_kinds ts a rest
  joined n ts a rest (inl r) = (r.0, in_first (kind.Int ∷ []) name_kinds (sort a) (r.1))
  joined n ts a rest (inr r) = (r.0, in_second (kind.Int ∷ []) name_kinds (sort a) (r.1))

  parted : (n : ℕ) (ts : Tokens) (a : Token) (rest : Tokens) → OneOf link_kinds ts a rest → Either (OneOf (kind.Int ∷ [])) (OneOf name_kinds) ts a rest
  parted n ts a rest r = by_case (has (kind.Int ∷ []) (sort a)) (λ is. inl (r.0, is)) (λ is. inr (r.0, ap (λ b. b || has name_kinds (sort a)) (sym is) ∙ sym (has_append (kind.Int ∷ []) name_kinds (sort a)) ∙ r.1))

  pub upper_link_law : (d : ℕ) → Law S (λ n. OneOf link_kinds) link_depth d (upper_pair d) link_kinds false [] []
  upper_link_law zero = read_alike (upper_pair 0) (λ ts. refl) either_token (refit (λ n. OneOf link_kinds) link_depth 0 (λ n ts a rest le h. joined n ts a rest (both_kinds.found n ts a rest le h)) both_kinds.within
      (λ n ts a rest r le. (n, parted n ts a rest r, le)) both_kinds)
  upper_link_law (suc d) = read_alike (upper_pair (suc d)) (λ ts. refl) (λ ts. refl) (measured link_depth (suc d) (omega arith) (λ a le. let i = digits_bound a.kind in omega (arith, i)) (λ a le. omega arith)
      (token_law S (suc d) expected.Token link_kinds (of_kind kind.Name) refl refl (any (of_kind kind.Name))))
