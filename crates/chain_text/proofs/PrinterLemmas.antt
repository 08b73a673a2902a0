-- What is printed piece by piece is the line as a whole.
use Rattle.std.proofs.Common.{◌≡◌, ◌≢◌, ℕ, zero, suc, List, [], ◌∷◌, ◌++◌, refl, sym, ap, ◌∙◌, append_assoc}
use Rattle.std.specs.Prelude.{codes}
use Rattle.std.specs.Fmt.{decimal}
use Rattle.chain_text.specs.Addresses.{address_word}
use Rattle.chain_text.specs.PrintedLines.{address_line, balance_text}

some_balance : (a : List ℕ) (n : ℕ) → n ≢ 0 → balance_text a n ≡ address_line (codes "balance") a (decimal n)
some_balance a zero some = absurd (some refl)
some_balance a (suc n) some = refl

joined : (o a d : List ℕ) → ((((o ++ codes "balance ") ++ a) ++ 32 ∷ []) ++ d) ++ 10 ∷ [] ≡ o ++ (codes "balance" ++ (32 ∷ ((a ++ 32 ∷ d) ++ 10 ∷ [])))
joined o a d = simp append_assoc

pub balance_printed : (o o1 o2 o3 o4 o5 a : List ℕ) (n : ℕ) → n ≢ 0 → o1 ≡ o ++ codes "balance " → o2 ≡ o1 ++ address_word a → o3 ≡ o2 ++ 32 ∷ [] → o4 ≡ o3 ++ decimal n → o5 ≡ o4 ++ 10 ∷ [] → o5 ≡ o ++ balance_text a n
balance_printed o o1 o2 o3 o4 o5 a n some e1 e2 e3 e4 e5 =
    e5 ∙ ap (λ (l : List ℕ). l ++ 10 ∷ []) (e4 ∙ ap (λ (l : List ℕ). l ++ decimal n) (e3 ∙ ap (λ (l : List ℕ). l ++ 32 ∷ []) (e2 ∙ ap (λ (l : List ℕ). l ++ address_word a) e1)))
    ∙ joined o (address_word a) (decimal n) ∙ ap (λ (l : List ℕ). o ++ l) (sym (some_balance a n some))
