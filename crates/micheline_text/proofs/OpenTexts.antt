-- Strings without an end: what more bytes would make a string, and what is said so far.
use Rattle.std.proofs.Common.{◌≡◌, ◌≢◌, ℕ, ◌+◌, Bool, true, false, List, [], ◌∷◌, ◌++◌, length, refl, sym, ap, ◌∙◌, arith, append_assoc}
use Rattle.std.specs.Prelude.{◌==◌, ◌||◌}
use Rattle.std.specs.List.{flat_map}
use Rattle.std.proofs.lemmas.Bool.Decides.{nat_tests}
use Rattle.std.proofs.lemmas.Bool.{eqb-true}
use Rattle.std.proofs.lemmas.List.Concat.{flat_map-cons}
use Rattle.micheline_text.specs.declared.text.Ending.TheVariants as ending
use Rattle.micheline_text.specs.Kinds.{is_plain}
use Rattle.micheline_text.specs.Literals.{quoted, Quoted, said, one_more}
use Rattle.micheline_text.specs.Printed.{escaped}

-- ---- bytes behind a quote, up to the end

-- what stands before the bytes: the `\` that was read
abbrev pub slash : Bool → List ℕ
slash false = []
slash true = 92 ∷ []

pub plain_spelled : (b : ℕ) → (b == 34) ≡ false → (b == 92) ≡ false → is_plain b ≡ true → escaped b ≡ b ∷ []
plain_spelled b q s p = let n : (b == 10) ≡ false = grind (arith, nat_tests) in rw (n, q, s) refl

pub mark_spelled : (b : ℕ) → ((b == 34) || (b == 92)) ≡ true → escaped b ≡ 92 ∷ b ∷ []
mark_spelled b e = let n : (b == 10) ≡ false = grind (arith, nat_tests) in rw (n, e) refl

-- more bytes would end the string
abbrev pub IsOpenQuoted : Bool → List ℕ → Type 0
IsOpenQuoted e bytes = (quoted e bytes).2 ≡ ending.Open → (more : List ℕ) × (more ≢ []) × ((slash e ++ bytes) ++ more ≡ flat_map escaped (quoted e bytes).0 ++ 34 ∷ []) × ((quoted e bytes).1 ≡ length bytes)

-- a byte that is said is spelled before the rest
open_more : (e : Bool) (b c : ℕ) (bytes : List ℕ) → slash e ++ b ∷ [] ≡ escaped c → quoted e (b ∷ bytes) ≡ said c (quoted false bytes) → IsOpenQuoted false bytes → IsOpenQuoted e (b ∷ bytes)
open_more e b c bytes spelled is h = λ opens.
    let ends : (quoted false bytes).2 ≡ ending.Open = ap (λ (q : Quoted). q.2) (sym is) ∙ opens in
    let r = h ends in
    let body : List ℕ = flat_map escaped (quoted false bytes).0 in
    let whole : flat_map escaped (quoted e (b ∷ bytes)).0 ≡ escaped c ++ body = ap (λ (q : Quoted). flat_map escaped q.0) is ∙ flat_map-cons escaped c (quoted false bytes).0 in
    let taken : (quoted e (b ∷ bytes)).1 ≡ 1 + (quoted false bytes).1 = ap (λ (q : Quoted). q.1) is in
    let front : slash e ++ b ∷ bytes ≡ escaped c ++ bytes = sym (append_assoc (slash e) (b ∷ []) bytes) ∙ ap (λ (x : List ℕ). x ++ bytes) spelled in (
      r.0,
      r.1,
      ap (λ (x : List ℕ). x ++ r.0) front ∙ append_assoc (escaped c) bytes r.0 ∙ ap (λ (x : List ℕ). escaped c ++ x) r.2 ∙ sym (append_assoc (escaped c) body (34 ∷ [])) ∙ ap (λ (x : List ℕ). x ++ 34 ∷ []) (sym whole),
      omega (arith, r.3),
    )

pub open_found : (bytes : List ℕ) (e : Bool) → IsOpenQuoted e bytes
open_found [] false = λ opens. (34 ∷ [], (λ e. cc), refl, refl)
open_found [] true = λ opens. (110 ∷ 34 ∷ [], (λ e. cc), refl, refl)
open_found (b ∷ bytes) false = at (b == 34) refl (b == 92) refl (is_plain b) refl (open_found bytes false) (open_found bytes true)
  where
    at : (q : Bool) → (b == 34) ≡ q → (s : Bool) → (b == 92) ≡ s → (p : Bool) → is_plain b ≡ p → IsOpenQuoted false bytes → IsOpenQuoted true bytes → IsOpenQuoted false (b ∷ bytes)
    at true q s s-is p p-is h k =
        let is : quoted false (b ∷ bytes) ≡ ([], 1, ending.Closed) = rw q refl in
        λ opens. let both : ending.Closed ≡ ending.Open = ap (λ (x : Quoted). x.2) (sym is) ∙ opens in absurd cc
    at false q true s p p-is h k =
        let is : quoted false (b ∷ bytes) ≡ one_more (quoted true bytes) = rw (q, s) refl in
        λ opens.
        let r = k (ap (λ (x : Quoted). x.2) (sym is) ∙ opens) in
        let taken : (quoted false (b ∷ bytes)).1 ≡ 1 + (quoted true bytes).1 = ap (λ (x : Quoted). x.1) is in
        (r.0, r.1, ap (λ (x : ℕ). (x ∷ bytes) ++ r.0) (eqb-true b 92 s) ∙ r.2 ∙ ap (λ (x : Quoted). flat_map escaped x.0 ++ 34 ∷ []) (sym is), omega (arith, r.3))
    at false q false s true p h k = open_more false b b bytes (sym (plain_spelled b q s p)) (rw (q, s, p) refl) h
    at false q false s false p h k =
        let is : quoted false (b ∷ bytes) ≡ ([], 0, ending.Wrong) = rw (q, s, p) refl in
        λ opens. let both : ending.Wrong ≡ ending.Open = ap (λ (x : Quoted). x.2) (sym is) ∙ opens in absurd cc
open_found (b ∷ bytes) true = at (b == 110) refl ((b == 34) || (b == 92)) refl (open_found bytes false)
  where
    at : (n : Bool) → (b == 110) ≡ n → (m : Bool) → ((b == 34) || (b == 92)) ≡ m → IsOpenQuoted false bytes → IsOpenQuoted true (b ∷ bytes)
    at true n m m-is h = open_more true b 10 bytes (ap (λ (x : ℕ). 92 ∷ x ∷ []) (eqb-true b 110 n)) (rw n refl) h
    at false n true m h = open_more true b b bytes (sym (mark_spelled b m)) (rw (n, m) refl) h
    at false n false m h =
        let is : quoted true (b ∷ bytes) ≡ ([], 0, ending.Wrong) = rw (n, m) refl in
        λ opens. let both : ending.Wrong ≡ ending.Open = ap (λ (x : Quoted). x.2) (sym is) ∙ opens in absurd cc
