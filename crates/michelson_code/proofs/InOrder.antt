-- Names in order behind one more, whatever that one's name is.
use Rattle.std.proofs.Common.{◌≡◌, ◌<◌, ℕ, ◌+◌, Bool, true, List, [], ◌∷◌, drop, get_or, length, refl, sym, ap, ◌∙◌, add-one, drop-cons}
use Rattle.std.specs.Prelude.{◌&&◌}
use Rattle.michelson_code.specs.Entries.{NamedEntry, Path, are_in_order, is_before}

are_in_order-renamed : (path : Path) (a b : List ℕ) (names : List NamedEntry) → are_in_order ((path, a) ∷ names) ≡ are_in_order ((path, b) ∷ names)
are_in_order-renamed path a b [] = refl
are_in_order-renamed path a b (e ∷ names) = refl

-- one more of the names that are left
pub are_in_order-next : (names : List NamedEntry) (i : ℕ) (last way after : Path) (e : NamedEntry) → e ≡ get_or names i e → i < length names → is_before last way ≡ true → way ≡ e.0 → after ≡ e.0 →
    are_in_order ((last, []) ∷ drop i names) ≡ are_in_order ((after, []) ∷ drop (i + 1) names)
are_in_order-next names i last way after e is within before of_way of_after =
    let more : List NamedEntry = drop (i + 1) names in
    let parts : drop i names ≡ e ∷ more = rw (add-one, drop-cons names i e, ← is) refl in
    let test : is_before last e.0 ≡ true = ap (is_before last) (sym of_way) ∙ before in
    ap (λ (es : List NamedEntry). are_in_order ((last, []) ∷ es)) parts
    ∙ ap (λ (b : Bool). b && are_in_order (e ∷ more)) test
    ∙ are_in_order-renamed e.0 e.1 [] more
    ∙ ap (λ (path : Path). are_in_order ((path, []) ∷ more)) (sym of_after)
