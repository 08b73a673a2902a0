-- How many items a type has as pairs, and what is read of them.
use Rattle.std.proofs.Common.{◌≡◌, ℕ, ◌-◌, ◌≤◌, true, false, List, [], ◌∷◌, ◌++◌, Ok, Err, length, map, drop, take, get_or, refl, sym, ap, ◌∙◌, arith}
use Rattle.std.proofs.Math.Seq.{take-length}
use Rattle.value_core.specs.declared.ty.Ty.{Ty}
use Rattle.value_core.specs.declared.ty.Ty.TheVariants as kind
use Rattle.value_core.specs.declared.ty.Ty.TheOpen.{Ty-F}
use Rattle.value_core.specs.declared.ty.Ty.TheViews.{out-Ty}
use Rattle.micheline_text.specs.declared.node.Node.{Node}
use Rattle.value_core.specs.declared.val.Val.{Val}
use Rattle.value_core.specs.declared.val.Val.TheVariants as value
use Rattle.value_core.specs.Combs as combs
use Rattle.value_core.proofs.Combs.{one_more_part}
use Rattle.data_nodes.specs.Readers.{Read, at_second, comb, is_comb_of, pair_of, then_read}
use Rattle.data_nodes.specs.Faults.{reader, storage_read}
use Rattle.value_core.specs.TypeLevels.{shows_pair}

-- ---- two items or more

-- all but the first
abbrev pub others : List Node → List Node
others nodes = take (length nodes - 1) (drop 1 nodes)

others-cons : (x : Node) (nodes : List Node) → others (x ∷ nodes) ≡ nodes
others-cons x nodes = let all : length (x ∷ nodes) - 1 ≡ length nodes = omega arith in rw all (take-length nodes)

pub is_comb_of-one : (nodes : List Node) (t : Ty) → length nodes ≡ 1 → true ≡ is_comb_of (map reader nodes) t
is_comb_of-one [] t e = absurd (omega arith)
is_comb_of-one (x ∷ []) t e = refl
is_comb_of-one (x ∷ y ∷ more) t e = absurd (omega arith)

pub is_comb_of-more : (nodes : List Node) (t s u : Ty) → 2 ≤ length nodes → t ≡ kind.Pair s u → is_comb_of (map reader (others nodes)) u ≡ is_comb_of (map reader nodes) t
is_comb_of-more [] t s u h e = absurd (omega arith)
is_comb_of-more (x ∷ []) t s u h e = absurd (omega arith)
is_comb_of-more (x ∷ y ∷ more) t s u h e = ap (λ (l : List Node). is_comb_of (map reader l) u) (others-cons x (y ∷ more)) ∙ sym (ap (at_second false (is_comb_of (map reader (y ∷ more)))) (ap out-Ty e ∙ shows_pair s u))

-- ---- what is read behind the first items

abbrev pub behind_firsts : List Val → Read Val → Read Val
behind_firsts firsts r = then_read r (λ last. Ok (combs.comb value.Pair firsts last))

behind_one_more : (firsts : List Val) (a : Val) (r : Read Val) → behind_firsts firsts (then_read r (λ b. Ok (value.Pair a b))) ≡ behind_firsts (firsts ++ a ∷ []) r
behind_one_more firsts a (Ok b) = ap (λ (v : Val). Ok v) (sym (one_more_part value.Pair firsts a b))
behind_one_more firsts a (Err e) = refl

-- one item more is read at the pair's first type, and the others at its second
pub comb_turn : (at : ℕ) (nodes : List Node) (t s u : Ty) (first : Node) (a : Val) (firsts : List Val) → 2 ≤ length nodes → first ≡ get_or nodes 0 first → t ≡ kind.Pair s u →
    storage_read s first ≡ Ok a → behind_firsts (firsts ++ a ∷ []) (comb at (map reader (others nodes)) u) ≡ behind_firsts firsts (comb at (map reader nodes) t)
comb_turn at [] t s u first a firsts h is e read = absurd (omega arith)
comb_turn at (x ∷ []) t s u first a firsts h is e read = absurd (omega arith)
comb_turn at (x ∷ y ∷ more) t s u first a firsts h is e read =
    let rest : Read Val = comb at (map reader (y ∷ more)) u in
    let here : storage_read s x ≡ Ok a = ap (storage_read s) (sym is) ∙ read in
    ap (λ (l : List Node). behind_firsts (firsts ++ a ∷ []) (comb at (map reader l) u)) (others-cons x (y ∷ more))
    ∙ sym (behind_one_more firsts a rest)
    ∙ sym (ap (λ (r : Read Val). behind_firsts firsts (then_read r (λ b. then_read rest (λ last. Ok (value.Pair b last))))) here)
    ∙ sym (ap (λ (τ : Ty-F Ty). behind_firsts firsts (pair_of at (reader x) (comb at (map reader (y ∷ more))) τ)) (ap out-Ty e ∙ shows_pair s u))
