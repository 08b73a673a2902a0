-- Lawful lists, sets and maps, by what they hold; and bytes.
use Rattle.std.proofs.Common.{◌≡◌, ℕ, zero, suc, ◌<◌, true, List, [], ◌∷◌, get_or, refl, ap, sym, ◌∙◌, arith}
use Rattle.std.specs.List.{list_all}
use Rattle.std.specs.Prelude.{◌&&◌, nat_lt}
use Rattle.std.proofs.lemmas.Bool.{and_parts, lt-ltb, ltb-true}
use Rattle.value_core.specs.declared.val.Val.{Val}
use Rattle.value_core.specs.declared.val.Val.TheVariants as variant
use Rattle.value_core.specs.declared.val.Val.TheVariants.{rolls-List, rolls-Set, rolls-Map}
use Rattle.value_core.specs.declared.val.Val.TheOpen as one
use Rattle.value_core.specs.Layer.{flat}
use Rattle.value_core.specs.Lawful.{are_bytes, is_lawful, is_lawful_entry, is_lawful_level}
use Rattle.value_core.proofs.Bools.{regrouped}
use Rattle.value_core.proofs.Everywhere.{everywhere-roll}

pub lawful-list : (vs : List Val) → is_lawful (variant.List vs) ≡ list_all is_lawful vs
lawful-list vs = ap is_lawful (sym (rolls-List vs)) ∙ everywhere-roll is_lawful_level (one.List vs)

pub lawful-set : (vs : List Val) → is_lawful (variant.Set vs) ≡ list_all is_lawful vs
lawful-set vs = ap is_lawful (sym (rolls-Set vs)) ∙ everywhere-roll is_lawful_level (one.Set vs)

lawful-flat : (es : List (Val × Val)) → list_all is_lawful (flat es) ≡ list_all is_lawful_entry es
lawful-flat [] = refl
lawful-flat (e ∷ es) = ap (λ b. is_lawful e.0 && (is_lawful e.1 && b)) (lawful-flat es) ∙ regrouped (is_lawful e.0) (is_lawful e.1) _

pub lawful-map : (es : List (Val × Val)) → is_lawful (variant.Map es) ≡ list_all is_lawful_entry es
lawful-map es = ap is_lawful (sym (rolls-Map es)) ∙ everywhere-roll is_lawful_level (one.Map es) ∙ lawful-flat es

pub ruleset lawful_lists = (lawful-list, lawful-set, lawful-map)

-- ---- bytes

-- numbers below 256 are bytes
pub all_small : (bytes : List ℕ) → ((i : ℕ) → get_or bytes i 0 < 256) → are_bytes bytes ≡ true
all_small [] small = refl
all_small (b ∷ bytes) small = rw (lt-ltb b 256 (small 0)) (all_small bytes (λ i. small (suc i)))

-- and bytes are below 256
pub small_all : (bytes : List ℕ) → are_bytes bytes ≡ true → (i : ℕ) → get_or bytes i 0 < 256
small_all [] all i = omega arith
small_all (b ∷ bytes) all zero = ltb-true b 256 (and_parts (nat_lt b 256) _ all).0
small_all (b ∷ bytes) all (suc i) = small_all bytes (and_parts (nat_lt b 256) _ all).1 i
