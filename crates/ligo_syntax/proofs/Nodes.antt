-- The laws of what makes nodes of a tree: what they are made of may be one less deep.
use Rattle.std.proofs.Common.{◌≡◌, ℕ, suc, max, ◌≤◌, Bool, true, false, List, [], ◌∷◌, refl, arith, Some, None}
use Rattle.ligo_tokens.specs.declared.token.Token.{Token}
use Rattle.ligo_syntax.specs.Kinds.{Tokens, Kinds}
use Rattle.ligo_syntax.specs.Depth.{if_there, deepest}
use Rattle.ligo_syntax.specs.Rules.{Made}
use Rattle.ligo_syntax.proofs.RuleLaws.{Standing, Rules, Pair, Law, flat, made_pair, made_law}
use Rattle.ligo_syntax.proofs.Moves.{alike_law}

-- the depth that is read to, and one at which all that is begun can be completed
abbrev pub beyond : ℕ → ℕ
beyond d = suc (suc (suc (suc d)))

pub is_beyond : (d : ℕ) → suc d ≤ beyond d
is_beyond d = omega arith

abbrev pub so_deep : {A : Type 0} → (A → ℕ) → A → ℕ
so_deep depth a = suc (depth a)

pub deepest_inside : {A : Type 0} (depth : A → ℕ) (a : A) (more : List A) → deepest (so_deep depth) (a ∷ more) ≡ suc (deepest depth (a ∷ more))
deepest_inside depth a [] = omega arith
deepest_inside depth a (b ∷ more) = let i = deepest_inside depth b more in omega (arith, i)

-- a node
pub node_law : {A B : Type 0} {S : Standing} {R : Rules A} {depth : A → ℕ} {d : ℕ} {w : Pair A} {F : Kinds} {N : Bool} {X Y : Kinds} (f : A → B) (deep : B → ℕ) → ((a : A) → deep (f a) ≡ max 1 (depth a)) →
    Law S R depth (suc d) w F N X Y → Law S (λ n. Made f (R n)) deep (suc d) (made_pair f w) F N X Y
node_law {d = d} f deep e l = made_law f deep (suc d) (omega arith) (λ a le. let i = e a in omega (arith, i, le)) (λ a le. let i = e a in omega (arith, i, le)) l

-- what keeps the depth
pub exact_law : {A B : Type 0} {S : Standing} {R : Rules A} {depth : A → ℕ} {d : ℕ} {w : Pair A} {F : Kinds} {N : Bool} {X Y : Kinds} (f : A → B) (deep : B → ℕ) → ((a : A) → deep (f a) ≡ depth a) →
    Law S R depth d w F N X Y → Law S (λ n. Made f (R n)) deep d (made_pair f w) F N X Y
exact_law {d = d} f deep e l = made_law f deep d (omega arith) (λ a le. let i = e a in omega (arith, i, le)) (λ a le. let i = e a in omega (arith, i, le)) l

pub some_law : {A : Type 0} {S : Standing} {R : Rules A} {depth : A → ℕ} {d : ℕ} {w : Pair A} {F : Kinds} {N : Bool} {X Y : Kinds} → Law S R depth d w F N X Y →
    Law S (λ n. Made Some (R n)) (if_there depth) d (made_pair Some w) F N X Y
some_law {depth = depth} l = exact_law Some (if_there depth) (λ a. refl) l

-- in place of what may be there, a token
pub none_law : {B : Type 0} {S : Standing} {R : Rules Token} {d : ℕ} {w : Pair Token} {F : Kinds} {N : Bool} {X Y : Kinds} (depth : B → ℕ) → Law S R flat d w F N X Y →
    Law S (λ n. Made (λ t. None) (R n)) (if_there depth) d (made_pair (λ t. None) w) F N X Y
none_law {d = d} depth l = exact_law (λ t. None) (if_there depth) (λ a. refl) l

-- readers that read the same at both depths
pub read_alike : {A : Type 0} {S : Standing} {R : Rules A} {depth : A → ℕ} {d : ℕ} {w : Pair A} {F : Kinds} {N : Bool} {X Y : Kinds} (w' : Pair A) →
    ((ts : Tokens) → w false ts ≡ w' false ts) → ((ts : Tokens) → w true ts ≡ w' true ts) → Law S R depth d w F N X Y → Law S R depth d w' F N X Y
read_alike {A} {w = w} w' f t l = alike_law w' same l where
  same : (i : Bool) (ts : Tokens) → w i ts ≡ w' i ts
  same false ts = f ts
  same true ts = t ts
