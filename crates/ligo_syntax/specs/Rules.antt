-- What the signs of a grammar mean. A rule relates the tokens before something, the tree of it, and
-- the tokens after it.
use Rattle.std.specs.Prelude.{◌≡◌, ℕ, ◌⊎◌, IsTrue, List, [], ◌∷◌, Option, Some, None, fold}
use Rattle.ligo_tokens.specs.declared.token.Token.{Token}
use Rattle.ligo_tokens.specs.declared.token.Kind.{Kind}
use Rattle.ligo_tokens.specs.declared.token.Kind.TheVariants as kind
use Rattle.ligo_syntax.specs.Kinds.{Tokens, Kinds, sort, has, Ends}

-- tokens before, a tree, and tokens after
abbrev pub Rule : Type 0 → Type 1
Rule A = Tokens → A → Tokens → Type 0

-- nothing is so
abbrev pub Never : {A : Type 0} → Rule A
Never before a after = ⊥

-- a token of one of these kinds
abbrev pub OneOf : Kinds → Rule Token
OneOf kinds before t after = (before ≡ t ∷ after) × IsTrue (has kinds (sort t))

-- no token
abbrev pub Nothing : {A : Type 0} → A → Rule A
Nothing value before a after = (before ≡ after) × (a ≡ value)

-- one and then the other
abbrev pub Both : {A B : Type 0} → Rule A → Rule B → Rule (A × B)
Both R S before p after = (between : Tokens) × R before p.0 between × S between p.1 after

-- the same, where the other goes by the tree of the one
abbrev pub Onward : {A B : Type 0} → Rule A → (A → Rule B) → Rule (A × B)
Onward R S before p after = (between : Tokens) × R before p.0 between × S p.0 between p.1 after

-- its tree is made by a function
abbrev pub Made : {A B : Type 0} → (A → B) → Rule A → Rule B
Made {A} f R before b after = (a : A) × R before a after × (b ≡ f a)

-- one | the other
abbrev pub Either : {A : Type 0} → Rule A → Rule A → Rule A
Either R S before a after = R before a after ⊎ S before a after

-- one; the other only where none of these kinds stands
abbrev pub Rather : {A : Type 0} → Kinds → Rule A → Rule A → Rule A
Rather kinds R S before a after = R before a after ⊎ (S before a after × Ends kinds before)

-- { one }
abbrev pub Repeated : {A : Type 0} → Rule A → Rule (List A)
Repeated R before [] after = before ≡ after
Repeated R before (a ∷ more) after =
    (between : Tokens) × R before a between × Repeated R between more after

-- of the kinds with which something may go on, those with which it must: all of them, or none
abbrev pub Greed : Type 0
Greed = Kinds → Kinds

-- it takes as much as it can
abbrev pub greedy : Greed
greedy kinds = kinds

-- it takes what it likes
abbrev pub free : Greed
free kinds = []

-- { one }, as much as it can: none of these kinds stands behind
abbrev pub AsMany : {A : Type 0} → Kinds → Rule A → Rule (List A)
AsMany kinds R before all after = Repeated R before all after × Ends kinds after

-- a word, and then something
abbrev pub Key : {A : Type 0} → Kind → Rule A → Rule A
Key k R = Made (λ (p : Token × _). p.1) (Both (OneOf (k ∷ [])) R)

-- the same, with the offset of the word
abbrev pub From : {A : Type 0} → Kind → Rule A → Rule (ℕ × A)
From {A} k R = Made (λ (p : Token × A). (p.0.at, p.1)) (Both (OneOf (k ∷ [])) R)

-- something, and then a word
abbrev pub Closed : {A : Type 0} → Rule A → Kind → Rule A
Closed R k = Made (λ (p : _ × Token). p.0) (Both R (OneOf (k ∷ [])))

-- [ one ]
abbrev pub Optional : {A : Type 0} → Rule A → Rule (Option A)
Optional R = Either (Made Some R) (Nothing None)

-- [ one ], as much as it can
abbrev pub IfItCan : {A : Type 0} → Kinds → Rule A → Rule (Option A)
IfItCan kinds R = Rather kinds (Made Some R) (Nothing None)

-- one { link }: a chain from the left
abbrev pub Chain : {A B : Type 0} → (B → A → B) → Rule B → Rule A → Rule B
Chain {A} {B} f R Link = Made (λ (p : B × List A). fold f p.0 p.1) (Both R (Repeated Link))

-- one { mark one }
abbrev pub Parted : {A : Type 0} → Kind → Rule A → Rule (A × List A)
Parted k R = Both R (Repeated (Key k R))

-- one { ";" one } [";"]
abbrev pub Listed : {A : Type 0} → Rule A → Rule (List A)
Listed {A} R = Made (λ (p : A × (List A × Option Token)). p.0 ∷ p.1.0)
    (Both R (Both (Repeated (Key kind.Semicolon R)) (Optional (OneOf (kind.Semicolon ∷ [])))))
