-- Reading from the front of a list of tokens, told by the next token alone, and at most so deep. A
-- fault says how many tokens are left at it.
use Rattle.std.specs.Prelude.{ℕ, zero, suc, nat_lt, cond, List, [], ◌∷◌, length, Result, Ok, Err}
use Rattle.ligo_tokens.specs.declared.token.Token.{Token}
use Rattle.ligo_syntax.specs.declared.fault.Stop.{Stop}
use Rattle.ligo_syntax.specs.declared.fault.Stop.TheVariants as stop
use Rattle.ligo_syntax.specs.declared.fault.Expected.{Expected}
use Rattle.ligo_syntax.specs.Kinds.{Tokens, Kinds, sort, next, has}

-- what reading gives: something and the tokens behind it, or why it stopped
abbrev pub Read : Type 0 → Type 0
Read A = Result (A × Tokens) Stop

-- what may be read from the front of tokens
abbrev pub Reader : Type 0 → Type 0
Reader A = Tokens → Read A

-- and then, with what was read
abbrev pub then_do : {A B : Type 0} → Read A → (A → Tokens → Read B) → Read B
then_do (Ok x) f = f x.0 x.1
then_do (Err e) f = Err e

-- a token of one of these kinds
abbrev pub one_of : Expected → Kinds → Reader Token
one_of e kinds [] = Err (stop.Unexpected e 0)
one_of e kinds (t ∷ ts) =
    cond (has kinds (sort t)) (Ok (t, ts)) (Err (stop.Unexpected e (length (t ∷ ts))))

-- no token
abbrev pub nothing : {A : Type 0} → A → Reader A
nothing value ts = Ok (value, ts)

-- one and then the other
abbrev pub both : {A B : Type 0} → Reader A → Reader B → Reader (A × B)
both p q ts = then_do (p ts) (λ a rest. then_do (q rest) (λ b end. Ok ((a, b), end)))

-- the same, where the other goes by what the one gave
abbrev pub onward : {A B : Type 0} → Reader A → (A → Reader B) → Reader (A × B)
onward p k ts = then_do (p ts) (λ a rest. then_do (k a rest) (λ b end. Ok ((a, b), end)))

-- its tree is made by a function
abbrev pub made : {A B : Type 0} → (A → B) → Reader A → Reader B
made f p ts = then_do (p ts) (λ a rest. Ok (f a, rest))

-- one where one of these kinds stands, else the other
abbrev pub either : {A : Type 0} → Kinds → Reader A → Reader A → Reader A
either kinds p q ts = cond (has kinds (next ts)) (p ts) (q ts)

-- as long as one of these kinds stands there
abbrev pub loop : {A : Type 0} → Kinds → Reader A → ℕ → Reader (List A)
loop kinds p zero ts = Ok ([], ts)
loop kinds p (suc n) ts = cond (has kinds (next ts))
    (then_do (p ts) (λ a after. then_do (loop kinds p n after) (λ rest end. Ok (a ∷ rest, end))))
    (Ok ([], ts))

-- the same, to their end
abbrev pub repeated : {A : Type 0} → Kinds → Reader A → Reader (List A)
repeated kinds p ts = loop kinds p (length ts) ts

-- ---- depth

-- why no depth is left for what begins with one of these kinds
abbrev pub too_deep_at : Expected → Kinds → Tokens → Stop
too_deep_at e kinds ts =
    cond (has kinds (next ts)) (stop.TooDeep (length ts)) (stop.Unexpected e (length ts))

-- nothing, since no depth is left
abbrev pub too_deep : {A : Type 0} → Expected → Kinds → Reader A
too_deep e kinds ts = Err (too_deep_at e kinds ts)

-- where one of these kinds follows, what is read is less than so deep
abbrev pub before : {A : Type 0} → (A → ℕ) → ℕ → Kinds → Reader A → Reader A
before depth d kinds p ts = then_do (p ts) (λ a rest.
    cond (has kinds (next rest)) (cond (nat_lt (depth a) d) (Ok (a, rest)) (Err (stop.TooDeep (length rest)))) (Ok (a, rest)))

-- links behind what is made so far, each of which makes it deeper, as long as one of these kinds
-- stands there
abbrev pub links : {A B : Type 0} → (B → ℕ) → ℕ → (B → A → B) → Kinds → Reader A → ℕ → B → Reader B
links depth d f kinds p zero b ts = Ok (b, ts)
links depth d f kinds p (suc n) b ts = cond (has kinds (next ts))
    (cond (nat_lt (depth b) d)
    (then_do (p ts) (λ a rest. links depth d f kinds p n (f b a) rest))
    (Err (stop.TooDeep (length ts))))
    (Ok (b, ts))

-- one and links behind it
abbrev pub chain : {A B : Type 0} → (B → ℕ) → ℕ → (B → A → B) → Reader B → Kinds → Reader A → Reader B
chain depth d f first kinds p ts =
    then_do (first ts) (λ b rest. links depth d f kinds p (length rest) b rest)
