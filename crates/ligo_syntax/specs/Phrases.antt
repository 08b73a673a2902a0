-- Readers that are made of others, one for each sign of Rules; and what functions of the program give.
use Rattle.std.specs.Prelude.{ℕ, zero, suc, cond, List, [], ◌∷◌, length, Option, Some, None, Result, Ok}
use Rattle.micheline_text.specs.Told.{AnswersUnlessFull}
use Rattle.ligo_tokens.specs.declared.token.Token.{Token}
use Rattle.ligo_tokens.specs.declared.token.Kind.{Kind}
use Rattle.ligo_tokens.specs.declared.token.Kind.TheVariants as kind
use Rattle.ligo_syntax.specs.declared.fault.Stop.{Stop}
use Rattle.ligo_syntax.specs.declared.fault.Stop.TheVariants as stop
use Rattle.ligo_syntax.specs.declared.fault.Expected.TheVariants as expected
use Rattle.ligo_syntax.specs.Kinds.{Tokens, Kinds, next, has}
use Rattle.ligo_syntax.specs.Readers.{Read, Reader, then_do, one_of, nothing, both, made, either, repeated}

-- a word, and then something
abbrev pub key : {A : Type 0} → Kind → Reader A → Reader A
key k p = made (λ (x : Token × _). x.1) (both (one_of expected.Token (k ∷ [])) p)

-- the same, with the offset of the word
abbrev pub from : {A : Type 0} → Kind → Reader A → Reader (ℕ × A)
from {A} k p = made (λ (x : Token × A). (x.0.at, x.1)) (both (one_of expected.Token (k ∷ [])) p)

-- something, and then a word
abbrev pub closed : {A : Type 0} → Reader A → Kind → Reader A
closed p k = made (λ (x : _ × Token). x.0) (both p (one_of expected.Token (k ∷ [])))

-- one where one of these kinds stands
abbrev pub optional : {A : Type 0} → Kinds → Reader A → Reader (Option A)
optional kinds p = either kinds (made Some p) (nothing None)

-- one, and others behind marks
abbrev pub parted : {A : Type 0} → Reader A → Kind → Reader A → Reader (A × List A)
parted first k p = both first (repeated (k ∷ []) (key k p))

-- `;` and one, as long as there is a `;`; the last may have nothing behind it
abbrev pub semicolons : {A : Type 0} → Kinds → Reader A → ℕ → Reader (List A)
semicolons kinds p zero ts = Ok ([], ts)
semicolons kinds p (suc n) ts = cond (has (kind.Semicolon ∷ []) (next ts))
    (then_do (one_of expected.Token (kind.Semicolon ∷ []) ts) (λ mark rest.
    cond (has kinds (next rest))
    (then_do (p rest) (λ a after. then_do (semicolons kinds p n after) (λ more end. Ok (a ∷ more, end))))
    (Ok ([], rest))))
    (Ok ([], ts))

-- the same, to their end
abbrev pub more_of : {A : Type 0} → Kinds → Reader A → Reader (List A)
more_of kinds p ts = semicolons kinds p (length ts) ts

-- one, and others behind semicolons
abbrev pub listed : {A : Type 0} → Kinds → Reader A → Reader (List A)
listed {A} kinds p = made (λ (x : A × List A). x.0 ∷ x.1) (both p (more_of kinds p))

-- ---- what a function of the program returned

-- why reading stopped, if not for want of memory
abbrev pub stopped : Stop → Option Stop
stopped stop.NoMemory = None
stopped s = Some s

-- seen by view, it is what reading gives, unless memory ran out
abbrev pub Gives : {X Y : Type 0} → (X → Y × Tokens) → Result X Stop → Read Y → Type 0
Gives view result read = AnswersUnlessFull stopped view result read
