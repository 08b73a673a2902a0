-- Which fault the reader tells, by what goes on.
use Rattle.std.proofs.Common.{◌≡◌, ℕ, ◌≤◌, ◌<◌, ◌⊎◌, inl, inr, Bool, true, false, cond, List, [], ◌∷◌, length, Result, Ok, Err, refl, sym, ap, subst, ◌∙◌, leb}
use Rattle.std.proofs.lemmas.Bool.Decides.{leb_tells}
use Rattle.micheline_text.specs.declared.fault.TextFault.{TextFault}
use Rattle.micheline_text.specs.declared.fault.TextFault.TheVariants as fault
use Rattle.micheline_text.specs.declared.node.Node.{Node}
use Rattle.micheline_text.specs.declared.node.Body.TheVariants as body
use Rattle.micheline_text.specs.declared.level.Level.{Level}
use Rattle.micheline_text.specs.declared.level.Level.TheVariants as level
use Rattle.micheline_text.specs.declared.level.Open.{Open}
use Rattle.micheline_text.specs.declared.token.Token.{Token}
use Rattle.micheline_text.specs.declared.token.Token.TheVariants as token
use Rattle.micheline_text.specs.Reading.{State, taken, named, noted, parted, ended, applied, takes_literal, takes_argument, after, within, opened, step, close_brace, close_paren, first_open}
use Rattle.micheline_text.specs.Grammar.{Bracket, Brace, Paren, begins, node_at}
use Rattle.micheline_text.proofs.Spelt.{allows}

-- ---- what a step that fails tells

abbrev pub StepFault : ℕ → Token → Level → List Open → TextFault → Type 0
StepFault at t l os (fault.BadToken p) = (p ≡ at) × (t ≡ token.Wide → takes_literal l ≡ false) × ((k : Bracket) → t ≡ begins k → allows k l ≡ false) ×
    (t ≡ token.OpenComment → ⊥) × (t ≡ token.OpenText → takes_literal l ≡ false)
StepFault at t l os (fault.WiderNumber p) = (p ≡ at) × (t ≡ token.Wide) × (takes_literal l ≡ true)
StepFault at t l os (fault.TooDeep p) = (p ≡ at) × ((k : Bracket) × (t ≡ begins k) × (allows k l ≡ true)) × (256 ≤ length os)
StepFault at t l os (fault.Unclosed p) = (p ≡ first_open os at) × ((t ≡ token.OpenComment) ⊎ ((t ≡ token.OpenText) × (takes_literal l ≡ true)))
StepFault at t l os fault.NoMemory = ⊥

-- a token that is neither too wide nor a bracket that opens, nor without an end
abbrev pub IsPlain : Token → Type 0
IsPlain t = (t ≡ token.Wide → ⊥) × ((k : Bracket) → t ≡ begins k → ⊥) × (t ≡ token.OpenComment → ⊥) × (t ≡ token.OpenText → ⊥)

bad : (at : ℕ) (t : Token) (l : Level) (os : List Open) (f : TextFault) → IsPlain t → fault.BadToken at ≡ f → StepFault at t l os f
bad at t l os f p e = subst (StepFault at t l os) e (refl, (λ is. absurd (p.0 is)), (λ k is. absurd (p.1 k is)), p.2, (λ is. absurd (p.3 is)))

pub fault_is : {A : Type 0} (e f : TextFault) → Path (Result A TextFault) (Err e) (Err f) → e ≡ f
fault_is e f p = cc

within_fails : (os : List Open) (told : Result Level TextFault) (f : TextFault) → within os told ≡ Err f → told ≡ Err f
within_fails os (Ok l) f e = absurd cc
within_fails os (Err g) f e = ap Err (fault_is g f e)

taken_bad : (at : ℕ) (l : Level) (n : Node) (f : TextFault) → taken at l n ≡ Err f → fault.BadToken at ≡ f
taken_bad at (level.Start ns) n f e = absurd cc
taken_bad at (level.After ns) n f e = fault_is (fault.BadToken at) f e
taken_bad at (level.Args ns a) n f e = absurd cc
taken_bad at level.Head n f e = fault_is (fault.BadToken at) f e
taken_bad at (level.Inner a) n f e = absurd cc

named_bad : (at : ℕ) (l : Level) (w : List ℕ) (f : TextFault) → named at l w ≡ Err f → fault.BadToken at ≡ f
named_bad at (level.Start ns) w f e = absurd cc
named_bad at (level.After ns) w f e = fault_is (fault.BadToken at) f e
named_bad at (level.Args ns a) w f e = absurd cc
named_bad at level.Head w f e = absurd cc
named_bad at (level.Inner a) w f e = absurd cc

noted_bad : (at : ℕ) (l : Level) (w : List ℕ) (f : TextFault) → noted at l w ≡ Err f → fault.BadToken at ≡ f
noted_bad at (level.Start ns) w f e = fault_is (fault.BadToken at) f e
noted_bad at (level.After ns) w f e = fault_is (fault.BadToken at) f e
noted_bad at (level.Args ns a) w f e = absurd cc
noted_bad at level.Head w f e = fault_is (fault.BadToken at) f e
noted_bad at (level.Inner a) w f e = absurd cc

parted_bad : (at : ℕ) (l : Level) (f : TextFault) → parted at l ≡ Err f → fault.BadToken at ≡ f
parted_bad at (level.Start ns) f e = fault_is (fault.BadToken at) f e
parted_bad at (level.After ns) f e = absurd cc
parted_bad at (level.Args ns a) f e = absurd cc
parted_bad at level.Head f e = fault_is (fault.BadToken at) f e
parted_bad at (level.Inner a) f e = fault_is (fault.BadToken at) f e

ended_bad : (at : ℕ) (l : Level) (f : TextFault) → ended at l ≡ Err f → fault.BadToken at ≡ f
ended_bad at (level.Start ns) f e = absurd cc
ended_bad at (level.After ns) f e = absurd cc
ended_bad at (level.Args ns a) f e = absurd cc
ended_bad at level.Head f e = fault_is (fault.BadToken at) f e
ended_bad at (level.Inner a) f e = fault_is (fault.BadToken at) f e

applied_bad : (at : ℕ) (l : Level) (f : TextFault) → applied at l ≡ Err f → fault.BadToken at ≡ f
applied_bad at (level.Start ns) f e = fault_is (fault.BadToken at) f e
applied_bad at (level.After ns) f e = fault_is (fault.BadToken at) f e
applied_bad at (level.Args ns a) f e = fault_is (fault.BadToken at) f e
applied_bad at level.Head f e = fault_is (fault.BadToken at) f e
applied_bad at (level.Inner a) f e = absurd cc

after_bad : {A B : Type 0} (at : ℕ) (told : Result A TextFault) (next : A → Result B TextFault) (f : TextFault) → ((g : TextFault) → told ≡ Err g → fault.BadToken at ≡ g) →
    ((x : A) → next x ≡ Err f → fault.BadToken at ≡ f) → after told next ≡ Err f → fault.BadToken at ≡ f
after_bad at (Ok x) next f h k e = k x e
after_bad at (Err g) next f h k e = h g refl ∙ fault_is g f e

brace_bad : (at : ℕ) (l : Level) (os : List Open) (f : TextFault) → close_brace at l os ≡ Err f → fault.BadToken at ≡ f
brace_bad at l [] f e = fault_is (fault.BadToken at) f e
brace_bad at l (o ∷ os) f e = after_bad at (ended at l) _ f (ended_bad at l) (λ ns h. taken_bad at o.outer (node_at o.at (body.Seq ns)) f (within_fails os (taken at o.outer (node_at o.at (body.Seq ns))) f h)) e

paren_bad : (at : ℕ) (l : Level) (os : List Open) (f : TextFault) → close_paren at l os ≡ Err f → fault.BadToken at ≡ f
paren_bad at l [] f e = fault_is (fault.BadToken at) f e
paren_bad at l (o ∷ os) f e = after_bad at (applied at l) _ f (applied_bad at l) (λ n h. taken_bad at o.outer n f (within_fails os (taken at o.outer n) f h)) e

same_bracket : (k j : Bracket) → begins k ≡ begins j → k ≡ j
same_bracket Brace Brace e = refl
same_bracket Brace Paren e = absurd cc
same_bracket Paren Brace e = absurd cc
same_bracket Paren Paren e = refl

pub never_wide : (k : Bracket) → begins k ≡ token.Wide → ⊥
never_wide Brace e = cc
never_wide Paren e = cc

pub never_open : (k : Bracket) → begins k ≡ token.OpenComment → ⊥
never_open Brace e = cc
never_open Paren e = cc

pub never_text : (k : Bracket) → begins k ≡ token.OpenText → ⊥
never_text Brace e = cc
never_text Paren e = cc

opened_fault : (k : Bracket) (allowed : Bool) (inner : Level) (at : ℕ) (l : Level) (os : List Open) (f : TextFault) → allows k l ≡ allowed → opened allowed inner at l os ≡ Err f → StepFault at (begins k) l os f
opened_fault k false inner at l os f is e =
    subst (StepFault at (begins k) l os) (fault_is (fault.BadToken at) f e)
    (refl, (λ wide. absurd (never_wide k wide)), (λ j same. ap (λ (x : Bracket). allows x l) (sym (same_bracket k j same)) ∙ is), never_open k, (λ text. absurd (never_text k text)))
opened_fault k true inner at l os f is e = room (leb_tells 256 (length os)) e
  where
    room : ((leb 256 (length os) ≡ true) × (256 ≤ length os)) ⊎ ((leb 256 (length os) ≡ false) × (length os < 256)) → opened true inner at l os ≡ Err f → StepFault at (begins k) l os f
    room (inl p) h =
        let told : opened true inner at l os ≡ Err (fault.TooDeep at) = rw p.0 refl in
        subst (StepFault at (begins k) l os) (fault_is (fault.TooDeep at) f (sym told ∙ h)) (refl, (k, refl, is), p.1)
    room (inr p) h =
        let told : opened true inner at l os ≡ Ok (inner, record { at = at; outer = l } ∷ os) = rw p.0 refl in
        let both : Path (Result State TextFault) (Ok (inner, record { at = at; outer = l } ∷ os)) (Err f) = sym told ∙ h in
        absurd cc

wide_fault : (at : ℕ) (l : Level) (os : List Open) (f : TextFault) (b : Bool) → takes_literal l ≡ b → cond b (fault.WiderNumber at) (fault.BadToken at) ≡ f → StepFault at token.Wide l os f
wide_fault at l os f true is e = subst (StepFault at token.Wide l os) e (refl, refl, is)
wide_fault at l os f false is e = subst (StepFault at token.Wide l os) e (refl, (λ w. is), (λ k same. absurd (never_wide k (sym same))), (λ h. cc), (λ h. absurd cc))

text_fault : (at : ℕ) (l : Level) (os : List Open) (f : TextFault) (b : Bool) → takes_literal l ≡ b → cond b (fault.Unclosed (first_open os at)) (fault.BadToken at) ≡ f → StepFault at token.OpenText l os f
text_fault at l os f true is e = subst (StepFault at token.OpenText l os) e (refl, inr (refl, is))
text_fault at l os f false is e =
    subst (StepFault at token.OpenText l os) e (refl, (λ h. absurd cc), (λ k same. absurd (never_text k (sym same))), (λ h. cc), (λ h. is))

other : (t : Token) → (t ≡ token.Wide → ⊥) → (t ≡ token.OpenBrace → ⊥) → (t ≡ token.OpenParen → ⊥) → (t ≡ token.OpenComment → ⊥) → (t ≡ token.OpenText → ⊥) → IsPlain t
other t w b p c s = (w, (λ k. pick k), c, s)
  where
    pick : (k : Bracket) → t ≡ begins k → ⊥
    pick Brace e = b e
    pick Paren e = p e

pub step_fault : (at : ℕ) (t : Token) (l : Level) (os : List Open) (f : TextFault) → step at t l os ≡ Err f → StepFault at t l os f
step_fault at (token.Number z) l os f e =
    bad at (token.Number z) l os f (other (token.Number z) (λ h. cc) (λ h. cc) (λ h. cc) (λ h. cc) (λ h. cc)) (taken_bad at l (node_at at (body.Int z)) f (within_fails os (taken at l (node_at at (body.Int z))) f e))
step_fault at (token.Text t) l os f e =
    bad at (token.Text t) l os f (other (token.Text t) (λ h. cc) (λ h. cc) (λ h. cc) (λ h. cc) (λ h. cc)) (taken_bad at l (node_at at (body.Text t)) f (within_fails os (taken at l (node_at at (body.Text t))) f e))
step_fault at (token.Bytes t) l os f e =
    bad at (token.Bytes t) l os f (other (token.Bytes t) (λ h. cc) (λ h. cc) (λ h. cc) (λ h. cc) (λ h. cc)) (taken_bad at l (node_at at (body.Bytes t)) f (within_fails os (taken at l (node_at at (body.Bytes t))) f e))
step_fault at (token.Word w) l os f e = bad at (token.Word w) l os f (other (token.Word w) (λ h. cc) (λ h. cc) (λ h. cc) (λ h. cc) (λ h. cc)) (named_bad at l w f (within_fails os (named at l w) f e))
step_fault at (token.Note w) l os f e = bad at (token.Note w) l os f (other (token.Note w) (λ h. cc) (λ h. cc) (λ h. cc) (λ h. cc) (λ h. cc)) (noted_bad at l w f (within_fails os (noted at l w) f e))
step_fault at token.OpenBrace l os f e = opened_fault Brace (takes_literal l) (level.Start []) at l os f refl e
step_fault at token.CloseBrace l os f e = bad at token.CloseBrace l os f (other token.CloseBrace (λ h. cc) (λ h. cc) (λ h. cc) (λ h. cc) (λ h. cc)) (brace_bad at l os f e)
step_fault at token.OpenParen l os f e = opened_fault Paren (takes_argument l) level.Head at l os f refl e
step_fault at token.CloseParen l os f e = bad at token.CloseParen l os f (other token.CloseParen (λ h. cc) (λ h. cc) (λ h. cc) (λ h. cc) (λ h. cc)) (paren_bad at l os f e)
step_fault at token.Semicolon l os f e = bad at token.Semicolon l os f (other token.Semicolon (λ h. cc) (λ h. cc) (λ h. cc) (λ h. cc) (λ h. cc)) (parted_bad at l f (within_fails os (parted at l) f e))
step_fault at token.Wide l os f e = wide_fault at l os f (takes_literal l) refl (fault_is (cond (takes_literal l) (fault.WiderNumber at) (fault.BadToken at)) f e)
step_fault at token.OpenText l os f e = text_fault at l os f (takes_literal l) refl (fault_is (cond (takes_literal l) (fault.Unclosed (first_open os at)) (fault.BadToken at)) f e)
step_fault at token.OpenComment l os f e = subst (StepFault at token.OpenComment l os) (fault_is (fault.Unclosed (first_open os at)) f e) (refl, inl refl)
step_fault at token.Faulty l os f e = bad at token.Faulty l os f (other token.Faulty (λ h. cc) (λ h. cc) (λ h. cc) (λ h. cc) (λ h. cc)) (fault_is (fault.BadToken at) f e)
