-- What is read where some depth is left.
use Rattle.std.proofs.Common.{◌≡◌, ℕ, suc, refl}
use Rattle.micheline_text.specs.Told.{IsTold}
use Rattle.ligo_syntax.specs.declared.fault.Stop.{Stop}
use Rattle.ligo_syntax.specs.declared.fault.Stop.TheVariants as stop
use Rattle.ligo_syntax.specs.AtomGrammar.{Whole}
use Rattle.ligo_syntax.specs.Kinds.{Tokens}
use Rattle.ligo_syntax.specs.Phrases.{stopped}
use Rattle.ligo_syntax.specs.TypeReading.{pattern_at, pattern_rule, Several, Single, arm_pattern_at, arm_pattern_rule}
use Rattle.ligo_syntax.specs.ExprReading.{form_at, arm_at, arm_rule}

-- the first pattern of some fails
pub pattern_fails : (e : Stop) (d k : ℕ) (ts : Tokens) → d ≡ suc k → IsTold (stopped e) (pattern_rule (pattern_at k Several) ts) → IsTold (stopped e) (pattern_at d Several ts)
pattern_fails stop.NoMemory d k ts is h = tt
pattern_fails (stop.Unexpected x n) d k ts is h = rw (is, h) refl
pattern_fails (stop.TooDeep n) d k ts is h = rw (is, h) refl

pub arm_pattern_is : (d k : ℕ) (ts : Tokens) → d ≡ suc k → arm_pattern_at d ts ≡ arm_pattern_rule (pattern_at k Single) ts
arm_pattern_is d k ts is = rw is refl

pub arm_is : (d k : ℕ) (ts : Tokens) → d ≡ suc k → arm_at d ts ≡ arm_rule k (form_at k Whole) ts
arm_is d k ts is = rw is refl
