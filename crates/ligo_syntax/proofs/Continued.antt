-- What stands behind an expression, by what may still go on, the innermost first: one more that may does no harm.
use Rattle.std.proofs.Common.{◌≡◌, ℕ, ◌<◌, ◌≤◌, true, false, List, [], ◌∷◌, length, Option, None, refl, sym, ap, subst, arith, inl, inr, ◌⊎◌}
use Rattle.ligo_tokens.specs.declared.token.Token.{Token}
use Rattle.ligo_tokens.specs.declared.token.Kind.{Kind}
use Rattle.ligo_tokens.specs.declared.token.Kind.TheVariants as kind
use Rattle.ligo_syntax.specs.declared.expr.Expr.{Expr}
use Rattle.ligo_syntax.specs.declared.expr.Arm.{Arm}
use Rattle.ligo_syntax.specs.Kinds.{Tokens, Kinds, next, has, Ends}
use Rattle.ligo_syntax.specs.Rules.{Rule, Repeated, AsMany, Key, IfItCan, greedy}
use Rattle.ligo_syntax.specs.TypeGrammar.{IsType, PatternRule, IsPattern}
use Rattle.ligo_syntax.specs.AtomGrammar.{Part, Condition}
use Rattle.ligo_syntax.specs.ExprGrammar.{ArmRule, IsExpr}
use Rattle.ligo_syntax.proofs.Sets.{by_case, apart_has, within_has}
use Rattle.ligo_syntax.proofs.Carried.{closers}

-- something is read, at every depth that is more than there are tokens
pub record Reads {A : Type 0} (R : ℕ → Rule A) (before after : Tokens) : Type 0 where
  pub shrinks : length after ≤ length before
  pub at : (m : ℕ) → length before < m → (a : A) × R m before a after

-- the same as a rule, without its tree
abbrev pub Reading : {A : Type 0} → (ℕ → Rule A) → Rule (Unit {0})
Reading R before u after = Reads R before after

abbrev pub Conditions : ℕ → Rule Expr
Conditions m = IsExpr m Condition

abbrev pub Parts : ℕ → Rule Expr
Parts m = IsExpr m Part

abbrev pub Arms : ℕ → Rule Arm
Arms m = ArmRule greedy (IsType m) (IsPattern m) (PatternRule (IsPattern m)) (IsExpr m)

-- what may go on: a tuple, a `match`, an `if` without `else`
pub data Slot : Type 0 where
  Tuple : Slot
  Match : Slot
  Branch : Slot

abbrev pub kinds_of : Slot → Kinds
kinds_of Tuple = kind.Comma ∷ []
kinds_of Match = kind.Bar ∷ []
kinds_of Branch = kind.Else ∷ []

-- it takes what it can
abbrev pub Rest : Slot → Tokens → Tokens → Type 0
Rest Tuple before after = (all : List (Unit {0})) × AsMany (kind.Comma ∷ []) (Key kind.Comma (Reading Conditions)) before all after
Rest Match before after = (all : List (Unit {0})) × AsMany (kind.Bar ∷ []) (Key kind.Bar (Reading Arms)) before all after
Rest Branch before after = (other : Option (Unit {0})) × IfItCan (kind.Else ∷ []) (Key kind.Else (Reading Parts)) before other after

-- they do so one after another
abbrev pub Follows : List Slot → Tokens → Tokens → Type 0
Follows [] before after = before ≡ after
Follows (s ∷ slots) before after = (mid : Tokens) × Rest s before mid × Follows slots mid after

-- ---- what one takes

absent : (k : Kind) (t : Token) (ts between : Tokens) → Ends (k ∷ []) ts → ts ≡ t ∷ between → has (k ∷ []) (next (t ∷ between)) ≡ true → ⊥
absent k t ts between e is h = let f : has (k ∷ []) (next (t ∷ between)) ≡ false = subst (λ us. Ends (k ∷ []) us) is e in absurd cc

many_away : {A : Type 0} (k : Kind) (R : Rule A) (ts : Tokens) (all : List A) (mid : Tokens) → Repeated (Key k R) ts all mid → Ends (k ∷ []) ts → ts ≡ mid
many_away k R ts [] mid r e = r
many_away k R ts (a ∷ more) mid r e = let b = (r.1).1 in absurd (absent k ((r.1).0).0 ts b.0 e ((b.1).0) ((b.1).1))

-- nothing, where nothing stands there that it could take
rest_away : (s : Slot) (ts mid : Tokens) → Rest s ts mid → Ends (kinds_of s) ts → ts ≡ mid
rest_away Tuple ts mid r e = many_away kind.Comma (Reading Conditions) ts r.0 mid ((r.1).0) e
rest_away Match ts mid r e = many_away kind.Bar (Reading Arms) ts r.0 mid ((r.1).0) e
rest_away Branch ts mid (other, r) e = by_side r where
  by_side : IfItCan (kind.Else ∷ []) (Key kind.Else (Reading Parts)) ts other mid → ts ≡ mid
  by_side (inl x) = let k = x.1 in let b = k.1 in absurd (absent kind.Else (k.0).0 ts b.0 e ((b.1).0) ((b.1).1))
  by_side (inr x) = (x.0).0

rest_none : (s : Slot) (ts : Tokens) → Ends (kinds_of s) ts → Rest s ts ts
rest_none Tuple ts e = ([], (refl, e))
rest_none Match ts e = ([], (refl, e))
rest_none Branch ts e = (None, inr ((refl, refl), e))

many_shrinks : {A : Type 0} (k : Kind) (R : ℕ → Rule A) (ts : Tokens) (all : List (Unit {0})) (mid : Tokens) → Repeated (Key k (Reading R)) ts all mid → length mid ≤ length ts
many_shrinks k R ts [] mid r = let l = ap length r in omega (arith, l)
many_shrinks k R ts (a ∷ more) mid r =
    let b = (r.1).1 in
    let l = ap length ((b.1).0) in
    let i = (b.2).shrinks in
    let j = many_shrinks k R r.0 more mid (r.2) in
    omega (arith, l, i, j)

pub rest_shrinks : (s : Slot) (ts mid : Tokens) → Rest s ts mid → length mid ≤ length ts
rest_shrinks Tuple ts mid r = many_shrinks kind.Comma Conditions ts r.0 mid ((r.1).0)
rest_shrinks Match ts mid r = many_shrinks kind.Bar Arms ts r.0 mid ((r.1).0)
rest_shrinks Branch ts mid (other, r) = by_side r where
  by_side : IfItCan (kind.Else ∷ []) (Key kind.Else (Reading Parts)) ts other mid → length mid ≤ length ts
  by_side (inl x) = let b = (x.1).1 in let l = ap length ((b.1).0) in let i = (b.2).shrinks in omega (arith, l, i)
  by_side (inr x) = let l = ap length ((x.0).0) in omega (arith, l)

-- ---- one more that may go on

slot_closes : (s : Slot) (ts : Tokens) → Ends closers ts → Ends (kinds_of s) ts
slot_closes Tuple ts e = within_has (kind.Comma ∷ []) closers (next ts) refl e
slot_closes Match ts e = within_has (kind.Bar ∷ []) closers (next ts) refl e
slot_closes Branch ts e = within_has (kind.Else ∷ []) closers (next ts) refl e

-- two are one, or take other kinds
two_slots : (a s : Slot) (ts : Tokens) → has (kinds_of s) (next ts) ≡ true → (a ≡ s) ⊎ Ends (kinds_of a) ts
two_slots Tuple Tuple ts h = inl refl
two_slots Tuple Match ts h = inr (apart_has (kind.Bar ∷ []) (kind.Comma ∷ []) (next ts) refl h)
two_slots Tuple Branch ts h = inr (apart_has (kind.Else ∷ []) (kind.Comma ∷ []) (next ts) refl h)
two_slots Match Tuple ts h = inr (apart_has (kind.Comma ∷ []) (kind.Bar ∷ []) (next ts) refl h)
two_slots Match Match ts h = inl refl
two_slots Match Branch ts h = inr (apart_has (kind.Else ∷ []) (kind.Bar ∷ []) (next ts) refl h)
two_slots Branch Tuple ts h = inr (apart_has (kind.Comma ∷ []) (kind.Else ∷ []) (next ts) refl h)
two_slots Branch Match ts h = inr (apart_has (kind.Bar ∷ []) (kind.Else ∷ []) (next ts) refl h)
two_slots Branch Branch ts h = inl refl

abbrev Taken : Slot → List Slot → Tokens → Tokens → Type 0
Taken s slots ts end = has (kinds_of s) (next ts) ≡ true → (mid : Tokens) × Rest s ts mid × Follows slots mid end

put_first : (s : Slot) (slots : List Slot) (ts end : Tokens) → Taken s slots ts end → Follows slots ts end → Follows (s ∷ slots) ts end
put_first s slots ts end taken f = by_case (has (kinds_of s) (next ts)) (λ is. taken is) (λ is. (ts, rest_none s ts is, f))

-- where one of them takes what stands there, the innermost that can has taken it, and with all of them
-- one can go on
taken : (slots : List Slot) (s : Slot) (ts end : Tokens) → Follows slots ts end → Ends closers end → Taken s slots ts end
taken [] s ts end f e is = let no : has (kinds_of s) (next ts) ≡ false = slot_closes s ts (subst (λ us. Ends closers us) (sym f) e) in absurd cc
taken (a ∷ slots) s ts end f e is = by_slot (λ b us g. taken slots b us end g e) (two_slots a s ts is) where
  by_slot : ((b : Slot) (us : Tokens) → Follows slots us end → Taken b slots us end) → (a ≡ s) ⊎ Ends (kinds_of a) ts → (mid : Tokens) × Rest s ts mid × Follows (a ∷ slots) mid end
  by_slot inner (inl same) = (f.0, subst (λ b. Rest b ts (f.0)) same (f.1), put_first a slots (f.0) end (inner a (f.0) (f.2)) (f.2))
  by_slot inner (inr other) =
      let g : Follows slots ts end = subst (λ us. Follows slots us end) (sym (rest_away a ts (f.0) (f.1) other)) (f.2) in
      let t = inner s ts g is in
      (t.0, t.1, put_first a slots t.0 end (inner a t.0 (t.2)) (t.2))

pub one_more : (s : Slot) (slots : List Slot) (ts end : Tokens) → Follows slots ts end → Ends closers end → Follows (s ∷ slots) ts end
one_more s slots ts end f e = put_first s slots ts end (taken slots s ts end f e) f

-- no dot stands there
pub no_dot : (slots : List Slot) (ts end : Tokens) → Follows slots ts end → Ends closers end → Ends (kind.Dot ∷ []) ts
no_dot [] ts end f e = within_has (kind.Dot ∷ []) closers (next ts) refl (subst (λ us. Ends closers us) (sym f) e)
no_dot (s ∷ slots) ts end f e = by_case (has (kinds_of s) (next ts)) (λ is. not_both s is)
    (λ is. no_dot slots ts end (subst (λ us. Follows slots us end) (sym (rest_away s ts (f.0) (f.1) is)) (f.2)) e) where
      not_both : (s : Slot) → has (kinds_of s) (next ts) ≡ true → Ends (kind.Dot ∷ []) ts
      not_both Tuple is = apart_has (kind.Comma ∷ []) (kind.Dot ∷ []) (next ts) refl is
      not_both Match is = apart_has (kind.Bar ∷ []) (kind.Dot ∷ []) (next ts) refl is
      not_both Branch is = apart_has (kind.Else ∷ []) (kind.Dot ∷ []) (next ts) refl is
