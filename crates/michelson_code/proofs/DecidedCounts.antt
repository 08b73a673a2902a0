-- Whether a stack has fewer items than an instruction takes is decided, and bodies are as many as their starts.
use Rattle.std.proofs.Common.{◌≡◌, ℕ, ◌<◌, List, [], ◌∷◌, length, inl, inr, refl, sym, subst, ◌∙◌, arith}
use Rattle.std.specs.Prelude.{◌⊎◌}
use Rattle.std.specs.List.{AllByRecursion}
use Rattle.std.proofs.lemmas.Bool.{cases_lt}
use Rattle.value_core.specs.declared.ty.Ty.{Ty}
use Rattle.value_core.specs.declared.ty.Ty.TheVariants as type
use Rattle.michelson_code.specs.declared.instr.Instr.TheOpen as one
use Rattle.michelson_code.specs.declared.instr.Instr.TheOpen.{Instr-F}
use Rattle.michelson_code.specs.declared.operands.Line.{Line}
use Rattle.michelson_code.specs.FirstFault.{IsLone, IsShort, for_each_line, lone, without_line, items_taken}
use Rattle.michelson_code.specs.Forms.{bodies, form_at}
use Rattle.michelson_code.specs.Operands.{lines}
use Rattle.michelson_code.specs.Typing.{IsOneOf, Outcome, Runs, Start, slot_list, dip, dip_n, if_true, if_none, if_left, if_cons, loop, loop_left, iter_list, iter_set, iter_map, map_list, map_map, failwith}
use Rattle.michelson_code.proofs.Deciding.{Decided, same_stack}
use Rattle.michelson_code.proofs.OperandCounts.{bare_short}

-- one of two things, each of which is decided, and both
pub either_decided : {P Q : Type 0} → Decided P → Decided Q → Decided (P ⊎ Q)
either_decided (inl p) q = inl (inl p)
either_decided (inr none) (inl q) = inl (inr q)
either_decided (inr none) (inr never) = inr (λ h. elim h [ inl p ↦ none p | inr q ↦ never q ])

pub both_decided : {P Q : Type 0} → Decided P → Decided Q → Decided (P × Q)
both_decided (inl p) (inl q) = inl (p, q)
both_decided (inl p) (inr never) = inr (λ h. never h.1)
both_decided (inr none) q = inr (λ h. none h.0)

pub less_decided : (m n : ℕ) → Decided (m < n)
less_decided m n = elim (cases_lt m n) [ inl less ↦ inl less | inr most ↦ inr (λ less. omega arith) ]

-- each line has more operands than the stack items, or some has not
abbrev AreLonger : List Ty → List Line → Type 0
AreLonger b = AllByRecursion (λ m. length b < length (slot_list m.0))

longer_decided : (b : List Ty) (ls : List Line) → Decided (AreLonger b ls)
longer_decided b [] = inl tt
longer_decided b (l ∷ ls) = both_decided (less_decided (length b) (length (slot_list l.0))) (longer_decided b ls)

module _ {A : Type 0} where
  lone_decided : (x : Instr-F A) (b : List Ty) → Decided (IsLone x b)
  lone_decided one.Concat b = either_decided (same_stack b (type.Text ∷ [])) (same_stack b (type.Bytes ∷ []))
  lone_decided one.Drop b = inr (λ h. h)
  lone_decided x b = inr (λ h. h)

  short_of_lines : (x : Instr-F A) (b : List Ty) (l : Line) (ls : List Line) → lines x ≡ l ∷ ls → Decided (IsShort x b)
  short_of_lines x b l ls are = go (longer_decided b (lines x)) (lone_decided x b)
    where
      go : Decided (AreLonger b (lines x)) → Decided (IsLone x b) → Decided (IsShort x b)
      go (inl all) alone = inl (for_each_line l (subst (IsOneOf l) (sym are) (inl refl)) all)
      go (inr some) (inl alone) = inl (lone alone)
      go (inr some) (inr none) = inr refuse
        where
          refuse : IsShort x b → ⊥
          refuse (for_each_line m is all) = some all
          refuse (lone alone) = none alone
          refuse (without_line no_lines less) = let clash : l ∷ ls ≡ [] = sym are ∙ no_lines in cc

  short_without : (x : Instr-F A) (b : List Ty) → lines x ≡ [] → Decided (IsShort x b)
  short_without x b none = elim (less_decided (length b) (items_taken x)) [
    | inl less ↦ inl (without_line none less)
    | inr enough ↦ inr (λ short. enough (bare_short x b none short))
  ]

  by_count : (x : Instr-F A) (b : List Ty) (ls : List Line) → lines x ≡ ls → Decided (IsShort x b)
  by_count x b [] are = short_without x b are
  by_count x b (l ∷ ls) are = short_of_lines x b l ls are

  -- whether the stack is too short
  pub short_decided : (x : Instr-F A) (b : List Ty) → Decided (IsShort x b)
  short_decided x b = by_count x b (lines x) refl

  -- a start for each body
  pub as_many : (x : Instr-F A) (b : List Ty) (st : List Start) (es : List Outcome) (o : Outcome) → Runs x b st es o → length (bodies (form_at x).operands) ≡ length st
  as_many x b st es o (dip c a u v) = refl
  as_many x b st es o (dip_n n c items u v long) = refl
  as_many x b st es o (if_true c d u e f p j) = refl
  as_many x b st es o (if_none c d a u e f p j) = refl
  as_many x b st es o (if_left c d l r u e f p j) = refl
  as_many x b st es o (if_cons c d a u e f p j) = refl
  as_many x b st es o (loop c u e q) = refl
  as_many x b st es o (loop_left c l r u e q) = refl
  as_many x b st es o (iter_list c a u e q) = refl
  as_many x b st es o (iter_set c a u e q) = refl
  as_many x b st es o (iter_map c k v u e q) = refl
  as_many x b st es o (map_list c a r u) = refl
  as_many x b st es o (map_map c k v r u) = refl
  as_many x b st es o (failwith a u may) = refl
