-- What goes on: what is so of a run's end, and values that still belong where there are more versions.
use Rattle.std.proofs.Common.{◌≡◌, ℕ, zero, suc, ◌≤◌, List, [], ◌∷◌, ◌++◌, length, refl, ap, sym, subst, ◌∙◌, arith}
use Rattle.value_core.specs.declared.ty.Ty.{Ty}
use Rattle.value_core.specs.declared.val.Val.{Val}
use Rattle.michelson_code.specs.Typing.{Outcome, To, Fails}
use Rattle.michelson_rules.specs.Bodies.{Meaning}
use Rattle.michelson_rules.specs.Runs.{Beside, Changes, Ending, Failed, Missed, Return, Run, changes_of, go_on, in_a_turn, then_do, with_turns}
use Rattle.michelson_rules.specs.TypedRuns.{EndsSo, Follows, Goes, Leaves}
use Rattle.michelson_rules.specs.TypedValues.{AllBelong, AreChangesOf, Belongs, Standing, StandsRight, standing}
use Rattle.michelson_rules.proofs.Alls.{all_weaker}
use lib.ListN.{length-append, get_or-append}
use Rattle.std.proofs.lemmas.List.{append-nil, append_assoc}

-- ---- ends

module _ {A : Type 0} (P : A → Beside → Type 0) where
  pub ends_weaker : (Q : A → Beside → Type 0) → ((a : A) (b : Beside) → P a b → Q a b) → (e : Ending A) → EndsSo P e → EndsSo Q e
  ends_weaker Q weaker (Return a b) so = weaker a b so
  ends_weaker Q weaker (Failed y) so = so
  ends_weaker Q weaker Missed so = absurd so

  pub ends_then : {B : Type 0} (Q : B → Beside → Type 0) (e : Ending A) (next : A → Beside → Run B) → EndsSo P e →
      ((a : A) (b : Beside) → P a b → EndsSo Q (next a b).ending) → EndsSo Q (go_on e next).ending
  ends_then Q (Return a b) next so goes = goes a b so
  ends_then Q (Failed y) next so goes = so
  ends_then Q Missed next so goes = absurd so

  ends_with_turns : (n : ℕ) (versions : List Changes) (body : Beside → Run A) → ((t : ℕ) → n ≡ suc t → EndsSo P (body (record { turns = t; versions = versions })).ending) →
      EndsSo P (with_turns n versions body).ending
  ends_with_turns zero versions body goes = tt
  ends_with_turns (suc n) versions body goes = goes n refl

  -- a body that starts for a turn
  pub ends_in_a_turn : (beside : Beside) (body : Beside → Run A) →
      ((t : ℕ) → beside.turns ≡ suc t → EndsSo P (body (record { turns = t; versions = beside.versions })).ending) → EndsSo P (in_a_turn body beside).ending
  ends_in_a_turn beside body goes = ends_with_turns beside.turns beside.versions body goes

-- ---- what comes after

pub follows_itself : (b : Beside) → Follows b b
follows_itself b = record { turns = omega arith; later = []; versions = sym (append-nil b.versions) }

pub follows_on : (a b c : Beside) → Follows a b → Follows b c → Follows a c
follows_on a b c first next = record {
  turns = omega (arith, first.turns, next.turns);
  later = first.later ++ next.later;
  versions = next.versions ∙ ap (λ (vs : List Changes). vs ++ next.later) first.versions ∙ append_assoc a.versions first.later next.later;
}

-- after a turn
pub follows_turn : (a : Beside) (t : ℕ) (c : Beside) → a.turns ≡ suc t → Follows (record { turns = t; versions = a.versions }) c → Follows a c
follows_turn a t c is next = record { turns = omega (arith, is, next.turns); later = next.later; versions = next.versions }

-- ---- versions

pub changes_stay : (n : ℕ) (versions later : List Changes) → n ≤ length versions → changes_of n (versions ++ later) ≡ changes_of n versions
changes_stay zero versions later few = refl
changes_stay (suc n) versions later few = get_or-append versions later [] n (omega (arith, few))

module _ (maps : List (Ty × Ty)) where
  stands_later : (versions later : List Changes) (m : Standing) → StandsRight maps versions m → StandsRight maps (versions ++ later) m
  stands_later versions later m right = record {
    types = right.types;
    exists = omega (arith, right.exists, length-append versions later);
    changes = subst (AreChangesOf m.key m.item) (sym (changes_stay m.version versions later right.exists)) right.changes;
  }

  -- a big map stands right also where there are more versions
  pub stands_right_later : (a b : Beside) (m : Standing) → Follows a b → StandsRight maps a.versions m → StandsRight maps b.versions m
  stands_right_later a b m next right = subst (λ (vs : List Changes). StandsRight maps vs m) (sym next.versions) (stands_later a.versions next.later m right)

  belongs_behind : (versions later : List Changes) (v : Val) (t : Ty) → Belongs maps versions v t → Belongs maps (versions ++ later) v t
  belongs_behind versions later v t has = record {
    typed = has.typed;
    big_maps = all_weaker (StandsRight maps versions) (StandsRight maps (versions ++ later)) (stands_later versions later) (standing v t) has.big_maps;
  }

  -- a value belongs to its type also where there are more versions
  pub belongs_later : (a b : Beside) (v : Val) (t : Ty) → Follows a b → Belongs maps a.versions v t → Belongs maps b.versions v t
  belongs_later a b v t next has = subst (λ (vs : List Changes). Belongs maps vs v t) (sym next.versions) (belongs_behind a.versions next.later v t has)

  pub all_belong_later : (a b : Beside) (vs : List Val) (ts : List Ty) → Follows a b → AllBelong maps a.versions vs ts → AllBelong maps b.versions vs ts
  all_belong_later a b [] [] next all = tt
  all_belong_later a b (v ∷ vs) (t ∷ ts) next all = (belongs_later a b v t next all.0, all_belong_later a b vs ts next all.1)
  all_belong_later a b [] (t ∷ ts) next all = absurd all
  all_belong_later a b (v ∷ vs) [] next all = absurd all

  pub leaves_on : (a b : Beside) (o : Outcome) (stack : List Val) (c : Beside) → Follows a b → Leaves maps b o stack c → Leaves maps a o stack c
  leaves_on a b (To ts) stack c first leaves = (follows_on a b c first leaves.0, leaves.1)
  leaves_on a b Fails stack c first leaves = absurd leaves

  pub ends_on : (a b : Beside) (o : Outcome) (e : Ending (List Val)) → Follows a b → EndsSo (Leaves maps b o) e → EndsSo (Leaves maps a o) e
  ends_on a b o e first so = ends_weaker (Leaves maps b o) (Leaves maps a o) (λ stack c leaves. leaves_on a b o stack c first leaves) e so

  -- a code that fails on each way ends in any way that is asked for
  pub goes_anywhere : (from : List Ty) (o : Outcome) (m : Meaning) → Goes maps from Fails m → Goes maps from o m
  goes_anywhere from o m goes stack beside has = ends_weaker (Leaves maps beside Fails) (Leaves maps beside o) (λ s b none. absurd none) (m stack beside).ending (goes stack beside has)

  -- one after another
  pub goes_then : (from between : List Ty) (o : Outcome) (m n : Meaning) → Goes maps from (To between) m → Goes maps between o n → Goes maps from o (λ stack beside. then_do (m stack beside) n)
  goes_then from between o m n first next stack beside has =
      ends_then (Leaves maps beside (To between)) (Leaves maps beside o) (m stack beside).ending n (first stack beside has)
      (λ s b leaves. ends_on beside b o (n s b).ending leaves.0 (next s b leaves.1))
