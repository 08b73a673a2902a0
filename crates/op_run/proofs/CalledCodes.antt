-- A code that is called on cells that fit the book misses nothing, and what it returns may be kept.
use Rattle.std.proofs.Common.{◌≡◌, ℕ, ◌<◌, ◌^◌, true, ◌&&◌, List, [], ◌∷◌, ◌++◌, map, Option, Some, None, refl, sym, subst, ◌∙◌, arith, rules}
use Rattle.std.specs.Prelude.{IsTrue, nat_lt, slice_get}
use Rattle.std.specs.List.{AllByRecursion}
use Rattle.std.specs.FinMap.{get}
use Rattle.std.proofs.Math.Logic.{∥∥₁_elim, ∥∥₁_map}
use Rattle.value_core.specs.declared.ty.Ty.{Ty}
use Rattle.value_core.specs.declared.val.Emit.{Emit}
use Rattle.value_core.specs.declared.val.Val.{Val}
use Rattle.value_core.specs.declared.val.Val.TheOpen as one
use Rattle.value_core.specs.declared.val.Val.TheViews.{out-Val}
use Rattle.value_core.specs.Layer.{Layer}
use Rattle.value_core.specs.BigMaps.{big_maps_of, is_placed}
use Rattle.value_core.specs.Settled.{is_settled}
use Rattle.value_core.specs.Sound.{is_plain, is_sound}
use Rattle.value_core.specs.Typed.{has_type}
use Rattle.value_core.proofs.Bools.{both_true, first_true, second_true}
use Rattle.value_core.proofs.SettledLemmas.{plain-and}
use Rattle.value_core.proofs.TypeEquations.{has_type-operation}
use Rattle.michelson_code.specs.declared.script.Script.{Script}
use Rattle.michelson_code.specs.TypedScript.{IsTypedScript}
use Rattle.michelson_rules.specs.declared.ask.Budget.{Budget}
use Rattle.michelson_rules.specs.declared.ask.Env.{Env}
use Rattle.michelson_rules.specs.Metered.{Asked, Ended, NeverMisses, Outcome, script_outcome}
use Rattle.michelson_rules.specs.Returned.{Change, Returned}
use Rattle.michelson_rules.specs.Runs.{Failed, Missed, Return}
use Rattle.michelson_rules.specs.TypedScripts.{IsChangeIn, IsEmitted, IsTypedCall, IsTypedReturn}
use Rattle.michelson_rules.specs.TypedValues.{FitsMaps}
use Rattle.michelson_rules.proofs.ScriptRuns.{never_misses, returned_typed}
use Rattle.cell_names.specs.declared.cell.Cell.TheVariants as cell
use Rattle.cell_names.specs.Contents.{Contents, amount_in, amount_level}
use Rattle.code_book.specs.Books.{Contracts}
use Rattle.code_book.specs.Fits.{fits, fits_big_map, fits_entry, fits_storage, fits_write, is_balance_level, is_kept_as}
use Rattle.op_rules.specs.declared.transfer.Transfer.{Transfer}
use Rattle.op_rules.specs.Operations.{sent_by}
use Rattle.op_rules.specs.Worlds.{map_at, world_of}
use Rattle.op_rules.proofs.MapCells.{get-map_at}
use Rattle.op_run.specs.Safe.{Behaves, ChangesFit, IsMoney}
use Rattle.op_run.specs.Steps.{AllFit}

-- ---- the world of a contract

-- a value that fits a balance is below 2^63
level_below : (x : Layer Val) → is_balance_level x ≡ true → amount_level x < 2 ^ 63
level_below (one.Mutez n) e = let below : nat_lt n (2 ^ 63) ≡ true = second_true (nat_lt 0 n) (nat_lt n (2 ^ 63)) e in search (rules, below)
level_below _ e = absurd cc

amount_below : (book : Contracts) (a : List ℕ) (o : Option Val) → ((v : Val) → o ≡ Some v → fits book (cell.Balance a) v ≡ true) → amount_in o < 2 ^ 63
amount_below book a None all = omega arith
amount_below book a (Some v) all = level_below (out-Val v) (second_true _ _ (all v refl))

module _ (book : Contracts) (m : Contents) (all : AllFit book m) (self : List ℕ) (s : Script) (contract : get book self ≡ Some s) where
  entry_typed : (place : ℕ) (k t : Ty) (key v : Val) → slice_get (big_maps_of s.storage) place ≡ Some (k, t) → get (map_at m self place) key ≡ Some v →
      (has_type key k && has_type v t) ≡ true
  entry_typed place k t key v types there =
      let fit : fits_entry (get book self) place key v ≡ true = all (cell.Entry self place key) v (sym (get-map_at m self place key) ∙ there) in
      let here : fits_big_map (slice_get (big_maps_of s.storage) place) key v ≡ true = subst (λ (o : Option Script). fits_entry o place key v ≡ true) contract fit in
      subst (λ (o : Option (Ty × Ty)). fits_big_map o key v ≡ true) types here

  pub maps_fit : FitsMaps (big_maps_of s.storage) (world_of book m self)
  maps_fit = record {
    entries = λ place k t key v types there.
        let both = entry_typed place k t key v types there in
        (first_true (has_type key k) (has_type v t) both, second_true (has_type key k) (has_type v t) both);
    balance = amount_below book self (get m (cell.Balance self)) (all (cell.Balance self));
  }

  module _ (env : Env) (param stored : Val) (typed : IsTrue (has_type param s.param)) (kept : is_kept_as s.storage stored ≡ true) (money : env.amount < 2 ^ 63) where
    is_call : IsTypedScript s → IsTypedCall s env (world_of book m self) param stored
    is_call script =
        let plain = first_true (is_plain stored) (has_type stored s.storage && is_placed stored s.storage) kept in
        let both = second_true (is_plain stored) (has_type stored s.storage && is_placed stored s.storage) kept in
        record {
          script = script;
          param_typed = typed;
          storage_typed = first_true (has_type stored s.storage) (is_placed stored s.storage) both;
          places = second_true (has_type stored s.storage) (is_placed stored s.storage) both;
          settled = first_true (is_settled stored) (is_sound stored) (plain-and stored ∙ plain);
          range = record { amount = money };
          maps = maps_fit;
        }

    never_prop : {A : Type 0} (o : Outcome A) → IsProp (NeverMisses o)
    never_prop (Ended (Return a beside) left) = hlevel
    never_prop (Ended (Failed y) left) = hlevel
    never_prop (Ended Missed left) = hlevel
    never_prop (Asked a left more) = never_prop more

    -- the code of a contract behaves
    pub behaves : ∥ IsTypedScript s ∥₁ → (left : Budget) → Behaves s (script_outcome s env (world_of book m self) left param stored)
    behaves script left =
        let o = script_outcome s env (world_of book m self) left param stored in
        record {
          never = ∥∥₁_elim script (never_prop o) (λ typed_script. never_misses s env (world_of book m self) param stored (is_call typed_script) left);
          returned = ∥∥₁_map script (λ typed_script. returned_typed s env (world_of book m self) param stored (is_call typed_script) left);
        }

-- ---- what is returned

module _ (book : Contracts) (self : List ℕ) (s : Script) (contract : get book self ≡ Some s) where
  change_fits : (place : ℕ) (key : Val) (choice : Option Val) → IsChangeIn (big_maps_of s.storage) (place, key, choice) → fits_write book (cell.Entry self place key) choice ≡ true
  change_fits place key None h = refl
  change_fits place key (Some v) h =
      let typed : (has_type key h.0 && has_type v h.1) ≡ true = both_true (has_type key h.0) (has_type v h.1) h.3.0 h.3.1 in
      subst (λ (o : Option Script). fits_entry o place key v ≡ true) (sym contract)
      (subst (λ (o : Option (Ty × Ty)). fits_big_map o key v ≡ true) (sym h.2) typed)

  pub changes_fit : (changes : List Change) → AllByRecursion (IsChangeIn (big_maps_of s.storage)) changes → ChangesFit book self changes
  changes_fit [] h = h
  changes_fit ((place, key, choice) ∷ changes) h = (change_fits place key choice h.0, changes_fit changes h.1)

  pub storage_fits : (r : Returned) → IsTypedReturn s r → is_placed r.storage s.storage ≡ true → fits_write book (cell.Storage self) (Some r.storage) ≡ true
  storage_fits r typed placed =
      subst (λ (o : Option Script). fits_storage o r.storage ≡ true) (sym contract)
      (both_true (is_plain r.storage) (has_type r.storage s.storage && is_placed r.storage s.storage) typed.plain
      (both_true (has_type r.storage s.storage) (is_placed r.storage s.storage) typed.storage placed))

emitted_money : (emit : Emit) → IsEmitted emit → emit.amount < 2 ^ 63
emitted_money emit typed =
    let both : (nat_lt emit.amount (2 ^ 63) && is_sound emit.param) ≡ true = sym (has_type-operation emit) ∙ typed in
    let below : nat_lt emit.amount (2 ^ 63) ≡ true = first_true (nat_lt emit.amount (2 ^ 63)) (is_sound emit.param) both in
    search (rules, below)

pub emits_money : (self : List ℕ) (ops : List Emit) (pending : List Transfer) → AllByRecursion IsEmitted ops → AllByRecursion IsMoney pending →
    AllByRecursion IsMoney (map (sent_by self) ops ++ pending)
emits_money self [] pending h k = k
emits_money self (emit ∷ ops) pending h k = (emitted_money emit h.0, emits_money self ops pending h.1 k)
