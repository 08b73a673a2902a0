-- Calls of typed scripts: nothing is missed, and what is returned is typed.
use Rattle.std.proofs.Common.{◌≡◌, ◌∷◌, [], List, Bool, true, false, ap}
use Rattle.std.specs.Prelude.{◌&&◌, nat_lt, nat_le, length, Some, if◌then◌else◌}
use Rattle.std.specs.List.{flat_map}
use Rattle.std.specs.Option.{option_map}
use Rattle.value_core.specs.declared.ty.Ty.{Ty}
use Rattle.value_core.specs.declared.ty.Ty.TheOpen as ty
use Rattle.value_core.specs.declared.ty.Ty.TheVariants as type
use Rattle.value_core.specs.declared.val.Val.{Val}
use Rattle.value_core.specs.declared.val.Val.TheOpen as is
use Rattle.value_core.specs.declared.val.Val.TheVariants as value
use Rattle.value_core.specs.declared.val.Val.TheViews.{out-Val}
use Rattle.value_core.specs.BigMaps.{big_maps_of}
use Rattle.value_core.specs.Layer.{Layer}
use Rattle.value_core.specs.TypeLevels.{shows_pair}
use Rattle.value_core.proofs.Bools.{first_true, second_true}
use Rattle.michelson_code.specs.declared.script.Script.{Script}
use Rattle.michelson_code.specs.declared.why.Why.{Why}
use Rattle.michelson_code.specs.declared.why.Why.TheVariants as why
use Rattle.michelson_code.specs.Typing.{To}
use Rattle.michelson_code.specs.TypedScript.{first_stack, last_stack}
use Rattle.michelson_code.specs.WrittenTypes.{has_passable_values, has_placed_big_maps}
use Rattle.michelson_rules.specs.declared.ask.Budget.{Budget}
use Rattle.michelson_rules.specs.declared.ask.Env.{Env}
use Rattle.michelson_rules.specs.Metered.{Ended, NeverMisses, less_a_turn, less_gas, less_room, metered, run_of, script_outcome}
use Rattle.michelson_rules.specs.Returned.{Returned, big_maps_in, changes_in, in_order, of_pair, unversioned}
use Rattle.michelson_rules.specs.Rules.{charges, rules as rules_of}
use Rattle.michelson_rules.specs.Runs.{Beside, Changes, Charge, Ending, Failed, Look, Mark, Missed, Return, Take, Turn}
use Rattle.michelson_rules.specs.TypedRuns.{EndsSo, IsCodeCause, Leaves}
use Rattle.michelson_rules.specs.TypedScripts.{IsTypedCall, IsTypedReturn, ReturnsTyped, WhereFailed, WhereReturned}
use Rattle.michelson_rules.specs.TypedValues.{AllBelong, Belongs}
use Rattle.michelson_rules.specs.World.{World}
use Rattle.michelson_rules.proofs.Belonging.{FitsHere, level_of}
use Rattle.michelson_rules.proofs.BegunTyped.{pair_belongs, storage_belongs}
use Rattle.michelson_rules.proofs.Alls.{all_weaker}
use Rattle.michelson_rules.proofs.ChangedOnce.{Ascends, changed_once}
use Rattle.michelson_rules.proofs.Following.{ends_weaker}
use Rattle.michelson_rules.proofs.KeptTypes.{items_pass}
use Rattle.michelson_rules.proofs.ReturnedTyped.{IsOfPlace, Settles, all_changes, all_in_order, in_order_ascends, ops_are, puts}
use Rattle.michelson_rules.proofs.TypedBodies.{ends_with}
use Rattle.michelson_rules.proofs.TypedCodes.{typed_code_goes}

-- ---- metering

module _ {A : Type 0} (P : A → Beside → Type 0) where
  never_cut : (a : Bool) (left less : Budget) (marks : List Mark) (e : Ending A) (y : Why) → NeverMisses (metered less marks e) →
      NeverMisses (if a then Ended (Failed y) left else metered less marks e)
  never_cut true left less marks e y never = tt
  never_cut false left less marks e y never = never

  -- what ends without a miss is cut without one
  pub metered_never_misses : (left : Budget) (marks : List Mark) (e : Ending A) → EndsSo P e → NeverMisses (metered left marks e)
  metered_never_misses left [] (Return a b) so = tt
  metered_never_misses left [] (Failed y) so = tt
  metered_never_misses left [] Missed so = absurd so
  metered_never_misses left (Charge n ∷ marks) e so = never_cut (nat_lt left.gas n) left (less_gas left n) marks e _ (metered_never_misses (less_gas left n) marks e so)
  metered_never_misses left (Turn ∷ marks) e so = metered_never_misses (less_a_turn left) marks e so
  metered_never_misses left (Look a ∷ marks) e so = metered_never_misses left marks e so
  metered_never_misses left (Take n ∷ marks) e so = never_cut (nat_lt left.room n) left (less_room left n) marks e _ (metered_never_misses (less_room left n) marks e so)

  returned_cut : (a : Bool) (left less : Budget) (marks : List Mark) (e : Ending A) (y : Why) → WhereReturned P (metered less marks e) →
      WhereReturned P (if a then Ended (Failed y) left else metered less marks e)
  returned_cut true left less marks e y so = tt
  returned_cut false left less marks e y so = so

  -- what is returned is what the run returns
  pub metered_returns : (left : Budget) (marks : List Mark) (e : Ending A) → EndsSo P e → WhereReturned P (metered left marks e)
  metered_returns left [] (Return a b) so = so
  metered_returns left [] (Failed y) so = tt
  metered_returns left [] Missed so = tt
  metered_returns left (Charge n ∷ marks) e so = returned_cut (nat_lt left.gas n) left (less_gas left n) marks e _ (metered_returns (less_gas left n) marks e so)
  metered_returns left (Turn ∷ marks) e so = metered_returns (less_a_turn left) marks e so
  metered_returns left (Look a ∷ marks) e so = metered_returns left marks e so
  metered_returns left (Take n ∷ marks) e so = returned_cut (nat_lt left.room n) left (less_room left n) marks e _ (metered_returns (less_room left n) marks e so)

  failed_cut : (a : Bool) (left less : Budget) (marks : List Mark) (e : Ending A) (y : Why) → IsCodeCause y → WhereFailed IsCodeCause (metered less marks e) →
      WhereFailed IsCodeCause (if a then Ended (Failed y) left else metered less marks e)
  failed_cut true left less marks e y cause so = cause
  failed_cut false left less marks e y cause so = so

  -- what fails does so for such a cause
  pub metered_fails : (left : Budget) (marks : List Mark) (e : Ending A) → EndsSo P e → WhereFailed IsCodeCause (metered left marks e)
  metered_fails left [] (Return a b) so = tt
  metered_fails left [] (Failed y) so = so
  metered_fails left [] Missed so = tt
  metered_fails left (Charge n ∷ marks) e so = failed_cut (nat_lt left.gas n) left (less_gas left n) marks e why.OutOfGas tt (metered_fails (less_gas left n) marks e so)
  metered_fails left (Turn ∷ marks) e so = metered_fails (less_a_turn left) marks e so
  metered_fails left (Look a ∷ marks) e so = metered_fails left marks e so
  metered_fails left (Take n ∷ marks) e so = failed_cut (nat_lt left.room n) left (less_room left n) marks e why.TooMuchData tt (metered_fails (less_room left n) marks e so)

-- ---- the run of a script

module _ (s : Script) (env : Env) (w : World) (param storage : Val) (call : IsTypedCall s env w param storage) where
  abbrev maps : List (Ty × Ty)
  maps = big_maps_of s.storage

  -- the big maps of the storage are placed, and their items passable
  both : (has_placed_big_maps s.storage && has_passable_values s.storage) ≡ true
  both = first_true (has_placed_big_maps s.storage && has_passable_values s.storage) (nat_le (length maps) 16) call.script.big_maps

  placed : has_placed_big_maps s.storage ≡ true
  placed = first_true (has_placed_big_maps s.storage) (has_passable_values s.storage) both

  passable : has_passable_values s.storage ≡ true
  passable = second_true (has_placed_big_maps s.storage) (has_passable_values s.storage) both

  first_belongs : AllBelong maps [] (value.Pair param storage ∷ []) (first_stack s)
  first_belongs = (
    pair_belongs s.param s.storage param storage call.script.param call.param_typed
        (storage_belongs s.storage storage call.script.storage placed call.storage_typed call.places call.settled),
    tt,
  )

  -- ---- what is returned

  made_typed : (versions : List Changes) (ops kept : Val) → Belongs maps versions ops (type.List type.Operation) → Belongs maps versions kept s.storage →
      (r : Returned) × (of_pair versions (is.Pair ops kept) ≡ Some r) × IsTypedReturn s r
  made_typed versions ops kept emitted belongs =
      let emits = ops_are maps versions ops emitted in
      let settles : Settles maps versions kept s.storage = puts maps versions s.storage call.script.storage placed kept belongs in (
        record { ops = emits.0; storage = unversioned kept; changes = in_order (flat_map (changes_in versions) (big_maps_in kept)) },
        ap (option_map (λ found. record { ops = found; storage = unversioned kept; changes = in_order (flat_map (changes_in versions) (big_maps_in kept)) })) emits.1,
        record {
          storage = settles.typed;
          plain = settles.plain;
          ascending = in_order_ascends (flat_map (changes_in versions) (big_maps_in kept));
          changes = all_in_order _ (flat_map (changes_in versions) (big_maps_in kept)) (all_changes maps versions (big_maps_in kept) settles.places);
          once = changed_once versions s.storage kept call.script.storage placed belongs.typed
              (all_weaker (IsOfPlace maps versions) (Ascends versions) (λ m of_place. of_place.3.ascending) (big_maps_in kept) settles.places);
          ops = emits.2;
        },
      )

  pair_typed : (versions : List Changes) (x : Layer Val) → FitsHere maps versions x (ty.Pair (type.List type.Operation) s.storage) →
      (r : Returned) × (of_pair versions x ≡ Some r) × IsTypedReturn s r
  pair_typed versions (is.Pair ops kept) fit = made_typed versions ops kept fit.0 fit.1
  pair_typed versions _ fit = absurd fit

  returns_typed : (stack : List Val) (b : Beside) → AllBelong maps b.versions stack (last_stack s) → ReturnsTyped s stack b
  returns_typed [] b has = absurd has
  returns_typed (v ∷ u ∷ stack) b has = absurd has.1
  returns_typed (v ∷ []) b has =
      pair_typed b.versions (out-Val v) (level_of maps b.versions v (ty.Pair (type.List type.Operation) s.storage) (type.Pair (type.List type.Operation) s.storage) (shows_pair (type.List type.Operation) s.storage) has.0)

  -- ---- the laws

  pub run_ends : (left : Budget) → EndsSo (ReturnsTyped s) (run_of s env w left param storage).ending
  run_ends left =
      let start : Beside = record { turns = left.turns; versions = [] } in
      let code = call.script.ends in
      ends_weaker (Leaves maps start (To (last_stack s))) (ReturnsTyped s) (λ stack b leaves. returns_typed stack b leaves.1)
      (rules_of charges s env w s.code (value.Pair param storage ∷ []) start).ending
      (ends_with maps (first_stack s) (last_stack s) code.0 (rules_of charges s env w s.code) code.1.1
      (typed_code_goes maps charges s env w call.maps call.range (items_pass s.storage passable) 0 s.code (first_stack s) code.0 code.1.0)
      (value.Pair param storage ∷ []) start first_belongs)

  pub never_misses : (left : Budget) → NeverMisses (script_outcome s env w left param storage)
  never_misses left = metered_never_misses (ReturnsTyped s) left (run_of s env w left param storage).marks (run_of s env w left param storage).ending (run_ends left)

  pub returned_typed : (left : Budget) → WhereReturned (ReturnsTyped s) (script_outcome s env w left param storage)
  returned_typed left = metered_returns (ReturnsTyped s) left (run_of s env w left param storage).marks (run_of s env w left param storage).ending (run_ends left)

  pub failed_typed : (left : Budget) → WhereFailed IsCodeCause (script_outcome s env w left param storage)
  failed_typed left = metered_fails (ReturnsTyped s) left (run_of s env w left param storage).marks (run_of s env w left param storage).ending (run_ends left)
