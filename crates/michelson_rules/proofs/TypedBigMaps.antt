-- Big maps, `BALANCE` and `CONTRACT`: what the ledger answers and what a version has belongs to the types of the place.
use Rattle.std.proofs.Common.{◌≡◌, ℕ, suc, ◌^◌, Bool, true, false, cond, List, [], ◌∷◌, ◌++◌, length, refl, sym, subst, ◌∙◌, arith, lt-ltb, rules}
use Rattle.std.specs.Prelude.{IsTrue, is_some, if◌then◌else◌, Option, Some, None, ⊤}
use Rattle.std.specs.List.{AllByRecursion, slice_get}
use Rattle.std.specs.FinMap.{get}
use Rattle.std.specs.FinMap.Entries.{by_order, is_sorted, is_sorted-put}
use Rattle.std.specs.Ordering.{eq_by_cmp}
use Rattle.std.specs.declared.cmp.Ordering.TheVariants.{Less, Equal, Greater}
use Rattle.value_core.specs.declared.ty.Ty.{Ty}
use Rattle.value_core.specs.declared.ty.Ty.TheOpen as ty
use Rattle.value_core.specs.declared.ty.Ty.TheVariants as type
use Rattle.value_core.specs.declared.ty.Ty.TheViews.{the_lemmas}
use Rattle.value_core.specs.declared.val.Val.{Val}
use Rattle.value_core.specs.declared.val.Val.TheOpen as is
use Rattle.value_core.specs.declared.val.Val.TheVariants as value
use Rattle.value_core.specs.declared.val.Val.TheViews.{out-Val}
use Rattle.value_core.specs.Kinds.{is_passable}
use Rattle.value_core.specs.Layer.{Layer}
use Rattle.value_core.specs.Order.{order}
use Rattle.value_core.specs.Sorted.{find, keys_of, put}
use Rattle.value_core.specs.Sound.{ascends}
use Rattle.value_core.specs.Typed.{has_type}
use Rattle.value_core.proofs.Bools.{T_of, true_of}
use Rattle.value_core.proofs.SortedValues.{ascends-keys, total}
use Rattle.michelson_code.specs.Typing.{Outcome, To}
use Rattle.michelson_rules.specs.Answers.{Answered}
use Rattle.michelson_rules.specs.BigMaps.{Keyed, change_on_top, changed_or_asked, key_on_top, keyed, looked_up, with_change, with_choice}
use Rattle.michelson_rules.specs.Bodies.{on_top}
use Rattle.michelson_rules.specs.Collections.{chosen, option}
use Rattle.michelson_rules.specs.Rules.{balance, changed_map, changed_map_with_old, contract, looked_up_as, or_plain}
use Rattle.michelson_rules.specs.Runs.{Beside, Changes, Return, Run, changes_of, ends, then_do}
use Rattle.michelson_rules.specs.TypedRuns.{EndsSo, Follows, Goes, Leaves}
use Rattle.michelson_rules.specs.TypedValues.{AllBelong, AreChangesOf, Belongs, FitsMaps, HasPassableItems, IsChangeOf}
use Rattle.michelson_rules.specs.World.{World}
use Rattle.michelson_rules.proofs.BelongByLevels.{BigMapBelongs}
use Rattle.michelson_rules.proofs.Belonging.{FitsHere, level_of, of_level, typing}
use Rattle.michelson_rules.proofs.Following.{all_belong_later, belongs_later, ends_then, follows_itself, follows_on, stands_right_later}
use Rattle.michelson_rules.proofs.TypedLevelLaws.{passes_over}
use Rattle.michelson_rules.proofs.TypedBodies.{on_top_goes}
use lib.ListN.{length-append}
use lib.Seq.{get_or-append_seam}

-- ---- changes

-- what a version has at a key has the type
abbrev ChoiceHas : Ty → Option Val → Type 0
ChoiceHas t None = ⊤
ChoiceHas t (Some v) = IsTrue (has_type v t)

abbrev FoundHas : Ty → Option (Option Val) → Type 0
FoundHas t None = ⊤
FoundHas t (Some choice) = ChoiceHas t choice

choice_of_change : (k t : Ty) (e : Val × Option Val) → IsChangeOf k t e → ChoiceHas t e.1
choice_of_change k t (key, None) has = tt
choice_of_change k t (key, Some v) has = has.1

key_of_change : (k t : Ty) (e : Val × Option Val) → IsChangeOf k t e → IsTrue (has_type e.0 k)
key_of_change k t (key, None) has = has
key_of_change k t (key, Some v) has = has.0

change_of : (k t : Ty) (key : Val) (choice : Option Val) → IsTrue (has_type key k) → ChoiceHas t choice → IsChangeOf k t (key, choice)
change_of k t key None has choice = has
change_of k t key (Some v) has choice = (has, choice)

found_has : (k t : Ty) (q : Val) (es : Changes) → AllByRecursion (IsChangeOf k t) es → FoundHas t (find order q es)
found_has k t q [] all = tt
found_has k t q (e ∷ es) all =
    elim (eq_by_cmp order q e.0) as (λ b. FoundHas t (cond b (Some e.1) (find order q es))) [ true ↦ choice_of_change k t e all.0 | false ↦ found_has k t q es all.1 ]

put_typed : (k t : Ty) (key : Val) (choice : Option Val) → IsTrue (has_type key k) → ChoiceHas t choice → (es : Changes) → AllByRecursion (IsChangeOf k t) es →
    AllByRecursion (IsChangeOf k t) (put order key choice es)
put_typed k t key choice has typed [] all = (change_of k t key choice has typed, tt)
put_typed k t key choice has typed (e ∷ es) all =
    elim (order key e.0) as (λ r. AllByRecursion (IsChangeOf k t) (by_order r ((key, choice) ∷ e ∷ es) ((e.0, choice) ∷ es) (e ∷ put order key choice es))) [
      | Less ↦ (change_of k t key choice has typed, all)
      | Equal ↦ (change_of k t e.0 choice (key_of_change k t e all.0) typed, all.1)
      | Greater ↦ (all.0, put_typed k t key choice has typed es all.1)
    ]

put_ascends : (key : Val) (choice : Option Val) (es : Changes) → IsTrue (ascends (keys_of es)) → IsTrue (ascends (keys_of (put order key choice es)))
put_ascends key choice es up =
    ascends-keys (put order key choice es) ∙ true_of (is_sorted order (put order key choice es))
    (is_sorted-put order total key choice es (T_of (is_sorted order es) (sym (ascends-keys es) ∙ up)))

put_changes : (k t : Ty) (key : Val) (choice : Option Val) (es : Changes) → IsTrue (has_type key k) → ChoiceHas t choice → AreChangesOf k t es → AreChangesOf k t (put order key choice es)
put_changes k t key choice es has typed changes = record {
  ascending = put_ascends key choice es changes.ascending;
  typed = put_typed k t key choice has typed es changes.typed;
}

module _ (maps : List (Ty × Ty)) where
  -- what may be there belongs to the type
  abbrev OptionBelongs : List Changes → Ty → Option Val → Type 0
  OptionBelongs versions t None = ⊤
  OptionBelongs versions t (Some v) = Belongs maps versions v t

  option_belongs : (versions : List Changes) (t : Ty) (v : Option Val) → OptionBelongs versions t v → Belongs maps versions (option v) (type.Option t)
  option_belongs versions t None has = of_level maps versions is.Nothing value.Nothing (ty.Option t) (type.Option t) value.rolls-Nothing (search (rules, the_lemmas)) tt
  option_belongs versions t (Some v) has = of_level maps versions (is.Some v) (value.Some v) (ty.Option t) (type.Option t) (value.rolls-Some v) (search (rules, the_lemmas)) has

  bool_belongs : (versions : List Changes) (b : Bool) → Belongs maps versions (value.Bool b) type.Bool
  bool_belongs versions b = of_level maps versions (is.Bool b) (value.Bool b) ty.Bool type.Bool (value.rolls-Bool b) (search (rules, the_lemmas)) tt

  -- ---- a version more

  -- a big map with a change
  abbrev Changed : Beside → Ty → Ty → Val → Beside → Type 0
  Changed b k t m c = Follows b c × Belongs maps c.versions m (type.BigMap k t)

  change_ends : (k t : Ty) (at : Keyed) (choice : Option Val) (b : Beside) → BigMapBelongs maps b.versions at.place at.version k t → IsTrue (has_type at.key k) → ChoiceHas t choice →
      EndsSo (Changed b k t) (with_change at choice b).ending
  change_ends k t at choice b belongs has typed = (
    record { turns = omega arith; later = put order at.key choice (changes_of at.version b.versions) ∷ []; versions = refl },
    of_level maps after (is.BigMap at.place (suc (length b.versions))) (value.BigMap at.place (suc (length b.versions))) (ty.BigMap k t) (type.BigMap k t)
        (value.rolls-BigMap at.place (suc (length b.versions))) (search (rules, the_lemmas)) (
          belongs.0,
          record {
            types = belongs.1.types;
            exists = omega (arith, length-append b.versions (changes ∷ []));
            changes = subst (AreChangesOf k t) (sym (get_or-append_seam b.versions changes [] [])) (put_changes k t at.key choice (changes_of at.version b.versions) has typed belongs.1.changes);
          },
        ),
  )
    where
      changes : Changes
      changes = put order at.key choice (changes_of at.version b.versions)

      after : List Changes
      after = b.versions ++ put order at.key choice (changes_of at.version b.versions) ∷ []

  module _ (w : World) (fits : FitsMaps maps w)
      (passable : HasPassableItems maps) where
    -- ---- look-ups

    -- what is found, and nothing else changes
    abbrev Found : Beside → Ty → Option Val → Beside → Type 0
    Found b t v c = Follows b c × OptionBelongs c.versions t v

    choice_belongs : (versions : List Changes) (t : Ty) (choice : Option Val) → IsTrue (is_passable t) → ChoiceHas t choice → OptionBelongs versions t choice
    choice_belongs versions t None may has = tt
    choice_belongs versions t (Some v) may has = passes_over (typing maps versions) t may v has

    entry_has : (k t : Ty) (at : Keyed) → slice_get maps at.place ≡ Some (k, t) → (reply : Option Val) → get (w.map_at at.place) at.key ≡ reply → ChoiceHas t reply
    entry_has k t at types None is = tt
    entry_has k t at types (Some v) is = (fits.entries at.place k t at.key v types is).1

    found_ends : (k t : Ty) (at : Keyed) (b : Beside) → BigMapBelongs maps b.versions at.place at.version k t → (found : Option (Option Val)) → FoundHas t found →
        EndsSo (Found b t) (changed_or_asked w at.place at.key found b).ending
    found_ends k t at b belongs (Some choice) has = (follows_itself b, choice_belongs b.versions t choice (passable at.place k t belongs.1.types) has)
    found_ends k t at b belongs None has =
        (follows_itself b, choice_belongs b.versions t (get (w.map_at at.place) at.key) (passable at.place k t belongs.1.types) (entry_has k t at belongs.1.types (get (w.map_at at.place) at.key) refl))

    look_ends : (k t : Ty) (at : Keyed) (b : Beside) → BigMapBelongs maps b.versions at.place at.version k t → EndsSo (Found b t) (looked_up w at b).ending
    look_ends k t at b belongs =
        found_ends k t at b belongs (find order at.key (changes_of at.version b.versions)) (found_has k t at.key (changes_of at.version b.versions) belongs.1.changes.typed)

    -- ---- a key on top of a big map

    -- what is done with a big map that is there
    keyed_ends : (k t : Ty) (o : Outcome) (b : Beside) (key : Val) (below : List Val) (plain : Answered) (on_big : Keyed → Beside → Run (List Val)) → Belongs maps b.versions key k →
        ((at : Keyed) → at.key ≡ key → at.below ≡ below → BigMapBelongs maps b.versions at.place at.version k t → EndsSo (Leaves maps b o) (on_big at b).ending) →
        (x : Layer Val) → FitsHere maps b.versions x (ty.BigMap k t) → EndsSo (Leaves maps b o) (or_plain plain (keyed key below x) on_big b).ending
    keyed_ends k t o b key below plain on_big has goes (is.BigMap place version) fit = goes (record { key = key; place = place; version = version; below = below }) refl refl fit
    keyed_ends k t o b key below plain on_big has goes _ fit = absurd fit

    pub looks_go : (k t u : Ty) (s : List Ty) (tell : Option Val → Val) (plain : List Val → Answered) →
        ((versions : List Changes) (v : Option Val) → OptionBelongs versions t v → Belongs maps versions (tell v) u) →
        Goes maps (k ∷ type.BigMap k t ∷ s) (To (u ∷ s)) (λ stack. or_plain (plain stack) (key_on_top stack) (looked_up_as w tell))
    looks_go k t u s tell plain tells [] b has = absurd has
    looks_go k t u s tell plain tells (key ∷ []) b has = absurd has.1
    looks_go k t u s tell plain tells (key ∷ m ∷ below) b has =
        keyed_ends k t (To (u ∷ s)) b key below (plain (key ∷ m ∷ below)) (looked_up_as w tell) has.0
        (λ at keyed under belongs.
        ends_then (Found b t) (Leaves maps b (To (u ∷ s))) (looked_up w at b).ending (λ v c. ends (Return (tell v ∷ at.below) c)) (look_ends k t at b belongs)
        (λ v c found. (found.0, (tells c.versions v found.1, all_belong_later maps b c at.below s found.0 (subst (λ (vs : List Val). AllBelong maps b.versions vs s) (sym under) has.1.1)))))
        (out-Val m) (level_of maps b.versions m (ty.BigMap k t) (type.BigMap k t) (search (rules, the_lemmas)) has.1.0)

    pub mem_goes : (k t : Ty) (s : List Ty) (plain : List Val → Answered) →
        Goes maps (k ∷ type.BigMap k t ∷ s) (To (type.Bool ∷ s)) (λ stack. or_plain (plain stack) (key_on_top stack) (looked_up_as w (λ v. value.Bool (is_some v))))
    mem_goes k t s plain = looks_go k t type.Bool s (λ v. value.Bool (is_some v)) plain (λ versions v has. bool_belongs versions (is_some v))

    pub get_goes : (k t : Ty) (s : List Ty) (plain : List Val → Answered) →
        Goes maps (k ∷ type.BigMap k t ∷ s) (To (type.Option t ∷ s)) (λ stack. or_plain (plain stack) (key_on_top stack) (looked_up_as w option))
    get_goes k t s plain = looks_go k t (type.Option t) s option plain (λ versions v has. option_belongs versions t v has)

    -- ---- a key and a choice on top of a big map

    -- what is done with a big map and a choice that are there
    chosen_ends : (k t : Ty) (o : Outcome) (b : Beside) (key : Val) (below : List Val) (plain : Answered) (on_big : Keyed × Option Val → Beside → Run (List Val)) →
        ((at : Keyed) (choice : Option Val) → at.key ≡ key → at.below ≡ below → BigMapBelongs maps b.versions at.place at.version k t → ChoiceHas t choice →
        EndsSo (Leaves maps b o) (on_big (at, choice) b).ending) →
        (y x : Layer Val) → FitsHere maps b.versions y (ty.Option t) → FitsHere maps b.versions x (ty.BigMap k t) →
        EndsSo (Leaves maps b o) (or_plain plain (with_choice (keyed key below x) (chosen y)) on_big b).ending
    chosen_ends k t o b key below plain on_big goes is.Nothing (is.BigMap place version) option fit =
        goes (record { key = key; place = place; version = version; below = below }) None refl refl fit tt
    chosen_ends k t o b key below plain on_big goes (is.Some v) (is.BigMap place version) option fit =
        goes (record { key = key; place = place; version = version; below = below }) (Some v) refl refl fit option.typed
    chosen_ends k t o b key below plain on_big goes _ (is.BigMap place version) option fit = absurd option
    chosen_ends k t o b key below plain on_big goes _ _ option fit = absurd fit

    pub changes_go : (k t : Ty) (s : List Ty) (o : Outcome) (plain : List Val → Answered) (on_big : Keyed × Option Val → Beside → Run (List Val)) →
        ((b : Beside) (at : Keyed) (choice : Option Val) → IsTrue (has_type at.key k) → AllBelong maps b.versions at.below s → BigMapBelongs maps b.versions at.place at.version k t →
        ChoiceHas t choice → EndsSo (Leaves maps b o) (on_big (at, choice) b).ending) →
        Goes maps (k ∷ type.Option t ∷ type.BigMap k t ∷ s) o (λ stack. or_plain (plain stack) (change_on_top stack) on_big)
    changes_go k t s o plain on_big goes [] b has = absurd has
    changes_go k t s o plain on_big goes (key ∷ []) b has = absurd has.1
    changes_go k t s o plain on_big goes (key ∷ choice ∷ []) b has = absurd has.1.1
    changes_go k t s o plain on_big goes (key ∷ choice ∷ m ∷ below) b has =
        chosen_ends k t o b key below (plain (key ∷ choice ∷ m ∷ below)) on_big
        (λ at made keyed under belongs typed. goes b at made (subst (λ v. IsTrue (has_type v k)) (sym keyed) has.0.typed)
        (subst (λ (vs : List Val). AllBelong maps b.versions vs s) (sym under) has.1.1.1) belongs typed)
        (out-Val choice) (out-Val m)
        (level_of maps b.versions choice (ty.Option t) (type.Option t) (search (rules, the_lemmas)) has.1.0)
        (level_of maps b.versions m (ty.BigMap k t) (type.BigMap k t) (search (rules, the_lemmas)) has.1.1.0)

    pub update_goes : (k t : Ty) (s : List Ty) (plain : List Val → Answered) →
        Goes maps (k ∷ type.Option t ∷ type.BigMap k t ∷ s) (To (type.BigMap k t ∷ s)) (λ stack. or_plain (plain stack) (change_on_top stack) (changed_map w))
    update_goes k t s plain = changes_go k t s (To (type.BigMap k t ∷ s)) plain (changed_map w) (λ b at choice has below belongs typed.
        ends_then (Changed b k t) (Leaves maps b (To (type.BigMap k t ∷ s))) (with_change at choice b).ending (λ m c. ends (Return (m ∷ at.below) c)) (change_ends k t at choice b belongs has typed)
        (λ m c changed. (changed.0, (changed.1, all_belong_later maps b c at.below s changed.0 below))))

    pub get_and_update_goes : (k t : Ty) (s : List Ty) (plain : List Val → Answered) →
        Goes maps (k ∷ type.Option t ∷ type.BigMap k t ∷ s) (To (type.Option t ∷ type.BigMap k t ∷ s)) (λ stack. or_plain (plain stack) (change_on_top stack) (changed_map_with_old w))
    get_and_update_goes k t s plain = changes_go k t s (To (type.Option t ∷ type.BigMap k t ∷ s)) plain (changed_map_with_old w) (λ b at choice has below belongs typed.
        ends_then (Found b t) (Leaves maps b (To (type.Option t ∷ type.BigMap k t ∷ s))) (looked_up w at b).ending
        (λ old c. then_do (with_change at choice c) (λ m d. ends (Return (option old ∷ m ∷ at.below) d))) (look_ends k t at b belongs)
        (λ old c found. ends_then (Changed c k t) (Leaves maps b (To (type.Option t ∷ type.BigMap k t ∷ s))) (with_change at choice c).ending
        (λ m d. ends (Return (option old ∷ m ∷ at.below) d))
        (change_ends k t at choice c (belongs.0, stands_right_later maps b c (record { place = at.place; version = at.version; key = k; item = t }) found.0 belongs.1) has typed)
        (λ m d changed.
        let follows : Follows b d = follows_on b c d found.0 changed.0 in
        (follows, (belongs_later maps c d (option old) (type.Option t) changed.0 (option_belongs c.versions t old found.1), (changed.1, all_belong_later maps b d at.below s follows below))))))

    -- ---- the ledger

    pub balance_goes : (s : List Ty) → Goes maps s (To (type.Mutez ∷ s)) (balance w)
    balance_goes s stack b has = (
      follows_itself b,
      (of_level maps b.versions (is.Mutez w.balance) (value.Mutez w.balance) ty.Mutez type.Mutez (value.rolls-Mutez w.balance) (search (rules, the_lemmas)) (lt-ltb w.balance (2 ^ 63) fits.balance), has),
    )

    reply_belongs : (versions : List Changes) (address entry : List ℕ) (t : Ty) (stands : Bool) →
        Belongs maps versions (option (if stands then Some (value.Contract address entry) else None)) (type.Option (type.Contract t))
    reply_belongs versions address entry t true = option_belongs versions (type.Contract t) (Some (value.Contract address entry))
        (of_level maps versions (is.Contract address entry) (value.Contract address entry) (ty.Contract t) (type.Contract t) (value.rolls-Contract address entry) (search (rules, the_lemmas)) tt)
    reply_belongs versions address entry t false = option_belongs versions (type.Contract t) None tt

    contract_ends : (entry : List ℕ) (t : Ty) (s : List Ty) (x : Layer Val) (stack : List Val) (b : Beside) → FitsHere maps b.versions x ty.Addr → AllBelong maps b.versions stack s →
        EndsSo (Leaves maps b (To (type.Option (type.Contract t) ∷ s))) (contract w entry t x stack b).ending
    contract_ends entry t s (is.Addr address) stack b fit has = (follows_itself b, (reply_belongs b.versions address entry t (w.stands address entry t), has))
    contract_ends entry t s _ stack b fit has = absurd fit

    pub contract_goes : (entry : List ℕ) (t : Ty) (s : List Ty) → Goes maps (type.Addr ∷ s) (To (type.Option (type.Contract t) ∷ s)) (on_top (contract w entry t))
    contract_goes entry t s = on_top_goes maps type.Addr ty.Addr s (To (type.Option (type.Contract t) ∷ s)) (contract w entry t) (search (rules, the_lemmas)) (contract_ends entry t s)
