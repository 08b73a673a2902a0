-- Levels that wait: one more, one less, and in a longer table; and that parts have fewer nodes.
use Rattle.std.proofs.Common.{◌≡◌, ℕ, ◌+◌, ◌<◌, true, List, [], ◌∷◌, ◌++◌, length, refl, ap, sym, subst, ◌∙◌}
use Rattle.std.proofs.lemmas.Bool.{and_from, and_parts, lt-ltb, ltb-true}
use Rattle.value_core.specs.declared.ty.Ty.{Ty}
use Rattle.value_core.specs.declared.ty.Ty.TheVariants as type
use Rattle.value_core.specs.declared.ty.Ty.TheFolds.{map-Ty}
use Rattle.value_core.specs.Nodes.{level_nodes, nodes_of}
use Rattle.value_core.specs.TypeLevels.{fold-at}
use Rattle.michelson_code.specs.declared.operands.Level.{Level}
use Rattle.michelson_code.specs.declared.operands.Level.TheVariants as level
use Rattle.michelson_code.specs.Typing.{level_type}
use Rattle.michelson_code.proofs.Types.{level_shown, shows}
use Rattle.michelson_typer.specs.declared.written.Waiting.{Waiting}
use Rattle.michelson_typer.specs.declared.written.Waiting.TheVariants as waiting
use Rattle.michelson_typer.specs.Tables.{Grows, are_in, parts_in, type_at}
use Rattle.michelson_typer.specs.Writing.{AreWaiting, filled, first_parts, over_all, over_last}
use Rattle.michelson_typer.proofs.GrowLaws.{grows_more, in_later, type_later}

-- ---- parts have fewer nodes

abbrev itself : Ty → Ty
itself t = t

nodes-level : (l : Level Ty) → nodes_of (level_type itself l) ≡ level_nodes (map-Ty Ty ℕ nodes_of (level_shown itself l))
nodes-level l = fold-at level_nodes (level_type itself l) (level_shown itself l) (shows itself l)

pub nodes-option : (t : Ty) → nodes_of (type.Option t) ≡ 1 + nodes_of t
nodes-option t = nodes-level (level.Option t)

pub nodes-list : (t : Ty) → nodes_of (type.List t) ≡ 1 + nodes_of t
nodes-list t = nodes-level (level.List t)

pub nodes-set : (t : Ty) → nodes_of (type.Set t) ≡ 1 + nodes_of t
nodes-set t = nodes-level (level.Set t)

pub nodes-contract : (t : Ty) → nodes_of (type.Contract t) ≡ 1 + nodes_of t
nodes-contract t = nodes-level (level.Contract t)

pub nodes-or : (s t : Ty) → nodes_of (type.Or s t) ≡ 1 + nodes_of s + nodes_of t
nodes-or s t = nodes-level (level.Or s t)

pub nodes-pair : (s t : Ty) → nodes_of (type.Pair s t) ≡ 1 + nodes_of s + nodes_of t
nodes-pair s t = nodes-level (level.Pair s t)

pub nodes-map : (s t : Ty) → nodes_of (type.Map s t) ≡ 1 + nodes_of s + nodes_of t
nodes-map s t = nodes-level (level.Map s t)

pub nodes-big_map : (s t : Ty) → nodes_of (type.BigMap s t) ≡ 1 + nodes_of s + nodes_of t
nodes-big_map s t = nodes-level (level.BigMap s t)

pub ruleset nodes_laws = (nodes-option, nodes-list, nodes-set, nodes-contract, nodes-or, nodes-pair, nodes-map, nodes-big_map)

-- ---- levels that wait

-- the last to wait stands innermost
pub over_all-append : (table : List Ty) (ws : List Waiting) (w : Waiting) (t : Ty) → over_all table (ws ++ w ∷ []) t ≡ over_all table ws (over_last table w t)
over_all-append table [] w t = refl
over_all-append table (v ∷ ws) w t = ap (over_last table v) (over_all-append table ws w t)

pub waiting-append : (table : List Ty) (ws : List Waiting) (w : Waiting) → AreWaiting table ws → are_in table (first_parts w) ≡ true → AreWaiting table (ws ++ w ∷ [])
waiting-append table [] w are is = (is, tt)
waiting-append table (v ∷ ws) w are is = (are.0, waiting-append table ws w are.1 is)

pub waiting-parts : (table : List Ty) (ws : List Waiting) (w : Waiting) → AreWaiting table (ws ++ w ∷ []) → AreWaiting table ws × (are_in table (first_parts w) ≡ true)
waiting-parts table [] w are = (tt, are.0)
waiting-parts table (v ∷ ws) w are = let rest = waiting-parts table ws w are.1 in ((are.0, rest.0), rest.1)

-- a level that waited, with its last part, has the type
pub filled-is : (table : List Ty) (w : Waiting) (id : ℕ) (t : Ty) → type_at table id ≡ t → level_type (type_at table) (filled w id) ≡ over_last table w t
filled-is table waiting.Option id t is = ap type.Option is
filled-is table waiting.List id t is = ap type.List is
filled-is table waiting.Set id t is = ap type.Set is
filled-is table waiting.Contract id t is = ap type.Contract is
filled-is table (waiting.Or f) id t is = ap (type.Or (type_at table f)) is
filled-is table (waiting.Pair f) id t is = ap (type.Pair (type_at table f)) is
filled-is table (waiting.Map f) id t is = ap (type.Map (type_at table f)) is
filled-is table (waiting.BigMap f) id t is = ap (type.BigMap (type_at table f)) is

pub filled-parts : (table : List Ty) (w : Waiting) (id : ℕ) → are_in table (first_parts w) ≡ true → id < length table → are_in table (parts_in (filled w id)) ≡ true
filled-parts table waiting.Option id first within = and_from _ _ (lt-ltb id (length table) within) refl
filled-parts table waiting.List id first within = and_from _ _ (lt-ltb id (length table) within) refl
filled-parts table waiting.Set id first within = and_from _ _ (lt-ltb id (length table) within) refl
filled-parts table waiting.Contract id first within = and_from _ _ (lt-ltb id (length table) within) refl
filled-parts table (waiting.Or f) id first within = and_from _ _ (and_parts _ _ first).0 (and_from _ _ (lt-ltb id (length table) within) refl)
filled-parts table (waiting.Pair f) id first within = and_from _ _ (and_parts _ _ first).0 (and_from _ _ (lt-ltb id (length table) within) refl)
filled-parts table (waiting.Map f) id first within = and_from _ _ (and_parts _ _ first).0 (and_from _ _ (lt-ltb id (length table) within) refl)
filled-parts table (waiting.BigMap f) id first within = and_from _ _ (and_parts _ _ first).0 (and_from _ _ (lt-ltb id (length table) within) refl)

-- ---- in a longer table

module _ (old new : List Ty) (grows : Grows old new) where
  pub over_last-later : (w : Waiting) (t : Ty) → are_in old (first_parts w) ≡ true → over_last new w t ≡ over_last old w t
  over_last-later waiting.Option t within = refl
  over_last-later waiting.List t within = refl
  over_last-later waiting.Set t within = refl
  over_last-later waiting.Contract t within = refl
  over_last-later (waiting.Or f) t within = ap (λ (s : Ty). type.Or s t) (type_later old new grows f (ltb-true f (length old) (and_parts _ _ within).0))
  over_last-later (waiting.Pair f) t within = ap (λ (s : Ty). type.Pair s t) (type_later old new grows f (ltb-true f (length old) (and_parts _ _ within).0))
  over_last-later (waiting.Map f) t within = ap (λ (s : Ty). type.Map s t) (type_later old new grows f (ltb-true f (length old) (and_parts _ _ within).0))
  over_last-later (waiting.BigMap f) t within = ap (λ (s : Ty). type.BigMap s t) (type_later old new grows f (ltb-true f (length old) (and_parts _ _ within).0))

  pub over_all-later : (ws : List Waiting) (t : Ty) → AreWaiting old ws → over_all new ws t ≡ over_all old ws t
  over_all-later [] t are = refl
  over_all-later (w ∷ ws) t are = over_last-later w (over_all new ws t) are.0 ∙ ap (over_last old w) (over_all-later ws t are.1)

  pub waiting-later : (ws : List Waiting) → AreWaiting old ws → AreWaiting new ws
  waiting-later [] are = tt
  waiting-later (w ∷ ws) are = (in_later old new grows (first_parts w) are.0, waiting-later ws are.1)

-- ---- one level after another

-- a type of the table under levels that wait is the whole, in a table that grew
pub record IsUnder (first : List Ty) (whole : Ty) (table : List Ty) (ws : List Waiting) (t : Ty) : Type 0 where
  pub grows : Grows first table
  pub waiting : AreWaiting table ws
  pub is : over_all table ws t ≡ whole

module _ (first : List Ty) (whole : Ty) (table new : List Ty) (grows : Grows table new) where
  -- the innermost level gets its last part
  pub closes : (ws vs : List Waiting) (w : Waiting) (t u : Ty) → ws ≡ vs ++ w ∷ [] → u ≡ over_last table w t → IsUnder first whole table ws t → IsUnder first whole new vs u
  closes ws vs w t u last made under =
      let parts = waiting-parts table vs w (subst (AreWaiting table) last under.waiting) in
      record {
        grows = grows_more first table new under.grows grows;
        waiting = waiting-later table new grows vs parts.0;
        is = over_all-later table new grows vs u parts.0 ∙ ap (over_all table vs) made ∙ sym (over_all-append table vs w t)
            ∙ ap (λ (xs : List Waiting). over_all table xs t) (sym last) ∙ under.is;
      }

  -- one level more waits
  pub opens : (ws : List Waiting) (w : Waiting) (t u : Ty) → are_in new (first_parts w) ≡ true → over_last new w u ≡ t → IsUnder first whole table ws t → IsUnder first whole new (ws ++ w ∷ []) u
  opens ws w t u within made under = record {
    grows = grows_more first table new under.grows grows;
    waiting = waiting-append new ws w (waiting-later table new grows ws under.waiting) within;
    is = over_all-append new ws w u ∙ ap (over_all new ws) made ∙ over_all-later table new grows ws t under.waiting ∙ under.is;
  }
