-- Big maps on the stack: a place, and a version with its changes; a key that the version changed is looked up there, any other in the ledger.
use Rattle.std.specs.Prelude.{ℕ, suc, ◌+◌, List, [], ◌∷◌, ◌++◌, length, Option, Some, None}
use Rattle.value_core.specs.declared.val.Val.{Val}
use Rattle.value_core.specs.declared.val.Val.TheOpen as is
use Rattle.value_core.specs.declared.val.Val.TheVariants as value
use Rattle.value_core.specs.declared.val.Val.TheViews.{out-Val}
use Rattle.value_core.specs.Layer.{Layer}
use Rattle.value_core.specs.Order.{order}
use Rattle.value_core.specs.Size.{size_of}
use Rattle.value_core.specs.Sorted.{find, put}
use Rattle.michelson_rules.specs.declared.ask.Ask.TheVariants as ask
use Rattle.michelson_rules.specs.World.{World, reply_of}
use Rattle.michelson_rules.specs.Runs.{Beside, Look, Return, Run, Take, changes_of, ends, marked}
use Rattle.michelson_rules.specs.Collections.{chosen}

-- a key, the big map below it, and the stack below that
pub record Keyed : Type 0 where
  pub key : Val
  pub place : ℕ
  pub version : ℕ
  pub below : List Val

-- where a big map stands below the key
abbrev pub keyed : Val → List Val → Layer Val → Option Keyed
keyed key below (is.BigMap place version) = Some (record { key = key; place = place; version = version; below = below })
keyed key below _ = None

-- a key and a big map on top
abbrev pub key_on_top : List Val → Option Keyed
key_on_top (key ∷ m ∷ below) = keyed key below (out-Val m)
key_on_top _ = None

-- a big map and a choice, where both are there
abbrev pub with_choice : Option Keyed → Option (Option Val) → Option (Keyed × Option Val)
with_choice (Some k) (Some c) = Some (k, c)
with_choice _ _ = None

-- a key, a choice, and a big map on top
abbrev pub change_on_top : List Val → Option (Keyed × Option Val)
change_on_top (key ∷ choice ∷ m ∷ below) = with_choice (keyed key below (out-Val m)) (chosen (out-Val choice))
change_on_top _ = None

-- the room of a key and of what may stand there: 1 and their sizes
abbrev pub room_of : Val → Option Val → ℕ
room_of key None = 1 + size_of key
room_of key (Some v) = 1 + size_of key + size_of v

-- a question, and then the room of its answer
abbrev pub asked : World → ℕ → Val → Beside → Run (Option Val)
asked w place key beside =
    record { marks = Look (ask.Entry place key) ∷ Take (room_of key (reply_of w (ask.Entry place key))) ∷ []; ending = Return (reply_of w (ask.Entry place key)) beside }

-- a key that the version changed has what it was given
abbrev pub changed_or_asked : World → ℕ → Val → Option (Option Val) → Beside → Run (Option Val)
changed_or_asked w place key (Some v) beside = ends (Return v beside)
changed_or_asked w place key None beside = asked w place key beside

-- what a big map has at a key
abbrev pub looked_up : World → Keyed → Beside → Run (Option Val)
looked_up w k beside = changed_or_asked w k.place k.key (find order k.key (changes_of k.version beside.versions)) beside

-- one version more, with this change, and room for it
abbrev pub with_change : Keyed → Option Val → Beside → Run Val
with_change k choice beside =
    marked (Take (room_of k.key choice)) (ends (Return (value.BigMap k.place (suc (length beside.versions)))
    (record { turns = beside.turns; versions = beside.versions ++ put order k.key choice (changes_of k.version beside.versions) ∷ [] })))
