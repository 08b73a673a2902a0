-- A big map after a change: the changed key has what it was given, and any other what it had.
use Rattle.std.proofs.Common.{◌≡◌, ℕ, zero, suc, ◌≤◌, List, [], ◌∷◌, ◌++◌, length, Option, Some, None, refl, sym, ap, ◌∙◌, arith}
use Rattle.std.proofs.Math.Seq.{get_or-append_seam}
use Rattle.std.proofs.lemmas.List.{get_or_append_left}
use Rattle.value_core.specs.declared.val.Val.{Val}
use Rattle.value_core.specs.Order.{order}
use Rattle.value_core.specs.Sorted.{find, put}
use Rattle.value_core.proofs.SortedEntries.{find-put_itself, find-put_other}
use Rattle.value_core.proofs.SortedValues.{ascends-keys, ties, total}
use Rattle.std.specs.FinMap.Entries.{is_sorted, is_sorted-put}
use Rattle.value_core.proofs.Bools.{T_of, true_of}
use Rattle.michelson_rules.specs.World.{World}
use Rattle.michelson_rules.specs.Runs.{Beside, Changes, Return, changes_of, ends, then_do}
use Rattle.michelson_rules.specs.BigMaps.{Keyed, changed_or_asked, looked_up}
use Rattle.michelson_rules.specs.Versions.{AllAscend, AreAscending, beside_after, key_in, next_version}

-- the last version has the changes that were put last
newest : (versions : List Changes) (c : Changes) → changes_of (suc (length versions)) (versions ++ c ∷ []) ≡ c
newest versions c = get_or-append_seam versions c [] []

-- the others have what they had
older : (n : ℕ) (versions : List Changes) (c : Changes) → n ≤ length versions → changes_of n (versions ++ c ∷ []) ≡ changes_of n versions
older zero versions c le = refl
older (suc n) versions c le = get_or_append_left versions (c ∷ []) [] n (omega (arith, le))

module _ (w : World) (k : Keyed) (choice : Option Val) (beside : Beside) where
  abbrev its_changes : Changes
  its_changes = changes_of k.version beside.versions

  pub has_its_change : looked_up w (key_in k.key k.place (next_version beside)) (beside_after k choice beside) ≡ ends (Return choice (beside_after k choice beside))
  has_its_change =
      ap (λ found. changed_or_asked w k.place k.key found (beside_after k choice beside))
      (ap (find order k.key) (newest beside.versions (put order k.key choice its_changes)) ∙ find-put_itself total k.key choice its_changes)

  asked_after : (place : ℕ) (key : Val) (found : Option (Option Val)) (b : Beside) →
      changed_or_asked w place key found b ≡ then_do (changed_or_asked w place key found beside) (λ v c. ends (Return v b))
  asked_after place key (Some v) b = refl
  asked_after place key None b = refl

  pub keeps_the_rest : (key : Val) → (key ≡ k.key → ⊥) →
      looked_up w (key_in key k.place (next_version beside)) (beside_after k choice beside)
      ≡ then_do (looked_up w (key_in key k.place k.version) beside) (λ v b. ends (Return v (beside_after k choice beside)))
  keeps_the_rest key other =
      ap (λ found. changed_or_asked w k.place key found (beside_after k choice beside))
      (ap (find order key) (newest beside.versions (put order k.key choice its_changes)) ∙ find-put_other total ties k.key key choice its_changes other)
      ∙ asked_after k.place key (find order key its_changes) (beside_after k choice beside)

  pub keeps_older : (key : Val) (place version : ℕ) → version ≤ length beside.versions →
      looked_up w (key_in key place version) (beside_after k choice beside)
      ≡ then_do (looked_up w (key_in key place version) beside) (λ v b. ends (Return v (beside_after k choice beside)))
  keeps_older key place version le =
      ap (λ c. changed_or_asked w place key (find order key c) (beside_after k choice beside)) (older version beside.versions (put order k.key choice its_changes) le)
      ∙ asked_after place key (find order key (changes_of version beside.versions)) (beside_after k choice beside)

pub stays_ascending : (k : Val) (choice : Option Val) (c : Changes) → AreAscending c → AreAscending (put order k choice c)
stays_ascending k choice c up =
    ascends-keys (put order k choice c) ∙ true_of (is_sorted order (put order k choice c))
    (is_sorted-put order total k choice c (T_of (is_sorted order c) (sym (ascends-keys c) ∙ up)))

-- the changes of each version ascend
pub each_ascends : (n : ℕ) (versions : List Changes) → AllAscend versions → AreAscending (changes_of n versions)
each_ascends zero versions all = refl
each_ascends (suc n) [] all = refl
each_ascends (suc zero) (c ∷ versions) all = all.0
each_ascends (suc (suc n)) (c ∷ versions) all = each_ascends (suc n) versions all.1

one_more : (versions : List Changes) (c : Changes) → AllAscend versions → AreAscending c → AllAscend (versions ++ c ∷ [])
one_more [] c all up = (up, tt)
one_more (d ∷ versions) c all up = (all.0, one_more versions c all.1 up)

pub change_ascends : (k : Keyed) (choice : Option Val) (beside : Beside) → AllAscend beside.versions → AllAscend (beside_after k choice beside).versions
change_ascends k choice beside all =
    one_more beside.versions (put order k.key choice (changes_of k.version beside.versions)) all
    (stays_ascending k.key choice (changes_of k.version beside.versions) (each_ascends k.version beside.versions all))
