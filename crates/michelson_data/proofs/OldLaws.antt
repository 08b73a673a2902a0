-- GET_AND_UPDATE is UPDATE with what GET finds on top.
use Rattle.std.proofs.Common.{◌≡◌, Bool, true, false, List, [], ◌∷◌, ◌++◌, reverse, Result, Ok, Err, sym, ap, subst, ◌∙◌, rules}
use Rattle.std.specs.Prelude.{if◌then◌else◌}
use Rattle.value_core.specs.declared.val.Val.{Val}
use Rattle.value_core.specs.declared.val.Val.TheOpen as is
use Rattle.value_core.specs.declared.val.Val.TheVariants as value
use Rattle.value_core.specs.declared.val.Val.TheViews.{out-Val}
use Rattle.value_core.specs.Layer.{Layer}
use Rattle.value_core.specs.Order.{order}
use Rattle.value_core.specs.Sorted.{find, keys_of}
use Rattle.value_core.specs.Sound.{ascends}
use Rattle.michelson_rules.specs.Answers.{Answer, Ends, Gives, Misses, gives, on_entry, sized}
use Rattle.michelson_rules.specs.Collections.{changed, found, option, updated, updated_with_old, with_old}
use Rattle.std.specs.Prelude.{None, Some}
use Rattle.michelson_data.specs.declared.fault.DataEnd.{DataEnd}
use Rattle.michelson_data.specs.Replaces.{Replaces}
use Rattle.michelson_data.specs.Tells.{TellsIf}
use Rattle.michelson_data.specs.Sized.{IsSizedOf}
use Rattle.std.proofs.lemmas.List.{reverse-append}
use Rattle.michelson_data.proofs.StackLaws.{sized_put, three_on_top}

first_of_one : Val → Answer → Val
first_of_one d (Gives (v ∷ vs)) = v
first_of_one d _ = d

above : (b : Bool) (a : Answer) (is old : Val) (below t : List Val) → TellsIf (Ok old) (if b then gives is else Misses) →
    Replaces {T = Unit {0}} (if b then a else Misses, below) (Ok tt) t → Replaces {T = Unit {0}} (with_old is (if b then a else Misses), below) (Ok tt) (old ∷ t)
above false a is old below t tells done = tt
above true (Gives vs) is old below t tells done = let same : gives is ≡ gives old = tells (λ e. absurd (search rules)) in ap (λ l. old ∷ l) done ∙ ap (λ v. v ∷ vs ++ below) (sym (grind rules))
above true (Ends y) is old below t tells done = absurd done
above true Misses is old below t tells done = tt

by_level : (key : Val) (l c : Layer Val) (old : Val) (below t : List Val) → TellsIf (Ok old) (found key l) →
    Replaces {T = Unit {0}} (updated key c l, below) (Ok tt) t → Replaces {T = Unit {0}} (updated_with_old key c l, below) (Ok tt) (old ∷ t)
by_level key (is.Map entries) is.Nothing old below t tells done = above (ascends (keys_of entries)) (sized (value.Map (changed key None entries))) (option (find order key entries)) old below t tells done
by_level key (is.Map entries) (is.Some v) old below t tells done = above (ascends (keys_of entries)) (sized (value.Map (changed key (Some v) entries))) (option (find order key entries)) old below t tells done
by_level key (is.Map entries) _ old below t tells done = tt
by_level key _ c old below t tells done = tt

old_on_top : (key choice of old : Val) (s below t : List Val) → s ≡ key ∷ choice ∷ of ∷ below → TellsIf (Ok old) (found key (out-Val of)) →
    Replaces {T = Unit {0}} (on_entry updated s) (Ok tt) t → Replaces {T = Unit {0}} (on_entry updated_with_old s) (Ok tt) (old ∷ t)
old_on_top key choice of old s below t top tells done =
    subst (λ l. Replaces {T = Unit {0}} (on_entry updated_with_old l) (Ok tt) (old ∷ t)) (sym top)
    (by_level key (out-Val of) (out-Val choice) old below t tells (subst (λ l. Replaces {T = Unit {0}} (on_entry updated l) (Ok tt) t) top done))

fails : (b : Bool) (a : Answer) (is : Val) (e : DataEnd) (below t : List Val) → Replaces {T = Unit {0}} (if b then a else Misses, below) (Err e) t →
    Replaces {T = Unit {0}} (with_old is (if b then a else Misses), below) (Err e) t
fails false a is e below t done = tt
fails true (Gives vs) is e below t done = done
fails true (Ends y) is e below t done = done
fails true Misses is e below t done = tt

fails_by_level : (key : Val) (l c : Layer Val) (e : DataEnd) (below t : List Val) → Replaces {T = Unit {0}} (updated key c l, below) (Err e) t → Replaces {T = Unit {0}} (updated_with_old key c l, below) (Err e) t
fails_by_level key (is.Map entries) is.Nothing e below t done = fails (ascends (keys_of entries)) (sized (value.Map (changed key None entries))) (option (find order key entries)) e below t done
fails_by_level key (is.Map entries) (is.Some v) e below t done = fails (ascends (keys_of entries)) (sized (value.Map (changed key (Some v) entries))) (option (find order key entries)) e below t done
fails_by_level key (is.Map entries) _ e below t done = tt
fails_by_level key _ c e below t done = tt

no_old_on_top : (s : List Val) (e : DataEnd) (t : List Val) → Replaces {T = Unit {0}} (on_entry updated s) (Err e) t → Replaces {T = Unit {0}} (on_entry updated_with_old s) (Err e) t
no_old_on_top (key ∷ choice ∷ of ∷ below) e t done = fails_by_level key (out-Val of) (out-Val choice) e below t done
no_old_on_top [] e t done = tt
no_old_on_top (key ∷ []) e t done = tt
no_old_on_top (key ∷ choice ∷ []) e t done = tt

-- the changed set or map of three operands
pub entry_put : (key choice of made : Val) (rest one two three new : List Val) (r : Result (Unit {0}) DataEnd) → three ≡ two ++ key ∷ [] → two ≡ one ++ choice ∷ [] → one ≡ rest ++ of ∷ [] →
    IsSizedOf made (updated key (out-Val choice) (out-Val of)) → Replaces (sized made, reverse rest) r new → Replaces (on_entry updated (reverse three)) r new
entry_put key choice of made rest one two three new r a b c tells put =
    subst (λ s. Replaces (on_entry updated s) r new) (sym (three_on_top rest one two three key choice of a b c))
    (sized_put (updated key (out-Val choice) (out-Val of)) made (reverse rest) r new tells put)

-- and what was at the key on top
pub old_put : (key choice of old made : Val) (rest one two three first last : List Val) → three ≡ two ++ key ∷ [] → two ≡ one ++ choice ∷ [] → one ≡ rest ++ of ∷ [] →
    TellsIf (Ok old) (found key (out-Val of)) → IsSizedOf made (updated key (out-Val choice) (out-Val of)) →
    Replaces {T = Unit {0}} (sized made, reverse rest) (Ok tt) (reverse first) → last ≡ first ++ old ∷ [] →
    Replaces {T = Unit {0}} (on_entry updated_with_old (reverse three)) (Ok tt) (reverse last)
old_put key choice of old made rest one two three first last a b c tells sizes put above_it =
    subst (λ l. Replaces {T = Unit {0}} (on_entry updated_with_old (reverse three)) (Ok tt) l) (sym (ap reverse above_it ∙ reverse-append first (old ∷ [])))
    (old_on_top key choice of old (reverse three) (reverse rest) (reverse first) (three_on_top rest one two three key choice of a b c) tells
    (entry_put key choice of made rest one two three (reverse first) (Ok tt) a b c sizes put))

pub old_fails : (key choice of made : Val) (e : DataEnd) (rest one two three new : List Val) → three ≡ two ++ key ∷ [] → two ≡ one ++ choice ∷ [] → one ≡ rest ++ of ∷ [] →
    IsSizedOf made (updated key (out-Val choice) (out-Val of)) → Replaces {T = Unit {0}} (sized made, reverse rest) (Err e) new →
    Replaces {T = Unit {0}} (on_entry updated_with_old (reverse three)) (Err e) new
old_fails key choice of made e rest one two three new a b c sizes put =
    no_old_on_top (reverse three) e new (entry_put key choice of made rest one two three new (Err e) a b c sizes put)
