-- What a binary search tells of a key, where the items ascend: as MEM and GET have it.
use Rattle.std.proofs.Common.{◌≡◌, ℕ, Bool, true, false, List, Result, Ok, Err, refl, sym, ap, subst, ◌∙◌, rules}
use Rattle.std.specs.Prelude.{IsTrue, is_ok, is_some, if◌then◌else◌}
use Rattle.value_core.specs.declared.val.Val.{Val}
use Rattle.value_core.specs.declared.val.Val.TheOpen as is
use Rattle.value_core.specs.declared.val.Val.TheVariants as value
use Rattle.value_core.specs.declared.val.Val.TheViews.{out-Val, the_lemmas}
use Rattle.value_core.specs.Order.{order}
use Rattle.value_core.specs.Places.{StandsAt}
use Rattle.value_core.specs.Sorted.{find, has, keys_of}
use Rattle.value_core.specs.Sound.{ascends}
use Rattle.value_core.proofs.SortedPlaces.{map_at, map_lacks, set_told}
use Rattle.michelson_rules.specs.Answers.{Answer, Misses, gives}
use Rattle.michelson_rules.specs.Collections.{found, member, option}
use Rattle.michelson_data.specs.Tells.{TellsIf}

-- an answer under a test that doesn't miss is the answer, and the test holds
pub test_holds : (b : Bool) (a : Answer) → ((if b then a else Misses) ≡ Misses → ⊥) → b ≡ true
test_holds true a meets = refl
test_holds false a meets = absurd (meets refl)

pub under_test : (b : Bool) (a : Answer) → b ≡ true → (if b then a else Misses) ≡ a
under_test b a holds = ap (λ c. if c then a else Misses) holds

-- one level of a set, and of a map
pub out-set : (items : List Val) → out-Val (value.Set items) ≡ is.Set items
out-set items = search (rules, the_lemmas)

pub out-map : (entries : List (Val × Val)) → out-Val (value.Map entries) ≡ is.Map entries
out-map entries = search (rules, the_lemmas)

-- what is made of an answer under a test, where it is made so under the test
under : (b : Bool) (a : Answer) (v : Val) → (b ≡ true → a ≡ gives v) → TellsIf (Ok v) (if b then a else Misses)
under b a v made meets = under_test b a (test_holds b a meets) ∙ made (test_holds b a meets)

pub set_tells : (key of : Val) (items slice : List Val) (r : Result ℕ ℕ) (told : Bool) → of ≡ value.Set items → slice ≡ items → told ≡ is_ok r →
    (IsTrue (ascends slice) → StandsAt (λ v. v) order slice key r) → TellsIf (Ok (value.Bool told)) (member key (out-Val of))
set_tells key of items slice r told kind same answer stands =
    subst (λ l. TellsIf (Ok (value.Bool told)) (member key l)) (sym (ap out-Val kind ∙ out-set items))
    (under (ascends items) (gives (value.Bool (has order key items))) (value.Bool told) (λ rises. ap (λ b. gives (value.Bool b))
    (sym (answer ∙ set_told items key r (subst (λ l. IsTrue (ascends l) → StandsAt (λ v. v) order l key r) same stands rises)))))

-- whether a map has the key
map_told : (es : List (Val × Val)) (key : Val) (r : Result ℕ ℕ) → ascends (keys_of es) ≡ true → StandsAt (λ e. e.0) order es key r → is_some (find order key es) ≡ is_ok r
map_told es key (Ok i) rises stands = ap is_some (sym (map_at es key i (key, key) rises stands))
map_told es key (Err i) rises stands = ap is_some (sym (map_lacks es key i stands))

pub map_tells : (key of : Val) (entries slice : List (Val × Val)) (r : Result ℕ ℕ) (told : Bool) → of ≡ value.Map entries → slice ≡ entries → told ≡ is_ok r →
    (IsTrue (ascends (keys_of slice)) → StandsAt (λ e. e.0) order slice key r) → TellsIf (Ok (value.Bool told)) (member key (out-Val of))
map_tells key of entries slice r told kind same answer stands =
    subst (λ l. TellsIf (Ok (value.Bool told)) (member key l)) (sym (ap out-Val kind ∙ out-map entries))
    (under (ascends (keys_of entries)) (gives (value.Bool (is_some (find order key entries)))) (value.Bool told) (λ rises. ap (λ b. gives (value.Bool b))
    (map_told entries key r rises (subst (λ (l : List (Val × Val)). IsTrue (ascends (keys_of l)) → StandsAt (λ e. e.0) order l key r) same stands rises) ∙ sym answer)))

-- what GET makes of what is found
pub map_gives : (key of : Val) (entries slice : List (Val × Val)) (r : Result ℕ ℕ) (v : Val) → of ≡ value.Map entries → slice ≡ entries →
    (IsTrue (ascends (keys_of slice)) → StandsAt (λ e. e.0) order slice key r) → (ascends (keys_of slice) ≡ true → StandsAt (λ e. e.0) order slice key r → option (find order key slice) ≡ v) →
    TellsIf (Ok v) (found key (out-Val of))
map_gives key of entries slice r v kind same stands is_found =
    subst (λ l. TellsIf (Ok v) (found key l)) (sym (ap out-Val kind ∙ out-map entries))
    (subst (λ (l : List (Val × Val)). TellsIf (Ok v) (found key (is.Map l))) same
    (under (ascends (keys_of slice)) (gives (option (find order key slice))) v (λ rises. ap gives (is_found rises (stands rises)))))
