-- What a change of a set or a map leaves, by the place of the key.
use Rattle.std.proofs.Common.{◌≡◌, ℕ, Bool, true, false, List, Result, Ok, Err, sym, ap, subst, ◌∙◌, set}
use Rattle.std.specs.Prelude.{IsTrue, if◌then◌else◌, insert, remove}
use Rattle.value_core.specs.declared.val.Val.{Val}
use Rattle.value_core.specs.declared.val.Val.TheVariants as value
use Rattle.value_core.specs.Order.{order}
use Rattle.value_core.specs.Places.{StandsAt}
use Rattle.value_core.specs.Sorted.{keys_of, put, with_key, without, without_key}
use Rattle.value_core.specs.Sound.{ascends}
use Rattle.value_core.proofs.InsertionLemmas.{map_changed, map_inserted, set_inserted, set_kept}
use Rattle.value_core.proofs.SortedPlaces.{map_stays, map_without, set_stays, set_without}

-- a set by the place of the key
abbrev pub set_by : Result ℕ ℕ → Bool → List Val → Val → List Val
set_by (Ok i) true items key = items
set_by (Ok i) false items key = remove items i
set_by (Err i) true items key = insert items i key
set_by (Err i) false items key = items

abbrev pub set_with : Bool → Val → List Val → List Val
set_with there key items = if there then with_key order key items else without_key order key items

standing : (r : Result ℕ ℕ) (there : Bool) (items : List Val) (key : Val) → ascends items ≡ true → StandsAt (λ v. v) order items key r → set_by r there items key ≡ set_with there key items
standing (Ok i) true items key rises stands = set_kept items key i rises stands
standing (Ok i) false items key rises stands = set_without items key i rises stands
standing (Err i) true items key rises stands = set_inserted items key i stands
standing (Err i) false items key rises stands = set_stays items key i stands

pub set_change : (r : Result ℕ ℕ) (there test : Bool) (items slice new : List Val) (key : Val) → test ≡ there → slice ≡ items → (IsTrue (ascends slice) → StandsAt (λ v. v) order slice key r) →
    new ≡ set_by r there items key → IsTrue (ascends items) → new ≡ set_with test key items
set_change r there test items slice new key choice same stands made rises =
    made ∙ standing r there items key rises (subst (λ l. IsTrue (ascends l) → StandsAt (λ v. v) order l key r) same stands rises) ∙ ap (λ b. set_with b key items) (sym choice)

-- a map by the place of the key, with a value there
abbrev pub map_by : Result ℕ ℕ → List (Val × Val) → Val → Val → List (Val × Val)
map_by (Ok i) entries key v = set entries i (key, v)
map_by (Err i) entries key v = insert entries i (key, v)

put_at : (r : Result ℕ ℕ) (entries : List (Val × Val)) (key v : Val) → ascends (keys_of entries) ≡ true → StandsAt (λ e. e.0) order entries key r → map_by r entries key v ≡ put order key v entries
put_at (Ok i) entries key v rises stands = map_changed entries key v i rises stands
put_at (Err i) entries key v rises stands = map_inserted entries key v i stands

pub map_put_there : (r : Result ℕ ℕ) (entries slice new : List (Val × Val)) (key v : Val) → slice ≡ entries → (IsTrue (ascends (keys_of slice)) → StandsAt (λ e. e.0) order slice key r) →
    new ≡ map_by r entries key v → IsTrue (ascends (keys_of entries)) → new ≡ put order key v entries
map_put_there r entries slice new key v same stands made rises =
    made ∙ put_at r entries key v rises (subst (λ (l : List (Val × Val)). IsTrue (ascends (keys_of l)) → StandsAt (λ e. e.0) order l key r) same stands rises)

-- the value is what the choice has
pub map_put_part : (r : Result ℕ ℕ) (entries slice new : List (Val × Val)) (key part choice : Val) (told : Result Val Val) → slice ≡ entries → (IsTrue (ascends (keys_of slice)) → StandsAt (λ e. e.0) order slice key r) →
    new ≡ map_by r entries key part → told ≡ Ok part → ((v : Val) → choice ≡ value.Some v → told ≡ Ok v) →
    (v : Val) → choice ≡ value.Some v → IsTrue (ascends (keys_of entries)) → new ≡ put order key v entries
map_put_part r entries slice new key part choice told same stands made is has v chosen =
    let alike : part ≡ v = (let other : told ≡ Ok v = has v chosen in cc) in
    map_put_there r entries slice new key v same stands (made ∙ ap (λ w. map_by r entries key w) alike)

-- a map without the key
abbrev pub map_less : Result ℕ ℕ → List (Val × Val) → List (Val × Val)
map_less (Ok i) entries = remove entries i
map_less (Err i) entries = entries

less_at : (r : Result ℕ ℕ) (entries : List (Val × Val)) (key : Val) → ascends (keys_of entries) ≡ true → StandsAt (λ e. e.0) order entries key r → map_less r entries ≡ without order key entries
less_at (Ok i) entries key rises stands = map_without entries key i rises stands
less_at (Err i) entries key rises stands = map_stays entries key i stands

pub map_lacks_it : (r : Result ℕ ℕ) (entries slice new : List (Val × Val)) (key : Val) → slice ≡ entries → (IsTrue (ascends (keys_of slice)) → StandsAt (λ e. e.0) order slice key r) →
    new ≡ map_less r entries → IsTrue (ascends (keys_of entries)) → new ≡ without order key entries
map_lacks_it r entries slice new key same stands made rises =
    made ∙ less_at r entries key rises (subst (λ (l : List (Val × Val)). IsTrue (ascends (keys_of l)) → StandsAt (λ e. e.0) order l key r) same stands rises)
