-- Entries that are taken out from the last one on, and turned around.
use Rattle.std.specs.Prelude.{OnOk, if◌then◌else◌}
use Rattle.std.specs.Result.{is_ok}
use Rattle.std.proofs.Common.{◌≡◌, Result, Ok, Err, List, [], ◌∷◌, ◌++◌, map, reverse, refl, sym, ap, ◌∙◌, append_assoc}
use Rattle.std.proofs.lemmas.List.{append-nil, map-append, reverse-append, reverse-reverse}
use Rattle.value_core.specs.declared.val.Val.{Val}
use Rattle.data_nodes.specs.Storage.{Entry}

map-reverse : {A B : Type 0} (f : A → B) (xs : List A) → map f (reverse xs) ≡ reverse (map f xs)
map-reverse f [] = refl
map-reverse f (x ∷ xs) = ap (map f) (reverse-append (x ∷ []) xs) ∙ map-append f (reverse xs) (x ∷ []) ∙ ap (λ (l : List _). l ++ f x ∷ []) (map-reverse f xs) ∙ sym (reverse-append (f x ∷ []) (map f xs))

pub taken_more : (f : Val × Val → Entry) (left before : List (Val × Val)) (e : Val × Val) (taken total : List Entry) → before ≡ left ++ e ∷ [] → taken ++ map f (reverse before) ≡ total →
    (taken ++ f e ∷ []) ++ map f (reverse left) ≡ total
taken_more f left before e taken total is so_far =
    append_assoc taken (f e ∷ []) (map f (reverse left)) ∙ ap (λ (l : List (Val × Val)). taken ++ map f l) (sym (reverse-append left (e ∷ [])) ∙ ap reverse (sym is)) ∙ so_far

pub taken_all : (f : Val × Val → Entry) (left pairs : List (Val × Val)) (taken : List Entry) → left ≡ [] → taken ++ map f (reverse left) ≡ map f (reverse pairs) → reverse taken ≡ map f pairs
taken_all f left pairs taken none so_far =
    ap reverse (sym (append-nil taken) ∙ ap (λ (l : List (Val × Val)). taken ++ map f (reverse l)) (sym none) ∙ so_far ∙ map-reverse f pairs) ∙ reverse-reverse (map f pairs)

-- what stands there where an append succeeded
pub appended : {A E X : Type 0} (r : Result A E) (new whole old : X) → new ≡ (if is_ok r then whole else old) → OnOk r (new ≡ whole)
appended (Ok a) new whole old h = h
appended (Err e) new whole old h = tt
