-- Lists, sets and maps: what is read of nodes is what they say.
use Rattle.std.proofs.Common.{◌≡◌, Bool, true, false, List, [], ◌∷◌, map, Option, Some, None, Ok, Err, refl, sym, ap, ◌∙◌}
use Rattle.std.specs.Prelude.{◌&&◌, if◌then◌else◌}
use Rattle.std.specs.List.{list_all}
use Rattle.std.proofs.lemmas.Bool.{and_from, and_parts}
use Rattle.value_core.specs.declared.ty.Ty.{Ty}
use Rattle.value_core.specs.declared.val.Val.{Val}
use Rattle.value_core.specs.Sound.{ascends, is_sound}
use Rattle.value_core.specs.Typed.{fits}
use Rattle.value_core.proofs.Levels.{Each}
use Rattle.micheline_text.specs.declared.node.Node.{Node}
use Rattle.data_nodes.specs.declared.fault.DataFault.{DataFault}
use Rattle.data_nodes.specs.Nodes.{all_are}
use Rattle.data_nodes.specs.Data.{is_written}
use Rattle.value_core.specs.Lasts.{is_above}
use Rattle.data_nodes.specs.Readers.{Read, Reader, ascending, items, made, then_read}
use Rattle.data_nodes.specs.Faults.{reader, storage_read}

-- ---- tests, and steps that succeeded

pub then_ok : {A B : Type 0} (r : Read A) (f : A → Read B) (b : B) → then_read r f ≡ Ok b → (a : A) × (r ≡ Ok a) × (f a ≡ Ok b)
then_ok (Ok a) f b h = (a, refl, h)
then_ok (Err e) f b h = absurd cc

pub made_ok : {A : Type 0} (f : A → Val) (r : Read A) (v : Val) → made f r ≡ Ok v → (a : A) × (r ≡ Ok a) × (f a ≡ v)
made_ok f (Ok a) v h = (a, refl, cc)
made_ok f (Err e) v h = absurd cc

pub if_ok : {A : Type 0} (b : Bool) (r : Read A) (e : DataFault) (a : A) → (if b then r else Err e) ≡ Ok a → (b ≡ true) × (r ≡ Ok a)
if_ok true r e a h = (refl, h)
if_ok false r e a h = absurd cc

-- ---- one value

-- data of the type, with good addresses, test by test
pub record Said (t : Ty) (n : Node) (v : Val) : Type 0 where
  pub sound : is_sound v ≡ true
  pub fit : fits v t ≡ true
  pub written : is_written v n ≡ true

-- what is read is what is said
pub record Agrees (t : Ty) (n : Node) (v : Val) : Type 0 where
  pub said : storage_read t n ≡ Ok v → Said t n v
  pub read : Said t n v → storage_read t n ≡ Ok v

abbrev pub Agree : Val → Type 0
Agree v = (t : Ty) (n : Node) → Agrees t n v

-- ---- items

module _ (t : Ty) where
  pub record AllSaid (vs : List Val) (nodes : List Node) : Type 0 where
    pub sound : list_all is_sound vs ≡ true
    pub fit : list_all (λ (f : Ty → Bool). f t) (map fits vs) ≡ true
    pub written : all_are (map is_written vs) nodes ≡ true

  pub items_said : (vs : List Val) (nodes : List Node) → Each Agree vs → items t (map reader nodes) ≡ Ok vs → AllSaid vs nodes
  items_said [] [] h r = record { sound = refl; fit = refl; written = refl }
  items_said [] (n ∷ nodes) h r =
      let one = then_ok (storage_read t n) (λ v. then_read (items t (map reader nodes)) (λ vs. Ok (v ∷ vs))) [] r in
      let rest = then_ok (items t (map reader nodes)) (λ vs. Ok (one.0 ∷ vs)) [] one.2 in
      absurd cc
  items_said (v ∷ vs) [] h r = absurd cc
  items_said (v ∷ vs) (n ∷ nodes) h r =
      let one = then_ok (storage_read t n) (λ a. then_read (items t (map reader nodes)) (λ xs. Ok (a ∷ xs))) (v ∷ vs) r in
      let rest = then_ok (items t (map reader nodes)) (λ xs. Ok (one.0 ∷ xs)) (v ∷ vs) one.2 in
      let head : one.0 ≡ v = cc in
      let tail : rest.0 ≡ vs = cc in
      let first = (h.0 t n).said (one.1 ∙ ap (λ (a : Val). Ok a) head) in
      let others = items_said vs nodes h.1 (rest.1 ∙ ap (λ (xs : List Val). Ok xs) tail) in
      record { sound = and_from _ _ first.sound others.sound; fit = and_from _ _ first.fit others.fit; written = and_from _ _ first.written others.written }

  pub items_read : (vs : List Val) (nodes : List Node) → Each Agree vs → AllSaid vs nodes → items t (map reader nodes) ≡ Ok vs
  items_read [] [] h a = refl
  items_read [] (n ∷ nodes) h a = let none : false ≡ true = a.written in absurd cc
  items_read (v ∷ vs) [] h a = let none : false ≡ true = a.written in absurd cc
  items_read (v ∷ vs) (n ∷ nodes) h a =
      let first : storage_read t n ≡ Ok v = (h.0 t n).read (record { sound = (and_parts (is_sound v) _ a.sound).0; fit = (and_parts (fits v t) _ a.fit).0; written = (and_parts (is_written v n) _ a.written).0 }) in
      let others : items t (map reader nodes) ≡ Ok vs = items_read vs nodes h.1
      (record { sound = (and_parts (is_sound v) _ a.sound).1; fit = (and_parts (fits v t) _ a.fit).1; written = (and_parts (is_written v n) _ a.written).1 }) in
      ap (λ (r : Read Val). then_read r (λ a. then_read (items t (map reader nodes)) (λ xs. Ok (a ∷ xs)))) first ∙ ap (λ (r : Read (List Val)). then_read r (λ xs. Ok (v ∷ xs))) others

  -- ---- items above one another

  -- each above the one before
  abbrev above : Option Val → List Val → Bool
  above None vs = ascends vs
  above (Some last) vs = ascends (last ∷ vs)

  above-none : (last : Option Val) → above last [] ≡ true
  above-none None = refl
  above-none (Some last) = refl

  above-cons : (last : Option Val) (v : Val) (vs : List Val) → above last (v ∷ vs) ≡ (is_above last v && ascends (v ∷ vs))
  above-cons None v vs = refl
  above-cons (Some last) v vs = refl

  ascending_from : (last : Option Val) (rs : List Reader) (vs : List Val) → ascending t last rs ≡ Ok vs → (items t rs ≡ Ok vs) × (above last vs ≡ true)
  ascending_from last [] vs h = let none : [] ≡ vs = cc in (h, ap (above last) (sym none) ∙ above-none last)
  ascending_from last (x ∷ rs) vs h =
      let one = then_ok (x.value t) (λ v. if is_above last v then then_read (ascending t (Some v) rs) (λ xs. Ok (v ∷ xs)) else Err _) vs h in
      let up = if_ok (is_above last one.0) (then_read (ascending t (Some one.0) rs) (λ xs. Ok (one.0 ∷ xs))) _ vs one.2 in
      let rest = then_ok (ascending t (Some one.0) rs) (λ xs. Ok (one.0 ∷ xs)) vs up.1 in
      let more = ascending_from (Some one.0) rs rest.0 rest.1 in
      let all : one.0 ∷ rest.0 ≡ vs = cc in (
        rw (one.1, more.0) rest.2,
        ap (above last) (sym all) ∙ above-cons last one.0 rest.0 ∙ and_from _ _ up.0 more.1,
      )

  ascending_to : (last : Option Val) (rs : List Reader) (vs : List Val) → items t rs ≡ Ok vs → above last vs ≡ true → ascending t last rs ≡ Ok vs
  ascending_to last [] vs h up = h
  ascending_to last (x ∷ rs) vs h up =
      let one = then_ok (x.value t) (λ v. then_read (items t rs) (λ xs. Ok (v ∷ xs))) vs h in
      let rest = then_ok (items t rs) (λ xs. Ok (one.0 ∷ xs)) vs one.2 in
      let all : one.0 ∷ rest.0 ≡ vs = cc in
      let both : (is_above last one.0 && ascends (one.0 ∷ rest.0)) ≡ true = sym (above-cons last one.0 rest.0) ∙ ap (above last) all ∙ up in
      let first = (and_parts (is_above last one.0) _ both).0 in
      let more : ascending t (Some one.0) rs ≡ Ok rest.0 = ascending_to (Some one.0) rs rest.0 rest.1 (and_parts (is_above last one.0) _ both).1 in
      rw (one.1, first, more) rest.2

  pub set_said : (vs : List Val) (nodes : List Node) → Each Agree vs → ascending t None (map reader nodes) ≡ Ok vs → AllSaid vs nodes × (ascends vs ≡ true)
  set_said vs nodes h r = let from = ascending_from None (map reader nodes) vs r in (items_said vs nodes h from.0, from.1)

  pub set_read : (vs : List Val) (nodes : List Node) → Each Agree vs → AllSaid vs nodes → ascends vs ≡ true → ascending t None (map reader nodes) ≡ Ok vs
  set_read vs nodes h a up = ascending_to None (map reader nodes) vs (items_read vs nodes h a) up
