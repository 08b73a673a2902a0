-- Levels are equal exactly where the test of their map says so.
use Rattle.std.proofs.Common.{◌≡◌, ℕ, Bool, true, false, refl}
use Rattle.std.specs.Prelude.{◌&&◌}
use Rattle.std.proofs.lemmas.Bool.{and_from, and_parts}
use Rattle.std.specs.declared.cmp.PartialEq.{Ghosts}
use Rattle.michelson_code.specs.declared.operands.Level.{Level}
use Rattle.michelson_code.specs.declared.operands.Level.TheVariants as level
use Rattle.michelson_code.specs.contracts.operands.LevelPartialEq.TheImpl as derived
use Rattle.std.specs.contracts.prelude.UsizePartialEq.TheImpl as ids
use Rattle.std.proofs.lemmas.Bool.{eq-eqb, eqb-true}
use denote.Builtin.{usize}
use denote.RattleType.{RattleType}
use mir.Syntax.{Dict, given}

module _ (R : RattleType) (G : Ghosts R.Denot) (D : Dict) (exact : (a b : R.Denot) → G.eq a b ≡ true → a ≡ b) (itself : (a : R.Denot) → G.eq a a ≡ true) where
  abbrev pub eq : Level R.Denot → Level R.Denot → Bool
  eq = (derived.ghosts R G D).eq

  one : (f : R.Denot → Level R.Denot) (a b : R.Denot) → G.eq a b ≡ true → f a ≡ f b
  one f a b h = let e = exact a b h in λ i. f (e i)

  two : (f : R.Denot → R.Denot → Level R.Denot) (a b c d : R.Denot) → (G.eq a c && G.eq b d) ≡ true → f a b ≡ f c d
  two f a b c d h = let both = and_parts _ _ h in let e = exact a c both.0 in let k = exact b d both.1 in λ i. f (e i) (k i)

  -- levels that pass are equal
  pub equal : (l m : Level R.Denot) → eq l m ≡ true → l ≡ m
  equal (level.Option a) (level.Option b) h = one level.Option a b h
  equal (level.List a) (level.List b) h = one level.List a b h
  equal (level.Set a) (level.Set b) h = one level.Set a b h
  equal (level.Contract a) (level.Contract b) h = one level.Contract a b h
  equal (level.Or a b) (level.Or c d) h = two level.Or a b c d h
  equal (level.Pair a b) (level.Pair c d) h = two level.Pair a b c d h
  equal (level.Map a b) (level.Map c d) h = two level.Map a b c d h
  equal (level.BigMap a b) (level.BigMap c d) h = two level.BigMap a b c d h
  equal level.Unit level.Unit h = refl
  equal level.Bool level.Bool h = refl
  equal level.Int level.Int h = refl
  equal level.Nat level.Nat h = refl
  equal level.Mutez level.Mutez h = refl
  equal level.Time level.Time h = refl
  equal level.Text level.Text h = refl
  equal level.Bytes level.Bytes h = refl
  equal level.Addr level.Addr h = refl
  equal level.Operation level.Operation h = refl
  equal l m h = absurd (apart h)
    where
      apart : false ≡ true → ⊥
      apart e = cc

  -- a level passes beside itself
  pub passes : (l : Level R.Denot) → eq l l ≡ true
  passes (level.Option a) = itself a
  passes (level.List a) = itself a
  passes (level.Set a) = itself a
  passes (level.Contract a) = itself a
  passes (level.Or a b) = and_from _ _ (itself a) (itself b)
  passes (level.Pair a b) = and_from _ _ (itself a) (itself b)
  passes (level.Map a b) = and_from _ _ (itself a) (itself b)
  passes (level.BigMap a b) = and_from _ _ (itself a) (itself b)
  passes level.Unit = refl
  passes _ = refl

-- ---- levels of numbers

pub one_id : (a b : ℕ) → (ids.ghosts).eq a b ≡ true → a ≡ b
one_id a b h = eqb-true a b h

pub id_itself : (a : ℕ) → (ids.ghosts).eq a a ≡ true
id_itself a = eq-eqb a a refl

-- the test of levels of numbers
abbrev pub same_ids : Level ℕ → Level ℕ → Bool
same_ids = eq usize ids.ghosts (given 0) one_id id_itself

pub id_equal : (l m : Level ℕ) → same_ids l m ≡ true → l ≡ m
id_equal = equal usize ids.ghosts (given 0) one_id id_itself

pub id_passes : (l : Level ℕ) → same_ids l l ≡ true
id_passes = passes usize ids.ghosts (given 0) one_id id_itself
