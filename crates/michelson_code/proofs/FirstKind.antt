-- The first kind that holds is found where each kind is decided.
use Rattle.std.proofs.Common.{◌≡◌, ℕ, suc, ◌<◌, List, [], ◌∷◌, inl, inr, refl, sym, subst, ◌∙◌, arith}
use Rattle.std.specs.Prelude.{◌⊎◌}
use Rattle.michelson_code.specs.declared.type_fault.TypeKind.{TypeKind}
use Rattle.michelson_code.specs.declared.type_fault.TypeKind.TheVariants as kind
use Rattle.michelson_code.specs.FirstFault.{IsFirst, kind_number}
use Rattle.michelson_code.proofs.Deciding.{Decided}
use Rattle.michelson_code.proofs.FaultOnce.{Order, every_kind, is_above, is_below, is_same, order_of, same_number}

-- the kinds from a number on, to the end
abbrev AreFrom : ℕ → List TypeKind → Type 0
AreFrom m [] = m ≡ 11
AreFrom m (k ∷ ks) = (kind_number k ≡ m) × AreFrom (suc m) ks

all_kinds : AreFrom 0 every_kind
all_kinds = (refl, (refl, (refl, (refl, (refl, (refl, (refl, (refl, (refl, (refl, (refl, refl)))))))))))

low_number : (k : TypeKind) → kind_number k < 11
low_number kind.StackTooShort = omega arith
low_number _ = omega arith

module _ (Holds : TypeKind → Type 0) where
  -- a kind is the first that holds
  pub record First : Type 0 where
    pub kind : TypeKind
    pub first : IsFirst Holds kind

  abbrev NoneUpTo : ℕ → Type 0
  NoneUpTo m = (j : TypeKind) → kind_number j < m → Holds j → ⊥

  one_more : (m : ℕ) (k : TypeKind) → NoneUpTo m → kind_number k ≡ m → (Holds k → ⊥) → NoneUpTo (suc m)
  one_more m k none is never j less = go (order_of (kind_number j) m)
    where
      go : Order (kind_number j) m → Holds j → ⊥
      go (is_below low) holds = none j low holds
      go (is_above high) holds = absurd (omega arith)
      go (is_same same) holds = never (subst Holds (same_number j k (same ∙ sym is)) holds)

  search_from : ((k : TypeKind) → Decided (Holds k)) → (m : ℕ) (ks : List TypeKind) → AreFrom m ks → NoneUpTo m → First ⊎ NoneUpTo 11
  search_from decide m [] end none = inr (subst NoneUpTo end none)
  search_from decide m (k ∷ ks) from none = go (decide k) (search_from decide (suc m) ks from.1)
    where
      go : Decided (Holds k) → (NoneUpTo (suc m) → First ⊎ NoneUpTo 11) → First ⊎ NoneUpTo 11
      go (inl holds) further = inl (record { kind = k; first = record { holds = holds; none_before = subst NoneUpTo (sym from.0) none } })
      go (inr never) further = further (one_more m k none from.0 never)

  -- the first kind that holds, or none does
  pub first_or_none : ((k : TypeKind) → Decided (Holds k)) → First ⊎ ((k : TypeKind) → Holds k → ⊥)
  first_or_none decide = go (search_from decide 0 every_kind all_kinds (λ j less holds. absurd (omega arith)))
    where
      go : First ⊎ NoneUpTo 11 → First ⊎ ((k : TypeKind) → Holds k → ⊥)
      go (inl first) = inl first
      go (inr none) = inr (λ k. none k (low_number k))
