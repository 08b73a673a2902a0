-- What parts, levels and slots of a line stand for: answers to each question, and answers to two.
use Rattle.std.proofs.Common.{◌≡◌, ℕ, Bool, true, List, length, Option, None, Some, ap, sym, subst, ◌∙◌}
use Rattle.std.specs.Prelude.{◌↔◌}
use Rattle.value_core.specs.declared.ty.Ty.{Ty}
use Rattle.value_core.specs.declared.ty.Ty.TheVariants as type
use Rattle.michelson_code.specs.declared.operands.Level.{Level}
use Rattle.michelson_code.specs.declared.operands.Level.TheVariants as level
use Rattle.michelson_code.specs.declared.operands.Part.{Part}
use Rattle.value_core.specs.declared.ty.Ty.TheOpen as ty
use Rattle.michelson_code.proofs.Types.{list_part, map_parts, option_part, or_parts, pair_parts, set_part, shown_alike}
use Rattle.michelson_code.specs.Typing.{Choice, level_type}
use Rattle.michelson_typer.specs.declared.lines.Letters.{Letters}
use Rattle.michelson_typer.specs.declared.lines.Written.{Written}
use Rattle.michelson_code.specs.declared.operands.Slot.{Slot}
use Rattle.michelson_code.specs.declared.operands.Slot.TheVariants as slot
use Rattle.michelson_typer.specs.Matching.{Answers, SlotIs, LevelIs, PartIs}
use Rattle.michelson_typer.specs.Tables.{IsDistinct, are_in, parts_in, type_at}
use Rattle.michelson_typer.proofs.KeyLaws.{id_equal, id_passes, same_ids}
use Rattle.michelson_typer.proofs.LevelLaws.{level-once}

-- ---- the level of a type, tested

pub level_tested : (table : List Ty) → IsDistinct table → (id : ℕ) (found l : Level ℕ) → are_in table (parts_in found) ≡ true → are_in table (parts_in l) ≡ true →
    type_at table id ≡ level_type (type_at table) found → (b : Bool) → b ≡ same_ids found l → (b ≡ true) ↔ (type_at table id ≡ level_type (type_at table) l)
level_tested table distinct id found l here there is b tested = (
  λ holds. is ∙ ap (level_type (type_at table)) (id_equal found l (sym tested ∙ holds)),
  λ same. tested ∙ ap (same_ids found) (sym (level-once (type_at table) (length table) distinct found l here there (sym is ∙ same))) ∙ id_passes found,
)

-- ---- questions in other words

module _ (table : List Ty) (w : Written) where
  pub reworded : (l : Letters) (Q R : Choice → Type 0) (r : Option Letters) → ((c : Choice) → Q c → R c) → ((c : Choice) → R c → Q c) →
      Answers table w l Q r → Answers table w l R r
  reworded l Q R None there back never = λ c s q. never c s (back c q)
  reworded l Q R (Some m) there back n = record {
    holds = λ c s. ((n.holds c s).0, there c (n.holds c s).1);
    all = λ c s q. n.all c s (back c q);
  }

-- ---- levels of one part, and of two

pub big_map_parts : (a b c d : Ty) → type.BigMap a b ≡ type.BigMap c d → (a ≡ c) × (b ≡ d)
big_map_parts a b c d same = let shown : ty.BigMap a b ≡ ty.BigMap c d = shown_alike (λ (t : Ty). t) (λ (t : Ty). t) (level.BigMap a b) (level.BigMap c d) same in (cc, cc)

pub contract_part : (a b : Ty) → type.Contract a ≡ type.Contract b → a ≡ b
contract_part a b same = let shown : ty.Contract a ≡ ty.Contract b = shown_alike (λ (t : Ty). t) (λ (t : Ty). t) (level.Contract a) (level.Contract b) same in cc

module _ (table : List Ty) (w : Written) (l : Letters) (r : Option Letters) where
  pub one_option : (x : Level Part) (found : Level ℕ) (p : Part) (s : ℕ) → x ≡ level.Option p → found ≡ level.Option s →
      Answers table w l (PartIs table p s) r → Answers table w l (LevelIs table x found) r
  one_option x found p s x_is found_is answer =
      subst (λ (y : Level Part). Answers table w l (LevelIs table y found) r) (sym x_is)
      (subst (λ (y : Level ℕ). Answers table w l (LevelIs table (level.Option p) y) r) (sym found_is)
      (reworded table w l (PartIs table p s) (LevelIs table (level.Option p) (level.Option s)) r (λ c. ap type.Option) (λ c. option_part _ _) answer))

  pub one_list : (x : Level Part) (found : Level ℕ) (p : Part) (s : ℕ) → x ≡ level.List p → found ≡ level.List s →
      Answers table w l (PartIs table p s) r → Answers table w l (LevelIs table x found) r
  one_list x found p s x_is found_is answer =
      subst (λ (y : Level Part). Answers table w l (LevelIs table y found) r) (sym x_is)
      (subst (λ (y : Level ℕ). Answers table w l (LevelIs table (level.List p) y) r) (sym found_is)
      (reworded table w l (PartIs table p s) (LevelIs table (level.List p) (level.List s)) r (λ c. ap type.List) (λ c. list_part _ _) answer))

  pub one_set : (x : Level Part) (found : Level ℕ) (p : Part) (s : ℕ) → x ≡ level.Set p → found ≡ level.Set s →
      Answers table w l (PartIs table p s) r → Answers table w l (LevelIs table x found) r
  one_set x found p s x_is found_is answer =
      subst (λ (y : Level Part). Answers table w l (LevelIs table y found) r) (sym x_is)
      (subst (λ (y : Level ℕ). Answers table w l (LevelIs table (level.Set p) y) r) (sym found_is)
      (reworded table w l (PartIs table p s) (LevelIs table (level.Set p) (level.Set s)) r (λ c. ap type.Set) (λ c. set_part _ _) answer))

  pub one_contract : (x : Level Part) (found : Level ℕ) (p : Part) (s : ℕ) → x ≡ level.Contract p → found ≡ level.Contract s →
      Answers table w l (PartIs table p s) r → Answers table w l (LevelIs table x found) r
  one_contract x found p s x_is found_is answer =
      subst (λ (y : Level Part). Answers table w l (LevelIs table y found) r) (sym x_is)
      (subst (λ (y : Level ℕ). Answers table w l (LevelIs table (level.Contract p) y) r) (sym found_is)
      (reworded table w l (PartIs table p s) (LevelIs table (level.Contract p) (level.Contract s)) r (λ c. ap type.Contract) (λ c. contract_part _ _) answer))

  -- the two parts are asked for in turn
  abbrev pub Both : Part → ℕ → Part → ℕ → Choice → Type 0
  Both p s q t c = PartIs table p s c × PartIs table q t c

  pub two_or : (x : Level Part) (found : Level ℕ) (p q : Part) (s t : ℕ) → x ≡ level.Or p q → found ≡ level.Or s t →
      Answers table w l (Both p s q t) r → Answers table w l (LevelIs table x found) r
  two_or x found p q s t x_is found_is answer =
      subst (λ (y : Level Part). Answers table w l (LevelIs table y found) r) (sym x_is)
      (subst (λ (y : Level ℕ). Answers table w l (LevelIs table (level.Or p q) y) r) (sym found_is)
      (reworded table w l (Both p s q t) (LevelIs table (level.Or p q) (level.Or s t)) r (λ c h i. type.Or (h.0 i) (h.1 i)) (λ c. or_parts _ _ _ _) answer))

  pub two_pair : (x : Level Part) (found : Level ℕ) (p q : Part) (s t : ℕ) → x ≡ level.Pair p q → found ≡ level.Pair s t →
      Answers table w l (Both p s q t) r → Answers table w l (LevelIs table x found) r
  two_pair x found p q s t x_is found_is answer =
      subst (λ (y : Level Part). Answers table w l (LevelIs table y found) r) (sym x_is)
      (subst (λ (y : Level ℕ). Answers table w l (LevelIs table (level.Pair p q) y) r) (sym found_is)
      (reworded table w l (Both p s q t) (LevelIs table (level.Pair p q) (level.Pair s t)) r (λ c h i. type.Pair (h.0 i) (h.1 i)) (λ c. pair_parts _ _ _ _) answer))

  pub two_map : (x : Level Part) (found : Level ℕ) (p q : Part) (s t : ℕ) → x ≡ level.Map p q → found ≡ level.Map s t →
      Answers table w l (Both p s q t) r → Answers table w l (LevelIs table x found) r
  two_map x found p q s t x_is found_is answer =
      subst (λ (y : Level Part). Answers table w l (LevelIs table y found) r) (sym x_is)
      (subst (λ (y : Level ℕ). Answers table w l (LevelIs table (level.Map p q) y) r) (sym found_is)
      (reworded table w l (Both p s q t) (LevelIs table (level.Map p q) (level.Map s t)) r (λ c h i. type.Map (h.0 i) (h.1 i)) (λ c. map_parts _ _ _ _) answer))

  pub two_big_map : (x : Level Part) (found : Level ℕ) (p q : Part) (s t : ℕ) → x ≡ level.BigMap p q → found ≡ level.BigMap s t →
      Answers table w l (Both p s q t) r → Answers table w l (LevelIs table x found) r
  two_big_map x found p q s t x_is found_is answer =
      subst (λ (y : Level Part). Answers table w l (LevelIs table y found) r) (sym x_is)
      (subst (λ (y : Level ℕ). Answers table w l (LevelIs table (level.BigMap p q) y) r) (sym found_is)
      (reworded table w l (Both p s q t) (LevelIs table (level.BigMap p q) (level.BigMap s t)) r (λ c h i. type.BigMap (h.0 i) (h.1 i)) (λ c. big_map_parts _ _ _ _) answer))

  -- an option of a level is asked for below the option
  pub one_option_of : (y : Slot) (x : Level Part) (id t : ℕ) (found : Level ℕ) → y ≡ slot.OptionOf x → type_at table id ≡ type.Option (type_at table t) →
      type_at table t ≡ level_type (type_at table) found → Answers table w l (LevelIs table x found) r → Answers table w l (SlotIs table y id) r
  one_option_of y x id t found y_is is below answer =
      subst (λ (z : Slot). Answers table w l (SlotIs table z id) r) (sym y_is)
      (reworded table w l (LevelIs table x found) (SlotIs table (slot.OptionOf x) id) r
      (λ c h. ap type.Option (h ∙ sym below) ∙ sym is) (λ c h. option_part _ _ (h ∙ is) ∙ below) answer)
