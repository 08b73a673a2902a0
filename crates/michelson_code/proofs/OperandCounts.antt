-- An instruction that finds its operands has enough of them.
use Rattle.std.proofs.Common.{◌≡◌, ℕ, ◌+◌, ◌<◌, suc, List, [], ◌∷◌, ◌++◌, length, map, inl, inr, refl, ap, sym, subst, ◌∙◌, arith, length-append}
use Rattle.std.specs.List.{AllByRecursion}
use Rattle.std.proofs.lemmas.List.{length-map}
use Rattle.value_core.specs.declared.ty.Ty.{Ty}
use Rattle.value_core.specs.declared.ty.Ty.TheVariants as type
use Rattle.michelson_code.specs.declared.instr.Instr.TheOpen as one
use Rattle.michelson_code.specs.declared.instr.Instr.TheOpen.{Instr-F}
use Rattle.michelson_code.specs.declared.operands.Line.{Line}
use Rattle.michelson_code.specs.declared.operands.Slot.{Slot}
use Rattle.michelson_code.specs.declared.script.Script.{Script}
use Rattle.michelson_code.specs.FirstFault.{IsLone, IsShort, for_each_line, lone, without_line, items_taken}
use Rattle.michelson_code.specs.Operands.{lines}
use Rattle.michelson_code.specs.Typing.{Applies, Choice, IsOneOf, Outcome, Runs, Start, comb_type, slot_list, slot_type, slot_types, by_line, drop_n, dup_n, dig, dug, pair_n, unpair_n, dip, dip_n, if_true, if_none, if_left, if_cons, loop, loop_left, iter_list, iter_set, iter_map, map_list, map_map, failwith}
use Rattle.michelson_code.proofs.Types.{list_is_no_bytes, list_is_no_text}

each_line : (P : Line → Type 0) (ls : List Line) (m : Line) → AllByRecursion P ls → IsOneOf m ls → P m
each_line P [] m all is = absurd is
each_line P (l ∷ ls) m all (inl same) = subst P (sym same) all.0
each_line P (l ∷ ls) m all (inr is) = each_line P ls m all.1 is

counted : (c : Choice) (xs : List Slot) (below : List Ty) → length (map (slot_type c) xs ++ below) ≡ length xs + length below
counted c xs below = length-append (map (slot_type c) xs) below ∙ ap (λ (n : ℕ). n + length below) (length-map xs (slot_type c))

at_least : (c : Choice) (xs : List Slot) (below : List Ty) → length (map (slot_type c) xs ++ below) < length xs → ⊥
at_least c xs below less = let is = counted c xs below in omega arith

front_short : (xs below : List Ty) (n : ℕ) → length xs ≡ n → length (xs ++ below) < n → ⊥
front_short xs below n long less = let is = length-append xs below in omega arith

more_short : (xs : List Ty) (t : Ty) (below : List Ty) (n : ℕ) → suc (length xs) ≡ n → length (xs ++ t ∷ below) < n → ⊥
more_short xs t below n long less =
    let is = length-append xs (t ∷ below) in let cons : length (t ∷ below) ≡ suc (length below) = refl in omega arith

top_short : (c : Ty) (r : List Ty) → length (c ∷ r) < 1 → ⊥
top_short c r less = let cons : length (c ∷ r) ≡ suc (length r) = refl in omega arith

module _ {A : Type 0} where
  lone_has_lines : (x : Instr-F A) (b : List Ty) → IsLone x b → lines x ≡ [] → ⊥
  lone_has_lines one.Concat b is none = cc
  lone_has_lines one.Drop b is none = is
  lone_has_lines x b is none = is

  -- an instruction without lines is short where it takes more items
  pub bare_short : (x : Instr-F A) (b : List Ty) → lines x ≡ [] → IsShort x b → length b < items_taken x
  bare_short x b none (for_each_line l is all) = absurd (subst (IsOneOf l) none is)
  bare_short x b none (lone is) = absurd (lone_has_lines x b is none)
  bare_short x b none (without_line none' less) = less

  -- a lone string or bytes is no line's operands
  lone_line : (x : Instr-F A) (m : Line) (c : Choice) (below : List Ty) → IsLone x (slot_types c m.0 ++ below) → IsOneOf m (lines x) → ⊥
  lone_line one.Concat m c below (inl alone) (inl two_strings) =
      let e : type.Text ∷ type.Text ∷ below ≡ type.Text ∷ [] = subst (λ (l : Line). slot_types c l.0 ++ below ≡ type.Text ∷ []) two_strings alone in cc
  lone_line one.Concat m c below (inl alone) (inr (inl two_bytes)) =
      let e : type.Bytes ∷ type.Bytes ∷ below ≡ type.Text ∷ [] = subst (λ (l : Line). slot_types c l.0 ++ below ≡ type.Text ∷ []) two_bytes alone in cc
  lone_line one.Concat m c below (inl alone) (inr (inr (inl strings))) =
      let e : type.List type.Text ∷ below ≡ type.Text ∷ [] = subst (λ (l : Line). slot_types c l.0 ++ below ≡ type.Text ∷ []) strings alone in
      let top : type.List type.Text ≡ type.Text = cc in
      list_is_no_text type.Text top
  lone_line one.Concat m c below (inr alone) (inl two_strings) =
      let e : type.Text ∷ type.Text ∷ below ≡ type.Bytes ∷ [] = subst (λ (l : Line). slot_types c l.0 ++ below ≡ type.Bytes ∷ []) two_strings alone in cc
  lone_line one.Concat m c below (inr alone) (inr (inl two_bytes)) =
      let e : type.Bytes ∷ type.Bytes ∷ below ≡ type.Bytes ∷ [] = subst (λ (l : Line). slot_types c l.0 ++ below ≡ type.Bytes ∷ []) two_bytes alone in cc
  lone_line one.Concat m c below (inr alone) (inr (inr (inl strings))) =
      let e : type.List type.Text ∷ below ≡ type.Bytes ∷ [] = subst (λ (l : Line). slot_types c l.0 ++ below ≡ type.Bytes ∷ []) strings alone in
      let top : type.List type.Text ≡ type.Bytes = cc in
      list_is_no_bytes type.Text top
  lone_line one.Concat m c below alone (inr (inr (inr never))) = never
  lone_line one.Drop m c below is is_line = is
  lone_line x m c below is is_line = is

  pub enough_applies : (s : Script) (x : Instr-F A) (b t : List Ty) → IsShort x b → Applies s x b t → ⊥
  enough_applies s x b t (for_each_line l is all) (by_line y m c below is' given k) =
      at_least c (slot_list m.0) below (each_line (λ (n : Line). length (slot_types c m.0 ++ below) < length (slot_list n.0)) (lines x) m all is')
  enough_applies s x b t (lone is) (by_line y m c below is' given k) = lone_line x m c below is is'
  enough_applies s x b t (without_line none less) (by_line y m c below is' given k) = subst (IsOneOf m) none is'
  enough_applies s x b t short (drop_n n items below long) = front_short items below n long (bare_short (one.DropN n) _ refl short)
  enough_applies s x b t short (dup_n n items a below long) = more_short items a below n long (bare_short (one.DupN n) _ refl short)
  enough_applies s x b t short (dig n items a below long) = more_short items a below (suc n) (ap suc long) (bare_short (one.Dig n) _ refl short)
  enough_applies s x b t short (dug n items a below long) =
      let less : length (a ∷ (items ++ below)) < suc n = bare_short (one.Dug n) _ refl short in
      front_short items below n long (let cons : length (a ∷ (items ++ below)) ≡ suc (length (items ++ below)) = refl in omega arith)
  enough_applies s x b t short (pair_n n items a below long) = more_short items a below n long (bare_short (one.PairN n) _ refl short)
  enough_applies s x b t short (unpair_n n items a below long) = top_short (comb_type items a) below (bare_short (one.UnpairN n) _ refl short)

  pub enough_runs : (x : Instr-F A) (b : List Ty) (st : List Start) (es : List Outcome) (o : Outcome) → IsShort x b → Runs x b st es o → ⊥
  enough_runs x b st es o short (dip c a u v) = top_short a u (bare_short (one.Dip c) _ refl short)
  enough_runs x b st es o short (dip_n n c items u v long) = front_short items u n long (bare_short (one.DipN n c) _ refl short)
  enough_runs x b st es o short (if_true c d u e f p j) = top_short type.Bool u (bare_short (one.If c d) _ refl short)
  enough_runs x b st es o short (if_none c d a u e f p j) = top_short (type.Option a) u (bare_short (one.IfNone c d) _ refl short)
  enough_runs x b st es o short (if_left c d l r u e f p j) = top_short (type.Or l r) u (bare_short (one.IfLeft c d) _ refl short)
  enough_runs x b st es o short (if_cons c d a u e f p j) = top_short (type.List a) u (bare_short (one.IfCons c d) _ refl short)
  enough_runs x b st es o short (loop c u e q) = top_short type.Bool u (bare_short (one.Loop c) _ refl short)
  enough_runs x b st es o short (loop_left c l r u e q) = top_short (type.Or l r) u (bare_short (one.LoopLeft c) _ refl short)
  enough_runs x b st es o short (iter_list c a u e q) = top_short (type.List a) u (bare_short (one.Iter c) _ refl short)
  enough_runs x b st es o short (iter_set c a u e q) = top_short (type.Set a) u (bare_short (one.Iter c) _ refl short)
  enough_runs x b st es o short (iter_map c k v u e q) = top_short (type.Map k v) u (bare_short (one.Iter c) _ refl short)
  enough_runs x b st es o short (map_list c a r u) = top_short (type.List a) u (bare_short (one.Map c) _ refl short)
  enough_runs x b st es o short (map_map c k v r u) = top_short (type.Map k v) u (bare_short (one.Map c) _ refl short)
  enough_runs x b st es o short (failwith a u may) = top_short a u (bare_short one.Failwith _ refl short)
