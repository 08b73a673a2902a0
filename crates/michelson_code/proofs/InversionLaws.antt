-- What a typed instruction finds, by its form.
use Rattle.std.proofs.Common.{◌≡◌, ℕ, ◌+◌, List, ◌∷◌, ◌++◌, inl, inr, refl, subst, add-zero}
use Rattle.value_core.specs.declared.ty.Ty.{Ty}
use Rattle.value_core.specs.declared.ty.Ty.TheVariants as type
use Rattle.value_core.specs.Kinds.{is_comparable}
use Rattle.std.specs.Prelude.{IsTrue, Some}
use Rattle.michelson_code.specs.declared.instr.Instr.{Instr}
use Rattle.michelson_code.specs.declared.instr.Instr.TheOpen as one
use Rattle.michelson_code.specs.declared.instr.Instr.TheOpen.{Instr-F}
use Rattle.michelson_code.specs.declared.instr.Instr.TheViews.{out-Instr}
use Rattle.michelson_code.specs.declared.operands.Line.{Line}
use Rattle.michelson_code.specs.declared.script.Script.{Script}
use Rattle.michelson_code.specs.Forms.{bodies, form_at}
use Rattle.michelson_code.specs.Inversion.{Finds, FindsLine}
use Rattle.michelson_code.specs.Operands.{lines}
use Rattle.michelson_code.specs.Typing.{Applies, BodiesTyped, Choice, CodeTyped, InstrTyped, IsOneOf, Outcome, To, Runs, Start, given_types, slot_types, by_line, drop_n, dup_n, dig, dug, pair_n, unpair_n, dip, dip_n, if_true, if_none, if_left, if_cons, loop, loop_left, iter_list, iter_set, iter_map, map_list, map_map, failwith, applies, runs, one_body}

module _ (s : Script) (n : ℕ) where
  line_found : (x : Instr-F Instr) (l : Line) (c : Choice) (below : List Ty) → IsOneOf l (lines x) → given_types s x ≡ Some c.written →
      IsTrue (is_comparable c.k) → FindsLine s x (slot_types c l.0 ++ below) (To (slot_types c l.1 ++ below))
  line_found x l c below is given k = record {
    line = l;
    choice = c;
    below = below;
    is_line = is;
    written = given;
    comparable = k;
    operands = refl;
    results = refl;
  }

  by_form : (x : Instr-F Instr) (l : Line) (b : List Ty) (o : Outcome) → IsOneOf l (lines x) → FindsLine s x b o → Finds s n x b o
  by_form (one.DropN m) l b o is found = absurd is
  by_form (one.DupN m) l b o is found = absurd is
  by_form (one.Dig m) l b o is found = absurd is
  by_form (one.Dug m) l b o is found = absurd is
  by_form (one.PairN m) l b o is found = absurd is
  by_form (one.UnpairN m) l b o is found = absurd is
  by_form (one.Dip c) l b o is found = absurd is
  by_form (one.DipN m c) l b o is found = absurd is
  by_form (one.If c d) l b o is found = absurd is
  by_form (one.IfNone c d) l b o is found = absurd is
  by_form (one.IfLeft c d) l b o is found = absurd is
  by_form (one.IfCons c d) l b o is found = absurd is
  by_form (one.Loop c) l b o is found = absurd is
  by_form (one.LoopLeft c) l b o is found = absurd is
  by_form (one.Iter c) l b o is found = absurd is
  by_form (one.Map c) l b o is found = absurd is
  by_form one.Failwith l b o is found = absurd is
  by_form one.Drop l b o is found = found
  by_form _ l b o is found = found

  pub found_by_applying : (x : Instr-F Instr) (b t : List Ty) → Applies s x b t → Finds s n x b (To t)
  found_by_applying x b t (by_line y l c below is given k) = by_form x l _ _ is (line_found x l c below is given k)
  found_by_applying x b t (drop_n m items below long) = record { items = items; below = below; count = long; operands = refl; results = refl }
  found_by_applying x b t (dup_n m items a below long) =
      (_, (long, record { items = items; item = a; below = below; count = refl; operands = refl; results = refl }))
  found_by_applying x b t (dig m items a below long) = record { items = items; item = a; below = below; count = long; operands = refl; results = refl }
  found_by_applying x b t (dug m items a below long) =
      (a, (items ++ below, (refl, record { items = items; below = below; count = long; operands = refl; results = refl })))
  found_by_applying x b t (pair_n m items a below long) =
      (_, (long, record { items = items; item = a; below = below; count = refl; operands = refl; results = refl }))
  found_by_applying x b t (unpair_n m items a below long) = (items, (a, (below, (long, refl, refl))))

  -- no item is set aside
  at_hand : (c : List Instr) (b : List Ty) (o : Outcome) → CodeTyped s (n + 0) c b o → CodeTyped s n c b o
  at_hand c b o typed = subst (λ (m : ℕ). CodeTyped s m c b o) (add-zero n) typed

  pub found_by_running : (x : Instr-F Instr) (b : List Ty) (st : List Start) (es : List Outcome) (o : Outcome) → Runs x b st es o →
      BodiesTyped s n (bodies (form_at x).operands) st es → Finds s n x b o
  found_by_running x b st es o (dip c a u v) (one_body n' c' m start ms end ends typed rest) = (a, (u, (v, (refl, typed, refl))))
  found_by_running x b st es o (dip_n k c items u v long) (one_body n' c' m start ms end ends typed rest) =
      (items, (u, (v, (long, refl, typed, refl))))
  found_by_running x b st es o (if_true c d u e f p j) (one_body n' c' m start ms end ends typed (one_body n'' d' m' start' ms' end' ends' typed' rest)) =
      (u, (refl, record { end = e; other = f; typed = at_hand c u e typed; other_typed = at_hand d u f typed'; joined = j }))
  found_by_running x b st es o (if_none c d a u e f p j) (one_body n' c' m start ms end ends typed (one_body n'' d' m' start' ms' end' ends' typed' rest)) =
      (a, (u, (refl, record { end = e; other = f; typed = at_hand c u e typed; other_typed = at_hand d (a ∷ u) f typed'; joined = j })))
  found_by_running x b st es o (if_left c d l r u e f p j) (one_body n' c' m start ms end ends typed (one_body n'' d' m' start' ms' end' ends' typed' rest)) =
      (l, (r, (u, (refl, record { end = e; other = f; typed = at_hand c (l ∷ u) e typed; other_typed = at_hand d (r ∷ u) f typed'; joined = j }))))
  found_by_running x b st es o (if_cons c d a u e f p j) (one_body n' c' m start ms end ends typed (one_body n'' d' m' start' ms' end' ends' typed' rest)) =
      (a, (u, (refl, record { end = e; other = f; typed = at_hand c (a ∷ type.List a ∷ u) e typed; other_typed = at_hand d u f typed'; joined = j })))
  found_by_running x b st es o (loop c u e q) (one_body n' c' m start ms end ends typed rest) =
      (u, (refl, record { end = e; typed = at_hand c u e typed; ends = q; results = refl }))
  found_by_running x b st es o (loop_left c l r u e q) (one_body n' c' m start ms end ends typed rest) =
      (l, (r, (u, (refl, record { end = e; typed = at_hand c (l ∷ u) e typed; ends = q; results = refl }))))
  found_by_running x b st es o (iter_list c a u e q) (one_body n' c' m start ms end ends typed rest) =
      (a, (u, (inl refl, record { end = e; typed = at_hand c (a ∷ u) e typed; ends = q; results = refl })))
  found_by_running x b st es o (iter_set c a u e q) (one_body n' c' m start ms end ends typed rest) =
      (a, (u, (inr (inl refl), record { end = e; typed = at_hand c (a ∷ u) e typed; ends = q; results = refl })))
  found_by_running x b st es o (iter_map c k v u e q) (one_body n' c' m start ms end ends typed rest) =
      (type.Pair k v, (u, (inr (inr (k, (v, (refl, refl)))), record { end = e; typed = at_hand c (type.Pair k v ∷ u) e typed; ends = q; results = refl })))
  found_by_running x b st es o (map_list c a r u) (one_body n' c' m start ms end ends typed rest) =
      (a, (r, (u, (at_hand c (a ∷ u) _ typed, inl (refl, refl)))))
  found_by_running x b st es o (map_map c k v r u) (one_body n' c' m start ms end ends typed rest) =
      (type.Pair k v, (r, (u, (at_hand c (type.Pair k v ∷ u) _ typed, inr (k, (v, (refl, refl, refl)))))))
  found_by_running x b st es o (failwith a u may) bodies = (a, (u, (refl, may, refl)))

  pub found : (i : Instr) (b : List Ty) (o : Outcome) → InstrTyped s n i b o → Finds s n (out-Instr i) b o
  found i b o (applies n' i' b' t fit well x) = found_by_applying (out-Instr i) b t x
  found i b o (runs n' i' b' st es q fit x typed) = found_by_running (out-Instr i) b st es o x typed
