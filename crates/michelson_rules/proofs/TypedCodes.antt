-- Codes: a typed code goes from its stack to its outcome, by induction on its instructions.
use Rattle.std.proofs.Common.{◌≡◌, ℕ, ◌+◌, ◌^◌, ◌≤◌, Bool, true, false, List, [], ◌∷◌, ◌++◌, map, inl, inr, refl, sym, ap, subst, ◌∙◌, rules, arith, add-zero, lt-ltb}
use Rattle.std.specs.Prelude.{IsTrue, nat_le, not, get_or, Option, Some, None}
use Rattle.std.specs.List.{AllByRecursion, list_all, list_any}
use Rattle.value_core.specs.declared.ty.Ty.{Ty}
use Rattle.value_core.specs.declared.ty.Ty.TheOpen as ty
use Rattle.value_core.specs.declared.ty.Ty.TheVariants as type
use Rattle.value_core.specs.declared.ty.Ty.TheViews.{the_lemmas}
use Rattle.value_core.specs.declared.val.Val.{Val}
use Rattle.value_core.specs.declared.val.Val.TheOpen as is
use Rattle.value_core.specs.declared.val.Val.TheViews.{out-Val}
use Rattle.value_core.specs.Depth.{depth_of_type}
use Rattle.value_core.specs.Kinds.{is_passable}
use Rattle.value_core.specs.Layer.{Layer}
use Rattle.value_core.specs.Nodes.{nodes_of}
use Rattle.value_core.specs.Sound.{is_plain, is_sound}
use Rattle.value_core.specs.Typed.{fits, has_type}
use Rattle.value_core.proofs.PlainTyped.{passable_is_plain, plain_within}
use Rattle.std.proofs.lemmas.Bool.{leb-true}
use Rattle.michelson_code.specs.WrittenTypes.{is_within_limits}
use Rattle.michelson_rules.proofs.CleanValues.{cleans}
use Rattle.value_core.proofs.Bools.{first_true, second_true}
use Rattle.michelson_code.specs.declared.instr.Instr.{Instr}
use Rattle.michelson_code.specs.declared.instr.Instr.TheOpen as one
use Rattle.michelson_code.specs.declared.instr.Instr.TheOpen.{Instr-F}
use Rattle.michelson_code.specs.declared.instr.Instr.TheViews.{out-Instr}
use Rattle.michelson_code.specs.declared.instr.Instr.TheFolds.{fold_out-Instr, map-Instr}
use Rattle.michelson_code.specs.declared.operands.Line.{Line}
use Rattle.michelson_code.specs.declared.script.Script.{Script}
use Rattle.michelson_code.specs.Forms.{bodies, bodies_of, form_at}
use Rattle.michelson_code.specs.Levels.{EachIn, induction}
use Rattle.michelson_code.specs.Operands.{lines}
use Rattle.michelson_code.specs.Typing.{Applies, BodiesTyped, Choice, CodeTyped, Fails, InstrTyped, IsKept, IsOneOf, Outcome, Runs, Start, To, called, comb_type, given_types, slot_list, slot_types, by_line, drop_n, dup_n, dig, dug, pair_n, unpair_n, dip, dip_n, if_true, if_none, if_left, if_cons, loop, loop_left, iter_list, iter_set, iter_map, map_list, map_map, failwith, applies, runs, one_body, done, goes_on, fails}
use Rattle.michelson_rules.specs.declared.ask.Env.{Env}
use Rattle.michelson_rules.specs.Answers.{Answered}
use Rattle.michelson_rules.specs.BigMaps.{Keyed, change_on_top, key_on_top, keyed, with_choice}
use Rattle.michelson_rules.specs.Bodies.{Meaning, below, in_turn}
use Rattle.michelson_rules.specs.Collections.{chosen}
use Rattle.michelson_rules.specs.Plain.{plain_at}
use Rattle.michelson_rules.specs.Rules.{act, answered, charged, or_plain, plain, rule, rules as rules_of}
use Rattle.michelson_rules.specs.Runs.{Beside, Changes, Mark, Run}
use Rattle.michelson_rules.specs.TypedRuns.{EndsSo, Goes, Leaves, MayBeRaised}
use Rattle.michelson_rules.specs.TypedStacks.{IsAnswered, asks, is_big_map, pushes_well}
use Rattle.michelson_rules.specs.TypedValues.{AllBelong, Belongs, FitsMaps, HasPassableItems, IsInRange}
use Rattle.michelson_rules.specs.World.{World}
use Rattle.michelson_rules.proofs.Belonging.{FitsHere, answered_ends, level_of, typing}
use Rattle.michelson_rules.proofs.Following.{ends_then, follows_itself, goes_then}
use Rattle.michelson_rules.proofs.Moves.{copies_from, digs, digs_in, drops, pairs, unpairs}
use Rattle.michelson_rules.proofs.PlainAnswered.{line_answered, pushes_well-of}
use Rattle.michelson_rules.proofs.TypedBigMaps.{balance_goes, contract_goes, get_and_update_goes, get_goes, mem_goes, update_goes}
use Rattle.michelson_rules.proofs.TypedBodies.{below_goes, ends_with, if_cons_goes, if_goes, if_left_goes, if_none_goes, joined_first, joined_second}
use Rattle.michelson_rules.proofs.TypedItems.{iter_list_goes, iter_map_goes, iter_set_goes, map_list_goes, map_map_goes}
use Rattle.michelson_rules.proofs.TypedLoops.{loop_goes, loop_left_goes}

-- no big map stands among the operands
abbrev is_quiet : Line → Bool
is_quiet l = not (list_any is_big_map (slot_list l.0))

one_passes : (p : Line → Bool) (l : Line) (ls : List Line) → IsOneOf l ls → list_all p ls ≡ true → p l ≡ true
one_passes p l [] is all = absurd is
one_passes p l (m ∷ ms) (inl e) all = ap p e ∙ first_true (p m) (list_all p ms) all
one_passes p l (m ∷ ms) (inr is) all = one_passes p l ms is (second_true (p m) (list_all p ms) all)

not_true : (b : Bool) → not b ≡ true → b ≡ false
not_true true h = sym h
not_true false h = refl

types_of : Option (List Ty) → List Ty
types_of None = []
types_of (Some ts) = ts

same_types : (ts us : List Ty) → Some ts ≡ Some us → ts ≡ us
unfolding types_of
same_types ts us e = ap types_of e

-- a value of a passable type within the limits may be raised
raised : (t : Ty) (v : Val) → is_passable t ≡ true → is_within_limits t ≡ true → has_type v t ≡ true → MayBeRaised v
raised t v may within typed =
    let plain : is_plain v ≡ true = passable_is_plain v t typed may in
    let deep : depth_of_type t ≤ 128 = leb-true (depth_of_type t) 128 (second_true (nat_le (nodes_of t) 16384) _ within) in
    record { plain = plain; free = (cleans t may v typed).free; depth = omega (arith, deep, plain_within v t plain (second_true (is_sound v) (fits v t) typed)) }

module _ (maps : List (Ty × Ty)) (price : ℕ → List Mark) (s : Script) (env : Env) (w : World) (fits : FitsMaps maps w) (range : IsInRange env) (passable : HasPassableItems maps) where
  abbrev rule_of : Instr → Meaning
  rule_of = rule price s env w

  -- one level of an instruction
  abbrev act_of : Instr-F Instr → Meaning
  act_of x = act price s env w (map-Instr Instr Meaning rule_of x)

  -- ---- instructions without bodies

  line_known : (versions : List Changes) (x : Instr-F Instr) (l : Line) (c : Choice) → IsOneOf l (lines x) → asks x l ≡ false → given_types s x ≡ Some c.written → IsTrue (pushes_well x) →
      (stack : List Val) (us : List Ty) → AllBelong maps versions stack (slot_types c l.0 ++ us) → IsAnswered (Belongs maps versions) (slot_types c l.1 ++ us) (plain_at s env x stack)
  line_known versions = line_answered (typing maps versions) s env (lt-ltb env.amount (2 ^ 63) range.amount)

  -- a line goes from its operands to its results
  abbrev LineGoes : Instr-F Instr → Choice → List Ty → Line → Type 0
  LineGoes x c below l = Goes maps (slot_types c l.0 ++ below) (To (slot_types c l.1 ++ below)) (act_of x)

  unless_big : {K : Type 0} (b : Beside) (ts : List Ty) (made : Answered) (on_big : K → Beside → Run (List Val)) (k : Option K) → k ≡ None → IsAnswered (Belongs maps b.versions) ts made →
      EndsSo (Leaves maps b (To ts)) (or_plain made k on_big b).ending
  unless_big {K} b ts made on_big k none all =
      subst (λ (o : Option K). EndsSo (Leaves maps b (To ts)) (or_plain made o on_big b).ending) (sym none) (answered_ends maps b b ts made (follows_itself b) all)

  set_is_none : (versions : List Changes) (a : Ty) (key : Val) (below : List Val) (x : Layer Val) → FitsHere maps versions x (ty.Set a) → keyed key below x ≡ None
  set_is_none versions a key below (is.Set items) fit = refl
  set_is_none versions a key below _ fit = absurd fit

  map_is_none : (versions : List Changes) (k t : Ty) (key : Val) (below : List Val) (x : Layer Val) → FitsHere maps versions x (ty.Map k t) → keyed key below x ≡ None
  map_is_none versions k t key below (is.Map entries) fit = refl
  map_is_none versions k t key below _ fit = absurd fit

  -- a collection that isn't a big map
  IsNoBigMap : Ty → Type 0
  IsNoBigMap t = (versions : List Changes) (v key : Val) (below : List Val) → Belongs maps versions v t → keyed key below (out-Val v) ≡ None

  set_is_no_big_map : (a : Ty) → IsNoBigMap (type.Set a)
  unfolding IsNoBigMap
  set_is_no_big_map a versions v key below has = set_is_none versions a key below (out-Val v) (level_of maps versions v (ty.Set a) (type.Set a) (search (rules, the_lemmas)) has)

  map_is_no_big_map : (k t : Ty) → IsNoBigMap (type.Map k t)
  unfolding IsNoBigMap
  map_is_no_big_map k t versions v key below has = map_is_none versions k t key below (out-Val v) (level_of maps versions v (ty.Map k t) (type.Map k t) (search (rules, the_lemmas)) has)

  no_key : (versions : List Changes) (a t : Ty) (us : List Ty) (stack : List Val) → IsNoBigMap t → AllBelong maps versions stack (a ∷ t ∷ us) → key_on_top stack ≡ None
  unfolding IsNoBigMap
  no_key versions a t us [] none has = absurd has
  no_key versions a t us (key ∷ []) none has = absurd has.1
  no_key versions a t us (key ∷ m ∷ below) none has = none versions m key below has.1.0

  no_change : (versions : List Changes) (a u t : Ty) (us : List Ty) (stack : List Val) → IsNoBigMap t → AllBelong maps versions stack (a ∷ u ∷ t ∷ us) → change_on_top stack ≡ None
  unfolding IsNoBigMap
  no_change versions a u t us [] none has = absurd has
  no_change versions a u t us (key ∷ []) none has = absurd has.1
  no_change versions a u t us (key ∷ choice ∷ []) none has = absurd has.1.1
  no_change versions a u t us (key ∷ choice ∷ m ∷ below) none has = ap (λ (k : Option Keyed). with_choice k (chosen (out-Val choice))) (none versions m key below has.1.1.0)

  at_line : (x : Instr-F Instr) (c : Choice) (below : List Ty) (l m : Line) → l ≡ m → LineGoes x c below m → LineGoes x c below l
  at_line x c below l m e goes = subst (LineGoes x c below) (sym e) goes

  mem_lines : (c : Choice) (below : List Ty) (l : Line) → given_types {A = Instr} s one.Mem ≡ Some c.written → IsOneOf l (lines {A = Instr} one.Mem) → LineGoes one.Mem c below l
  mem_lines c below l given (inl e) = at_line one.Mem c below l _ e (λ stack b has.
      unless_big b _ _ _ (key_on_top stack) (no_key b.versions c.a (type.Set c.a) below stack (set_is_no_big_map c.a) has) (line_known b.versions one.Mem _ c (inl refl) refl given refl stack below has))
  mem_lines c below l given (inr (inl e)) = at_line one.Mem c below l _ e (λ stack b has.
      unless_big b _ _ _ (key_on_top stack) (no_key b.versions c.a (type.Map c.a c.b) below stack (map_is_no_big_map c.a c.b) has) (line_known b.versions one.Mem _ c (inr (inl refl)) refl given refl stack below has))
  mem_lines c below l given (inr (inr (inl e))) = at_line one.Mem c below l _ e (mem_goes maps w fits passable c.a c.b below (plain price s env w one.Mem))
  mem_lines c below l given (inr (inr (inr none))) = absurd none

  get_lines : (c : Choice) (below : List Ty) (l : Line) → given_types {A = Instr} s one.Get ≡ Some c.written → IsOneOf l (lines {A = Instr} one.Get) → LineGoes one.Get c below l
  get_lines c below l given (inl e) = at_line one.Get c below l _ e (λ stack b has.
      unless_big b _ _ _ (key_on_top stack) (no_key b.versions c.a (type.Map c.a c.b) below stack (map_is_no_big_map c.a c.b) has) (line_known b.versions one.Get _ c (inl refl) refl given refl stack below has))
  get_lines c below l given (inr (inl e)) = at_line one.Get c below l _ e (get_goes maps w fits passable c.a c.b below (plain price s env w one.Get))
  get_lines c below l given (inr (inr none)) = absurd none

  update_lines : (c : Choice) (below : List Ty) (l : Line) → given_types {A = Instr} s one.Update ≡ Some c.written → IsOneOf l (lines {A = Instr} one.Update) → LineGoes one.Update c below l
  update_lines c below l given (inl e) = at_line one.Update c below l _ e (λ stack b has.
      unless_big b _ _ _ (change_on_top stack) (no_change b.versions c.a type.Bool (type.Set c.a) below stack (set_is_no_big_map c.a) has)
      (line_known b.versions one.Update _ c (inl refl) refl given refl stack below has))
  update_lines c below l given (inr (inl e)) = at_line one.Update c below l _ e (λ stack b has.
      unless_big b _ _ _ (change_on_top stack) (no_change b.versions c.a (type.Option c.b) (type.Map c.a c.b) below stack (map_is_no_big_map c.a c.b) has)
      (line_known b.versions one.Update _ c (inr (inl refl)) refl given refl stack below has))
  update_lines c below l given (inr (inr (inl e))) = at_line one.Update c below l _ e (update_goes maps w fits passable c.a c.b below (plain price s env w one.Update))
  update_lines c below l given (inr (inr (inr none))) = absurd none

  get_and_update_lines : (c : Choice) (below : List Ty) (l : Line) → given_types {A = Instr} s one.GetAndUpdate ≡ Some c.written → IsOneOf l (lines {A = Instr} one.GetAndUpdate) → LineGoes one.GetAndUpdate c below l
  get_and_update_lines c below l given (inl e) = at_line one.GetAndUpdate c below l _ e (λ stack b has.
      unless_big b _ _ _ (change_on_top stack) (no_change b.versions c.a (type.Option c.b) (type.Map c.a c.b) below stack (map_is_no_big_map c.a c.b) has)
      (line_known b.versions one.GetAndUpdate _ c (inl refl) refl given refl stack below has))
  get_and_update_lines c below l given (inr (inl e)) =
      at_line one.GetAndUpdate c below l _ e (get_and_update_goes maps w fits passable c.a c.b below (plain price s env w one.GetAndUpdate))
  get_and_update_lines c below l given (inr (inr none)) = absurd none

  contract_lines : (e : Option (List ℕ)) (t : Ty) (c : Choice) (below : List Ty) (l : Line) → given_types {A = Instr} s (one.Contract e t) ≡ Some c.written →
      IsOneOf l (lines {A = Instr} (one.Contract e t)) → LineGoes (one.Contract e t) c below l
  contract_lines e t c below l given (inl is) = at_line (one.Contract e t) c below l _ is
      (subst (λ (u : Ty). Goes maps (type.Addr ∷ below) (To (type.Option (type.Contract u) ∷ below)) (act_of (one.Contract e t)))
      (ap (λ (ts : List Ty). get_or ts 0 type.Unit) (same_types (t ∷ []) c.written given))
      (contract_goes maps w fits passable (called e) t below))
  contract_lines e t c below l given (inr none) = absurd none

  balance_lines : (c : Choice) (below : List Ty) (l : Line) → IsOneOf l (lines {A = Instr} one.Balance) → LineGoes one.Balance c below l
  balance_lines c below l (inl is) = at_line one.Balance c below l _ is (balance_goes maps w fits passable below)
  balance_lines c below l (inr none) = absurd none

  -- an instruction on its operands alone
  quiet_line : (x : Instr-F Instr) (l : Line) (c : Choice) (below : List Ty) → IsOneOf l (lines x) → asks x l ≡ false → given_types s x ≡ Some c.written → IsTrue (pushes_well x) →
      Goes maps (slot_types c l.0 ++ below) (To (slot_types c l.1 ++ below)) (λ stack. answered (plain_at s env x stack))
  quiet_line x l c below is quiet given well stack b has = answered_ends maps b b _ _ (follows_itself b) (line_known b.versions x l c is quiet given well stack below has)

  asks_not : (l : Line) (ls : List Line) → IsOneOf l ls → list_all is_quiet ls ≡ true → list_any is_big_map (slot_list l.0) ≡ false
  asks_not l ls is all = not_true (list_any is_big_map (slot_list l.0)) (one_passes is_quiet l ls is all)

  line_goes : (x : Instr-F Instr) (l : Line) (c : Choice) (below : List Ty) → IsOneOf l (lines x) → given_types s x ≡ Some c.written → IsTrue (pushes_well x) → LineGoes x c below l
  line_goes (one.DropN m) l c below is given well = absurd is
  line_goes (one.DupN m) l c below is given well = absurd is
  line_goes (one.Dig m) l c below is given well = absurd is
  line_goes (one.Dug m) l c below is given well = absurd is
  line_goes (one.PairN m) l c below is given well = absurd is
  line_goes (one.UnpairN m) l c below is given well = absurd is
  line_goes (one.Dip d) l c below is given well = absurd is
  line_goes (one.DipN m d) l c below is given well = absurd is
  line_goes (one.If d e) l c below is given well = absurd is
  line_goes (one.IfNone d e) l c below is given well = absurd is
  line_goes (one.IfLeft d e) l c below is given well = absurd is
  line_goes (one.IfCons d e) l c below is given well = absurd is
  line_goes (one.Loop d) l c below is given well = absurd is
  line_goes (one.LoopLeft d) l c below is given well = absurd is
  line_goes (one.Iter d) l c below is given well = absurd is
  line_goes (one.Map d) l c below is given well = absurd is
  line_goes one.Failwith l c below is given well = absurd is
  line_goes one.Mem l c below is given well = mem_lines c below l given is
  line_goes one.Get l c below is given well = get_lines c below l given is
  line_goes one.Update l c below is given well = update_lines c below l given is
  line_goes one.GetAndUpdate l c below is given well = get_and_update_lines c below l given is
  line_goes one.Balance l c below is given well = balance_lines c below l is
  line_goes (one.Contract e t) l c below is given well = contract_lines e t c below l given is
  line_goes (one.Push t v) l c below is given well = quiet_line (one.Push t v) l c below is (asks_not l (lines {A = Instr} (one.Push t v)) is refl) given well
  line_goes x l c below is given well = quiet_line x l c below is (asks_not l (lines x) is refl) given well

  -- an instruction without bodies
  applied_goes : (x : Instr-F Instr) (b t : List Ty) → IsTrue (pushes_well x) → Applies s x b t → Goes maps b (To t) (act_of x)
  applied_goes x b t well (by_line y l c below is given k) = line_goes x l c below is given well
  applied_goes x b t well (drop_n n items below long) = subst (λ (m : ℕ). Goes maps (items ++ below) (To below) (act_of (one.DropN m))) long
      (λ stack c has. answered_ends maps c c below _ (follows_itself c) (drops (typing maps c.versions) items below stack has))
  applied_goes x b t well (dup_n n items a below long) = subst (λ (m : ℕ). Goes maps (items ++ a ∷ below) (To (a ∷ (items ++ a ∷ below))) (act_of (one.DupN m))) long
      (λ stack c has. answered_ends maps c c (a ∷ (items ++ a ∷ below)) _ (follows_itself c) (copies_from (typing maps c.versions) items a below stack has))
  applied_goes x b t well (dig n items a below long) = subst (λ (m : ℕ). Goes maps (items ++ a ∷ below) (To (a ∷ (items ++ below))) (act_of (one.Dig m))) long
      (λ stack c has. answered_ends maps c c (a ∷ (items ++ below)) _ (follows_itself c) (digs (typing maps c.versions) items a below stack has))
  applied_goes x b t well (dug n items a below long) = subst (λ (m : ℕ). Goes maps (a ∷ (items ++ below)) (To (items ++ a ∷ below)) (act_of (one.Dug m))) long
      (λ stack c has. answered_ends maps c c (items ++ a ∷ below) _ (follows_itself c) (digs_in (typing maps c.versions) items a below stack has))
  applied_goes x b t well (pair_n n items a below long) = subst (λ (m : ℕ). Goes maps (items ++ a ∷ below) (To (comb_type items a ∷ below)) (act_of (one.PairN m))) long
      (λ stack c has. answered_ends maps c c (comb_type items a ∷ below) _ (follows_itself c) (pairs (typing maps c.versions) items a below stack has))
  applied_goes x b t well (unpair_n n items a below long) = subst (λ (m : ℕ). Goes maps (comb_type items a ∷ below) (To (items ++ a ∷ below)) (act_of (one.UnpairN m))) long
      (λ stack c has. answered_ends maps c c (items ++ a ∷ below) _ (follows_itself c) (unpairs (typing maps c.versions) items a below stack has))

  -- ---- instructions with bodies

  abbrev body_of : List Instr → Meaning
  body_of c = in_turn (map rule_of c)

  -- an instruction goes from each stack on which it is typed to its outcome
  abbrev InstrGoes : Instr → Type 0
  InstrGoes i = (n : ℕ) (b : List Ty) (o : Outcome) → IsKept n b → InstrTyped s n i b o → Goes maps b o (rule_of i)

  code_goes : (c : List Instr) → AllByRecursion InstrGoes c → (n : ℕ) (b : List Ty) (o : Outcome) → CodeTyped s n c b o → Goes maps b o (body_of c)
  code_goes [] each n b o (done n' b' kept) = λ stack beside has. (follows_itself beside, has)
  code_goes (i ∷ c) each n b o (goes_on n' i' c' b' between o' kept typed rest) =
      goes_then maps b between o (rule_of i) (body_of c) (each.0 n b (To between) kept typed) (code_goes c each.1 n between o rest)
  code_goes (i ∷ c) each n b o (fails n' i' b' kept typed) = λ stack beside has.
      ends_then (Leaves maps beside Fails) (Leaves maps beside Fails) (rule_of i stack beside).ending (in_turn []) (each.0 n b Fails kept typed stack beside has) (λ st d none. absurd none)

  -- no item is set aside
  at_hand : (n : ℕ) (c : List Instr) (b : List Ty) (o : Outcome) → CodeTyped s (n + 0) c b o → CodeTyped s n c b o
  at_hand n c b o typed = subst (λ (m : ℕ). CodeTyped s m c b o) (add-zero n) typed

  ran_goes : (x : Instr-F Instr) → EachIn InstrGoes (bodies (form_at x).operands) → (n : ℕ) (b : List Ty) (starts : List Start) (ends : List Outcome) (o : Outcome) → IsKept n b → Runs x b starts ends o →
      BodiesTyped s n (bodies (form_at x).operands) starts ends → Goes maps b o (act_of x)
  ran_goes x each n b st es o kept (dip c a u v) (one_body n' c' m start ms end ends typed rest) = below_goes maps (a ∷ []) u v (body_of c) (code_goes c each.0 _ u (To v) typed)
  ran_goes x each n b st es o kept (dip_n k c items u v long) (one_body n' c' m start ms end ends typed rest) =
      subst (λ (m : ℕ). Goes maps (items ++ u) (To (items ++ v)) (below m (body_of c))) long
      (below_goes maps items u v (body_of c) (code_goes c each.0 _ u (To v) typed))
  ran_goes x each n b st es o kept (if_true c d u e f p j) (one_body n' c' m start ms end ends typed (one_body n'' d' m' start' ms' end' ends' typed' rest)) =
      if_goes maps u p (body_of c) (body_of d)
      (joined_first maps u e f p (body_of c) j (code_goes c each.0 _ u e typed)) (joined_second maps u e f p (body_of d) j (code_goes d each.1.0 _ u f typed'))
  ran_goes x each n b st es o kept (if_none c d a u e f p j) (one_body n' c' m start ms end ends typed (one_body n'' d' m' start' ms' end' ends' typed' rest)) =
      if_none_goes maps a u p (body_of c) (body_of d)
      (joined_first maps u e f p (body_of c) j (code_goes c each.0 _ u e typed)) (joined_second maps (a ∷ u) e f p (body_of d) j (code_goes d each.1.0 _ (a ∷ u) f typed'))
  ran_goes x each n b st es o kept (if_left c d l r u e f p j) (one_body n' c' m start ms end ends typed (one_body n'' d' m' start' ms' end' ends' typed' rest)) =
      if_left_goes maps l r u p (body_of c) (body_of d)
      (joined_first maps (l ∷ u) e f p (body_of c) j (code_goes c each.0 _ (l ∷ u) e typed)) (joined_second maps (r ∷ u) e f p (body_of d) j (code_goes d each.1.0 _ (r ∷ u) f typed'))
  ran_goes x each n b st es o kept (if_cons c d a u e f p j) (one_body n' c' m start ms end ends typed (one_body n'' d' m' start' ms' end' ends' typed' rest)) =
      if_cons_goes maps a u p (body_of c) (body_of d)
      (joined_first maps (a ∷ type.List a ∷ u) e f p (body_of c) j (code_goes c each.0 _ (a ∷ type.List a ∷ u) e typed)) (joined_second maps u e f p (body_of d) j (code_goes d each.1.0 _ u f typed'))
  ran_goes x each n b st es o kept (loop c u e q) (one_body n' c' m start ms end ends typed rest) =
      loop_goes maps u (body_of c) (ends_with maps u (type.Bool ∷ u) e (body_of c) q (code_goes c each.0 _ u e typed))
  ran_goes x each n b st es o kept (loop_left c l r u e q) (one_body n' c' m start ms end ends typed rest) =
      loop_left_goes maps l r u (body_of c) (ends_with maps (l ∷ u) (type.Or l r ∷ u) e (body_of c) q (code_goes c each.0 _ (l ∷ u) e typed))
  ran_goes x each n b st es o kept (iter_list c a u e q) (one_body n' c' m start ms end ends typed rest) =
      iter_list_goes maps a u (body_of c) (ends_with maps (a ∷ u) u e (body_of c) q (code_goes c each.0 _ (a ∷ u) e typed))
  ran_goes x each n b st es o kept (iter_set c a u e q) (one_body n' c' m start ms end ends typed rest) =
      iter_set_goes maps a u (body_of c) (ends_with maps (a ∷ u) u e (body_of c) q (code_goes c each.0 _ (a ∷ u) e typed))
  ran_goes x each n b st es o kept (iter_map c k v u e q) (one_body n' c' m start ms end ends typed rest) =
      iter_map_goes maps k v u (body_of c) (ends_with maps (type.Pair k v ∷ u) u e (body_of c) q (code_goes c each.0 _ (type.Pair k v ∷ u) e typed))
  ran_goes x each n b st es o kept (map_list c a r u) (one_body n' c' m start ms end ends typed rest) =
      map_list_goes maps a r u (body_of c) (code_goes c each.0 _ (a ∷ u) (To (r ∷ u)) typed)
  ran_goes x each n b st es o kept (map_map c k v r u) (one_body n' c' m start ms end ends typed rest) =
      map_map_goes maps k v r u (body_of c) (code_goes c each.0 _ (type.Pair k v ∷ u) (To (r ∷ u)) typed)
  ran_goes x each n b st es o kept (failwith a u may) bodies = failed
    where
      failed : Goes maps (a ∷ u) Fails (act_of one.Failwith)
      failed [] beside has = absurd has
      failed (v ∷ stack) beside has = raised a v may (first_true (is_within_limits a) _ kept.types) has.0.typed

  at_level : (i : Instr) → rule_of i ≡ charged price s env w (map-Instr Instr Meaning rule_of (out-Instr i))
  at_level i = fold_out-Instr Meaning (charged price s env w) i

  instr_step : (i : Instr) → EachIn InstrGoes (bodies_of i) → InstrGoes i
  instr_step i each n b o kept (applies n' i' b' t fit well x) = subst (Goes maps b (To t)) (sym (at_level i)) (applied_goes (out-Instr i) b t (pushes_well-of (out-Instr i) fit) x)
  instr_step i each n b o kept (runs n' i' b' st es q fit x typed) = subst (Goes maps b o) (sym (at_level i)) (ran_goes (out-Instr i) each n b st es o kept x typed)

  each_goes : (c : List Instr) → AllByRecursion InstrGoes c
  each_goes [] = tt
  each_goes (i ∷ c) = (induction InstrGoes instr_step i, each_goes c)

  -- a typed code goes from its stack to its outcome
  pub typed_code_goes : (n : ℕ) (c : List Instr) (b : List Ty) (o : Outcome) → CodeTyped s n c b o → Goes maps b o (rules_of price s env w c)
  typed_code_goes n c b o typed = code_goes c (each_goes c) n b o typed
