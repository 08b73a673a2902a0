-- The verdict of bytes: a text with its tree, or a fault at its place.
use Rattle.std.proofs.Common.{◌≡◌, ℕ, suc, ◌+◌, ◌-◌, ◌≤◌, ◌==◌, true, false, cond, List, [], ◌∷◌, ◌++◌, length, drop, refl, sym, ap, subst, ◌∙◌, arith, inl, inr, ◌⊎◌, append_assoc, Result, Ok, Err, Option, Some, None}
use Rattle.std.proofs.lemmas.List.{append-nil}
use Rattle.ligo_tokens.specs.Layout.{AreLaid}
use Rattle.ligo_tokens.specs.Lexing.{tokens_of}
use Rattle.ligo_tokens.specs.declared.token.Token.{Token}
use Rattle.ligo_tokens.specs.declared.token.Kind.{Kind}
use Rattle.ligo_tokens.specs.declared.token.Kind.TheVariants as kind
use Rattle.ligo_tokens.specs.declared.token.Says.{Says}
use Rattle.ligo_tokens.specs.declared.token.Says.TheVariants as says
use Rattle.ligo_syntax.specs.declared.fault.Stop.{Stop}
use Rattle.ligo_syntax.specs.declared.fault.Stop.TheVariants as stop
use Rattle.ligo_syntax.specs.declared.fault.Expected.{Expected}
use Rattle.ligo_syntax.specs.declared.fault.Expected.TheVariants as expected
use Rattle.ligo_syntax.specs.declared.fault.SyntaxFault.{SyntaxFault}
use Rattle.ligo_syntax.specs.declared.program.Decl.{Decl}
use Rattle.ligo_syntax.specs.declared.program.Program.{Program}
use Rattle.ligo_syntax.specs.Kinds.{Tokens, code, sort_of, sort}
use Rattle.ligo_syntax.specs.Readers.{Read}
use Rattle.ligo_syntax.specs.Depth.{decl_depth, program_depth, deepest}
use Rattle.ligo_syntax.specs.ProgramTrees.{program_of}
use Rattle.ligo_syntax.specs.Grammar.{IsLooseText, IsText}
use Rattle.ligo_syntax.specs.Reading.{decls_at}
use Rattle.ligo_syntax.specs.Faults.{GoesOn, Fits, IsStuck, CanStand, WantsSmaller, IsPlace, place_of, smaller, IsFaultOf, IsTextOf}
use Rattle.ligo_syntax.specs.Verdict.{all_of, most_deep, decls_of, goes_past, kind_at, fault_of, verdict_of, verdict}
use Rattle.ligo_syntax.proofs.Sets.{by_case}
use Rattle.ligo_syntax.proofs.Splits.{last_or_before, Further, compare, front_is, after_is}
use Rattle.ligo_syntax.proofs.Answered.{one_text, shorter_goes, Faulty, Sunk, told_text, told_fault, told_depth, told_memory, told_only}

-- ---- at the depth of programs

less_deep : ℕ
less_deep = 509

is_less : less_deep ≡ 509
unfolding less_deep
is_less = refl

is_most : most_deep ≡ suc (suc less_deep)
unfolding less_deep most_deep
is_most = refl

read_alike : (ts : Tokens) → decls_of ts ≡ all_of (decls_at (suc (suc less_deep)) ts)
read_alike ts = ap (λ m. all_of (decls_at m ts)) is_most

text_is : (ts : Tokens) (ds : List Decl) → decls_of ts ≡ Ok ds → IsText ts ds
text_is ts ds h =
    let r = told_text less_deep ts ds (decls_at (suc (suc less_deep)) ts) refl (sym (read_alike ts) ∙ h) in
    let le = r.1 in
    ((suc (suc less_deep), r.0), omega (arith, le, is_less))

fault_is : (ts : Tokens) (k : Expected) (n : ℕ) → decls_of ts ≡ Err (stop.Unexpected k n) → Faulty ts k n
fault_is ts k n h = told_fault less_deep ts k n (decls_at (suc (suc less_deep)) ts) refl (sym (read_alike ts) ∙ h)

depth_is : (ts : Tokens) (n : ℕ) → decls_of ts ≡ Err (stop.TooDeep n) → Sunk less_deep ts n
depth_is ts n h = told_depth less_deep ts n (decls_at (suc (suc less_deep)) ts) refl (sym (read_alike ts) ∙ h)

memory_is : (ts : Tokens) → decls_of ts ≡ Err stop.NoMemory → ⊥
memory_is ts h = told_memory less_deep ts (decls_at (suc (suc less_deep)) ts) refl (sym (read_alike ts) ∙ h)

-- a program is one deeper than its declarations
bounded : (ds : List Decl) → program_depth ds ≤ 512 → deepest decl_depth ds ≤ suc (suc less_deep)
bounded ds le =
    let i : 1 + deepest decl_depth ds ≤ 512 = le in
    omega (arith, i, is_less)

pub text_read : (ts : Tokens) (ds : List Decl) → IsText ts ds → decls_of ts ≡ Ok ds
text_read ts ds (r, le) = read_alike ts ∙ told_only less_deep r.0 ts ds (r.1) (bounded ds le)

-- ---- numerals past their range

code_small : (k : Kind) → (code k == 64) ≡ false
code_small kind.Name = refl
code_small k = refl

wide_says : (k : Kind) (said : Option Says) → (sort_of k said == 64) ≡ true → said ≡ Some says.Wide
wide_says k None h = let f = code_small k in absurd cc
wide_says k (Some says.Wide) h = refl
wide_says k (Some (says.Word w)) h = let f = code_small k in absurd cc
wide_says k (Some (says.Number n)) h = let f = code_small k in absurd cc
wide_says k (Some (says.Mutez n)) h = let f = code_small k in absurd cc
wide_says k (Some (says.Bytes b)) h = let f = code_small k in absurd cc
wide_says k (Some (says.Text b)) h = let f = code_small k in absurd cc

wide_sort : (t : Token) → t.says ≡ Some says.Wide → (sort t == 64) ≡ true
wide_sort t h = ap (λ said. sort_of t.kind said == 64) h

-- reading goes past the last token exactly where a text goes on behind it
past : (front : Tokens) (s : Token) (after : Tokens) → ((n : ℕ) → decls_of (front ++ after) ≡ Err (stop.TooDeep n) → ⊥) → (x : Result (List Decl) Stop) → decls_of (front ++ s ∷ []) ≡ x → goes_past x ≡ true → GoesOn (front ++ s ∷ [])
past front s after fits (Ok ds) e h = ([], ds, subst (λ l. IsLooseText l ds) (sym (append-nil (front ++ s ∷ []))) (text_is (front ++ s ∷ []) ds e).0)
past front s after fits (Err (stop.Unexpected k n)) e h = ended (fault_is (front ++ s ∷ []) k n e) where
  nothing_left : (after : Tokens) → n ≡ length after → after ≡ []
  nothing_left [] l = refl
  nothing_left (t ∷ after) l = absurd (grind arith)

  ended : Faulty (front ++ s ∷ []) k n → GoesOn (front ++ s ∷ [])
  ended f =
      let c = f.stands in
      let e : front ++ s ∷ [] ≡ f.front = f.whole ∙ ap (λ l. f.front ++ l) (nothing_left f.after f.left) ∙ append-nil f.front in
      subst GoesOn (sym e) (c.0, c.1, c.3)
past front s after fits (Err (stop.TooDeep n)) e h = where_it_is (depth_is (front ++ s ∷ []) n e) where
  where_it_is : Sunk less_deep (front ++ s ∷ []) n → GoesOn (front ++ s ∷ [])
  where_it_is k = by_place (last_or_before front k.front s k.token k.after k.whole) where
    by_place : ((k.after ≡ []) × (front ≡ k.front) × (s ≡ k.token)) ⊎ ((m : Tokens) × (front ≡ k.front ++ k.token ∷ m)) → GoesOn (front ++ s ∷ [])
    by_place (inl i) = subst GoesOn (ap (λ l. l ++ k.token ∷ []) (sym (i.1)) ∙ ap (λ t. front ++ t ∷ []) (sym (i.2))) k.goes
    by_place (inr i) =
        let r = k.token ∷ (i.0 ++ after) in
        let one : front ++ after ≡ k.front ++ r = ap (λ l. l ++ after) (i.1) ∙ append_assoc k.front (k.token ∷ i.0) after in
        let deep : decls_at (suc (suc less_deep)) (k.front ++ r) ≡ Err (stop.TooDeep (length r)) = k.again r refl in
        absurd (fits (length r) (ap decls_of one ∙ read_alike (k.front ++ r) ∙ ap (λ (x : Read (List Decl)). all_of x) deep))
past front s after fits (Err stop.NoMemory) e h = absurd (memory_is (front ++ s ∷ []) e)

not_past : (ts : Tokens) (x : Result (List Decl) Stop) → decls_of ts ≡ x → goes_past x ≡ false → GoesOn ts → ⊥
not_past ts (Ok ds) e h g = absurd cc
not_past ts (Err (stop.Unexpected k n)) e h g = stops (fault_is ts k n e) where
  stops : Faulty ts k n → ⊥
  stops f = at_after f.after refl where
    at_after : (after : Tokens) → f.after ≡ after → ⊥
    at_after [] is = let l : n ≡ 0 = f.left ∙ ap length is in absurd (grind arith)
    at_after (t ∷ more) is =
        let stuck : GoesOn (f.front ++ t ∷ []) → ⊥ = subst (IsStuck f.front) is f.stuck in
        stuck (shorter_goes f.front t more (subst GoesOn (f.whole ∙ ap (λ l. f.front ++ l) is) g))
not_past ts (Err (stop.TooDeep n)) e h g = absurd cc
not_past ts (Err stop.NoMemory) e h g = absurd cc

plain : (k : Expected) (front after : Tokens) → IsStuck front after → CanStand k front → (WantsSmaller front after → ⊥) → IsPlace k front after
plain expected.TooDeep front after stuck c none = absurd (c.2)
plain expected.NumberInRange front after stuck c none = absurd (c.2)
plain expected.Declaration front after stuck c none = (stuck, c, none)
plain expected.TypeExpr front after stuck c none = (stuck, c, none)
plain expected.Expression front after stuck c none = (stuck, c, none)
plain expected.Pattern front after stuck c none = (stuck, c, none)
plain expected.Token front after stuck c none = (stuck, c, none)

-- what is told of a fault that isn't one of depth
kind_is : (k : Expected) (front after : Tokens) → IsStuck front after → CanStand k front → ((n : ℕ) → decls_of (front ++ after) ≡ Err (stop.TooDeep n) → ⊥) → IsPlace (kind_at k front after) front after
kind_is k front [] stuck c fits = plain k front [] stuck c (λ w. let e = w.2 in absurd cc)
kind_is k front (t ∷ after) stuck c fits = by_case (sort t == 64)
    (λ wide. by_case (goes_past (decls_of (front ++ smaller t ∷ [])))
    (λ on. subst (λ e. IsPlace e front (t ∷ after)) (sym (ranged wide on)) (stuck, (t, after, refl, wide_says t.kind t.says wide, past front (smaller t) (t ∷ after) fits (decls_of (front ++ smaller t ∷ [])) refl on)))
    (λ off. subst (λ e. IsPlace e front (t ∷ after)) (sym (stopped wide off)) (plain k front (t ∷ after) stuck c (λ w. not_past (front ++ smaller t ∷ []) (decls_of (front ++ smaller t ∷ [])) refl off (smaller_is w)))))
    (λ plain_token. subst (λ e. IsPlace e front (t ∷ after)) (sym (unranged plain_token)) (plain k front (t ∷ after) stuck c (λ w. let u = wide_sort t (says_is w) in absurd cc))) where
      ranged : (sort t == 64) ≡ true → goes_past (decls_of (front ++ smaller t ∷ [])) ≡ true → kind_at k front (t ∷ after) ≡ expected.NumberInRange
      ranged a b = ap (λ x. cond x (cond (goes_past (decls_of (front ++ smaller t ∷ []))) expected.NumberInRange k) k) a ∙ ap (λ x. cond x expected.NumberInRange k) b

      stopped : (sort t == 64) ≡ true → goes_past (decls_of (front ++ smaller t ∷ [])) ≡ false → kind_at k front (t ∷ after) ≡ k
      stopped a b = ap (λ x. cond x (cond (goes_past (decls_of (front ++ smaller t ∷ []))) expected.NumberInRange k) k) a ∙ ap (λ x. cond x expected.NumberInRange k) b

      unranged : (sort t == 64) ≡ false → kind_at k front (t ∷ after) ≡ k
      unranged a = ap (λ x. cond x (cond (goes_past (decls_of (front ++ smaller t ∷ []))) expected.NumberInRange k) k) a

      same : (w : WantsSmaller front (t ∷ after)) → w.0 ≡ t
      same w = let e = w.2 in cc

      smaller_is : WantsSmaller front (t ∷ after) → GoesOn (front ++ smaller t ∷ [])
      smaller_is w = subst (λ (u : Token). GoesOn (front ++ smaller u ∷ [])) (same w) (w.4)

      says_is : WantsSmaller front (t ∷ after) → t.says ≡ Some says.Wide
      says_is w = subst (λ (u : Token). u.says ≡ Some says.Wide) (same w) (w.3)

-- ---- of all tokens

pub told_place : (end : ℕ) (ts : Tokens) (f : SyntaxFault) (x : Result (List Decl) Stop) → decls_of ts ≡ x → verdict_of end ts x ≡ Err f →
    (front : Tokens) × (after : Tokens) × (ts ≡ front ++ after) × (f.at ≡ place_of end after) × IsPlace f.expected front after
told_place end ts f (Ok ds) e h = absurd cc
told_place end ts f (Err (stop.Unexpected k n)) e h = placed (fault_is ts k n e) where
  is : fault_of end ts (stop.Unexpected k n) ≡ f
  is = cc

  placed : Faulty ts k n → (front : Tokens) × (after : Tokens) × (ts ≡ front ++ after) × (f.at ≡ place_of end after) × IsPlace f.expected front after
  placed g =
      let a = front_is ts g.front g.after n g.whole g.left in
      let b = after_is ts g.front g.after n g.whole g.left in
      let fits : (m : ℕ) → decls_of (g.front ++ g.after) ≡ Err (stop.TooDeep m) → ⊥ = (λ m deep. let u : decls_of ts ≡ Err (stop.TooDeep m) = ap decls_of g.whole ∙ deep in absurd cc) in
      let p = kind_is k g.front g.after g.stuck g.stands fits in
      let at : f.at ≡ place_of end g.after = ap (λ (s : SyntaxFault). s.at) (sym is) ∙ ap (place_of end) b in
      let kinds : f.expected ≡ kind_at k g.front g.after = ap (λ (s : SyntaxFault). s.expected) (sym is) ∙ ap (λ l. kind_at k l (drop (length ts - n) ts)) a ∙ ap (kind_at k g.front) b in
      (g.front, g.after, g.whole, at, subst (λ c. IsPlace c g.front g.after) (sym kinds) p)
told_place end ts f (Err (stop.TooDeep n)) e h = placed (depth_is ts n e) where
  is : fault_of end ts (stop.TooDeep n) ≡ f
  is = cc

  placed : Sunk less_deep ts n → (front : Tokens) × (after : Tokens) × (ts ≡ front ++ after) × (f.at ≡ place_of end after) × IsPlace f.expected front after
  placed g =
      let b = after_is ts g.front (g.token ∷ g.after) n g.whole g.left in
      let at : f.at ≡ place_of end (g.token ∷ g.after) = ap (λ (s : SyntaxFault). s.at) (sym is) ∙ ap (place_of end) b in
      let kinds : f.expected ≡ expected.TooDeep = ap (λ (s : SyntaxFault). s.expected) (sym is) in
      (g.front, g.token ∷ g.after, g.whole, at, subst (λ c. IsPlace c g.front (g.token ∷ g.after)) (sym kinds) (g.token, g.after, refl, g.goes, none_fits)) where
        none_fits : Fits (g.front ++ g.token ∷ []) → ⊥
        none_fits x = let r = (x.2).0 in g.deep x.0 r.0 (x.1) (r.1) (bounded (x.1) ((x.2).1))
told_place end ts f (Err stop.NoMemory) e h = absurd (memory_is ts e)

told_program : (end : ℕ) (ts : Tokens) (p : Program) (x : Result (List Decl) Stop) → decls_of ts ≡ x → verdict_of end ts x ≡ Ok p → IsText ts p.decls × (p.end ≡ end)
told_program end ts p (Ok ds) e h =
    let i : program_of end ds ≡ p = cc in
    (subst (λ (q : Program). IsText ts q.decls) i (text_is ts ds e), sym (ap (λ (q : Program). q.end) i))
told_program end ts p (Err s) e h = absurd cc

-- ---- of bytes

-- a verdict is of the tokens that the bytes are laid out as
module _ (bytes : List ℕ) (laid : AreLaid 0 bytes (tokens_of 0 bytes)) where
  pub read_is_text : (p : Program) → verdict bytes ≡ Ok p → IsTextOf bytes p
  read_is_text p h =
      let t = told_program (length bytes) (tokens_of 0 bytes) p (decls_of (tokens_of 0 bytes)) refl h in
      (tokens_of 0 bytes, laid, t.0, t.1)

  pub told_is_fault : (f : SyntaxFault) → verdict bytes ≡ Err f → IsFaultOf bytes f
  told_is_fault f h =
      let t = told_place (length bytes) (tokens_of 0 bytes) f (decls_of (tokens_of 0 bytes)) refl h in
      record { front = t.0; after = t.1; laid = subst (AreLaid 0 bytes) (t.2) laid; place = t.3; kind = t.4 }

  -- bytes are a text or have a fault
  pub text_or_fault : ((p : Program) × IsTextOf bytes p) ⊎ ((f : SyntaxFault) × IsFaultOf bytes f)
  text_or_fault = of (verdict bytes) refl where
    of : (x : Result Program SyntaxFault) → verdict bytes ≡ x → ((p : Program) × IsTextOf bytes p) ⊎ ((f : SyntaxFault) × IsFaultOf bytes f)
    of (Ok p) h = inl (p, read_is_text p h)
    of (Err f) h = inr (f, told_is_fault f h)

place_is : (k : Expected) (front after : Tokens) → IsPlace k front after → (k ≡ expected.TooDeep → ⊥) → IsStuck front after × GoesOn front
place_is expected.TooDeep front after p other = absurd (other refl)
place_is expected.NumberInRange front after p other =
    let w = p.1 in
    let g = w.4 in
    (p.0, (smaller w.0 ∷ g.0, g.1, subst (λ l. IsLooseText l g.1) (append_assoc front (smaller w.0 ∷ []) g.0) (g.2)))
place_is expected.Declaration front after p other = let c = p.1 in (p.0, (c.0, c.1, c.3))
place_is expected.TypeExpr front after p other = let c = p.1 in (p.0, (c.0, c.1, c.3))
place_is expected.Expression front after p other = let c = p.1 in (p.0, (c.0, c.1, c.3))
place_is expected.Pattern front after p other = let c = p.1 in (p.0, (c.0, c.1, c.3))
place_is expected.Token front after p other = let c = p.1 in (p.0, (c.0, c.1, c.3))

-- no text goes on past a place
not_further : (front after front' : Tokens) → IsStuck front after → GoesOn front' → Further front after front' → ⊥
not_further front after front' stuck g x = stops (subst (IsStuck front) (x.3) stuck) (subst GoesOn (x.4) g) where
  stops : IsStuck front (x.0 ∷ x.1) → GoesOn (front ++ x.0 ∷ x.2) → ⊥
  stops s h = s (shorter_goes front x.0 x.2 h)

-- a fault of tokens excludes that they are a text
no_text : (ts front after : Tokens) (k : Expected) (ds : List Decl) → ts ≡ front ++ after → IsPlace k front after → IsText ts ds → ⊥
no_text ts front after expected.TooDeep ds is (t, more, e, goes, none) r =
    none (more, ds, subst (λ l. IsText l ds) (is ∙ ap (λ l. front ++ l) e ∙ sym (append_assoc front (t ∷ []) more)) r)
no_text ts front after k ds is place r = stops after is (place_is k front after place not_deep).0 where
  not_deep : k ≡ expected.TooDeep → ⊥
  not_deep e = absurd cc

  stops : (after : Tokens) → ts ≡ front ++ after → IsStuck front after → ⊥
  stops [] is stuck = stuck ds (subst (λ l. IsLooseText l ds) (is ∙ append-nil front) r.0)
  stops (t ∷ more) is stuck = stuck (more, ds, subst (λ l. IsLooseText l ds) (is ∙ sym (append_assoc front (t ∷ []) more)) r.0)

-- a program is its declarations and its end
same_program : (p q : Program) → p.decls ≡ q.decls → p.end ≡ q.end → p ≡ q
same_program p q same ends = ap (program_of p.end) same ∙ ap (λ end. program_of end q.decls) ends

module _ (bytes : List ℕ) (one : (ts : Tokens) → AreLaid 0 bytes ts → tokens_of 0 bytes ≡ ts) where
  pub text_is_read : (p : Program) → IsTextOf bytes p → verdict bytes ≡ Ok p
  text_is_read p t =
      let same = one t.0 (t.1) in
      let read = text_read (tokens_of 0 bytes) p.decls (subst (λ l. IsText l p.decls) (sym same) (t.2)) in
      ap (verdict_of (length bytes) (tokens_of 0 bytes)) read ∙ ap Ok (same_program (program_of (length bytes) p.decls) p refl (sym (t.3)))

  -- a text has one tree
  pub text_has_one_tree : (p q : Program) → IsTextOf bytes p → IsTextOf bytes q → p ≡ q
  text_has_one_tree p q r s = same_program p q
      (one_text r.0 p.decls q.decls (r.2).0 (subst (λ l. IsLooseText l q.decls) (sym (one s.0 (s.1)) ∙ one r.0 (r.1)) (s.2).0))
      (r.3 ∙ sym (s.3))

  -- and no fault
  pub text_has_no_fault : (p : Program) (f : SyntaxFault) → IsTextOf bytes p → IsFaultOf bytes f → ⊥
  text_has_no_fault p f r g = no_text r.0 g.front g.after f.expected p.decls (sym (one r.0 (r.1)) ∙ one (g.front ++ g.after) g.laid) g.kind (r.2)

  -- faults but those of depth have one place
  pub fault_has_one_place : (f g : SyntaxFault) → IsFaultOf bytes f → IsFaultOf bytes g → (f.expected ≡ expected.TooDeep → ⊥) → (g.expected ≡ expected.TooDeep → ⊥) → f.at ≡ g.at
  fault_has_one_place f g x y not_f not_g =
      let i = place_is f.expected x.front x.after x.kind not_f in
      let j = place_is g.expected y.front y.after y.kind not_g in
      x.place ∙ ap (place_of (length bytes)) (same (i.0) (i.1) (j.0) (j.1) (compare x.front x.after y.front y.after (sym (one (x.front ++ x.after) x.laid) ∙ one (y.front ++ y.after) y.laid))) ∙ sym y.place where
        same : IsStuck x.front x.after → GoesOn x.front → IsStuck y.front y.after → GoesOn y.front →
            ((x.front ≡ y.front) × (x.after ≡ y.after)) ⊎ (Further x.front x.after y.front ⊎ Further y.front y.after x.front) → x.after ≡ y.after
        same a b c d (inl i) = i.1
        same a b c d (inr (inl i)) = absurd (not_further x.front x.after y.front a d i)
        same a b c d (inr (inr i)) = absurd (not_further y.front y.after x.front c b i)
