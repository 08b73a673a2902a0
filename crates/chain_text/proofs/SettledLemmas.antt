-- The state of what stands after all lines, as it is built of rows.
use Rattle.std.proofs.Common.{◌≡◌, ℕ, List, Option, Some, None, Ok, Err, ◌⊎◌, inl, inr, refl, sym, ap, subst, ◌∙◌}
use Rattle.std.specs.FinMap.{empty}
use Rattle.micheline_text.specs.Told.{IsTold}
use Rattle.cell_names.specs.Contents.{Contents}
use Rattle.code_book.specs.Books.{Contracts}
use Rattle.ledger_state.specs.declared.fault.BuildFault.{BuildFault}
use Rattle.ledger_state.specs.declared.fault.BuildFault.TheVariants.{NoMemory, NoStorage}
use Rattle.ledger_state.specs.Building.{added, built, housed as housed_cells, housed_by}
use Rattle.ledger_state.specs.Ledger.{Ledger}
use Rattle.ledger_state.specs.Storages.{least_bare}
use Rattle.chain_text.specs.declared.fault.ChainKind.TheVariants as kinds
use Rattle.chain_text.specs.declared.fault.ChainRefusal.{ChainRefusal}
use Rattle.chain_text.specs.Fields.{◌>>◌}
use Rattle.chain_text.specs.Standing.{Addresses, Standing}
use Rattle.chain_text.specs.Heads.{Told}
use Rattle.chain_text.specs.Reading.{housed, line_at, settled}
use Rattle.chain_text.specs.Inside.{chain_fault}
use Rattle.chain_text.specs.Rows.{AreRows, IsOfWhole, Row, gathered, refusal_of}
use Rattle.chain_text.proofs.StandingViews.{view_of}

built_as : (book : Contracts) (rows : List Row) (m : Contents) → added book 0 empty rows ≡ Ok m → built book rows ≡ housed_cells (least_bare book m) m
unfolding built
built_as book rows m e = ap (housed_by book) e

none_bare : (o : Option (List ℕ)) (m n : Contents) → housed_cells o m ≡ Ok n → (o ≡ None) × (m ≡ n)
none_bare None m n e = (refl, cc)
none_bare (Some a) m n e = absurd cc

one_bare : (o : Option (List ℕ)) (m : Contents) (f : BuildFault) → housed_cells o m ≡ Err f → (a : List ℕ) × ((f ≡ NoStorage a) × (o ≡ Some a))
one_bare None m f e = absurd cc
one_bare (Some a) m f e = let same : f ≡ NoStorage a = cc in (a, (same, refl))

-- the state that stands, by what each of its parts is
same_state : (level now : ℕ) (book : Contracts) (m : Contents) (s : Ledger) → s.level ≡ level → s.now ≡ now → s.book ≡ book → m ≡ s.cells → ◌≡◌ {A = Ledger} (record { level = level; now = now; book = book; cells = m }) s
same_state level now book m s at time contracts cells = λ i. record { level = sym at i; now = sym time i; book = sym contracts i; cells = cells i }

module _ (level now : ℕ) (book : Contracts) (lines : List (List ℕ × ℕ)) (balanced stored : Addresses) (rows : List Row) (amount : ℕ) (are : AreRows book rows (gathered empty rows) balanced stored amount) where
  abbrev cells : Contents
  cells = gathered empty rows

  settled_here : (s : Ledger) → s.level ≡ level → s.now ≡ now → s.book ≡ book → built book rows ≡ Ok s.cells → settled level now (view_of book lines balanced stored rows) ≡ Ok s
  settled_here s at time contracts is =
      let b = none_bare (least_bare book cells) cells s.cells (sym (built_as book rows cells are.added) ∙ is) in
      let ok : Ledger → Told Ledger = λ t. Ok t in
      ap (λ (o : Option (List ℕ)). housed lines o >> ok (record { level = level; now = now; book = book; cells = cells })) b.0
      ∙ ap ok (same_state level now book cells s at time contracts b.1)

  bare_here : (f : BuildFault) (a : List ℕ) → f ≡ NoStorage a → built book rows ≡ Err f → settled level now (view_of book lines balanced stored rows) ≡ Err (record { line = line_at a lines; kind = kinds.NoStorage })
  bare_here f a is e =
      let b = one_bare (least_bare book cells) cells f (sym (built_as book rows cells are.added) ∙ e) in
      let same : Some b.0 ≡ Some a = let both : NoStorage b.0 ≡ NoStorage a = sym b.1.0 ∙ is in cc in
      let ok : Ledger → Told Ledger = λ t. Ok t in
      ap (λ (o : Option (List ℕ)). housed lines o >> ok (record { level = level; now = now; book = book; cells = cells })) (b.1.1 ∙ same)

  pub settled_as : (s : Standing) (t : Ledger) → view_of book lines balanced stored rows ≡ s → t.level ≡ level → t.now ≡ now → t.book ≡ book → built book rows ≡ Ok t.cells → settled level now s ≡ Ok t
  settled_as s t is at time contracts e = ap (settled level now) (sym is) ∙ settled_here t at time contracts e

  pub is_of_whole : (f : BuildFault) → (f ≡ NoMemory) ⊎ (built book rows ≡ Err f) → IsOfWhole f
  is_of_whole f (inl memory) = subst IsOfWhole (sym memory) tt
  is_of_whole f (inr e) =
      let b = one_bare (least_bare book cells) cells f (sym (built_as book rows cells are.added) ∙ e) in
      subst IsOfWhole (sym b.1.0) tt

  refused_here : (f : BuildFault) → (f ≡ NoMemory) ⊎ (built book rows ≡ Err f) → IsTold (chain_fault (refusal_of lines f)) (settled level now (view_of book lines balanced stored rows))
  refused_here f (inl memory) = subst (λ (g : BuildFault). IsTold (chain_fault (refusal_of lines g)) (settled level now (view_of book lines balanced stored rows))) (sym memory) tt
  refused_here f (inr e) =
      let b = one_bare (least_bare book cells) cells f (sym (built_as book rows cells are.added) ∙ e) in
      subst (λ (g : BuildFault). IsTold (chain_fault (refusal_of lines g)) (settled level now (view_of book lines balanced stored rows))) (sym b.1.0) (bare_here f b.0 b.1.0 e)

  pub refused_as : (s : Standing) (f : BuildFault) (lines' : List (List ℕ × ℕ)) (r : ChainRefusal) → view_of book lines balanced stored rows ≡ s → (f ≡ NoMemory) ⊎ (built book rows ≡ Err f) → lines' ≡ lines → r ≡ refusal_of lines' f →
      IsTold (chain_fault r) (settled level now s)
  refused_as s f lines' r is why same told =
      subst (λ (x : ChainRefusal). IsTold (chain_fault x) (settled level now s)) (sym (told ∙ ap (λ (l : List (List ℕ × ℕ)). refusal_of l f) same))
      (subst (λ (t : Standing). IsTold (chain_fault (refusal_of lines f)) (settled level now t)) is (refused_here f why))
