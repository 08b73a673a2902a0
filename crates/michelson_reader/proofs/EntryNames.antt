-- What one more entry adds to the names that stand right there, and to those below a part.
use Rattle.std.proofs.Common.{◌≡◌, ℕ, ◌+◌, ◌<◌, List, [], ◌∷◌, ◌++◌, length, map, take, get_or, append-nil, arith, refl, ap, ◌∙◌}
use Rattle.std.proofs.lemmas.List.{map-append, take_more}
use Rattle.michelson_code.specs.declared.script.Side.{Side}
use Rattle.michelson_code.specs.declared.script.Side.TheVariants.{Left, Right}
use Rattle.michelson_reader.specs.declared.parameter_nodes.EntryBelow.{EntryBelow}
use Rattle.michelson_code.specs.Entries.{NamedEntry, Path}
use Rattle.michelson_reader.specs.Printed.{names_below, names_here}
use Rattle.michelson_reader.specs.Printing.{below_of, entry_of, note_of, notes_of}

-- ---- two lists of names

names_here-append : (xs ys : List NamedEntry) → names_here (xs ++ ys) ≡ names_here xs ++ names_here ys
names_here-append [] ys = refl
names_here-append (([], name) ∷ xs) ys = ap (λ ns. name ∷ ns) (names_here-append xs ys)
names_here-append ((side ∷ path, name) ∷ xs) ys = names_here-append xs ys

names_below-append : (side : Side) (xs ys : List NamedEntry) → names_below side (xs ++ ys) ≡ names_below side xs ++ names_below side ys
names_below-append side [] ys = refl
names_below-append side (([], name) ∷ xs) ys = names_below-append side xs ys
names_below-append Left ((Left ∷ path, name) ∷ xs) ys = ap (λ es. (path, name) ∷ es) (names_below-append Left xs ys)
names_below-append Left ((Right ∷ path, name) ∷ xs) ys = names_below-append Left xs ys
names_below-append Right ((Left ∷ path, name) ∷ xs) ys = names_below-append Right xs ys
names_below-append Right ((Right ∷ path, name) ∷ xs) ys = ap (λ es. (path, name) ∷ es) (names_below-append Right xs ys)

-- ---- one name, by the way to it

stands_here : (path : Path) (name : List ℕ) → length path ≡ 0 → names_here ((path, name) ∷ []) ≡ name ∷ []
stands_here [] name none = refl
stands_here (side ∷ path) name none = absurd (omega (arith, none))

stands_below : (path : Path) (name : List ℕ) → (length path ≡ 0 → ⊥) → names_here ((path, name) ∷ []) ≡ []
stands_below [] name some = absurd (some refl)
stands_below (side ∷ path) name some = refl

goes_on : (side : Side) (path : Path) (name : List ℕ) → names_below side ((side ∷ path, name) ∷ []) ≡ (path, name) ∷ []
goes_on Left path name = refl
goes_on Right path name = refl

turns_off : (side first : Side) (path : Path) (name : List ℕ) → (first ≡ side → ⊥) → names_below side ((first ∷ path, name) ∷ []) ≡ []
turns_off Left Left path name other = absurd (other refl)
turns_off Left Right path name other = refl
turns_off Right Left path name other = refl
turns_off Right Right path name other = absurd (other refl)

ends : (side : Side) (path : Path) (name : List ℕ) → length path ≡ 0 → names_below side ((path, name) ∷ []) ≡ []
ends side [] name none = refl
ends side (first ∷ path) name none = absurd (omega (arith, none))

-- ---- one more entry

module _ (es : List EntryBelow) (i : ℕ) (e : EntryBelow) (within : i < length es) (is : get_or es i e ≡ e) where
  one_more : map entry_of (take (i + 1) es) ≡ map entry_of (take i es) ++ entry_of e ∷ []
  one_more =
      ap (map entry_of) (take_more es i e within)
      ∙ map-append entry_of (take i es) (get_or es i e ∷ [])
      ∙ ap (λ (x : EntryBelow). map entry_of (take i es) ++ entry_of x ∷ []) is

  notes_with : (names : List (List ℕ)) → names_here (entry_of e ∷ []) ≡ names → notes_of (take (i + 1) es) ≡ notes_of (take i es) ++ map note_of names
  notes_with names here =
      let before = names_here (map entry_of (take i es)) in
      ap (λ (x : List NamedEntry). map note_of (names_here x)) one_more
      ∙ ap (map note_of) (names_here-append (map entry_of (take i es)) (entry_of e ∷ []))
      ∙ map-append note_of before (names_here (entry_of e ∷ []))
      ∙ ap (λ (ns : List (List ℕ)). notes_of (take i es) ++ map note_of ns) here

  pub notes-here : length e.path.now ≡ 0 → notes_of (take (i + 1) es) ≡ notes_of (take i es) ++ note_of e.name.now ∷ []
  notes-here none = notes_with (e.name.now ∷ []) (stands_here e.path.now e.name.now none)

  pub notes-below : (length e.path.now ≡ 0 → ⊥) → notes_of (take (i + 1) es) ≡ notes_of (take i es)
  notes-below some = notes_with [] (stands_below e.path.now e.name.now some) ∙ append-nil (notes_of (take i es))

  module _ (side : Side) where
    below_with : (names : List NamedEntry) → names_below side (entry_of e ∷ []) ≡ names → below_of side (take (i + 1) es) ≡ below_of side (take i es) ++ names
    below_with names below =
        ap (names_below side) one_more
        ∙ names_below-append side (map entry_of (take i es)) (entry_of e ∷ [])
        ∙ ap (λ (ns : List NamedEntry). below_of side (take i es) ++ ns) below

    by_path : (path : Path) → e.path.now ≡ path → names_below side (entry_of e ∷ []) ≡ names_below side ((path, e.name.now) ∷ [])
    by_path path is_path = ap (λ (p : Path). names_below side ((p, e.name.now) ∷ [])) is_path

    pub below-on : (path : Path) → e.path.now ≡ side ∷ path → below_of side (take (i + 1) es) ≡ below_of side (take i es) ++ (path, e.name.now) ∷ []
    below-on path is_path = below_with ((path, e.name.now) ∷ []) (by_path (side ∷ path) is_path ∙ goes_on side path e.name.now)

    pub below-off : (first : Side) (path : Path) → e.path.now ≡ first ∷ path → (first ≡ side → ⊥) → below_of side (take (i + 1) es) ≡ below_of side (take i es)
    below-off first path is_path other =
        below_with [] (by_path (first ∷ path) is_path ∙ turns_off side first path e.name.now other) ∙ append-nil (below_of side (take i es))

    pub below-end : length e.path.now ≡ 0 → below_of side (take (i + 1) es) ≡ below_of side (take i es)
    below-end none = below_with [] (ends side e.path.now e.name.now none) ∙ append-nil (below_of side (take i es))
