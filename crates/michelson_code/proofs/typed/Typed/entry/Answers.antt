-- The first entry of the name is the one that is meant.
use Rattle.std.proofs.Common.{◌≡◌, ◌<◌, ◌+◌, ℕ, List, ◌∷◌, length, get_or, drop, drop-cons, add-one, Bool, true, false, Some, ap, subst, sym, ◌∙◌}
use Rattle.std.specs.Prelude.{if◌then◌else◌}
use Rattle.std.specs.Option.{option_and_then}
use Rattle.std.specs.Str.{bytes_eq}
use Rattle.michelson_code.specs.Entries.{NamedEntry, Path, path_of, type_at}
use Rattle.michelson_code.proofs.typed.Typed.entry.Goals as goal

-- the entry at an index is the first of those from there on
there : (es : List NamedEntry) (i : ℕ) (e : NamedEntry) → i < length es → e ≡ get_or es i e → drop i es ≡ e ∷ drop (i + 1) es
there es i e within is = drop-cons es i e within ∙ (λ k. sym is k ∷ drop (sym (add-one i) k) es)

passed : (name : List ℕ) (es : List NamedEntry) (i : ℕ) (e : NamedEntry) → i < length es → e ≡ get_or es i e → bytes_eq name e.1 ≡ false →
    path_of name (drop (i + 1) es) ≡ path_of name (drop i es)
passed name es i e within is other =
    sym (ap (path_of name) (there es i e within is) ∙ ap (λ (b : Bool). if b then Some e.0 else path_of name (drop (i + 1) es)) other)

found : (name : List ℕ) (es : List NamedEntry) (i : ℕ) (e : NamedEntry) → i < length es → e ≡ get_or es i e → bytes_eq name e.1 ≡ true →
    path_of name (drop i es) ≡ Some e.0
found name es i e within is same =
    ap (path_of name) (there es i e within is) ∙ ap (λ (b : Bool). if b then Some e.0 else path_of name (drop (i + 1) es)) same

pub returns-then-eq : goal.returns-then-eq
returns-then-eq c =
    let items : List NamedEntry = c.as_slice-entry-items.result.now in
    let es : List NamedEntry = c.args.self.now.script.names in
    let e : NamedEntry = c.entry-item.result in
    let named : path_of c.args.name.now es ≡ Some e.0 =
    sym c.loop-entry.invariant
    ∙ subst (λ (l : List NamedEntry). path_of c.args.name.now (drop c.loop-entry.entry-index l) ≡ Some e.0) c.as_slice-entry-items.ensures
    (found c.args.name.now items c.loop-entry.entry-index e c.loop-entry-test.true c.entry-item.is (sym c.eq.ensures ∙ c.if-eq.true)) in
    c.type_at.ensures ∙ ap (λ (path : Path). type_at path c.args.self.now.script.param) c.as_slice.ensures
    ∙ sym (ap (option_and_then (λ (path : Path). type_at path c.args.self.now.script.param)) named)

pub loop-entry-preserved : goal.loop-entry-preserved
loop-entry-preserved c =
    let items : List NamedEntry = c.as_slice-entry-items.result.now in
    let e : NamedEntry = c.entry-item.result in
    subst (λ (l : List NamedEntry). path_of c.args.name.now (drop (c.loop-entry.entry-index + 1) l) ≡ path_of c.args.name.now (drop c.loop-entry.entry-index l)) c.as_slice-entry-items.ensures
    (passed c.args.name.now items c.loop-entry.entry-index e c.loop-entry-test.true c.entry-item.is (sym c.eq.ensures ∙ c.if-eq.false))
    ∙ c.loop-entry.invariant
