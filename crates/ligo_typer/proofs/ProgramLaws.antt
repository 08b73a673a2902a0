-- A program is one typed program or none, and its faults are all in one declaration.
use Rattle.std.proofs.Common.{◌≡◌, Some, None, List, [], ◌∷◌, ◌++◌, refl, sym, ap, subst, ◌∙◌}
use Rattle.ligo_syntax.specs.declared.program.Decl.{Decl}
use Rattle.ligo_syntax.specs.declared.program.Program.{Program}
use Rattle.ligo_typer.specs.declared.typed_program.TypedProgram.{TypedProgram}
use Rattle.ligo_typer.specs.declared.fault.LigoFault.{LigoFault}
use Rattle.ligo_typer.specs.Entries.{Above, nothing_above}
use Rattle.ligo_typer.specs.Programs.{AreDeclared, BreaksIn, IsDeclared, IsProgramFault, IsTypedProgram, Stands, in_a_declaration, no_entry, none, one_more}
use Rattle.ligo_typer.proofs.DeclLaws.{declared_once, declared_unbroken}

are_declared_once : {a b c : Above} {ds : List Decl} → AreDeclared a ds b → AreDeclared a ds c → b ≡ c
are_declared_once (none a) (none a') = refl
are_declared_once {c = z} (one_more a b c d ds one more) (one_more a' b' c' d' ds' one' more') =
    are_declared_once more (subst (λ s. AreDeclared s ds z) (sym (declared_once a one one')) more')

-- a program is one typed program
pub typed_once : (p : Program) (t u : TypedProgram) → IsTypedProgram p t → IsTypedProgram p u → t ≡ u
typed_once p t u is is' =
    let above : is.above ≡ is'.above = are_declared_once is.declared is'.declared in
    let decls : t.decls ≡ u.decls = is.decls ∙ ap (λ a. a.decls) above ∙ sym is'.decls in
    let storages : Some t.storage ≡ Some u.storage = sym is.storage ∙ ap (λ a. a.storage) above ∙ is'.storage in
    let storage : t.storage ≡ u.storage = cc in
    λ i. record { decls = decls i; storage = storage i }

-- a declaration that breaks a rule stands in no list of typed ones
stuck : {a b c : Above} {f : LigoFault} (before : List Decl) (d : Decl) (after : List Decl) →
    AreDeclared a before b → BreaksIn b d f → AreDeclared a (before ++ d ∷ after) c → ⊥
stuck [] d after (none b) broken (one_more b' e c' d' after' one more) = declared_unbroken b one broken
stuck {b = b} {c = c} {f = f} (e ∷ es) d after (one_more a a' b' e' es' one more) broken (one_more x y z e'' rest one' more') =
    stuck es d after more broken (subst (λ s. AreDeclared s (es ++ d ∷ after) c) (sym (declared_once a one one')) more')

-- a typed program has no fault
pub typed_unbroken : (p : Program) (t : TypedProgram) (f : LigoFault) → IsTypedProgram p t → IsProgramFault p f → ⊥
typed_unbroken p t f is (in_a_declaration before d a f' stands broken) =
    stuck before d stands.after stands.declared broken (subst (λ ds. AreDeclared nothing_above ds is.above) stands.parts is.declared)
typed_unbroken p t f is (no_entry a declared no_storage) =
    let above : is.above ≡ a = are_declared_once is.declared declared in
    let e : Some t.storage ≡ None = sym is.storage ∙ ap (λ (x : Above). x.storage) above ∙ no_storage in absurd cc

heads : {A : Type 0} {x y : A} {xs ys : List A} → x ∷ xs ≡ y ∷ ys → x ≡ y
heads e = cc

tails : {A : Type 0} {x y : A} {xs ys : List A} → x ∷ xs ≡ y ∷ ys → xs ≡ ys
tails e = cc

-- the first of typed declarations breaks no rule
not_first : {a c : Above} {f : LigoFault} (d h : Decl) (other : List Decl) → d ≡ h → BreaksIn a d f → AreDeclared a (h ∷ other) c → ⊥
not_first {a = a} {f = f} d h other same broken (one_more a' b c h' ds one more) =
    declared_unbroken a one (subst (λ x. BreaksIn a x f) same broken)

-- two declarations that break a rule behind typed ones stand at one place
same_front : {a b c : Above} {f g : LigoFault} (front : List Decl) (d : Decl) (after : List Decl) (other : List Decl) (e : Decl) (rest : List Decl) →
    AreDeclared a front b → BreaksIn b d f → AreDeclared a other c → BreaksIn c e g → front ++ d ∷ after ≡ other ++ e ∷ rest → front ≡ other
same_front [] d after [] e rest here broken there broken' same = refl
same_front [] d after (h ∷ other) e rest (none a) broken there broken' same =
    absurd (not_first d h other (heads same) broken there)
same_front (h ∷ front) d after [] e rest here broken (none a) broken' same =
    absurd (not_first e h front (sym (heads same)) broken' here)
same_front {c = c} (h ∷ front) d after (k ∷ other) e rest (one_more a a' b h' ds one more) broken (one_more x y z k' es one' more') broken' same =
    let next = declared_once a one (subst (λ s. IsDeclared a s y) (sym (heads same)) one') in
    let fronts : front ≡ other =
    same_front front d after other e rest more broken (subst (λ s. AreDeclared s other c) (sym next) more') broken' (tails same) in
    λ i. heads same i ∷ fronts i

-- all faults of a program are in one declaration
pub one_place : (p : Program) (before other : List Decl) (d e : Decl) (a b : Above) (f g : LigoFault) →
    Stands p before d a → BreaksIn a d f → Stands p other e b → BreaksIn b e g → before ≡ other
one_place p before other d e a b f g stands broken stands' broken' =
    same_front before d stands.after other e stands'.after stands.declared broken stands'.declared broken' (sym stands.parts ∙ stands'.parts)
