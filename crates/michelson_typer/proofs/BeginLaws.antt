-- As many starts as bodies: where no body begins, none is left.
use Rattle.std.proofs.Common.{◌≡◌, ℕ, List, [], length, refl, ap, sym, subst, ◌∙◌, arith}
use Rattle.value_core.specs.declared.ty.Ty.{Ty}
use Rattle.michelson_code.specs.declared.script.Script.{Script}
use Rattle.michelson_code.specs.Typing.{BodiesTyped, no_body}
use Rattle.michelson_typer.specs.declared.opening.Bodies.{Bodies}
use Rattle.michelson_typer.specs.declared.opening.Bodies.TheVariants as bodies
use Rattle.michelson_typer.specs.declared.opening.Start.{Start}
use Rattle.michelson_typer.specs.declared.opening.Starts.{Starts}
use Rattle.michelson_typer.specs.declared.opening.Starts.TheVariants as starts
use Rattle.michelson_typer.specs.Opened.{body_list, starts_at, starts_of}

pub not_one : (begun : Starts) → ((x : Start) → begun ≡ starts.One x → ⊥) → 1 ≡ length (starts_of begun) → ⊥
not_one starts.None other many = absurd (omega arith)
not_one (starts.One x) other many = other x refl
not_one (starts.Two x y) other many = absurd (omega arith)

pub not_two : (begun : Starts) → ((x y : Start) → begun ≡ starts.Two x y → ⊥) → 2 ≡ length (starts_of begun) → ⊥
not_two starts.None other many = absurd (omega arith)
not_two (starts.One x) other many = absurd (omega arith)
not_two (starts.Two x y) other many = other x y refl

no_start : (s : Script) (n : ℕ) (table : List Ty) (begun : Starts) → 0 ≡ length (starts_of begun) → BodiesTyped s n [] (starts_at table (starts_of begun)) []
no_start s n table starts.None many = no_body n
no_start s n table (starts.One x) many = absurd (omega arith)
no_start s n table (starts.Two x y) many = absurd (omega arith)

pub none_left : (s : Script) (n : ℕ) (table : List Ty) (codes : Bodies) (begun : Starts) → codes ≡ bodies.None → length (body_list codes) ≡ length (starts_of begun) →
    BodiesTyped s n (body_list codes) (starts_at table (starts_of begun)) []
none_left s n table codes begun is many =
    subst (λ (z : Bodies). BodiesTyped s n (body_list z) (starts_at table (starts_of begun)) []) (sym is)
    (no_start s n table begun (sym (ap (λ (z : Bodies). length (body_list z)) is) ∙ many))
