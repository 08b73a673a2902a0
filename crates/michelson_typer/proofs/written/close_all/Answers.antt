-- The innermost level that waits gets the type so far as its last part.
use Rattle.std.proofs.Common.{◌≡◌, ap, refl, subst, sym, ◌∙◌}
use Rattle.michelson_code.specs.declared.operands.Level.{Level}
use Rattle.michelson_code.specs.Typing.{level_type}
use Rattle.std.proofs.Common.{ℕ, true}
use Rattle.michelson_typer.specs.Tables.{are_in, parts_in, type_at}
use Rattle.michelson_typer.specs.Writing.{AreWaiting}
use Rattle.michelson_typer.proofs.GrowLaws.{grows_same}
use Rattle.michelson_typer.proofs.WritingLaws.{closes, filled-is, filled-parts, waiting-parts}
use Rattle.michelson_typer.proofs.written.close_all.Goals as goal

pub loop-waiting-init : goal.loop-waiting-init
loop-waiting-init c = (c.requires.last, record { grows = grows_same _ _ refl; waiting = c.requires.above; is = refl })

pub intern-requires : goal.intern-requires
intern-requires c =
    let table = c.loop-waiting.types in
    let parts = waiting-parts table c.pop.new.self.items c.in-Some.waiting (subst (AreWaiting table) c.in-Some.ensures.items c.loop-waiting.invariant.1.waiting) in
    subst (λ (l : Level ℕ). are_in table (parts_in l) ≡ true) (sym c.filled.ensures) (filled-parts table c.in-Some.waiting c.loop-waiting.id parts.1 c.loop-waiting.invariant.0)

pub loop-waiting-preserved : goal.loop-waiting-preserved
loop-waiting-preserved c =
    let table = c.loop-waiting.types in
    let made = c.in_ok-id.ensures.number in (
      made.within,
      closes _ _ table c.intern.new.self c.intern.ensures.grows c.loop-waiting.above.items c.pop.new.self.items c.in-Some.waiting (type_at table c.loop-waiting.id) _
          c.in-Some.ensures.items
          (made.is ∙ ap (λ (l : Level ℕ). level_type (type_at table) l) c.filled.ensures ∙ filled-is table c.in-Some.waiting c.loop-waiting.id (type_at table c.loop-waiting.id) refl)
          c.loop-waiting.invariant.1,
    )
