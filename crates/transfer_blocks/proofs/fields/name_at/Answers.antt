-- A name that isn't built.
use Rattle.std.proofs.Common.{◌≡◌, ℕ, Bool, false, true, cond, List, length, Ok, Err, refl, sym, ap, ◌∙◌}
use Rattle.std.specs.Prelude.{IsTrue, bytes_eq}
use Rattle.std.proofs.lemmas.Slice.Eq.{bytes_eq-Decides}
use Rattle.byte_fields.specs.Stops.{Faulty, NotYet, Stopped}
use Rattle.byte_fields.specs.Readers.{Read, after, run}
use Rattle.value_core.specs.Leaves.{is_name}
use Rattle.transfer_blocks.specs.Spelling.{default_name}
use Rattle.transfer_blocks.specs.Operation.{name}
use Rattle.transfer_blocks.proofs.fields.name_at.Goals as goal

not_true : (b : Bool) → (b ≡ true → ⊥) → b ≡ false
not_true true h = absurd (h refl)
not_true false h = refl

other_way : (x y : List ℕ) → bytes_eq x y ≡ false → bytes_eq y x ≡ false
other_way x y other = not_true (bytes_eq y x) (λ is. let same : bytes_eq x y ≡ true = (bytes_eq-Decides x y).1 (sym ((bytes_eq-Decides y x).0 is)) in cc)

abbrev if_name : Bool → List ℕ → List ℕ → List ℕ → Read (List ℕ)
if_name b front rest bytes = cond b (Ok (front, rest)) (Err (Stopped Faulty (length bytes)))

abbrev if_default : Bool → List ℕ → List ℕ → List ℕ → Read (List ℕ)
if_default b front rest bytes = cond b (Ok (front, rest)) (Err (Stopped NotYet (length bytes)))

not_built : (bytes front rest : List ℕ) → run 7 bytes ≡ Ok (front, rest) → bytes_eq default_name front ≡ false → IsTrue (is_name front) → name bytes ≡ Err (Stopped NotYet (length bytes))
not_built bytes front rest was other named =
    ap (λ (r : Read (List ℕ)). after (after r (λ a rest. if_name (is_name a) a rest bytes)) (λ a rest. if_default (bytes_eq default_name a) a rest bytes)) was
    ∙ ap (λ (b : Bool). after (if_name b front rest bytes) (λ a rest. if_default (bytes_eq default_name a) a rest bytes)) named
    ∙ ap (λ (b : Bool). if_default b front rest bytes) other

pub returns-in-Some : goal.returns-in-Some
returns-in-Some c = not_built c.args.bytes.now c.in_ok-front.front.now c.in_ok-front.rest.now c.in_ok-front.ensures (other_way c.in_ok-front.front.now default_name (ap (bytes_eq c.in_ok-front.front.now) (sym c.as_slice.ensures) ∙ sym c.eq.ensures ∙ c.if-eq.false)) c.in-Some.ensures.0
