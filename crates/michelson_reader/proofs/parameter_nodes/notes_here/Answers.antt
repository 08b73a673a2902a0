-- A name stands right there, or below.
use Rattle.std.proofs.Common.{◌≡◌, ℕ, List, [], ◌∷◌, ◌++◌, length, sym, ap, ◌∙◌, rules}
use Rattle.michelson_reader.specs.Printing.{note_of}
use Rattle.michelson_reader.proofs.EntryNames.{notes-below, notes-here}
use Rattle.michelson_reader.proofs.parameter_nodes.notes_here.Goals as goal
use Rattle.michelson_reader.proofs.parameter_nodes.notes_here.Goals.{then-is_empty+in_ok-note+in_ok-push, else-is_empty}

pub loop-entry-preserved : goal.loop-entry-preserved
loop-entry-preserved c =
    let e = c.entry-item.result in
    let within = c.loop-entry-test.true in
    elim c.if-is_empty.branch [
      | then-is_empty+in_ok-note+in_ok-push w ↦
          let none : length e.path.now ≡ 0 = search rules in
          w.notes-is
          ∙ w.in_ok-push.ensures.ok
          ∙ ap (λ (n : List ℕ). c.loop-entry.notes ++ n ∷ []) w.in_ok-note.ensures
          ∙ ap (λ (ns : List (List ℕ)). ns ++ note_of e.name.now ∷ []) c.loop-entry.invariant
          ∙ sym (notes-here c.args.entries.now c.loop-entry.entry-index e within (sym c.entry-item.is) none)
      | else-is_empty w ↦
          let some : length e.path.now ≡ 0 → ⊥ = search rules in
          w.notes-is
          ∙ c.loop-entry.invariant
          ∙ sym (notes-below c.args.entries.now c.loop-entry.entry-index e within (sym c.entry-item.is) some)
    ]
