-- A name goes on to the side, turns off to the other one, or has come to its node.
use Rattle.std.proofs.Common.{◌≡◌, List, [], ◌∷◌, ◌++◌, map, sym, ap, ◌∙◌, rules}
use Rattle.std.proofs.lemmas.List.{map-append}
use Rattle.michelson_code.specs.declared.script.Side.{Side}
use Rattle.michelson_code.specs.Entries.{NamedEntry}
use Rattle.michelson_reader.specs.Printing.{entry_of}
use Rattle.michelson_reader.proofs.EntryNames.{below-end, below-off, below-on}
use Rattle.michelson_reader.proofs.parameter_nodes.entries_below.Goals as goal
use Rattle.michelson_reader.proofs.parameter_nodes.entries_below.Goals.{in-Some+then-eq+in_ok-push, in-Some+else-eq, in_default}

pub loop-entry-preserved : goal.loop-entry-preserved
loop-entry-preserved c =
    let e = c.entry-item.result in
    let side = c.args.side in
    let within = c.loop-entry-test.true in
    elim c.match-split_first.branch [
      | in-Some+then-eq+in_ok-push w ↦
          let path = w.in-Some.path in
          let same : w.in-Some.first.now ≡ side = search rules in
          let on = w.in-Some.ensures.cases.0 ∙ ap (λ (s : Side). s ∷ path.now) same in
          ap (λ v. map entry_of v.items) w.below-is
          ∙ ap (map entry_of) w.in_ok-push.ensures.items
          ∙ map-append entry_of c.loop-entry.below.items (record { path = path; name = e.name } ∷ [])
          ∙ ap (λ (ns : List NamedEntry). ns ++ (path.now, e.name.now) ∷ []) c.loop-entry.invariant
          ∙ sym (below-on c.args.entries.now c.loop-entry.entry-index e within (sym c.entry-item.is) side path.now on)
      | in-Some+else-eq w ↦
          let path = w.in-Some.path in
          let first = w.in-Some.first in
          let off = w.in-Some.ensures.cases.0 in
          let other : first.now ≡ side → ⊥ = search rules in
          ap (λ v. map entry_of v.items) w.below-is
          ∙ c.loop-entry.invariant
          ∙ sym (below-off c.args.entries.now c.loop-entry.entry-index e within (sym c.entry-item.is) side first.now path.now off other)
      | in_default w ↦
          ap (λ v. map entry_of v.items) w.below-is
          ∙ c.loop-entry.invariant
          ∙ sym (below-end c.args.entries.now c.loop-entry.entry-index e within (sym c.entry-item.is) side w.in_default.ensures.cases)
    ]
