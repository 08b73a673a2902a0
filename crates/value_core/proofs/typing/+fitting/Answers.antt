-- Lists, sets and maps by what they hold.
use Rattle.std.proofs.Common.{sym, ◌∙◌, rules}
use Rattle.std.specs.Prelude.{◌&&◌}
use Rattle.std.specs.List.{list_all}
use Rattle.value_core.specs.Typed.{fits}
use Rattle.value_core.proofs.TypedLemmas.{fits-list, fits-map, fits-set}
use Rattle.value_core.proofs.typing.+fitting.Goals as goal

pub fits-returns-in-List-List : goal.fits-returns-in-List-List
fits-returns-in-List-List t c = search (rules, fits-list, fits-set)

pub fits-returns-in-Map-Map : goal.fits-returns-in-Map-Map
fits-returns-in-Map-Map t c =
    let map = c.in-Map-Map in
    c.entries_fit.ensures
    ∙ (λ i. list_all (λ e. fits e.0 (c.get-in-Map-Map.ensures i) && fits e.1 (c.get-in-Map-Map-2.ensures i)) (c.as_slice.ensures i))
    ∙ sym (fits-map map.entries map.r map.s)
    ∙ sym (λ i. fits (map.is-0 i) (map.is-1 i))
    ∙ sym c.loop-v.invariant.0
