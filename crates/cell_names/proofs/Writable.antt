-- Cells and footprints that have a spelling can be written.
use Rattle.std.proofs.Common.{List, [], ◌∷◌}
use Rattle.std.specs.List.{AllByRecursion}
use Rattle.cell_names.specs.declared.cell.Cell.{Cell}
use Rattle.cell_names.specs.declared.cell.Cell.TheVariants.{Balance, Storage, Entry}
use Rattle.cell_names.specs.declared.mode.Mode.{Mode}
use Rattle.cell_names.specs.Spelling.{IsCell, IsFootprint, CanBeSpelt}

pub cell_can_be_spelt : (c : Cell) → IsCell c → CanBeSpelt c
cell_can_be_spelt (Balance a) good = tt
cell_can_be_spelt (Storage a) good = tt
cell_can_be_spelt (Entry a p k) good = record { within = good.1.0; plain = good.1.1.plain; tags = good.1.1.tags; deep = good.1.1.deep }

pub cells_can_be_spelt : (f : List (Cell × Mode)) → AllByRecursion (λ t. IsCell t.0) f → AllByRecursion (λ t. CanBeSpelt t.0) f
cells_can_be_spelt [] good = tt
cells_can_be_spelt (t ∷ f) good = (cell_can_be_spelt t.0 good.0, cells_can_be_spelt f good.1)

pub footprint_can_be_spelt : (f : List (Cell × Mode)) → IsFootprint f → AllByRecursion (λ t. CanBeSpelt t.0) f
footprint_can_be_spelt f good = cells_can_be_spelt f good.touches.cells
