-- A block that has a spelling is within the format, so that it can be written.
use Rattle.std.proofs.Common.{List, [], ◌∷◌, Option, Some, None}
use Rattle.std.specs.List.{AllByRecursion}
use Rattle.michelson_code.specs.declared.why.Why.{Why}
use Rattle.michelson_code.specs.declared.why.Why.TheVariants as why
use Rattle.cell_names.specs.declared.cell.Cell.{Cell}
use Rattle.cell_names.specs.declared.mode.Mode.{Mode}
use Rattle.cell_names.specs.Spelling.{IsFootprint}
use Rattle.cell_names.proofs.Writable.{footprint_can_be_spelt}
use Rattle.block_codec.specs.Block.{BlockView, IsBlock, IsEnd}
use Rattle.block_codec.specs.Format.{CanBePublished, CanEnd, IsWithinFormat}

each : {A : Type 0} (P Q : A → Type 0) → ((a : A) → P a → Q a) → (all : List A) → AllByRecursion P all → AllByRecursion Q all
each P Q more [] good = tt
each P Q more (a ∷ all) good = (more a good.0, each P Q more all good.1)

end_can : (end : Option Why) → IsEnd end → CanEnd end
end_can (Some (why.Raised v)) good = good.1
end_can _ good = tt

footprint_can : (f : List (Cell × Mode)) → IsFootprint f → CanBePublished f
footprint_can f good = record { few = good.few; cells = footprint_can_be_spelt f good }

pub within_format : (b : BlockView) → IsBlock b → IsWithinFormat b
within_format b good = record {
  few = good.few;
  ops = each _ _ (λ op is. is.lawful) b.ops good.ops;
  gas = good.gas;
  joined = good.joined;
  joins = each _ _ (λ list is. is.few) b.joins good.joins;
  touched = good.touched;
  footprints = each _ _ footprint_can b.footprints good.footprints;
  ended = good.ended;
  receipts = each _ _ (λ r is. end_can r.end is.end) b.receipts good.receipts;
}
