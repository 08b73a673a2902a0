-- The first kind of fault: of parameter, storage and names alone, and tests that rule a fault out.
use Rattle.std.specs.Prelude.{◌<◌, Bool, true, false, Option, None, Some}
use Rattle.michelson_code.specs.declared.script.Script.{Script}
use Rattle.michelson_code.specs.declared.type_fault.TypeKind.{TypeKind}
use Rattle.michelson_code.specs.declared.type_fault.TypeKind.TheVariants as kind
use Rattle.michelson_code.specs.FirstFault.{IsFirst, WholeBreaks, kind_number}

-- a test passes exactly where the fault doesn't hold
abbrev pub RulesOut : Bool → Type 0 → Type 0
RulesOut true Holds = Holds → ⊥
RulesOut false Holds = Holds

-- the first kind that holds of the script as a whole, or none before the limits holds
abbrev pub IsKindOfParts : Script → Option TypeKind → Type 0
IsKindOfParts s None = (k : TypeKind) → kind_number k < kind_number kind.TypeTooLarge → WholeBreaks s k → ⊥
IsKindOfParts s (Some k) = IsFirst (WholeBreaks s) k
