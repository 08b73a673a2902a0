-- The types of what operators give, by those of their sides.
use Rattle.std.specs.Prelude.{None, Option, Some}
use Rattle.ligo_syntax.specs.declared.expr.Operator.{Operator}
use Rattle.ligo_syntax.specs.declared.expr.Operator.TheVariants as operator
use Rattle.ligo_typer.specs.declared.operators.Sort.{Sort}
use Rattle.ligo_typer.specs.declared.operators.Sort.TheVariants as sort
use Rattle.ligo_typer.specs.declared.source_type.SrcTy.{SrcTy}
use Rattle.ligo_typer.specs.declared.source_type.SrcTy.TheOpen as ty
use Rattle.ligo_typer.specs.declared.source_type.SrcTy.TheOpen.{SrcTy-F}
use Rattle.ligo_typer.specs.declared.source_type.SrcTy.TheVariants as type
use Rattle.ligo_typer.specs.declared.source_type.SrcTy.TheViews.{out-SrcTy}

-- the sort of a type, as operators tell types apart
abbrev pub sort_level : SrcTy-F SrcTy → Sort
sort_level ty.Int = sort.Int
sort_level ty.Nat = sort.Nat
sort_level ty.Tez = sort.Tez
sort_level ty.Time = sort.Time
sort_level _ = sort.Other

abbrev pub sort_of : SrcTy → Sort
sort_of t = sort_level (out-SrcTy t)

abbrev pub sum_type : Sort → Sort → Option SrcTy
sum_type sort.Nat sort.Nat = Some type.Nat
sum_type sort.Nat sort.Int = Some type.Int
sum_type sort.Int sort.Nat = Some type.Int
sum_type sort.Int sort.Int = Some type.Int
sum_type sort.Time sort.Int = Some type.Time
sum_type sort.Int sort.Time = Some type.Time
sum_type sort.Tez sort.Tez = Some type.Tez
sum_type _ _ = None

abbrev pub difference_type : Sort → Sort → Option SrcTy
difference_type sort.Nat sort.Nat = Some type.Int
difference_type sort.Nat sort.Int = Some type.Int
difference_type sort.Int sort.Nat = Some type.Int
difference_type sort.Int sort.Int = Some type.Int
difference_type sort.Time sort.Int = Some type.Time
difference_type sort.Time sort.Time = Some type.Int
difference_type sort.Tez sort.Tez = Some (type.Option type.Tez)
difference_type _ _ = None

abbrev pub product_type : Sort → Sort → Option SrcTy
product_type sort.Nat sort.Nat = Some type.Nat
product_type sort.Nat sort.Int = Some type.Int
product_type sort.Int sort.Nat = Some type.Int
product_type sort.Int sort.Int = Some type.Int
product_type sort.Tez sort.Nat = Some type.Tez
product_type sort.Nat sort.Tez = Some type.Tez
product_type _ _ = None

abbrev pub quotient_type : Sort → Sort → Option SrcTy
quotient_type sort.Nat sort.Nat = Some type.Nat
quotient_type sort.Nat sort.Int = Some type.Int
quotient_type sort.Int sort.Nat = Some type.Int
quotient_type sort.Int sort.Int = Some type.Int
quotient_type sort.Tez sort.Nat = Some type.Tez
quotient_type sort.Tez sort.Tez = Some type.Nat
quotient_type _ _ = None

abbrev pub remainder_type : Sort → Sort → Option SrcTy
remainder_type sort.Nat sort.Nat = Some type.Nat
remainder_type sort.Nat sort.Int = Some type.Nat
remainder_type sort.Int sort.Nat = Some type.Nat
remainder_type sort.Int sort.Int = Some type.Nat
remainder_type sort.Tez sort.Nat = Some type.Tez
remainder_type sort.Tez sort.Tez = Some type.Tez
remainder_type _ _ = None

-- what an arithmetic operator gives
abbrev pub arithmetic_type : Operator → Sort → Sort → Option SrcTy
arithmetic_type operator.Add = sum_type
arithmetic_type operator.Subtract = difference_type
arithmetic_type operator.Multiply = product_type
arithmetic_type operator.Divide = quotient_type
arithmetic_type operator.Modulo = remainder_type
arithmetic_type _ = λ s t. None

-- what a minus before an expression gives
abbrev pub negated_type : Sort → Option SrcTy
negated_type sort.Int = Some type.Int
negated_type sort.Nat = Some type.Int
negated_type _ = None
