-- The classes of tokens that the grammar names, and what each rule begins with.
use Rattle.std.specs.Prelude.{[], ◌∷◌}
use Rattle.ligo_tokens.specs.declared.token.Kind.TheVariants as kind
use Rattle.ligo_syntax.specs.Kinds.{Kinds}

-- lower names
abbrev pub name_kinds : Kinds
name_kinds = kind.Name ∷ kind.List ∷ kind.Option ∷ kind.Contract ∷ kind.Map ∷ kind.BigMap ∷ []

-- names and literals
abbrev pub leaf_kinds : Kinds
leaf_kinds = kind.Int ∷ kind.Nat ∷ kind.Tez ∷ kind.Bytes ∷ kind.Text ∷ name_kinds

-- what stands behind a dot: digits, or a name
abbrev pub link_kinds : Kinds
link_kinds = kind.Int ∷ name_kinds

-- what makes another type of the type before it
abbrev pub postfix_kinds : Kinds
postfix_kinds = kind.List ∷ kind.Option ∷ kind.Contract ∷ []

-- what makes a type of two types in brackets
abbrev pub map_kinds : Kinds
map_kinds = kind.Map ∷ kind.BigMap ∷ []

-- the tightest operators
abbrev pub product_kinds : Kinds
product_kinds = kind.Star ∷ kind.Slash ∷ kind.Mod ∷ []

-- the next ones
abbrev pub sum_kinds : Kinds
sum_kinds = kind.Plus ∷ kind.Minus ∷ []

-- what compares
abbrev pub comparison_kinds : Kinds
comparison_kinds =
    kind.Equals ∷ kind.Differs ∷ kind.Less ∷ kind.Greater ∷ kind.AtMost ∷ kind.AtLeast ∷ []

-- what may stand before a declaration
abbrev pub attribute_kinds : Kinds
attribute_kinds = kind.Entry ∷ kind.Inline ∷ []

-- ---- what rules begin with

-- a type
abbrev pub type_firsts : Kinds
type_firsts = kind.OpenParen ∷ name_kinds

-- a pattern
abbrev pub pattern_firsts : Kinds
pattern_firsts = kind.OpenParen ∷ kind.Underscore ∷ name_kinds

-- the pattern of an arm
abbrev pub arm_firsts : Kinds
arm_firsts = kind.Underscore ∷ kind.OpenSquare ∷ kind.Upper ∷ name_kinds

-- an atom
abbrev pub atom_firsts : Kinds
atom_firsts = kind.OpenParen ∷ kind.OpenSquare ∷ kind.OpenBrace ∷ kind.Upper ∷ leaf_kinds

-- operators and their operands
abbrev pub op_firsts : Kinds
op_firsts = kind.Minus ∷ atom_firsts

-- an `if`, or operators
abbrev pub condition_firsts : Kinds
condition_firsts = kind.If ∷ op_firsts

-- any expression
abbrev pub expr_firsts : Kinds
expr_firsts = kind.Let ∷ kind.Match ∷ condition_firsts

-- the cases of a type
abbrev pub variant_firsts : Kinds
variant_firsts = kind.Bar ∷ kind.Upper ∷ []

-- what a type is declared as
abbrev pub definition_firsts : Kinds
definition_firsts = kind.OpenBrace ∷ kind.Bar ∷ kind.Upper ∷ type_firsts

-- a declaration
abbrev pub decl_firsts : Kinds
decl_firsts = kind.Type ∷ kind.Entry ∷ kind.Inline ∷ kind.Let ∷ []
