-- Why a text is no script that may run, or says no state: what is told of it, and where.
use Rattle.std.specs.Prelude.{ℕ, List, [], ◌∷◌, ◌++◌, codes}
use Rattle.std.specs.Fmt.{decimal}
use Rattle.micheline_text.specs.declared.fault.TextFault.{TextFault}
use Rattle.micheline_text.specs.declared.fault.TextFault.TheVariants as text
use Rattle.data_nodes.specs.declared.fault.DataKind.{DataKind}
use Rattle.data_nodes.specs.declared.fault.DataKind.TheVariants as data_kind
use Rattle.michelson_code.specs.declared.type_fault.TypeKind.{TypeKind}
use Rattle.michelson_code.specs.declared.type_fault.TypeKind.TheVariants as kind
use Rattle.michelson_reader.specs.declared.fault.ReadFault.{ReadFault}
use Rattle.michelson_reader.specs.declared.fault.ReadFault.TheVariants as read
use Rattle.chain_text.specs.declared.fault.ChainFault.{ChainFault}
use Rattle.chain_text.specs.declared.fault.ChainKind.{ChainKind}
use Rattle.chain_text.specs.declared.fault.ChainKind.TheVariants as chain

-- a fault by its name, and the offset of the byte at which it is told
abbrev pub at_offset : List ℕ → ℕ → List ℕ
at_offset name place = name ++ codes " at " ++ decimal place

-- of the text; want of memory is no fault, and has no words
abbrev pub text_fault : TextFault → List ℕ
text_fault (text.BadToken place) = at_offset (codes "BadToken") place
text_fault (text.Unclosed place) = at_offset (codes "Unclosed") place
text_fault (text.WiderNumber place) = at_offset (codes "WiderNumber") place
text_fault (text.TooDeep place) = at_offset (codes "TooDeep") place
text_fault text.NoMemory = []

-- of data
abbrev pub data_kind_name : DataKind → List ℕ
data_kind_name data_kind.Shape = codes "Shape"
data_kind_name data_kind.Range = codes "Range"
data_kind_name data_kind.Order = codes "Order"
data_kind_name data_kind.TooLarge = codes "TooLarge"

-- of a script's text, by the innermost name
abbrev pub read_fault : ReadFault → List ℕ
read_fault (read.Text f) = text_fault f
read_fault (read.Sections place) = at_offset (codes "Sections") place
read_fault (read.LeftOut place word) = at_offset (codes "LeftOut") place
read_fault (read.UnknownPrim place) = at_offset (codes "UnknownPrim") place
read_fault (read.Arity place) = at_offset (codes "Arity") place
read_fault (read.Data f) = at_offset (data_kind_name f.kind) f.at
read_fault read.NoMemory = []

-- of a script that isn't typed
abbrev pub type_kind_name : TypeKind → List ℕ
type_kind_name kind.StackTooShort = codes "StackTooShort"
type_kind_name kind.WrongType = codes "WrongType"
type_kind_name kind.BranchesDiffer = codes "BranchesDiffer"
type_kind_name kind.NotComparable = codes "NotComparable"
type_kind_name kind.BigMapPlace = codes "BigMapPlace"
type_kind_name kind.EntryTwice = codes "EntryTwice"
type_kind_name kind.FailNotLast = codes "FailNotLast"
type_kind_name kind.StackTooTall = codes "StackTooTall"
type_kind_name kind.TypeTooLarge = codes "TypeTooLarge"
type_kind_name kind.CodeTooLarge = codes "CodeTooLarge"
type_kind_name kind.LastStack = codes "LastStack"

-- numbers with a dot before each
abbrev pub dotted : List ℕ → List ℕ
dotted [] = []
dotted (n ∷ path) = codes "." ++ decimal n ++ dotted path

-- the way to an instruction, with dots between its numbers; `code` where the fault belongs to none
abbrev pub path_text : List ℕ → List ℕ
path_text [] = codes "code"
path_text (n ∷ path) = decimal n ++ dotted path

abbrev pub type_fault : List ℕ → TypeKind → List ℕ
type_fault path k = type_kind_name k ++ codes " at " ++ path_text path

-- of a text that says no state, at its line
abbrev pub chain_kind_name : ChainKind → List ℕ
chain_kind_name chain.Missing = codes "Missing"
chain_kind_name chain.BadWord = codes "BadWord"
chain_kind_name chain.BadNumber = codes "BadNumber"
chain_kind_name chain.BadAddress = codes "BadAddress"
chain_kind_name chain.BadName = codes "BadName"
chain_kind_name chain.BadData = codes "BadData"
chain_kind_name chain.BadScript = codes "BadScript"
chain_kind_name chain.NotClosed = codes "NotClosed"
chain_kind_name chain.Twice = codes "Twice"
chain_kind_name chain.Unknown = codes "Unknown"
chain_kind_name chain.TooMuch = codes "TooMuch"
chain_kind_name chain.NoStorage = codes "NoStorage"

abbrev pub chain_fault : ChainFault → List ℕ
chain_fault f = chain_kind_name f.kind ++ codes " at line " ++ decimal f.line
