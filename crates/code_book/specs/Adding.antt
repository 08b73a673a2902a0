-- When a contract may be added to a book, and what is told where it may not.
use Rattle.std.specs.Prelude.{◌≡◌, ℕ, ◌^◌, Bool, List, nat_le, if◌then◌else◌, Option, Some, None}
use Rattle.std.specs.FinMap.{contains_key, len}
use Rattle.michelson_code.specs.declared.script.Script.{Script}
use Rattle.cell_names.specs.Accounts.{is_implicit}
use Rattle.code_book.specs.declared.book.TheConstants.{MOST_CONTRACTS}
use Rattle.code_book.specs.declared.fault.BookEnd.{BookEnd}
use Rattle.code_book.specs.declared.fault.BookEnd.TheVariants.{NotContract, Taken, Full, TooLong, NoMemory}
use Rattle.code_book.specs.Books.{Contracts, text_length}

-- the text has a length that four bytes don't hold
abbrev pub is_too_long : Script → Bool
is_too_long s = nat_le (2 ^ 32) (text_length s)

-- the first of the four reasons for which a contract isn't added, in this order
abbrev pub refusal : Contracts → List ℕ → Script → Option BookEnd
refusal book address s =
    if is_implicit address then Some NotContract else
    if contains_key book address then Some Taken else
    if nat_le MOST_CONTRACTS (len book) then Some Full else
    if is_too_long s then Some TooLong else
    None

-- what is told is the first reason, or that memory ran out
abbrev pub IsTold : BookEnd → Option BookEnd → Type 0
IsTold NotContract why = why ≡ Some NotContract
IsTold Taken why = why ≡ Some Taken
IsTold Full why = why ≡ Some Full
IsTold TooLong why = why ≡ Some TooLong
IsTold NoMemory why = Unit {0}
