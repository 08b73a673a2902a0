-- Which values may stand in which cells, and which accesses and undos are fit, by a book.
use Rattle.std.specs.Prelude.{ℕ, ◌^◌, ◌==◌, Bool, true, false, ◌&&◌, ◌||◌, nat_lt, Option, Some, None, slice_get}
use Rattle.std.specs.FinMap.{get}
use Rattle.value_core.specs.declared.val.Val.{Val}
use Rattle.value_core.specs.declared.val.Val.TheOpen as one
use Rattle.value_core.specs.declared.val.Val.TheViews.{out-Val}
use Rattle.value_core.specs.declared.ty.Ty.{Ty}
use Rattle.value_core.specs.Layer.{Layer}
use Rattle.value_core.specs.Sound.{is_plain}
use Rattle.value_core.specs.Typed.{has_type}
use Rattle.value_core.specs.BigMaps.{big_maps_of, is_placed}
use Rattle.michelson_code.specs.declared.script.Script.{Script}
use Rattle.cell_names.specs.declared.cell.Cell.{Cell}
use Rattle.cell_names.specs.declared.cell.Cell.TheVariants.{Balance, Storage, Entry}
use Rattle.cell_names.specs.declared.access.Access.{Access}
use Rattle.cell_names.specs.declared.access.Access.TheVariants as access
use Rattle.cell_names.specs.declared.access.Undo.{Undo}
use Rattle.cell_names.specs.declared.access.Undo.TheVariants as undo
use Rattle.code_book.specs.Books.{Contracts, has_account}

-- ---- values

-- one level of a value: an amount of money above 0 and below 2^63
abbrev pub is_balance_level : Layer Val → Bool
is_balance_level (one.Mutez n) = nat_lt 0 n && nat_lt n (2 ^ 63)
is_balance_level _ = false

-- an amount of money above 0 and below 2^63
abbrev pub is_balance : Val → Bool
is_balance v = is_balance_level (out-Val v)

-- plain, of the type, and each big map at its own place
abbrev pub is_kept_as : Ty → Val → Bool
is_kept_as t v = is_plain v && (has_type v t && is_placed v t)

-- a storage of a contract of the book, of its storage type
abbrev pub fits_storage : Option Script → Val → Bool
fits_storage None v = false
fits_storage (Some s) v = is_kept_as s.storage v

-- a key and a value of a big map of these types
abbrev pub fits_big_map : Option (Ty × Ty) → Val → Val → Bool
fits_big_map None key v = false
fits_big_map (Some m) key v = has_type key m.0 && has_type v m.1

-- an entry of the big map that the storage type has at the place
abbrev pub fits_entry : Option Script → ℕ → Val → Val → Bool
fits_entry None place key v = false
fits_entry (Some s) place key v = fits_big_map (slice_get (big_maps_of s.storage) place) key v

-- whether a value may stand in a cell
abbrev pub fits : Contracts → Cell → Val → Bool
fits book (Balance address) v = has_account book address && is_balance v
fits book (Storage address) v = fits_storage (get book address) v
fits book (Entry address place key) v = fits_entry (get book address) place key v

-- ---- accesses and undos

-- a storage gets a value that fits; an entry gets one too, or goes; a balance isn't written
abbrev pub fits_write : Contracts → Cell → Option Val → Bool
fits_write book (Balance address) v = false
fits_write book (Storage address) None = false
fits_write book (Storage address) (Some v) = fits book (Storage address) v
fits_write book (Entry address place key) None = true
fits_write book (Entry address place key) (Some v) = fits book (Entry address place key) v

-- a write that fits, a credit of an account that may have money, and any read or debit
abbrev pub fits_access : Contracts → Access → Bool
fits_access book (access.Read c) = true
fits_access book (access.Write c v) = fits_write book c v
fits_access book (access.Credit address n) = has_account book address
fits_access book (access.Debit address n) = true

-- what is put is fit as a write, and what is given back above 0 goes to an account that may have money
abbrev pub fits_undo : Contracts → Undo → Bool
fits_undo book undo.Nothing = true
fits_undo book (undo.Put c v) = fits_write book c v
fits_undo book (undo.Uncredit address n) = true
fits_undo book (undo.Undebit address n) = n == 0 || has_account book address
