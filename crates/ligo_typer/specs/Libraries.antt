-- Names behind an upper name and a dot, and what functions of the language take and give.
use Rattle.std.specs.Prelude.{List, None, Option, Some, [], codes, ℕ, ◌∷◌}
use Rattle.ligo_typer.specs.declared.builtin.Builtin.{Builtin}
use Rattle.ligo_typer.specs.declared.builtin.Builtin.TheVariants as builtin
use Rattle.ligo_typer.specs.declared.builtin.Library.{Library}
use Rattle.ligo_typer.specs.declared.builtin.Library.TheVariants as library
use Rattle.ligo_typer.specs.declared.source_type.SrcTy.{SrcTy}
use Rattle.ligo_typer.specs.declared.source_type.SrcTy.TheVariants as type
use Rattle.ligo_typer.specs.Names.{Named, look}
use Rattle.ligo_typer.specs.Views.{option_then}

abbrev pub map_names : Named Library
map_names =
    (codes "empty", library.EmptyMap)
    ∷ (codes "literal", library.MapLiteral)
    ∷ (codes "find_opt", library.OnMap builtin.FindOpt)
    ∷ (codes "mem", library.OnMap builtin.Mem)
    ∷ (codes "add", library.OnMap builtin.Add)
    ∷ (codes "remove", library.OnMap builtin.Remove)
    ∷ (codes "update", library.OnMap builtin.Update) ∷ []

abbrev pub big_map_names : Named Library
big_map_names =
    (codes "find_opt", library.OnBigMap builtin.FindOpt)
    ∷ (codes "mem", library.OnBigMap builtin.Mem)
    ∷ (codes "add", library.OnBigMap builtin.Add)
    ∷ (codes "remove", library.OnBigMap builtin.Remove)
    ∷ (codes "update", library.OnBigMap builtin.Update) ∷ []

abbrev pub tezos_names : Named Library
tezos_names =
    (codes "get_sender", library.Call builtin.GetSender)
    ∷ (codes "get_source", library.Call builtin.GetSource)
    ∷ (codes "get_amount", library.Call builtin.GetAmount)
    ∷ (codes "get_balance", library.Call builtin.GetBalance)
    ∷ (codes "get_now", library.Call builtin.GetNow)
    ∷ (codes "get_self_address", library.Call builtin.GetSelfAddress)
    ∷ (codes "get_contract_opt", library.Call builtin.GetContractOpt)
    ∷ (codes "transaction", library.Call builtin.Transaction) ∷ []

abbrev pub libraries : Named (Named Library)
libraries = (codes "Map", map_names) ∷ (codes "Big_map", big_map_names) ∷ (codes "Tezos", tezos_names) ∷ []

-- what an upper name, a dot and a lower name stand for
abbrev pub library_of : List ℕ → List ℕ → Option Library
library_of upper lower = option_then (look lower) (look upper libraries)

-- how many arguments it takes
abbrev pub arity : Builtin → ℕ
arity builtin.FindOpt = 2
arity builtin.Mem = 2
arity builtin.Add = 3
arity builtin.Remove = 2
arity builtin.Update = 3
arity builtin.Transaction = 3
arity _ = 1

-- the type of the one argument and that of the result, where both are told by the function alone
abbrev pub signature : Builtin → Option (SrcTy × SrcTy)
signature builtin.Not = Some (type.Bool, type.Bool)
signature builtin.Int = Some (type.Nat, type.Int)
signature builtin.Abs = Some (type.Int, type.Nat)
signature builtin.IsNat = Some (type.Int, type.Option type.Nat)
signature builtin.GetSender = Some (type.Unit, type.Addr)
signature builtin.GetSource = Some (type.Unit, type.Addr)
signature builtin.GetAmount = Some (type.Unit, type.Tez)
signature builtin.GetBalance = Some (type.Unit, type.Tez)
signature builtin.GetNow = Some (type.Unit, type.Time)
signature builtin.GetSelfAddress = Some (type.Unit, type.Addr)
signature _ = None
