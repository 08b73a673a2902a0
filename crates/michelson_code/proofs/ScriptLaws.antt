-- A script that is typed has no fault: of the whole, of its code, or at its end.
use Rattle.std.proofs.Common.{◌≡◌, ℕ, ◌<◌, ◌≤◌, Bool, true, false, List, inl, inr, refl, subst, arith}
use Rattle.std.proofs.lemmas.Bool.{and_from}
use Rattle.michelson_code.specs.declared.script.Script.{Script}
use Rattle.michelson_code.specs.declared.type_fault.TypeKind.{TypeKind}
use Rattle.michelson_code.specs.declared.type_fault.TypeKind.TheVariants as kind
use Rattle.michelson_code.specs.Brackets.{script_brackets}
use Rattle.michelson_code.specs.FirstFault.{ScriptFault, WholeBreaks, of_the_code, of_the_end, of_the_whole}
use Rattle.michelson_code.specs.TypedScript.{IsTypedScript, first_stack, last_stack}
use Rattle.michelson_code.specs.Typing.{EndsWith}
use Rattle.michelson_code.specs.Weight.{code_count}
use Rattle.michelson_code.proofs.AppendLaws.{start_kept}
use Rattle.michelson_code.proofs.FaultLaws.{code_none}
use Rattle.michelson_code.proofs.FaultOnce.{Alike, code_fault_once, first_once}
use Rattle.michelson_code.proofs.OutcomeLaws.{code_once}
use Rattle.michelson_code.proofs.Throughout.{passable_is_free, passable_is_kept}

not_both : (b : Bool) → b ≡ true → b ≡ false → ⊥
not_both b passed failed = cc

too_many : (m n : ℕ) → m ≤ n → n < m → ⊥
too_many m n most more = omega arith

pub whole_none : (s : Script) (k : TypeKind) → IsTypedScript s → WholeBreaks s k → ⊥
whole_none s kind.WrongType t broken =
    not_both _ (and_from _ _ (passable_is_kept s.param t.param) (and_from _ _ t.storage t.entries)) broken
whole_none s kind.NotComparable t broken = not_both _ (and_from _ _ t.param_keys t.storage_keys) broken
whole_none s kind.BigMapPlace t broken = not_both _ (and_from _ _ (passable_is_free s.param t.param) t.big_maps) broken
whole_none s kind.EntryTwice t broken = broken t.names
whole_none s kind.TypeTooLarge t broken =
    not_both _ (and_from _ _ t.param_limits (and_from _ _ t.storage_limits (start_kept s 0 s.code (first_stack s) t.ends.0 t.ends.1.0).types)) broken
whole_none s kind.CodeTooLarge t (inl more) = too_many (code_count s.code) 65536 t.count more
whole_none s kind.CodeTooLarge t (inr more) = too_many (script_brackets s) 256 t.brackets more
whole_none s kind.StackTooShort t never = never
whole_none s kind.BranchesDiffer t never = never
whole_none s kind.FailNotLast t never = never
whole_none s kind.StackTooTall t never = never
whole_none s kind.LastStack t never = never

pub script_none : (s : Script) (path : List ℕ) (k : TypeKind) → IsTypedScript s → ScriptFault s path k → ⊥
script_none s path k t (of_the_whole k' first) = whole_none s k t first.holds
script_none s path k t (of_the_code path' k' sound fault) = code_none s 0 s.code (first_stack s) path k t.ends.0 fault t.ends.1.0
script_none s path k t (of_the_end o sound typed other) =
    other (subst (EndsWith (last_stack s)) (code_once s 0 s.code (first_stack s) t.ends.0 o t.ends.1.0 typed) t.ends.1.1)

-- two faults of a script are one
pub script_fault_once : (s : Script) (path path' : List ℕ) (k k' : TypeKind) → ScriptFault s path k → ScriptFault s path' k' → Alike path k path' k'
script_fault_once s path path' k k' (of_the_whole j first) (of_the_whole j' first') = (refl, first_once (WholeBreaks s) k k' first first')
script_fault_once s path path' k k' (of_the_whole j first) (of_the_code p j' sound fault) = absurd (sound k first.holds)
script_fault_once s path path' k k' (of_the_whole j first) (of_the_end o sound typed other) = absurd (sound k first.holds)
script_fault_once s path path' k k' (of_the_code p j sound fault) (of_the_whole j' first) = absurd (sound k' first.holds)
script_fault_once s path path' k k' (of_the_code p j sound fault) (of_the_code p' j' sound' fault') =
    code_fault_once s 0 s.code s.code (first_stack s) path path' k k' refl fault fault'
script_fault_once s path path' k k' (of_the_code p j sound fault) (of_the_end o sound' typed other) =
    absurd (code_none s 0 s.code (first_stack s) path k o fault typed)
script_fault_once s path path' k k' (of_the_end o sound typed other) (of_the_whole j' first) = absurd (sound k' first.holds)
script_fault_once s path path' k k' (of_the_end o sound typed other) (of_the_code p' j' sound' fault) =
    absurd (code_none s 0 s.code (first_stack s) path' k' o fault typed)
script_fault_once s path path' k k' (of_the_end o sound typed other) (of_the_end o' sound' typed' other') = (refl, refl)
