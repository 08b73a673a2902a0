-- What reading all tokens of a text tells.
use Rattle.std.specs.Prelude.{ℕ, ◌-◌, ◌==◌, Bool, true, cond, List, [], ◌∷◌, ◌++◌, length, take, drop, Result, Ok, Err, Option, Some, None}
use Rattle.ligo_tokens.specs.Lexing.{tokens_of}
use Rattle.ligo_syntax.specs.declared.fault.Stop.{Stop}
use Rattle.ligo_syntax.specs.declared.fault.Stop.TheVariants as stop
use Rattle.ligo_syntax.specs.declared.fault.SyntaxFault.{SyntaxFault}
use Rattle.ligo_syntax.specs.declared.fault.SyntaxRefusal.{SyntaxRefusal}
use Rattle.ligo_syntax.specs.declared.fault.SyntaxRefusal.TheVariants as refusal
use Rattle.ligo_syntax.specs.declared.fault.Expected.{Expected}
use Rattle.ligo_syntax.specs.declared.fault.Expected.TheVariants as expected
use Rattle.ligo_syntax.specs.declared.program.Decl.{Decl}
use Rattle.ligo_syntax.specs.declared.program.Program.{Program}
use Rattle.ligo_syntax.specs.Kinds.{Tokens, past_range, sort}
use Rattle.ligo_syntax.specs.Readers.{Read}
use Rattle.ligo_syntax.specs.Reading.{decls_at}
use Rattle.ligo_syntax.specs.ProgramTrees.{program_of}
use Rattle.ligo_syntax.specs.Faults.{smaller, place_of, IsFaultOf}

-- it is what is read, and nothing is left
abbrev pub all_of : {A : Type 0} → Read A → Result A Stop
all_of (Ok (a, [])) = Ok a
all_of (Ok (a, t ∷ ts)) = Err (stop.Unexpected expected.Token (length (t ∷ ts)))
all_of (Err e) = Err e

-- how deep declarations of a program may be that is itself at most 512 deep
unfoldable pub most_deep : ℕ
most_deep = 511

-- the declarations that all of the tokens make up
abbrev pub decls_of : Tokens → Result (List Decl) Stop
decls_of ts = all_of (decls_at most_deep ts)

-- reading didn't stop at the last token
abbrev pub goes_past : {A : Type 0} → Result A Stop → Bool
goes_past (Ok a) = true
goes_past (Err (stop.Unexpected k n)) = n == 0
goes_past (Err e) = true

-- what is told at a token: where it is a numeral past its range, and with a smaller one reading goes
-- past it, that
abbrev pub kind_at : Expected → Tokens → Tokens → Expected
kind_at k front [] = k
kind_at k front (t ∷ after) = cond (sort t == past_range)
    (cond (goes_past (decls_of (front ++ smaller t ∷ []))) expected.NumberInRange k) k

-- the fault, where this kind is wanted behind the tokens in front
abbrev pub fault_at : ℕ → Expected → Tokens → Tokens → SyntaxFault
fault_at end k front after = record { at = place_of end after; expected = kind_at k front after }

-- the fault, by why reading stopped
abbrev pub fault_of : ℕ → Tokens → Stop → SyntaxFault
fault_of end ts (stop.Unexpected k n) = fault_at end k (take (length ts - n) ts) (drop (length ts - n) ts)
fault_of end ts (stop.TooDeep n) = record { at = place_of end (drop (length ts - n) ts); expected = expected.TooDeep }
fault_of end ts stop.NoMemory = record { at = end; expected = expected.Token }

-- what is told, by what reading gave
abbrev pub verdict_of : ℕ → Tokens → Result (List Decl) Stop → Result Program SyntaxFault
verdict_of end ts (Ok ds) = Ok (program_of end ds)
verdict_of end ts (Err e) = Err (fault_of end ts e)

-- what is told of bytes
abbrev pub verdict : List ℕ → Result Program SyntaxFault
verdict bytes = verdict_of (length bytes) (tokens_of 0 bytes) (decls_of (tokens_of 0 bytes))

-- what a refusal says of bytes
abbrev pub IsRefusalOf : List ℕ → SyntaxRefusal → Type 0
IsRefusalOf bytes (refusal.Fault f) = IsFaultOf bytes f
IsRefusalOf bytes refusal.NoMemory = Unit {0}

-- the fault that an answer tells, and none where memory ran out
abbrev pub told_fault : SyntaxRefusal → Option SyntaxFault
told_fault (refusal.Fault f) = Some f
told_fault refusal.NoMemory = None
