-- Codes one after another: the second is typed on what the first leaves.
use Rattle.std.proofs.Common.{◌≡◌, ℕ, List, [], ◌∷◌, ◌++◌, refl}
use Rattle.value_core.specs.declared.ty.Ty.{Ty}
use Rattle.michelson_code.specs.declared.instr.Instr.{Instr}
use Rattle.michelson_code.specs.declared.script.Script.{Script}
use Rattle.michelson_code.specs.Typing.{CodeTyped, InstrTyped, IsKept, Outcome, To, done, goes_on, fails}

pub code_append : (s : Script) (n : ℕ) (c d : List Instr) (b t : List Ty) (p : Outcome) → CodeTyped s n c b (To t) → CodeTyped s n d t p → CodeTyped s n (c ++ d) b p
code_append s n c d b t p (done n' b' kept) more = more
code_append s n c d b t p (goes_on n' i c' b' u o kept typed rest) more =
    goes_on n i (c' ++ d) b u p kept typed (code_append s n c' d u t p rest more)

pub start_kept : (s : Script) (n : ℕ) (c : List Instr) (b : List Ty) (o : Outcome) → CodeTyped s n c b o → IsKept n b
start_kept s n c b o (done n' b' kept) = kept
start_kept s n c b o (goes_on n' i c' b' u o' kept typed rest) = kept
start_kept s n c b o (fails n' i b' kept typed) = kept

first_of : (s : Script) (n : ℕ) (j : Instr) (c : List Instr) (i : Instr) (d : List Instr) (e : List Instr) (b : List Ty) (o : Outcome) → CodeTyped s n (j ∷ e) b o → e ≡ c ++ i ∷ d →
    (u : List Ty) × (IsKept n b × InstrTyped s n j b (To u) × CodeTyped s n e u o)
first_of s n j c i d e b o (goes_on n' j' e' b' u o' kept typed rest) is = (u, (kept, typed, rest))
first_of s n j [] i d e b o (fails n' j' b' kept typed) is = cc
first_of s n j (k ∷ c) i d e b o (fails n' j' b' kept typed) is = cc

pub code_parts : (s : Script) (n : ℕ) (c : List Instr) (i : Instr) (d : List Instr) (b : List Ty) (o : Outcome) → CodeTyped s n (c ++ i ∷ d) b o →
    (t : List Ty) × (CodeTyped s n c b (To t) × CodeTyped s n (i ∷ d) t o)
code_parts s n [] i d b o typed = (b, (done n b (start_kept s n (i ∷ d) b o typed), typed))
code_parts s n (j ∷ c) i d b o typed =
    let first = first_of s n j c i d (c ++ i ∷ d) b o typed refl in
    let more = code_parts s n c i d first.0 o first.1.2 in
    (more.0, (goes_on n j c b first.0 (To more.0) first.1.0 first.1.1 more.1.0, more.1.1))
