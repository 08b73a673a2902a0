-- Where no count rises, a run ends by the meaning of its command.
use Rattle.std.proofs.Common.{◌≡◌, ℕ, List, [], ◌∷◌, ◌++◌, map, Option, Some, None, refl, sym, ap, subst, ◌∙◌, arith, inl, inr}
use Rattle.std.specs.Prelude.{IfSome, ◌⊎◌}
use Rattle.std.specs.List.{Contains}
use Rattle.std.specs.FinMap.{get}
use Rattle.std.proofs.lemmas.List.{map-append}
use Rattle.std.proofs.lemmas.List.Elements.{Contains-append_right}
use Rattle.edge_io.specs.Outside.{Held, Outside}
use Rattle.block_cli.specs.Commands.{FileName, Command, command_of, reads, writes}
use Rattle.block_cli.specs.Answer.{File, Answer, limited, WritesUnder}
use Rattle.block_cli.specs.Meaning.{Means}
use Rattle.block_cli.specs.Seen.{Seen, StopsWriting}
use Rattle.block_cli.specs.Inputs.{Reaches}
use Rattle.block_cli.specs.Runs.{Answered, Performs, RunsFor}
use Rattle.block_cli.specs.Completeness.{AllQuiet, Completes}
use Rattle.block_cli.specs.declared.status.Status.{Status}
use Rattle.block_cli.specs.declared.status.Status.TheVariants.{Done, Refused, Usage, ReadFault, WriteFault, NoMemory, BadInput}
use Rattle.block_cli.proofs.AllOrNothing.{answered_writes}

-- ---- lists

same_some : (xs ys : List (List ℕ)) → map (λ (b : List ℕ). Some b) xs ≡ map (λ (b : List ℕ). Some b) ys → xs ≡ ys
same_some [] [] e = refl
same_some [] (y ∷ ys) e = absurd cc
same_some (x ∷ xs) [] e = absurd cc
same_some (x ∷ xs) (y ∷ ys) e =
    let head : x ≡ y = cc in
    let tail : map (λ (b : List ℕ). Some b) xs ≡ map (λ (b : List ℕ). Some b) ys = cc in
    ap (λ (z : List ℕ). z ∷ xs) head ∙ ap (λ zs. y ∷ zs) (same_some xs ys tail)

first_of_rest : (x : FileName) (xs : List FileName) → Contains (x ∷ xs) x
first_of_rest x xs = (0, omega arith, refl)

is_there : (names before after : List FileName) (name : FileName) → names ≡ before ++ name ∷ after → Contains names name
is_there names before after name order = subst (λ (l : List FileName). Contains l name) (sym order) (Contains-append_right before (name ∷ after) name (first_of_rest name after))

reached : (names : List FileName) (name : FileName) (seen : Outside) → Reaches names name seen → Contains names name
reached names name seen r = is_there names r.before r.after name r.order

-- ---- what was read and written

told_is : (told : Option Held) (held : Held) (names : List FileName) (contents : List (List ℕ)) → told ≡ Some held → IfSome told (λ h. map (λ (n : FileName). get h n) names ≡ map (λ (b : List ℕ). Some b) contents) → map (λ (n : FileName). get held n) names ≡ map (λ (b : List ℕ). Some b) contents
told_is told held names contents e h = subst (λ (o : Option Held). IfSome o (λ h. map (λ (n : FileName). get h n) names ≡ map (λ (b : List ℕ). Some b) contents)) e h

-- a file that couldn't be written is one of the command
is_written : (c : Command) (answer : Answer) (name : FileName) (old new : Outside) → answer.status ≡ Done → WritesUnder c answer.status answer.written → StopsWriting answer.written name old new → Contains (writes c) name
is_written c answer name old new done under s =
    let all : map (λ (file : File). file.0) answer.written ≡ writes c = subst (λ (status : Status). WritesUnder c status answer.written) done under in
    let here : map (λ (file : File). file.0) answer.written ≡ map (λ (file : File). file.0) s.before ++ name ∷ map (λ (file : File). file.0) s.after =
    ap (map (λ (file : File). file.0)) s.order ∙ map-append (λ (file : File). file.0) s.before ((name, s.bytes) ∷ s.after) in
    is_there (writes c) (map (λ (file : File). file.0) s.before) (map (λ (file : File). file.0) s.after) name (sym all ∙ here)

module _ (c : Command) (held : Held) (contents : List (List ℕ)) (old new : Seen) (told : old.files.told ≡ Some held)
    (holds : map (λ (name : FileName). get held name) (reads c) ≡ map (λ (bytes : List ℕ). Some bytes) contents) (quiet : AllQuiet c old new) where
  -- the status is that of an answer that is meant
  Meant : Status → Type 0
  Meant status = (answer : Answer) × Means c contents answer × (status ≡ (limited answer).status)

  by_answer : (answer : Answer) (status : Status) → answer.status ≡ status → Answered c answer old.files new.files → Meant status
  unfolding Meant
  by_answer answer status is (inl of) =
      let same : of.contents ≡ contents = same_some of.contents contents (sym (told_is old.files.told held (reads c) of.contents told of.read.told) ∙ holds) in
      (of.meant, subst (λ (l : List (List ℕ)). Means c l of.meant) same of.means, sym is ∙ ap (λ (a : Answer). a.status) of.is)
  by_answer answer status is (inr of) = absurd ((quiet.reads of.name (reached (reads c) of.name old.files of.stops.reached)).longs of.stops.rose)

  pub completes : (status : Status) → Performs c old status new → (status ≡ NoMemory) ⊎ ((answer : Answer) × Means c contents answer × (status ≡ (limited answer).status))
  unfolding Meant
  completes Done p = inr (by_answer p.answer Done p.status p.answered)
  completes Refused p = inr (by_answer p.answer Refused p.is p.answered)
  completes BadInput p = inr (by_answer p.answer BadInput p.is p.answered)
  completes Usage p = absurd p
  completes NoMemory p = inl refl
  completes ReadFault p = absurd ((quiet.reads p.name (reached (reads c) p.name old.files p.stops.reached)).reads p.stops.rose)
  completes WriteFault (inl p) = absurd ((quiet.writes p.name (is_written c p.answer p.name old.files new.files p.status (answered_writes c p.answer old.files new.files p.answered) p.stops)).writes p.stops.rose)
  completes WriteFault (inr p) = absurd (quiet.sink p.rose)

-- a run of the words does what `Completes` says
pub runs_complete : (asked : Option Command) (words : List (List ℕ)) (old new : Seen) (status : Status) → command_of words ≡ asked → RunsFor asked old status new → Completes words old status new
runs_complete None words old new status is runs c held contents asked told holds quiet = let none : None ≡ Some c = sym is ∙ asked in absurd cc
runs_complete (Some d) words old new status is runs c held contents asked told holds quiet =
    let same : d ≡ c = let both : Some d ≡ Some c = sym is ∙ asked in cc in
    completes c held contents old new told holds quiet status (subst (λ (x : Command). Performs x old status new) same runs)

pub complete : (words : List (List ℕ)) (old new : Seen) (status : Status) → RunsFor (command_of words) old status new → Completes words old status new
complete words old new status runs = runs_complete (command_of words) words old new status refl runs
