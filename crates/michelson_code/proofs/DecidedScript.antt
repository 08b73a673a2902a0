-- A script is typed, or has a first fault.
use Rattle.std.proofs.Common.{◌≡◌, ℕ, zero, suc, Bool, true, false, List, [], ◌∷◌, inl, inr, refl, arith}
use Rattle.std.specs.Prelude.{◌&&◌, ◌⊎◌, AllPairs, All}
use Rattle.std.specs.List.{list_all}
use Rattle.std.specs.Str.{bytes_eq}
use Rattle.std.proofs.lemmas.Bool.{and_parts}
use Rattle.std.proofs.lemmas.List.Elements.{All-cons, All-head, All-tail}
use Rattle.std.proofs.lemmas.List.Kept.{AllPairs-cons}
use Rattle.std.proofs.lemmas.Slice.Eq.{bytes_eq-Decides}
use Rattle.michelson_code.specs.declared.script.Script.{Script}
use Rattle.michelson_code.specs.declared.type_fault.TypeKind.{TypeKind}
use Rattle.michelson_code.specs.declared.type_fault.TypeKind.TheVariants as kind
use Rattle.michelson_code.specs.Brackets.{script_brackets}
use Rattle.michelson_code.specs.Entries.{NamedEntry}
use Rattle.michelson_code.specs.FirstFault.{ScriptFault, WholeBreaks, of_the_code, of_the_end, of_the_whole}
use Rattle.michelson_code.specs.Printable.{are_entries_of}
use Rattle.michelson_code.specs.TypedScript.{AreNamedApart, IsTypedScript, first_stack, last_stack}
use Rattle.michelson_code.specs.Typing.{CodeTyped, EndsWith, IsKept, Outcome}
use Rattle.michelson_code.specs.Weight.{code_count}
use Rattle.michelson_code.specs.WrittenTypes.{has_comparable_keys, has_storage_big_maps, is_free_of_big_maps, is_kept, is_within_limits}
use Rattle.michelson_code.proofs.DecidedCode.{CodeAnswer, code_answer}
use Rattle.michelson_code.proofs.DecidedCounts.{either_decided, less_decided}
use Rattle.michelson_code.proofs.DecidedEnds.{ends_decided}
use Rattle.michelson_code.proofs.Deciding.{Decided}
use Rattle.michelson_code.proofs.FirstKind.{First, first_or_none}
use Rattle.michelson_code.proofs.KeptStacks.{is_false, not_false, not_more}
use Rattle.michelson_code.proofs.Throughout.{kept_is_passable}

-- ---- names

negated : {P : Type 0} → Decided P → Decided (P → ⊥)
negated (inl p) = inr (λ never. never p)
negated (inr never) = inl never

-- what is decided and not false is so
stable : {P : Type 0} → Decided P → ((P → ⊥) → ⊥) → P
stable (inl p) never = p
stable (inr none) never = absurd (never none)

named_apart : (e f : NamedEntry) → Decided (AreNamedApart e f)
named_apart e f = go (bytes_eq e.1 f.1) refl
  where
    go : (r : Bool) → bytes_eq e.1 f.1 ≡ r → Decided (AreNamedApart e f)
    go true is = inr (λ apart. apart ((bytes_eq-Decides e.1 f.1).0 is))
    go false is = inl (λ same. let equal : bytes_eq e.1 f.1 ≡ true = (bytes_eq-Decides e.1 f.1).1 same in cc)

apart_from_all : (e : NamedEntry) (names : List NamedEntry) → Decided (All (AreNamedApart e) names)
apart_from_all e [] = inl (λ k d less. absurd (omega arith))
apart_from_all e (f ∷ names) = go (named_apart e f) (apart_from_all e names)
  where
    go : Decided (AreNamedApart e f) → Decided (All (AreNamedApart e) names) → Decided (All (AreNamedApart e) (f ∷ names))
    go (inl first) (inl rest) = inl (All-cons (AreNamedApart e) f names first rest)
    go (inl first) (inr not) = inr (λ all. not (All-tail (AreNamedApart e) f names all))
    go (inr not) rest = inr (λ all. not (All-head (AreNamedApart e) f names all))

names_apart : (names : List NamedEntry) → Decided (AllPairs AreNamedApart names)
names_apart [] = inl (λ i j d less within. absurd (omega arith))
names_apart (e ∷ names) = go (apart_from_all e names) (names_apart names)
  where
    go : Decided (All (AreNamedApart e) names) → Decided (AllPairs AreNamedApart names) → Decided (AllPairs AreNamedApart (e ∷ names))
    go (inl first) (inl rest) = inl (AllPairs-cons AreNamedApart e names first rest)
    go (inl first) (inr not) = inr (λ all. not (λ i j d less within. all (suc i) (suc j) d (omega arith) (omega arith)))
    go (inr not) rest = inr (λ all. not (λ k d within. all zero (suc k) d (omega arith) (omega arith)))

-- ---- the script as a whole

module _ (s : Script) where
  whole_decided : (k : TypeKind) → Decided (WholeBreaks s k)
  whole_decided kind.WrongType = is_false (is_kept s.param && (is_kept s.storage && are_entries_of s.param s.names))
  whole_decided kind.NotComparable = is_false (has_comparable_keys s.param && has_comparable_keys s.storage)
  whole_decided kind.BigMapPlace = is_false (is_free_of_big_maps s.param && has_storage_big_maps s.storage)
  whole_decided kind.EntryTwice = negated (names_apart s.names)
  whole_decided kind.TypeTooLarge = is_false (is_within_limits s.param && (is_within_limits s.storage && list_all is_within_limits (first_stack s)))
  whole_decided kind.CodeTooLarge = either_decided (less_decided 65536 (code_count s.code)) (less_decided 256 (script_brackets s))
  whole_decided kind.StackTooShort = inr (λ never. never)
  whole_decided kind.BranchesDiffer = inr (λ never. never)
  whole_decided kind.FailNotLast = inr (λ never. never)
  whole_decided kind.StackTooTall = inr (λ never. never)
  whole_decided kind.LastStack = inr (λ never. never)

  abbrev Sound : Type 0
  Sound = (k : TypeKind) → WholeBreaks s k → ⊥

  limits : Sound → (is_within_limits s.param && (is_within_limits s.storage && list_all is_within_limits (first_stack s))) ≡ true
  limits sound = not_false _ (sound kind.TypeTooLarge)

  first_kept : Sound → IsKept 0 (first_stack s)
  first_kept sound = record { height = omega arith; types = (and_parts _ _ (and_parts _ _ (limits sound)).1).1 }

  typed_by : Sound → (o : Outcome) → CodeTyped s 0 s.code (first_stack s) o → EndsWith (last_stack s) o → IsTypedScript s
  typed_by sound o typed ends =
      let types = and_parts _ _ (not_false _ (sound kind.WrongType)) in
      let keys = and_parts _ _ (not_false _ (sound kind.NotComparable)) in
      let places = and_parts _ _ (not_false _ (sound kind.BigMapPlace)) in
      let sizes = and_parts _ _ (limits sound) in
      record {
        param_keys = keys.0;
        storage_keys = keys.1;
        param = kept_is_passable s.param types.0 places.0;
        storage = (and_parts _ _ types.1).0;
        big_maps = places.1;
        names = stable (names_apart s.names) (sound kind.EntryTwice);
        entries = (and_parts _ _ types.1).1;
        param_limits = sizes.0;
        storage_limits = (and_parts _ _ sizes.1).0;
        count = not_more (code_count s.code) 65536 (λ more. sound kind.CodeTooLarge (inl more));
        brackets = not_more (script_brackets s) 256 (λ more. sound kind.CodeTooLarge (inr more));
        ends = (o, (typed, ends));
      }

  abbrev Answer : Type 0
  Answer = IsTypedScript s ⊎ ((path : List ℕ) × ((k : TypeKind) × ScriptFault s path k))

  by_end : Sound → (o : Outcome) → CodeTyped s 0 s.code (first_stack s) o → Decided (EndsWith (last_stack s) o) → Answer
  by_end sound o typed (inl ends) = inl (typed_by sound o typed ends)
  by_end sound o typed (inr other) = inr ([], (kind.LastStack, of_the_end o sound typed other))

  by_code : Sound → CodeAnswer s 0 s.code (first_stack s) → Answer
  by_code sound (inl typed) = by_end sound typed.0 typed.1 (ends_decided (last_stack s) typed.0)
  by_code sound (inr fault) = inr (fault.0, (fault.1.0, of_the_code fault.0 fault.1.0 sound fault.1.1))

  by_whole : First (WholeBreaks s) ⊎ Sound → Answer
  by_whole (inl f) = inr ([], (f.kind, of_the_whole f.kind f.first))
  by_whole (inr sound) = by_code sound (code_answer s 0 s.code (first_stack s) (first_kept sound))

  -- the script is typed, or has a fault
  pub script_answer : IsTypedScript s ⊎ ((path : List ℕ) × ((k : TypeKind) × ScriptFault s path k))
  script_answer = by_whole (first_or_none (WholeBreaks s) whole_decided)
