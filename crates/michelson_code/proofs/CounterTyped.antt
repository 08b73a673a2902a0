-- The counter is typed.
use Rattle.std.proofs.Common.{◌≡◌, ℕ, ◌+◌, ◌≤◌, Bool, true, List, [], ◌∷◌, length, max, sum_by, inl, inr, refl, ap, sym, subst, ◌∙◌, rules, arith}
use Rattle.std.specs.Prelude.{◌&&◌, nat_le}
use Rattle.std.specs.List.{list_all}
use Rattle.std.proofs.lemmas.Bool.{and_from}
use Rattle.std.proofs.lemmas.List.Sums.{sum_by-cons}
use Rattle.value_core.specs.declared.ty.Ty.{Ty}
use Rattle.value_core.specs.declared.ty.Ty.TheVariants as type
use Rattle.value_core.specs.declared.ty.Ty.TheOpen as ty
use Rattle.value_core.specs.declared.ty.Ty.TheOpen.{Ty-F}
use Rattle.value_core.specs.declared.ty.Ty.TheViews.{out-Ty}
use Rattle.value_core.specs.BigMaps.{Beside, beside_level}
use Rattle.value_core.specs.Depth.{depth_of_type, greatest, level_depth}
use Rattle.value_core.specs.Kinds.{comparable_level, is_comparable, passable_level}
use Rattle.value_core.specs.Nodes.{level_nodes, nodes_of}
use Rattle.value_core.specs.TypeLevels.{fold-at}
use Rattle.michelson_code.specs.declared.instr.Instr.{Instr}
use Rattle.michelson_code.specs.declared.instr.Instr.TheVariants as instr
use Rattle.michelson_code.specs.declared.instr.Instr.TheOpen as one
use Rattle.michelson_code.specs.declared.instr.Instr.TheOpen.{Instr-F}
use Rattle.michelson_code.specs.declared.instr.Instr.TheViews.{out-Instr, the_lemmas}
use Rattle.michelson_code.specs.declared.instr.Instr.TheFolds.{fold_out-Instr, map-Instr}
use Rattle.michelson_code.specs.declared.operands.Level.TheVariants as level
use Rattle.michelson_code.specs.declared.operands.Part.TheVariants as part
use Rattle.michelson_code.specs.declared.operands.Slots.TheVariants as slots
use Rattle.michelson_code.specs.Brackets.{brackets_at, brackets_of, script_brackets, type_brackets}
use Rattle.michelson_code.specs.Forms.{bodies, form_at}
use Rattle.michelson_code.specs.Inside.{count_of-is}
use Rattle.michelson_code.specs.Operands.{a, b, int, list, pair, ◌⇒◌}
use Rattle.michelson_code.specs.Printable.{fit_at}
use Rattle.michelson_code.specs.TypedScript.{IsTypedScript, counter, first_stack, last_stack}
use Rattle.michelson_code.specs.Typing.{Applies, Choice, CodeTyped, InstrTyped, IsKept, To, whole_types, by_line, applies, done, goes_on, with_it}
use Rattle.michelson_code.specs.Weight.{code_count, count_of}
use Rattle.michelson_code.specs.WrittenTypes.{Placed, has_comparable_keys, has_passable_values, has_storage_big_maps, is_kept_here, is_well_made, is_within_limits, keys_here, placed_level, values_here}
use Rattle.michelson_code.proofs.Throughout.{passes_at}
use Rattle.michelson_code.proofs.Types.{shows}

abbrev same : Ty → Ty
same s = s

abbrev ops : Ty
ops = type.List type.Operation

-- ---- the types

int_shown : out-Ty type.Int ≡ ty.Int
int_shown = shows same level.Int

operation_shown : out-Ty type.Operation ≡ ty.Operation
operation_shown = shows same level.Operation

list_shown : (s : Ty) → out-Ty (type.List s) ≡ ty.List s
list_shown s = shows same (level.List s)

pair_shown : (s u : Ty) → out-Ty (type.Pair s u) ≡ ty.Pair s u
pair_shown s u = shows same (level.Pair s u)

-- so many nodes, and so deep
record Measured (s : Ty) (nodes depth : ℕ) : Type 0 where
  pub nodes_are : nodes_of s ≡ nodes
  pub depth_is : depth_of_type s ≡ depth

int_measured : Measured type.Int 1 1
int_measured = record { nodes_are = fold-at level_nodes type.Int ty.Int int_shown; depth_is = fold-at level_depth type.Int ty.Int int_shown }

operation_measured : Measured type.Operation 1 1
operation_measured = record {
  nodes_are = fold-at level_nodes type.Operation ty.Operation operation_shown;
  depth_is = fold-at level_depth type.Operation ty.Operation operation_shown;
}

list_measured : (s : Ty) (m d : ℕ) → Measured s m d → Measured (type.List s) (1 + m) (1 + d)
list_measured s m d is = record {
  nodes_are = fold-at level_nodes (type.List s) (ty.List s) (list_shown s) ∙ ap (λ (n : ℕ). 1 + n) is.nodes_are;
  depth_is = fold-at level_depth (type.List s) (ty.List s) (list_shown s) ∙ ap (λ (n : ℕ). 1 + n) is.depth_is;
}

pair_measured : (s u : Ty) (m d n e : ℕ) → Measured s m d → Measured u n e → Measured (type.Pair s u) (1 + m + n) (1 + max d e)
pair_measured s u m d n e first second = record {
  nodes_are = fold-at level_nodes (type.Pair s u) (ty.Pair s u) (pair_shown s u) ∙ (λ i. 1 + first.nodes_are i + second.nodes_are i);
  depth_is = fold-at level_depth (type.Pair s u) (ty.Pair s u) (pair_shown s u) ∙ (λ i. 1 + max (first.depth_is i) (second.depth_is i));
}

within : (s : Ty) (m d : ℕ) → Measured s m d → (nat_le m 16384 && nat_le d 128) ≡ true → is_within_limits s ≡ true
within s m d is small = (λ i. nat_le (is.nodes_are i) 16384 && nat_le (is.depth_is i) 128) ∙ small

int_within : is_within_limits type.Int ≡ true
int_within = within type.Int 1 1 int_measured refl

ops_within : is_within_limits ops ≡ true
ops_within = within ops 2 2 (list_measured type.Operation 1 1 operation_measured) refl

first_within : is_within_limits (type.Pair type.Int type.Int) ≡ true
first_within = within (type.Pair type.Int type.Int) 3 2 (pair_measured type.Int type.Int 1 1 1 1 int_measured int_measured) refl

last_within : is_within_limits (type.Pair ops type.Int) ≡ true
last_within =
    within (type.Pair ops type.Int) 4 3 (pair_measured ops type.Int 2 2 1 1 (list_measured type.Operation 1 1 operation_measured) int_measured) refl

int_comparable : is_comparable type.Int ≡ true
int_comparable = fold-at comparable_level type.Int ty.Int int_shown

int_keys : has_comparable_keys type.Int ≡ true
int_keys = passes_at keys_here type.Int ty.Int int_shown refl

int_values : has_passable_values type.Int ≡ true
int_values = passes_at values_here type.Int ty.Int int_shown refl

int_big_maps : has_storage_big_maps type.Int ≡ true
int_big_maps =
    and_from _ _ (and_from _ _ (ap (λ (p : Placed). p.0) (fold-at placed_level type.Int ty.Int int_shown)) int_values)
    (ap (λ (p : Beside). nat_le (length p.1) 16) (fold-at beside_level type.Int ty.Int int_shown))

operation_well_made : is_well_made type.Operation ≡ true
operation_well_made =
    and_from _ _ (passes_at keys_here type.Operation ty.Operation operation_shown refl) (passes_at values_here type.Operation ty.Operation operation_shown refl)

-- ---- the stacks

alone : (s : Ty) → is_within_limits s ≡ true → IsKept 0 (s ∷ [])
alone s small = record {
  height = (let one_item : length (s ∷ []) ≡ 1 = refl in omega arith);
  types = and_from _ _ small refl;
}

together : (s u : Ty) → is_within_limits s ≡ true → is_within_limits u ≡ true → IsKept 0 (s ∷ u ∷ [])
together s u small other = record {
  height = (let two_items : length (s ∷ u ∷ []) ≡ 2 = refl in omega arith);
  types = and_from _ _ small (and_from _ _ other refl);
}

-- ---- the instructions

unpair_shown : out-Instr instr.Unpair ≡ one.Unpair
unpair_shown = search (rules, the_lemmas)

add_shown : out-Instr instr.Add ≡ one.Add
add_shown = search (rules, the_lemmas)

nil_shown : out-Instr (instr.Nil type.Operation) ≡ one.Nil type.Operation
nil_shown = search (rules, the_lemmas)

made_shown : out-Instr instr.Pair ≡ one.Pair
made_shown = search (rules, the_lemmas)

abbrev choice : Ty → Ty → List Ty → Choice
choice s u written = record { a = s; b = u; k = type.Int; written = written }

step : (i : Instr) (x : Instr-F Instr) → out-Instr i ≡ x → fit_at (map-Instr Instr Bool (λ j. true) x) ≡ true →
    list_all is_well_made (whole_types x) ≡ true → (before after : List Ty) → Applies counter x before after →
    InstrTyped counter 0 i before (To after)
step i x is fit well before after how =
    applies 0 i before after (ap (λ (y : Instr-F Instr). fit_at (map-Instr Instr Bool (λ j. true) y)) is ∙ fit)
    (ap (λ (y : Instr-F Instr). list_all is_well_made (whole_types y)) is ∙ well)
    (subst (λ (y : Instr-F Instr). Applies counter y before after) (sym is) how)

code_typed : CodeTyped counter 0 counter.code (first_stack counter) (To (last_stack counter))
code_typed =
    goes_on 0 instr.Unpair _ (type.Pair type.Int type.Int ∷ []) (type.Int ∷ type.Int ∷ []) _ (alone _ first_within)
    (step instr.Unpair one.Unpair unpair_shown refl refl (type.Pair type.Int type.Int ∷ []) (type.Int ∷ type.Int ∷ [])
    (by_line one.Unpair (slots.One (pair part.A part.B) ⇒ slots.Two a b) (choice type.Int type.Int []) [] (inl refl) refl int_comparable))
    (goes_on 0 instr.Add _ (type.Int ∷ type.Int ∷ []) (type.Int ∷ []) _ (together _ _ int_within int_within)
    (step instr.Add one.Add add_shown refl refl (type.Int ∷ type.Int ∷ []) (type.Int ∷ [])
    (by_line one.Add (slots.Two int int ⇒ slots.One int) (choice type.Int type.Int []) [] (inr (inl refl)) refl int_comparable))
    (goes_on 0 (instr.Nil type.Operation) _ (type.Int ∷ []) (ops ∷ type.Int ∷ []) _ (alone _ int_within)
    (step (instr.Nil type.Operation) (one.Nil type.Operation) nil_shown refl (and_from _ _ operation_well_made refl) (type.Int ∷ []) (ops ∷ type.Int ∷ [])
    (by_line (one.Nil type.Operation) (slots.None ⇒ slots.One (list part.T)) (choice type.Int type.Int (type.Operation ∷ [])) (type.Int ∷ []) (inl refl) refl int_comparable))
    (goes_on 0 instr.Pair [] (ops ∷ type.Int ∷ []) (type.Pair ops type.Int ∷ []) _ (together _ _ ops_within int_within)
    (step instr.Pair one.Pair made_shown refl refl (ops ∷ type.Int ∷ []) (type.Pair ops type.Int ∷ [])
    (by_line one.Pair (slots.Two a b ⇒ slots.One (pair part.A part.B)) (choice ops type.Int []) [] (inl refl) refl int_comparable))
    (done 0 (type.Pair ops type.Int ∷ []) (alone _ last_within)))))

-- ---- how many instructions, and how deep the brackets

counts_one : (i : Instr) (x : Instr-F Instr) → out-Instr i ≡ x → bodies (form_at x).operands ≡ [] → count_of i ≡ 1
counts_one i x is none =
    count_of-is i ∙ ap (λ (cs : List (List Instr)). 1 + sum_by code_count cs) (ap (λ (y : Instr-F Instr). bodies (form_at y).operands) is ∙ none)

four_count : (i j k l : Instr) → count_of i ≡ 1 → count_of j ≡ 1 → count_of k ≡ 1 → count_of l ≡ 1 → code_count (i ∷ j ∷ k ∷ l ∷ []) ≤ 65536
four_count i j k l first second third fourth =
    let here = sum_by-cons count_of i (j ∷ k ∷ l ∷ []) in
    let next = sum_by-cons count_of j (k ∷ l ∷ []) in
    let then_on = sum_by-cons count_of k (l ∷ []) in
    let at_last = sum_by-cons count_of l [] in
    let nothing : sum_by count_of [] ≡ 0 = refl in
    omega arith

brackets_by : (i : Instr) (x : Instr-F Instr) → out-Instr i ≡ x → brackets_of i ≡ brackets_at (map-Instr Instr ℕ brackets_of x)
brackets_by i x is = fold_out-Instr ℕ brackets_at i ∙ ap (λ (y : Instr-F Instr). brackets_at (map-Instr Instr ℕ brackets_of y)) is

no_brackets : (s : Ty) → depth_of_type s ≡ 1 → type_brackets s ≡ 0
no_brackets s one_deep = let deep : depth_of_type s ≡ 1 = one_deep in omega arith

nil_brackets : brackets_of (instr.Nil type.Operation) ≡ 0
nil_brackets =
    brackets_by (instr.Nil type.Operation) (one.Nil type.Operation) nil_shown
    ∙ ap (λ (n : ℕ). greatest (n ∷ [])) (no_brackets type.Operation operation_measured.depth_is)

all_brackets : script_brackets counter ≡ 1
all_brackets = λ i.
    greatest (no_brackets type.Int int_measured.depth_is i ∷ no_brackets type.Int int_measured.depth_is i
    ∷ (1 + greatest (
    brackets_by instr.Unpair one.Unpair unpair_shown i ∷ brackets_by instr.Add one.Add add_shown i
    ∷ nil_brackets i ∷ brackets_by instr.Pair one.Pair made_shown i ∷ []))
    ∷ [])

pub counter_typed : IsTypedScript counter
counter_typed = record {
  param_keys = int_keys;
  storage_keys = int_keys;
  param = fold-at passable_level type.Int ty.Int int_shown;
  storage = passes_at is_kept_here type.Int ty.Int int_shown refl;
  big_maps = int_big_maps;
  names = λ i j d less there. absurd (let none : length counter.names ≡ 0 = refl in omega arith);
  entries = refl;
  param_limits = int_within;
  storage_limits = int_within;
  count =
      four_count instr.Unpair instr.Add (instr.Nil type.Operation) instr.Pair (counts_one _ one.Unpair unpair_shown refl)
      (counts_one _ one.Add add_shown refl) (counts_one _ (one.Nil type.Operation) nil_shown refl) (counts_one _ one.Pair made_shown refl);
  brackets = (let is : script_brackets counter ≡ 1 = all_brackets in omega arith);
  ends = (To (last_stack counter), (code_typed, with_it (last_stack counter)));
}
