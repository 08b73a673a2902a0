-- The node that is printed for a value is a printable one, with brackets at most as deep as the value.
use Rattle.std.proofs.Common.{◌≡◌, ℕ, ℤ, zero, suc, pos, negsuc, ◌≤ℤ◌, ◌+◌, ◌-◌, ◌^◌, ◌≤◌, inl, inr, Bool, true, false, List, [], ◌∷◌, length, map, refl, sym, ap, subst, ◌∙◌, arith}
use Rattle.std.specs.Prelude.{◌&&◌, codes, if◌then◌else◌, int_le, nat_lt, ◌==◌}
use Rattle.std.specs.List.{AllByRecursion, list_all}
use Rattle.std.proofs.lemmas.Bool.{and_from, and_parts, eqb-true}
use Rattle.std.proofs.lemmas.Bool.Decides.{nat_tests}
use Rattle.std.proofs.lemmas.Int.{ints}
use Rattle.value_core.specs.declared.val.Val.{Val}
use Rattle.value_core.specs.declared.val.Val.TheOpen as one
use Rattle.value_core.specs.declared.val.Val.TheViews.{out-Val}
use Rattle.value_core.specs.Layer.{Layer, flat, on_parts, parts_of}
use Rattle.value_core.specs.Lawful.{are_bytes, is_lawful, is_lawful_address, is_lawful_blob, is_lawful_level, is_number}
use Rattle.value_core.specs.Leaves.{is_address, is_blob, is_text}
use Rattle.value_core.specs.Depth.{depth_of, greatest}
use Rattle.value_core.proofs.Everywhere.{everywhere-is}
use Rattle.value_core.proofs.Levels.{Each, by_level-is, induction, parts_of-on_parts}
use Rattle.micheline_text.specs.declared.node.Node.{Node}
use Rattle.micheline_text.specs.declared.node.Body.{Body}
use Rattle.micheline_text.specs.declared.node.Body.TheVariants as variant
use Rattle.micheline_text.specs.Kinds.{is_letter, is_word_byte}
use Rattle.micheline_text.specs.Layout.{AllAre}
use Rattle.micheline_text.specs.Printed.{Print}
use Rattle.micheline_text.specs.Fits.{IsName, IsFitLiteral, IsFitArgument, IsFitNode, IsInside, IsPrintable}
use Rattle.micheline_text.proofs.PrintLemmas.{print_prim}
use Rattle.data_nodes.specs.Printed.{is_printed_whole, node_of, printed_level}
use Rattle.data_nodes.proofs.DataLevels.{data_level, is_data, is_data_level, printed_whole_is_data}
use Rattle.data_nodes.proofs.WrittenNodes.{nodes_of, pair_node, printed-is}

-- ---- literals

above_is : (a z : ℤ) → int_le a z ≡ true → a ≤ℤ z
above_is a z h = grind (arith, ints)

number_fits : (z : ℤ) → is_number z ≡ true → IsFitLiteral (variant.Int z)
number_fits z h =
    let both = and_parts (int_le (negsuc (2 ^ 127 - 2)) z) (int_le z (pos (2 ^ 127 - 1))) h in
    inl (z, refl, (above_is (negsuc (2 ^ 127 - 2)) z both.0, above_is z (pos (2 ^ 127 - 1)) both.1))

-- an amount is a number
amount_is_number : (n : ℕ) → nat_lt n (2 ^ 64) ≡ true → is_number (pos n) ≡ true
amount_is_number n h = grind (arith, ints, nat_tests)

text_fits : (t : List ℕ) → is_text t ≡ true → IsFitLiteral (variant.Text t)
text_fits t h = inr (inl (t, refl, h))

each_is : (test : ℕ → Bool) (t : List ℕ) → list_all test t ≡ true → AllAre test t
each_is test [] h = tt
each_is test (b ∷ t) h = let both = and_parts (test b) (list_all test t) h in (both.0, each_is test t both.1)

blob_fits : (t : List ℕ) → is_lawful_blob t ≡ true → IsFitLiteral (variant.Bytes t)
blob_fits t h = let both = and_parts (is_blob t) (are_bytes t) h in inr (inr (t, refl, both.0, each_is (λ b. nat_lt b 256) t both.1))

-- 22 bytes aren't too many
short_enough : (t : List ℕ) → is_address t ≡ true → is_blob t ≡ true
short_enough t h = let long : length t ≡ 22 = eqb-true (length t) 22 (and_parts (length t == 22) _ h).0 in rw long refl

address_fits : (t : List ℕ) → is_lawful_address t ≡ true → IsFitLiteral (variant.Bytes t)
address_fits t h = let both = and_parts (is_address t) (are_bytes t) h in blob_fits t (and_from _ _ (short_enough t both.0) both.1)

-- ---- as a node, and as an argument

record Fits (d : ℕ) (b : Body) : Type 0 where
  pub alone : IsFitNode (IsInside d) b
  pub argued : IsFitArgument (IsInside d) b

literal : (d : ℕ) (b : Body) → IsFitLiteral b → Fits d b
literal d b fit = record { alone = inl fit; argued = inl fit }

name_alone : (d : ℕ) (name : List ℕ) → IsName name → Fits d (variant.Prim name [] [])
name_alone d name fit = record {
  alone = inr (inr (name, [], [], refl, fit, tt, tt));
  argued = inr (inl (name, refl, fit));
}

-- nodes in braces
braces : (d : ℕ) (ns : List Node) → AllByRecursion (λ n. IsFitNode (IsInside d) n.body) ns → Fits (suc d) (variant.Seq ns)
braces d ns fit = record { alone = inr (inl (ns, refl, fit)); argued = inr (inr (inl (ns, refl, fit))) }

all_alone : (d : ℕ) (ns : List Node) → AllByRecursion (λ n. Fits d n.body) ns → AllByRecursion (λ n. IsFitNode (IsInside d) n.body) ns
all_alone d [] fit = tt
all_alone d (n ∷ ns) fit = (fit.0.alone, all_alone d ns fit.1)

all_argued : (d : ℕ) (ns : List Node) → AllByRecursion (λ n. Fits d n.body) ns → AllByRecursion (λ n. IsFitArgument (IsInside d) n.body) ns
all_argued d [] fit = tt
all_argued d (n ∷ ns) fit = (fit.0.argued, all_argued d ns fit.1)

-- a word with arguments stands in parentheses as an argument
name_applied : (d : ℕ) (name : List ℕ) (n : Node) (ns : List Node) → IsName name → AllByRecursion (λ m. Fits d m.body) (n ∷ ns) → AllByRecursion (λ m. Fits (suc d) m.body) (n ∷ ns) →
    Fits (suc d) (variant.Prim name [] (n ∷ ns))
name_applied d name n ns fit inside outside = record {
  alone = inr (inr (name, [], n ∷ ns, refl, fit, tt, all_argued (suc d) (n ∷ ns) outside));
  argued = inr (inr (inr ((name, [], n ∷ ns, refl, fit, tt, all_argued d (n ∷ ns) inside), ap (λ (p : Print). p.1) (print_prim name [] (n ∷ ns)))));
}

-- ---- words

is_word : List ℕ → Bool
is_word [] = false
is_word (b ∷ more) = is_letter b && list_all is_word_byte more

name_is : (name : List ℕ) → is_word name ≡ true → IsName name
unfolding is_word
name_is [] h = absurd cc
name_is (b ∷ more) h = let both = and_parts (is_letter b) (list_all is_word_byte more) h in (both.0, each_is is_word_byte more both.1)

truth_is : (b : Bool) → IsName (if b then codes "True" else codes "False")
unfolding is_word
truth_is true = name_is (codes "True") refl
truth_is false = name_is (codes "False") refl

-- ---- parts

abbrev Fit : Val → Type 0
Fit v = (d : ℕ) → is_data v ≡ true → is_lawful v ≡ true → depth_of v ≤ d → Fits d (node_of v).body

-- parts of a value of data, each at most so deep
record Parts (d : ℕ) (vs : List Val) : Type 0 where
  pub fit : Each Fit vs
  pub of_data : list_all is_data vs ≡ true
  pub lawful : list_all is_lawful vs ≡ true
  pub deep : greatest (map depth_of vs) ≤ d

rest_of : (d : ℕ) (v : Val) (vs : List Val) → Parts d (v ∷ vs) → Parts d vs
rest_of d v vs p = record {
  fit = p.fit.1;
  of_data = (and_parts _ _ p.of_data).1;
  lawful = (and_parts _ _ p.lawful).1;
  deep = omega (arith, p.deep);
}

first_of : (d : ℕ) (v : Val) (vs : List Val) → Parts d (v ∷ vs) → (e : ℕ) → d ≤ e → Fits e (node_of v).body
first_of d v vs p e more = p.fit.0 e (and_parts _ _ p.of_data).0 (and_parts _ _ p.lawful).0 (omega (arith, p.deep))

parts_fit : (d : ℕ) (vs : List Val) → Parts d vs → (e : ℕ) → d ≤ e → AllByRecursion (λ n. Fits e n.body) (map node_of vs)
parts_fit d [] p e more = tt
parts_fit d (v ∷ vs) p e more = (first_of d v vs p e more, parts_fit d vs (rest_of d v vs p) e more)

applied_fits : (d : ℕ) (name : List ℕ) (v : Val) (vs : List Val) → is_word name ≡ true → Parts d (v ∷ vs) → Fits (suc d) (variant.Prim name [] (map node_of (v ∷ vs)))
applied_fits d name v vs h p = name_applied d name (node_of v) (map node_of vs) (name_is name h) (parts_fit d (v ∷ vs) p d (omega arith)) (parts_fit d (v ∷ vs) p (suc d) (omega arith))

list_fits : (d : ℕ) (vs : List Val) → Parts d vs → Fits (suc d) (variant.Seq (map node_of vs))
list_fits d vs p = braces d (map node_of vs) (all_alone d (map node_of vs) (parts_fit d vs p d (omega arith)))

entries_fit : (d : ℕ) (es : List (Val × Val)) → Parts d (flat es) → AllByRecursion (λ n. IsFitNode (IsInside d) n.body) (map pair_node (map nodes_of es))
unfolding is_word
entries_fit d [] p = tt
entries_fit d (e ∷ es) p =
    let values = rest_of d e.0 (e.1 ∷ flat es) p in
    let key = first_of d e.0 (e.1 ∷ flat es) p d (omega arith) in
    let value = first_of d e.1 (flat es) values d (omega arith) in (
      inr (inr (codes "Elt", [], node_of e.0 ∷ node_of e.1 ∷ [], refl, name_is (codes "Elt") refl, tt, (key.argued, (value.argued, tt)))),
      entries_fit d es (rest_of d e.1 (flat es) values),
    )

-- ---- one level

level_fits : (d : ℕ) (x : Layer Val) → is_data_level x ≡ true → is_lawful_level x ≡ true → Parts d (parts_of x) → Fits (suc d) (printed_level (on_parts node_of x)).body
unfolding is_word
level_fits d one.Unit level h p = name_alone (suc d) (codes "Unit") (name_is (codes "Unit") refl)
level_fits d (one.Bool b) level h p = name_alone (suc d) (if b then codes "True" else codes "False") (truth_is b)
level_fits d (one.Int z) level h p = literal (suc d) (variant.Int z) (number_fits z h)
level_fits d (one.Nat z) level h p = literal (suc d) (variant.Int z) (number_fits z h)
level_fits d (one.Mutez n) level h p = literal (suc d) (variant.Int (pos n)) (number_fits (pos n) (amount_is_number n h))
level_fits d (one.Time z) level h p = literal (suc d) (variant.Int z) (number_fits z h)
level_fits d (one.Text s) level h p = literal (suc d) (variant.Text s) (text_fits s h)
level_fits d (one.Bytes b) level h p = literal (suc d) (variant.Bytes b) (blob_fits b h)
level_fits d (one.Addr address) level h p = literal (suc d) (variant.Bytes address) (address_fits address h)
level_fits d one.Nothing level h p = name_alone (suc d) (codes "None") (name_is (codes "None") refl)
level_fits d (one.Some part) level h p = applied_fits d (codes "Some") part [] refl p
level_fits d (one.Left part) level h p = applied_fits d (codes "Left") part [] refl p
level_fits d (one.Right part) level h p = applied_fits d (codes "Right") part [] refl p
level_fits d (one.Pair a b) level h p = applied_fits d (codes "Pair") a (b ∷ []) refl p
level_fits d (one.List items) level h p = list_fits d items p
level_fits d (one.Set items) level h p = list_fits d items p
level_fits d (one.Map entries) level h p = braces d (map pair_node (map nodes_of entries)) (entries_fit d entries p)
level_fits d _ level h p = absurd cc

-- ---- values

depth-is : (v : Val) → depth_of v ≡ 1 + greatest (map depth_of (parts_of (out-Val v)))
depth-is v = by_level-is (λ x. 1 + greatest (parts_of x)) v ∙ ap (λ ns. 1 + greatest ns) (parts_of-on_parts depth_of (out-Val v))

step : (v : Val) → Each Fit (parts_of (out-Val v)) → Fit v
step v each zero of_data lawful deep = absurd (omega (arith, depth-is v, deep))
step v each (suc d) of_data lawful deep =
    let level = data_level v of_data in
    let here = and_parts (is_lawful_level (out-Val v)) _ (sym (everywhere-is is_lawful_level v) ∙ lawful) in
    subst (λ (n : Node). Fits (suc d) n.body) (sym (printed-is v)) (level_fits d (out-Val v) level.0 here.0 (record {
      fit = each;
      of_data = level.1;
      lawful = here.1;
      deep = omega (arith, depth-is v, deep);
    }))

fits : (v : Val) → Fit v
fits = induction Fit step

-- it fits as an argument into brackets at least as deep as the value
pub printed_argument : (v : Val) (d : ℕ) → is_printed_whole v ≡ true → is_lawful v ≡ true → depth_of v ≤ d → IsFitArgument (IsInside d) (node_of v).body
printed_argument v d printable lawful deep = (fits v d (printed_whole_is_data v printable) lawful deep).argued

-- and alone
pub printed_fits : (v : Val) → is_printed_whole v ≡ true → is_lawful v ≡ true → depth_of v ≤ 256 → IsPrintable (node_of v)
printed_fits v printable lawful deep = (256, omega arith, (fits v 256 (printed_whole_is_data v printable) lawful deep).alone)
