-- The printed text at each kind of node.
use Rattle.std.proofs.Common.{◌≡◌, ℕ, ℤ, List, [], ◌∷◌, ◌++◌, length, map, Bool, false, refl, sym, ap, ◌∙◌, append_assoc, arith, take, get_or, ◌+◌, ◌<◌}
use Rattle.std.specs.Prelude.{not, ◌&&◌, ◌==◌}
use Rattle.std.specs.List.{flat_map, list_all}
use Rattle.std.specs.Fmt.{signed_decimal}
use Rattle.std.proofs.lemmas.List.{append-nil, length-map, map-append, take_more, length-take-le}
use Rattle.std.proofs.lemmas.Bool.Decides.{nat_tests}
use Rattle.std.proofs.lemmas.List.Folds.{list_all-map}
use Rattle.value_core.specs.Lawful.{is_lawful_blob, is_number}
use Rattle.value_core.specs.Leaves.{is_text}
use Rattle.std.proofs.lemmas.List.Concat.{flat_map-append}
use Rattle.micheline_text.specs.declared.node.Node.{Node}
use Rattle.micheline_text.specs.declared.node.Body.TheVariants as variant
use Rattle.micheline_text.specs.Lawful.{lawful_level, is_lawful, is_lawful_body}
use Rattle.micheline_text.specs.Printed.{escaped, hex_pair, Print, argument, annotation, next_item, item, items, braces, is_empty, print_level, print_body, print}
use Rattle.micheline_text.proofs.NodeLevels.{at_node, at_int, at_text, at_bytes, at_prim, at_seq}

pub print_is : (n : Node) → print n ≡ print_body n.body
print_is n = at_node Print print_level n

pub print_int : (z : ℤ) → print_body (variant.Int z) ≡ (signed_decimal z, false)
print_int z = at_int Print print_level z

pub print_text : (t : List ℕ) → print_body (variant.Text t) ≡ (34 ∷ (flat_map escaped t ++ 34 ∷ []), false)
print_text t = at_text Print print_level t

pub print_bytes : (b : List ℕ) → print_body (variant.Bytes b) ≡ (48 ∷ 120 ∷ flat_map hex_pair b, false)
print_bytes b = at_bytes Print print_level b

is_empty-map : (ns : List Node) → is_empty (map print ns) ≡ is_empty ns
is_empty-map [] = refl
is_empty-map (n ∷ ns) = refl

pub print_prim : (name : List ℕ) (notes : List (List ℕ)) (args : List Node) → print_body (variant.Prim name notes args) ≡
    (name ++ (flat_map annotation notes ++ flat_map argument (map print args)), not (is_empty notes && is_empty args))
print_prim name notes args = at_prim Print print_level name notes args
    ∙ ap (λ (b : Bool). (name ++ (flat_map annotation notes ++ flat_map argument (map print args)), not (is_empty notes && b))) (is_empty-map args)

pub print_seq : (ns : List Node) → print_body (variant.Seq ns) ≡ (braces (map print ns), false)
print_seq ns = at_seq Print print_level ns

items_more : (ps : List Print) (p : Print) → items (ps ++ p ∷ []) ≡ items ps ++ item (length ps == 0) p
items_more [] p = ap (λ (x : List ℕ). 32 ∷ x) (append-nil p.0)
items_more (q ∷ ps) p =
    let later : (length (q ∷ ps) == 0) ≡ false = grind (arith, nat_tests) in
    ap (λ (x : List ℕ). 32 ∷ (q.0 ++ x)) (flat_map-append next_item ps (p ∷ []) ∙ ap (λ (x : List ℕ). flat_map next_item ps ++ x) (append-nil (next_item p)))
    ∙ ap (λ (x : List ℕ). 32 ∷ x) (sym (append_assoc q.0 (flat_map next_item ps) (next_item p)))
    ∙ ap (λ (b : Bool). items (q ∷ ps) ++ item b p) (sym later)

-- one more node is printed
pub items_step : (ns : List Node) (i : ℕ) (n : Node) → i < length ns → get_or ns i n ≡ n → items (map print (take (i + 1) ns)) ≡ items (map print (take i ns)) ++ item (i == 0) (print n)
items_step ns i n within is =
    let more : take (i + 1) ns ≡ take i ns ++ n ∷ [] = take_more ns i n within ∙ ap (λ (x : Node). take i ns ++ x ∷ []) is in
    let size : length (map print (take i ns)) ≡ i = length-map (take i ns) print ∙ length-take-le i ns (omega arith) in
    ap (λ (x : List Node). items (map print x)) more ∙ ap items (map-append print (take i ns) (n ∷ [])) ∙ items_more (map print (take i ns)) (print n)
    ∙ ap (λ (k : ℕ). items (map print (take i ns)) ++ item (k == 0) (print n)) size

pub is_empty_is : {A : Type 0} (xs : List A) → is_empty xs ≡ (length xs == 0)
is_empty_is [] = refl
is_empty_is (x ∷ xs) = sym (grind (arith, nat_tests))

-- ---- which nodes are lawful

pub is_lawful-node : (n : Node) → is_lawful n ≡ is_lawful_body n.body
is_lawful-node n = at_node Bool lawful_level n

pub is_lawful-int : (z : ℤ) → is_lawful_body (variant.Int z) ≡ is_number z
is_lawful-int z = at_int Bool lawful_level z

pub is_lawful-text : (t : List ℕ) → is_lawful_body (variant.Text t) ≡ is_text t
is_lawful-text t = at_text Bool lawful_level t

pub is_lawful-bytes : (b : List ℕ) → is_lawful_body (variant.Bytes b) ≡ is_lawful_blob b
is_lawful-bytes b = at_bytes Bool lawful_level b

pub is_lawful-prim : (name : List ℕ) (notes : List (List ℕ)) (args : List Node) → is_lawful_body (variant.Prim name notes args) ≡ list_all is_lawful args
is_lawful-prim name notes args = at_prim Bool lawful_level name notes args ∙ list_all-map (λ (v : Bool). v) is_lawful args

pub is_lawful-seq : (ns : List Node) → is_lawful_body (variant.Seq ns) ≡ list_all is_lawful ns
is_lawful-seq ns = at_seq Bool lawful_level ns ∙ list_all-map (λ (v : Bool). v) is_lawful ns

pub ruleset printings = (print_is, print_int, print_text, print_bytes, print_prim, print_seq, append_assoc)

pub ruleset lawful = (is_lawful-node, is_lawful-int, is_lawful-text, is_lawful-bytes, is_lawful-prim, is_lawful-seq)
