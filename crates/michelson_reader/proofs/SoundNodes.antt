-- Nodes that are lawful and well named, and how deep the brackets go: words with what stands behind them, and braces.
use Rattle.std.proofs.Common.{◌≡◌, ℕ, ℤ, ◌+◌, Bool, true, false, List, [], ◌∷◌, map, refl, ap, ◌∙◌}
use Rattle.std.specs.Prelude.{◌&&◌, not}
use Rattle.std.specs.List.{list_all}
use Rattle.std.proofs.lemmas.Bool.{and_from}
use Rattle.std.proofs.lemmas.List.Folds.{list_all-map}
use Rattle.value_core.specs.Depth.{greatest}
use Rattle.value_core.specs.Lawful.{is_lawful_blob, is_number}
use Rattle.value_core.specs.Leaves.{is_text}
use Rattle.micheline_text.specs.declared.node.Node.{Node}
use Rattle.micheline_text.specs.declared.node.Body.TheVariants as body
use Rattle.micheline_text.specs.Again.{Depth, argument_depth, brackets_level, depth_of_node, is_annotation, is_well_named, is_word, named_level}
use Rattle.micheline_text.specs.Lawful.{is_lawful}
use Rattle.micheline_text.specs.Printed.{is_empty}
use Rattle.micheline_text.proofs.FitDepths.{depth_node, depth_prim, depth_seq}
use Rattle.micheline_text.proofs.NodeLevels.{at_bytes, at_int, at_node, at_prim, at_seq, at_text}
use Rattle.micheline_text.proofs.PrintLemmas.{is_lawful-bytes, is_lawful-int, is_lawful-node, is_lawful-prim, is_lawful-seq, is_lawful-text}
use Rattle.data_nodes.specs.Nodes.{node}

-- lawful, well named, and so deep by a measure of brackets
pub record Fit (measure : Depth → ℕ) (n : Node) (k : ℕ) : Type 0 where
  pub lawful : is_lawful n ≡ true
  pub named : is_well_named n ≡ true
  pub deep : measure (depth_of_node n) ≡ k

-- the same with all that is told of the depth
pub record Sound (n : Node) (d : Depth) : Type 0 where
  pub lawful : is_lawful n ≡ true
  pub named : is_well_named n ≡ true
  pub nested : depth_of_node n ≡ d

pub fit_of : (measure : Depth → ℕ) (n : Node) (d : Depth) → Sound n d → Fit measure n (measure d)
fit_of measure n d s = record { lawful = s.lawful; named = s.named; deep = ap measure s.nested }

-- as an item of braces
abbrev pub inside : Depth → ℕ
inside d = d.0

module _ (measure : Depth → ℕ) where
  abbrev pub AllFit : List Node → List ℕ → Type 0
  AllFit [] [] = Unit {0}
  AllFit [] (k ∷ ks) = ⊥
  AllFit (n ∷ ns) [] = ⊥
  AllFit (n ∷ ns) (k ∷ ks) = Fit measure n k × AllFit ns ks

  all_lawful : (ns : List Node) (ks : List ℕ) → AllFit ns ks → list_all is_lawful ns ≡ true
  all_lawful [] [] fit = refl
  all_lawful [] (k ∷ ks) fit = absurd fit
  all_lawful (n ∷ ns) [] fit = absurd fit
  all_lawful (n ∷ ns) (k ∷ ks) fit = and_from _ _ fit.0.lawful (all_lawful ns ks fit.1)

  all_named : (ns : List Node) (ks : List ℕ) → AllFit ns ks → list_all is_well_named ns ≡ true
  all_named [] [] fit = refl
  all_named [] (k ∷ ks) fit = absurd fit
  all_named (n ∷ ns) [] fit = absurd fit
  all_named (n ∷ ns) (k ∷ ks) fit = and_from _ _ fit.0.named (all_named ns ks fit.1)

  all_deep : (ns : List Node) (ks : List ℕ) → AllFit ns ks → map measure (map depth_of_node ns) ≡ ks
  all_deep [] [] fit = refl
  all_deep [] (k ∷ ks) fit = absurd fit
  all_deep (n ∷ ns) [] fit = absurd fit
  all_deep (n ∷ ns) (k ∷ ks) fit = λ i. fit.0.deep i ∷ all_deep ns ks fit.1 i

-- ---- literals

pub int_sound : (z : ℤ) → is_number z ≡ true → Sound (node (body.Int z)) (0, false)
int_sound z h = record {
  lawful = is_lawful-node (node (body.Int z)) ∙ is_lawful-int z ∙ h;
  named = at_node Bool named_level (node (body.Int z)) ∙ at_int Bool named_level z;
  nested = depth_node (node (body.Int z)) ∙ at_int Depth brackets_level z;
}

pub text_sound : (t : List ℕ) → is_text t ≡ true → Sound (node (body.Text t)) (0, false)
text_sound t h = record {
  lawful = is_lawful-node (node (body.Text t)) ∙ is_lawful-text t ∙ h;
  named = at_node Bool named_level (node (body.Text t)) ∙ at_text Bool named_level t;
  nested = depth_node (node (body.Text t)) ∙ at_text Depth brackets_level t;
}

pub bytes_sound : (t : List ℕ) → is_lawful_blob t ≡ true → Sound (node (body.Bytes t)) (0, false)
bytes_sound t h = record {
  lawful = is_lawful-node (node (body.Bytes t)) ∙ is_lawful-bytes t ∙ h;
  named = at_node Bool named_level (node (body.Bytes t)) ∙ at_bytes Bool named_level t;
  nested = depth_node (node (body.Bytes t)) ∙ at_bytes Depth brackets_level t;
}

-- ---- words and braces

module _ (name : List ℕ) (notes : List (List ℕ)) (args : List Node) (ks : List ℕ) where
  abbrev applied : Node
  applied = node (body.Prim name notes args)

  named_prim : is_well_named applied ≡ (is_word name && (list_all is_annotation notes && list_all is_well_named args))
  named_prim =
      at_node Bool named_level applied ∙ at_prim Bool named_level name notes args
      ∙ ap (λ (v : Bool). is_word name && (list_all is_annotation notes && v)) (list_all-map (λ (v : Bool). v) is_well_named args)

  -- an argument more or less makes them empty or not
  same_empty : (ns : List Node) (js : List ℕ) → AllFit argument_depth ns js → is_empty ns ≡ is_empty js
  same_empty [] [] fit = refl
  same_empty [] (j ∷ js) fit = absurd fit
  same_empty (n ∷ ns) [] fit = absurd fit
  same_empty (n ∷ ns) (j ∷ js) fit = refl

  -- a word, with annotations and with arguments so deep
  pub prim_sound : is_word name ≡ true → list_all is_annotation notes ≡ true → AllFit argument_depth args ks → Sound (node (body.Prim name notes args)) (greatest ks, not (is_empty notes && is_empty ks))
  prim_sound word annotations fit = record {
    lawful = is_lawful-node applied ∙ is_lawful-prim name notes args ∙ all_lawful argument_depth args ks fit;
    named = named_prim ∙ and_from _ _ word (and_from _ _ annotations (all_named argument_depth args ks fit));
    nested = depth_node applied ∙ depth_prim name notes args
        ∙ (λ i. (greatest (all_deep argument_depth args ks fit i), not (is_empty notes && same_empty args ks fit i)));
  }

-- nodes so deep in braces
pub seq_sound : (ns : List Node) (ks : List ℕ) → AllFit inside ns ks → Sound (node (body.Seq ns)) (1 + greatest ks, false)
seq_sound ns ks fit = record {
  lawful = is_lawful-node (node (body.Seq ns)) ∙ is_lawful-seq ns ∙ all_lawful inside ns ks fit;
  named = at_node Bool named_level (node (body.Seq ns)) ∙ at_seq Bool named_level ns ∙ list_all-map (λ (v : Bool). v) is_well_named ns ∙ all_named inside ns ks fit;
  nested = depth_node (node (body.Seq ns)) ∙ depth_seq ns ∙ (λ i. (1 + greatest (all_deep inside ns ks fit i), false));
}
