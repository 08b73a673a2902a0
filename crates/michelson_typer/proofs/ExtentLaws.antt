-- The extent of a type is that of its level, by those of its parts.
use Rattle.std.proofs.Common.{◌≡◌, ◌≤◌, ℕ, suc, ◌+◌, Bool, true, false, ◌∙◌, arith}
use Rattle.std.specs.Prelude.{◌&&◌, max, min, nat_le}
use Rattle.value_core.specs.declared.ty.Ty.{Ty}
use Rattle.value_core.specs.declared.ty.Ty.TheOpen.{Ty-F}
use Rattle.value_core.specs.declared.ty.Ty.TheFolds.{map-Ty}
use Rattle.value_core.specs.Depth.{depth_of_type, level_depth}
use Rattle.value_core.specs.Kinds.{comparable_level, is_comparable, is_passable, passable_level}
use Rattle.value_core.specs.Nodes.{level_nodes, nodes_of}
use Rattle.value_core.specs.TypeLevels.{fold-at}
use Rattle.michelson_code.specs.declared.operands.Level.{Level}
use Rattle.michelson_code.specs.declared.operands.Level.TheVariants as level
use Rattle.michelson_code.specs.Typing.{level_type}
use Rattle.michelson_code.specs.WrittenTypes.{is_within_limits}
use Rattle.michelson_code.proofs.Types.{level_shown, shows}
use Rattle.michelson_typer.specs.declared.extent.Extent.{Extent}
use Rattle.michelson_typer.specs.Extents.{extent_of, is_light, level_extent, over, over_two}

-- sums and depths may be cut before they are added to
one_cut : (n most : ℕ) → min (1 + n) (suc most) ≡ min (min n (suc most) + 1) (suc most)
one_cut n most = omega arith

two_cut : (m n most : ℕ) → min (1 + m + n) (suc most) ≡ min (min m (suc most) + min n (suc most) + 1) (suc most)
two_cut m n most = omega arith

deep_cut : (m n most : ℕ) → min (1 + max m n) (suc most) ≡ min (max (min m (suc most)) (min n (suc most)) + 1) (suc most)
deep_cut m n most = omega arith

cut_le : (n most : ℕ) → nat_le (min n (suc most)) most ≡ nat_le n most
cut_le n most = both_tests (min n (suc most)) n most (λ h. omega arith) (λ h. omega arith)
  where
    both_tests : (m n most : ℕ) → (m ≤ most → n ≤ most) → (n ≤ most → m ≤ most) → nat_le m most ≡ nat_le n most
    both_tests m n most there back = grind (arith, there, back)

module _ {P : Type 0} (f : P → Ty) where
  -- the extent by one level of a type
  abbrev by_level : Ty-F Ty → Extent
  by_level x = record {
    nodes = min (level_nodes (map-Ty Ty ℕ nodes_of x)) 16385;
    depth = min (level_depth (map-Ty Ty ℕ depth_of_type x)) 129;
    comparable = comparable_level (map-Ty Ty Bool is_comparable x);
    passable = passable_level (map-Ty Ty Bool is_passable x);
  }

  shown : (l : Level P) → extent_of (level_type f l) ≡ by_level (level_shown f l)
  shown l = λ i. record {
    nodes = min (fold-at level_nodes (level_type f l) (level_shown f l) (shows f l) i) 16385;
    depth = min (fold-at level_depth (level_type f l) (level_shown f l) (shows f l) i) 129;
    comparable = fold-at comparable_level (level_type f l) (level_shown f l) (shows f l) i;
    passable = fold-at passable_level (level_type f l) (level_shown f l) (shows f l) i;
  }

  abbrev of_part : P → Extent
  of_part p = extent_of (f p)

  with_one : (p : P) (c d : Bool) →
      record {
        nodes = min (1 + nodes_of (f p)) 16385;
        depth = min (1 + depth_of_type (f p)) 129;
        comparable = c && is_comparable (f p);
        passable = d && is_passable (f p);
      } ≡ over (of_part p) c d
  with_one p c d = λ i. record {
    nodes = one_cut (nodes_of (f p)) 16384 i;
    depth = one_cut (depth_of_type (f p)) 128 i;
    comparable = c && is_comparable (f p);
    passable = d && is_passable (f p);
  }

  with_two : (p q : P) (c d : Bool) →
      record {
        nodes = min (1 + nodes_of (f p) + nodes_of (f q)) 16385;
        depth = min (1 + max (depth_of_type (f p)) (depth_of_type (f q))) 129;
        comparable = c && (is_comparable (f p) && is_comparable (f q));
        passable = d && (is_passable (f p) && is_passable (f q));
      } ≡ over_two (of_part p) (of_part q) c d
  with_two p q c d = λ i. record {
    nodes = two_cut (nodes_of (f p)) (nodes_of (f q)) 16384 i;
    depth = deep_cut (depth_of_type (f p)) (depth_of_type (f q)) 128 i;
    comparable = c && (is_comparable (f p) && is_comparable (f q));
    passable = d && (is_passable (f p) && is_passable (f q));
  }

  -- the extent of a type is that of its level
  pub extent-level : (l : Level P) → extent_of (level_type f l) ≡ level_extent of_part l
  extent-level (level.Option p) = shown (level.Option p) ∙ with_one p true true
  extent-level (level.Or p q) = shown (level.Or p q) ∙ with_two p q true true
  extent-level (level.Pair p q) = shown (level.Pair p q) ∙ with_two p q true true
  extent-level (level.List p) = shown (level.List p) ∙ with_one p false true
  extent-level (level.Set p) = shown (level.Set p) ∙ with_one p false true
  extent-level (level.Map p q) = shown (level.Map p q) ∙ with_two p q false true
  extent-level (level.BigMap p q) = shown (level.BigMap p q) ∙ with_two p q false false
  extent-level (level.Contract p) = shown (level.Contract p) ∙ with_one p false false
  extent-level level.Unit = shown level.Unit
  extent-level level.Bool = shown level.Bool
  extent-level level.Int = shown level.Int
  extent-level level.Nat = shown level.Nat
  extent-level level.Mutez = shown level.Mutez
  extent-level level.Time = shown level.Time
  extent-level level.Text = shown level.Text
  extent-level level.Bytes = shown level.Bytes
  extent-level level.Addr = shown level.Addr
  extent-level level.Operation = shown level.Operation

  -- a type is within the limits where its extent is
  pub light-extent : (t : Ty) → is_light (extent_of t) ≡ is_within_limits t
  light-extent t = λ i. cut_le (nodes_of t) 16384 i && cut_le (depth_of_type t) 128 i
