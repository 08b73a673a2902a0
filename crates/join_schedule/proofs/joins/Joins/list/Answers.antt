-- The list that stands at the number.
use Rattle.std.proofs.Common.{◌≡◌, ℕ, ◌<◌, List, [], length, map, get_or, sym, ap, ◌∙◌, arith}
use Rattle.std.specs.Global.{Vec}
use Rattle.std.proofs.lemmas.List.{get_or-map, length-map}
use Rattle.join_schedule.specs.Joins.{joins_of}
use Rattle.join_schedule.proofs.joins.Joins.list.Goals as goal

list_is : (lists : List (Vec ℕ)) (joins : List (List ℕ)) (j : ℕ) (x : Vec ℕ) → map (λ (list : Vec ℕ). list.items) lists ≡ joins → j < length joins → x ≡ get_or lists j x → x.items ≡ joins_of joins j
list_is lists joins j x view lt is =
    let small : j < length lists = omega (arith, length-map lists (λ (list : Vec ℕ). list.items), ap length view) in
    ap (λ (list : Vec ℕ). list.items) is ∙ sym (get_or-map (λ (list : Vec ℕ). list.items) lists j x [] small) ∙ ap (λ (all : List (List ℕ)). joins_of all j) view

pub returns : goal.returns
returns c = c.as_slice.ensures.value ∙ list_is c.self.inside.lists.items c.args.self.now c.args.j c.index.result.now c.self.view_is c.requires c.index.ensures
