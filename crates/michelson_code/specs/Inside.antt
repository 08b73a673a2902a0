-- Weight and count by bodies: of an instruction, and of two codes one after another.
use Rattle.std.proofs.Common.{◌≡◌, ℕ, ◌+◌, List, [], ◌∷◌, ◌++◌, map, sum, sum_by, refl, ap, sym, ◌∙◌}
use Rattle.std.proofs.lemmas.List.Sums.{sum-map, sum_by-append, sum_by-cons}
use Rattle.michelson_code.specs.declared.instr.Instr.{Instr}
use Rattle.michelson_code.specs.declared.instr.Instr.TheFolds.{fold_out-Instr}
use Rattle.michelson_code.specs.Forms.{Form, bodies, bodies_of, cost_of, form_of}
use Rattle.michelson_code.specs.Levels.{bodies-map, fold_form, form_map}
use Rattle.michelson_code.specs.Weight.{code_count, code_weight, count_at, count_of, weight_at, weight_of}

sums-map : (f : Instr → ℕ) (cs : List (List Instr)) → sum_by sum (map (map f) cs) ≡ sum_by (sum_by f) cs
sums-map f [] = refl
sums-map f (c ∷ cs) =
    sum_by-cons sum (map f c) (map (map f) cs)
    ∙ (λ i. sum-map f c i + sums-map f cs i)
    ∙ sym (sum_by-cons (sum_by f) c cs)

-- the sums over the answers of the bodies are sums over the bodies
inside-map : (f : Instr → ℕ) (i : Instr) → sum_by sum (bodies (form_map f (form_of i)).operands) ≡ sum_by (sum_by f) (bodies_of i)
inside-map f i = ap (sum_by sum) (bodies-map f (form_of i).operands) ∙ sums-map f (bodies_of i)

-- an instruction weighs its cost and its bodies
pub weight_of-is : (i : Instr) → weight_of i ≡ cost_of i + sum_by code_weight (bodies_of i)
weight_of-is i =
    fold_form weight_at (λ (f : Form ℕ). f.cost + sum_by sum (bodies f.operands)) weight_of (fold_out-Instr ℕ weight_at) (λ x. refl) i
    ∙ ap (λ n. cost_of i + n) (inside-map weight_of i)

-- an instruction counts one more than its bodies
pub count_of-is : (i : Instr) → count_of i ≡ 1 + sum_by code_count (bodies_of i)
count_of-is i =
    fold_form count_at (λ (f : Form ℕ). 1 + sum_by sum (bodies f.operands)) count_of (fold_out-Instr ℕ count_at) (λ x. refl) i
    ∙ ap (λ n. 1 + n) (inside-map count_of i)

-- the same by a form that is the instruction's
pub one_weight : (i : Instr) (f : Form Instr) → f ≡ form_of i → weight_of i ≡ f.cost + sum_by code_weight (bodies f.operands)
one_weight i f is = weight_of-is i ∙ ap (λ (g : Form Instr). g.cost + sum_by code_weight (bodies g.operands)) (sym is)

pub one_count : (i : Instr) (f : Form Instr) → f ≡ form_of i → count_of i ≡ 1 + sum_by code_count (bodies f.operands)
one_count i f is = count_of-is i ∙ ap (λ (g : Form Instr). 1 + sum_by code_count (bodies g.operands)) (sym is)

-- two codes one after another weigh as much as both
pub code_weight-append : (c d : List Instr) → code_weight (c ++ d) ≡ code_weight c + code_weight d
code_weight-append = sum_by-append weight_of

-- and count as many
pub code_count-append : (c d : List Instr) → code_count (c ++ d) ≡ code_count c + code_count d
code_count-append = sum_by-append count_of
