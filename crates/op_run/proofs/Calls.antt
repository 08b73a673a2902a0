-- A transfer takes one of the calls that are left; what a room is enough for is taken.
use Rattle.std.proofs.Common.{◌≡◌, ◌≢◌, ℕ, zero, suc, ◌+◌, ◌-◌, ◌<◌, ◌≤◌, true, false, List, ◌∷◌, ◌++◌, refl, sym, ap, ◌∙◌, arith, rules}
use Rattle.std.specs.Prelude.{nat_lt, if◌then◌else◌}
use Rattle.michelson_code.specs.declared.why.Why.TheVariants as why
use Rattle.cell_names.specs.declared.head.Head.{Head}
use Rattle.cell_names.specs.Contents.{Contents}
use Rattle.code_book.specs.Books.{Contracts}
use Rattle.op_rules.specs.declared.transfer.Transfer.{Transfer}
use Rattle.op_rules.specs.Course.{Course, Doing, failed, taking}
use Rattle.op_rules.specs.SerialRule.{transfer, transfers}

module _ (book : Contracts) (head : Head) (source : List ℕ) where
  pub no_calls : (n : ℕ) (t : Transfer) (ts : List Transfer) (m : Contents) (c : Course) → n ≡ 0 →
      transfers book head source n (t ∷ ts) m c ≡ failed why.TooManyCalls m c
  no_calls zero t ts m c e = refl
  no_calls (suc n) t ts m c e = absurd (omega arith)

  less_one : (n : ℕ) → suc n - 1 ≡ n
  less_one n = omega arith

  pub one_call : (n : ℕ) (t : Transfer) (ts : List Transfer) (m : Contents) (c : Course) → n ≢ 0 →
      transfers book head source n (t ∷ ts) m c ≡ transfer book head source t (λ emitted. transfers book head source (n - 1) (emitted ++ ts)) m c
  one_call zero t ts m c e = absurd (e refl)
  one_call (suc n) t ts m c e = ap (λ k. transfer book head source t (λ emitted. transfers book head source k (emitted ++ ts)) m c) (sym (less_one n))

-- ---- room

enough : (room n : ℕ) → n ≤ room → nat_lt room n ≡ false
enough room n h = search rules

short : (room n : ℕ) → room < n → nat_lt room n ≡ true
short room n h = search rules

pub taking_fails : (n : ℕ) (d : Doing) (m : Contents) (c : Course) → c.left.room < n → taking n d m c ≡ failed why.TooMuchData m c
taking_fails n d m c h = ap (λ b. if b then failed why.TooMuchData m c else d m (record { left = record { gas = c.left.gas; turns = c.left.turns; room = c.left.room - n }; past = c.past })) (short c.left.room n h)

pub taking_goes : (n rest : ℕ) (d : Doing) (m : Contents) (c : Course) → rest + n ≡ c.left.room →
    taking n d m c ≡ d m (record { left = record { gas = c.left.gas; turns = c.left.turns; room = rest }; past = c.past })
taking_goes n rest d m c h =
    let less : c.left.room - n ≡ rest = omega (arith, h) in
    ap (λ b. if b then failed why.TooMuchData m c else d m (record { left = record { gas = c.left.gas; turns = c.left.turns; room = c.left.room - n }; past = c.past }))
    (enough c.left.room n (let most : n ≤ c.left.room = omega (arith, h) in most))
    ∙ ap (λ r. d m (record { left = record { gas = c.left.gas; turns = c.left.turns; room = r }; past = c.past })) less
