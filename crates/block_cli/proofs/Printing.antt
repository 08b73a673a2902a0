-- Texts that are printed piece by piece.
use Rattle.std.proofs.Common.{◌≡◌, ℕ, ◌+◌, ◌≤◌, List, [], ◌++◌, length, take, drop, Option, Some, None, Result, Ok, Err, refl, sym, ap, subst, ◌∙◌, append_assoc, arith}
use Rattle.std.specs.Prelude.{IfSome, OnOk, OnErr}
use Rattle.std.proofs.Math.Seq.{take-add}
use Rattle.std.proofs.lemmas.List.{length-drop, length-append, take-append-le, append-nil, drop_at}
use Rattle.edge_io.specs.Outside.{Taken, TakesFirst, Rose}
use Rattle.block_cli.specs.Inside.{PrintsOn}

if_some_then : {A : Type 0} (o : Option A) (P Q : A → Type 0) → IfSome o P → ((x : A) → P x → Q x) → IfSome o Q
if_some_then None P Q h f = tt
if_some_then (Some x) P Q h f = f x h

pub takes_nothing : (a : Taken) (text : List ℕ) → TakesFirst a text 0 a
takes_nothing a text = record {
  later = omega arith;
  tells = refl;
  within = omega arith;
  taken = self_told a.bytes;
}
  where
    self_told : (o : Option (List ℕ)) → IfSome o (λ before. o ≡ Some (before ++ []))
    self_told None = tt
    self_told (Some x) = ap (λ (y : List ℕ). Some y) (sym (append-nil x))

pub takes_then : (a b c : Taken) (text : List ℕ) (n m : ℕ) → TakesFirst a text n b → TakesFirst b (drop n text) m c → TakesFirst a text (n + m) c
takes_then a b c text n m p q = record {
  later = omega (arith, p.later, q.later);
  tells = q.tells ∙ p.tells;
  within = omega (arith, p.within, q.within, length-drop n text);
  taken = if_some_then a.bytes (λ before. b.bytes ≡ Some (before ++ take n text)) (λ before. c.bytes ≡ Some (before ++ take (n + m) text)) p.taken (λ before e.
      let second : c.bytes ≡ Some ((before ++ take n text) ++ take m (drop n text)) = subst (λ (o : Option (List ℕ)). IfSome o (λ x. c.bytes ≡ Some (x ++ take m (drop n text)))) e q.taken in
      second ∙ ap (λ (x : List ℕ). Some x) (append_assoc before (take n text) (take m (drop n text)) ∙ ap (λ (x : List ℕ). before ++ x) (sym (take-add n m text))));
}

takes_front : (a b : Taken) (text more : List ℕ) (n : ℕ) → TakesFirst a text n b → TakesFirst a (text ++ more) n b
takes_front a b text more n p =
    let le = p.within in
    record {
      later = p.later;
      tells = p.tells;
      within = omega (arith, p.within, length-append text more);
      taken = if_some_then a.bytes (λ before. b.bytes ≡ Some (before ++ take n text)) (λ before. b.bytes ≡ Some (before ++ take n (text ++ more))) p.taken (λ before e. e ∙ ap (λ (x : List ℕ). Some (before ++ x)) (sym (take-append-le n text more le)));
    }

rises_on : (a b c : ℕ) → a ≤ b → Rose b c → Rose a c
rises_on a b c le rose = omega arith

pub prints_then : {E : Type 0} (a b c : Taken) (text more : List ℕ) (r : Result Unit E) → TakesFirst a text (length text) b → PrintsOn b more r c → PrintsOn a (text ++ more) r c
prints_then {E = E} a b c text more r p q =
    let rest : drop (length text) (text ++ more) ≡ more = drop_at text more (length text) refl in
    record {
      count = length text + q.count;
      takes = takes_then a b c (text ++ more) (length text) q.count (takes_front a b text more (length text) p) (subst (λ (t : List ℕ). TakesFirst b t q.count c) (sym rest) q.takes);
      ok = on_ok r q.ok;
      err = on_err r q.err;
    }
  where
    on_ok : (r' : Result Unit E) → OnOk r' (q.count ≡ length more) → OnOk r' (length text + q.count ≡ length (text ++ more))
    on_ok (Ok x) h = omega (arith, h, length-append text more)
    on_ok (Err x) h = tt

    on_err : (r' : Result Unit E) → OnErr r' (Rose b.faults c.faults) → OnErr r' (Rose a.faults c.faults)
    on_err (Ok x) h = tt
    on_err (Err x) h = rises_on a.faults b.faults c.faults p.later h

pub prints_failed : {E : Type 0} (a b : Taken) (text more : List ℕ) (n : ℕ) (e : E) → TakesFirst a text n b → Rose a.faults b.faults → PrintsOn a (text ++ more) (Err e) b
prints_failed a b text more n e p rose = record {
  count = n;
  takes = takes_front a b text more n p;
  ok = tt;
  err = rose;
}

pub prints_on : {E : Type 0} (a b c : Taken) (text more : List ℕ) (r : Result Unit E) → PrintsOn {E = E} a text (Ok tt) b → PrintsOn b more r c → PrintsOn a (text ++ more) r c
prints_on a b c text more r p q = prints_then a b c text more r (subst (λ (n : ℕ). TakesFirst a text n b) p.ok p.takes) q
