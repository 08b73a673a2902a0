-- The law of receipts: what is read is spelt so, and each end is read by its tag and what stands behind it.
use Rattle.std.proofs.Common.{◌≡◌, ℕ, ◌<◌, ◌≤◌, ◌^◌, eqb, List, [], ◌∷◌, ◌++◌, length, Option, Some, None, Ok, refl, sym, ap, subst, ◌∙◌, append_assoc, arith}
use Rattle.std.specs.Prelude.{IsTrue, nat_le, true}
use Rattle.std.specs.Int.{w8, w32, to_be_bytes}
use Rattle.std.proofs.lemmas.Bool.{le-leb}
use Rattle.std.proofs.lemmas.List.{append-nil}
use Rattle.byte_fields.specs.Readers.{Reader, given}
use Rattle.byte_fields.specs.Laws.{IsBytes, IsWithin, Reads, Takes}
use Rattle.byte_fields.proofs.Joined.{checked_reads, given_reads, made_again, made_within, reads_as, with_reads}
use Rattle.byte_fields.proofs.Digits.{wide8, wide32}
use Rattle.byte_fields.proofs.Numbers.{number_reads}
use Rattle.byte_fields.proofs.Tags.{Row, TakesBehind, at_tag, given_takes, one_byte, row_takes, within_row}
use Rattle.value_core.specs.declared.val.Val.{Val}
use Rattle.value_core.specs.Lawful.{is_lawful}
use Rattle.value_codec.specs.Spelling.{spell}
use Rattle.michelson_code.specs.declared.why.Why.{Why}
use Rattle.michelson_code.specs.declared.why.Why.TheVariants as why
use Rattle.op_rules.specs.declared.receipt.Receipt.{Receipt}
use Rattle.block_codec.specs.Block.{IsEnd, IsReceipt, MayBeRaised}
use Rattle.block_codec.specs.Receipts.{end_behind, receipt, tag}
use Rattle.block_codec.specs.Spelling.{raised_bytes, receipt_bytes, tag_of}
use Rattle.block_codec.proofs.Passed.{passed_reads}

-- ---- the end that has a tag

-- the tag, and the value behind it
abbrev end_bytes : Option Why → List ℕ
end_bytes end = tag_of end ∷ raised_bytes end

abbrev TakesEnd : ℕ → Reader (Option Why) → Type 0
TakesEnd t read = TakesBehind read t end_bytes IsEnd

failed : (k : ℕ) (cause : Why) → end_bytes (Some cause) ≡ k ∷ [] → IsEnd (Some cause) → TakesEnd k (given (Some cause))
failed k cause = given_takes k end_bytes IsEnd (Some cause)

raised_row : Row {A = Val} 5 (λ v. Some (why.Raised v)) spell (λ v. IsTrue (is_lawful v) × MayBeRaised v) end_bytes IsEnd
raised_row = record { spelt = λ v. refl; good = λ v good. good }

end_takes : (t : ℕ) → TakesEnd t (end_behind t)
end_takes t =
    at_tag (λ k. true) t 0 (λ h. given_takes 0 end_bytes IsEnd None refl tt) (
    at_tag (λ k. true) t 1 (λ h. failed 1 why.BalanceTooLow refl tt) (
    at_tag (λ k. true) t 2 (λ h. failed 2 why.NoSuchContract refl tt) (
    at_tag (λ k. true) t 3 (λ h. failed 3 why.NoSuchEntry refl tt) (
    at_tag (λ k. true) t 4 (λ h. failed 4 why.WrongParameter refl tt) (
    at_tag (λ k. true) t 5 (λ h. row_takes raised_row passed_reads) (
    at_tag (λ k. true) t 6 (λ h. failed 6 why.Overflow refl tt) (
    at_tag (λ k. true) t 7 (λ h. failed 7 why.Shift refl tt) (
    at_tag (λ k. true) t 8 (λ h. failed 8 why.TooLarge refl tt) (
    at_tag (λ k. true) t 9 (λ h. failed 9 why.OutOfGas refl tt) (
    at_tag (λ k. true) t 10 (λ h. failed 10 why.OutOfTurns refl tt) (
    at_tag (λ k. true) t 11 (λ h. failed 11 why.BigMapMoved refl tt) (
    at_tag (λ k. true) t 12 (λ h. failed 12 why.TooManyCells refl tt) (
    at_tag (λ k. true) t 13 (λ h. failed 13 why.TooMuchData refl tt) (
    at_tag (λ k. true) t 14 (λ h. failed 14 why.TooManyCalls refl tt) (
    λ h bytes end rest fits e. absurd cc))))))))))))))) refl

end_again : (end : Option Why) (rest : List ℕ) → IsEnd end → end_behind (tag_of end) (raised_bytes end ++ rest) ≡ Ok (end, rest)
end_again (Some (why.Raised v)) rest good = made_again (λ v. Some (why.Raised v)) passed_reads v rest good
end_again _ rest good = refl

failed_within : (cause : Why) (bytes : List ℕ) → IsWithin (length bytes) (given (Some cause) bytes)
failed_within cause = (given_reads (Some cause)).within

end_within : (t : ℕ) (bytes : List ℕ) → IsWithin (length bytes) (end_behind t bytes)
end_within t =
    within_row (eqb t 0) _ _ (given_reads {A = Option Why} None).within (
    within_row (eqb t 1) _ _ (failed_within why.BalanceTooLow) (
    within_row (eqb t 2) _ _ (failed_within why.NoSuchContract) (
    within_row (eqb t 3) _ _ (failed_within why.NoSuchEntry) (
    within_row (eqb t 4) _ _ (failed_within why.WrongParameter) (
    within_row (eqb t 5) _ _ (made_within (λ v. Some (why.Raised v)) passed_reads) (
    within_row (eqb t 6) _ _ (failed_within why.Overflow) (
    within_row (eqb t 7) _ _ (failed_within why.Shift) (
    within_row (eqb t 8) _ _ (failed_within why.TooLarge) (
    within_row (eqb t 9) _ _ (failed_within why.OutOfGas) (
    within_row (eqb t 10) _ _ (failed_within why.OutOfTurns) (
    within_row (eqb t 11) _ _ (failed_within why.BigMapMoved) (
    within_row (eqb t 12) _ _ (failed_within why.TooManyCells) (
    within_row (eqb t 13) _ _ (failed_within why.TooMuchData) (
    within_row (eqb t 14) _ _ (failed_within why.TooManyCalls) (
    λ bytes. omega arith)))))))))))))))

-- an end with this tag
abbrev IsEndOf : ℕ → Option Why → Type 0
IsEndOf t end = (tag_of end ≡ t) × IsEnd end

end_reads : (t : ℕ) → Reads (end_behind t) raised_bytes (IsEndOf t)
end_reads t = record {
  takes = λ bytes end rest fits e.
      let taken = end_takes t bytes end rest fits e in
      let parts : t ∷ bytes ≡ tag_of end ∷ (raised_bytes end ++ rest) = taken.0.parts in
      let tag_is : tag_of end ≡ t = cc in
      let text_is : bytes ≡ raised_bytes end ++ rest = cc in
      (record { parts = text_is; rest_fits = taken.0.rest_fits }, (tag_is, taken.1));
  again = λ end rest good. subst (λ (t : ℕ). end_behind t (raised_bytes end ++ rest) ≡ Ok (end, rest)) good.0 (end_again end rest good.1);
  within = end_within t;
}

-- ---- receipts

tag_reads : Reads tag (to_be_bytes w8) (λ t. (t < 2 ^ 8) × IsTrue (nat_le t 14))
tag_reads = checked_reads (λ t. nat_le t 14) (number_reads w8 (2 ^ 8) wide8)

tag_fits : (end : Option Why) → tag_of end ≤ 14
tag_fits (Some (why.Raised v)) = omega arith
tag_fits _ = omega arith

receipt_joined : (t g v : List ℕ) → t ++ (g ++ (v ++ [])) ≡ t ++ g ++ v
receipt_joined t g v = simp (append_assoc, append-nil)

receipt_spelt : (r : Receipt) → to_be_bytes w8 (tag_of r.end) ++ (to_be_bytes w32 r.gas ++ (raised_bytes r.end ++ [])) ≡ receipt_bytes r
receipt_spelt r =
    let fits = tag_fits r.end in
    ap (λ (l : List ℕ). l ++ (to_be_bytes w32 r.gas ++ (raised_bytes r.end ++ []))) (one_byte (tag_of r.end) (omega arith))
    ∙ receipt_joined (tag_of r.end ∷ []) (to_be_bytes w32 r.gas) (raised_bytes r.end)

-- each field, and by it those behind it
pub receipt_reads : Reads receipt receipt_bytes IsReceipt
unfolding receipt
receipt_reads =
    reads_as receipt_bytes IsReceipt
    (λ r good. (receipt_spelt r, record { end = good.1.1.0.1; gas = good.1.0 }))
    (λ r good. let fits = tag_fits r.end in ((omega arith, le-leb (tag_of r.end) 14 fits), (good.gas, ((refl, good.end), refl))))
    (with_reads tag_reads (λ t.
    with_reads (number_reads w32 (2 ^ 32) wide32) (λ gas.
    with_reads (end_reads t) (λ end.
    given_reads (let r : Receipt = record { end = end; gas = gas } in r))
    (λ (r : Receipt). r.end) (λ end r is. ap (λ (r : Receipt). r.end) (sym is)))
    (λ (r : Receipt). r.gas) (λ gas r good. ap (λ (r : Receipt). r.gas) (sym good.1)))
    (λ (r : Receipt). tag_of r.end) (λ t r good. good.1.0.0))
