-- Small texts, read.
use Rattle.std.proofs.Common.{◌≡◌, ℕ, [], ◌∷◌, length, Ok, Err, refl, Option, Some, None}
use Rattle.ligo_tokens.specs.declared.token.Kind.TheVariants as kind
use Rattle.ligo_syntax.specs.declared.fault.Stop.TheVariants as stop
use Rattle.ligo_syntax.specs.declared.fault.Expected.TheVariants as expected
use Rattle.ligo_syntax.specs.Readers.{Read}
use Rattle.ligo_syntax.specs.Reading.{decls_at}
use Rattle.ligo_syntax.proofs.Words.{of_kind}

left_of : {A : Type 0} → Read A → Option ℕ
left_of (Ok x) = Some (length x.1)
left_of (Err e) = None

-- let x = 1
constant_is_read : left_of (decls_at 2 (of_kind kind.Let ∷ of_kind kind.Name ∷ of_kind kind.Equals ∷ of_kind kind.Int ∷ [])) ≡ Some 0
unfolding left_of
constant_is_read = refl

-- let x = 1 +
operand_is_missing : decls_at 3 (of_kind kind.Let ∷ of_kind kind.Name ∷ of_kind kind.Equals ∷ of_kind kind.Int ∷ of_kind kind.Plus ∷ []) ≡ Err (stop.Unexpected expected.Expression 0)
operand_is_missing = refl

-- let x = 1 + 1, one too deep
sum_is_too_deep : decls_at 2 (of_kind kind.Let ∷ of_kind kind.Name ∷ of_kind kind.Equals ∷ of_kind kind.Int ∷ of_kind kind.Plus ∷ of_kind kind.Int ∷ []) ≡ Err (stop.TooDeep 2)
sum_is_too_deep = refl
