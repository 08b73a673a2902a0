-- How an int stands to 0.
use Rattle.std.specs.Prelude.{pos, ℤ, Bool, not, int_le, int_lt}
use Rattle.michelson_rules.specs.Numbers.{is_zero}
use Rattle.michelson_data.specs.declared.against_zero.Test.{Test}
use Rattle.michelson_data.specs.declared.against_zero.Test.TheVariants as test

-- what each test asks
abbrev pub test_of : Test → ℤ → Bool
test_of test.Zero x = is_zero x
test_of test.Other x = not (is_zero x)
test_of test.Below x = int_lt x (pos 0)
test_of test.Above x = int_lt (pos 0) x
test_of test.AtMost x = int_le x (pos 0)
test_of test.AtLeast x = int_le (pos 0) x
