-- The line: the number, the first sample and the count of samples in decimal, single spaces between them, a line end.
use Rattle.std.specs.Prelude.{ℕ, zero, suc, ◌+◌, ◌/◌, ◌%◌, List, [], ◌∷◌, ◌++◌, leb, Result}
use Rattle.std.specs.Result.{result_unwrap_or}
use Rattle.float.specs.Choice.{when◌then◌else◌}
use Rattle.answer.specs.Refusal.{number}
use Rattle.answer.specs.declared.Refusal.{Refusal}
use Rattle.stretch.specs.Answers.{no_stretch}
use Rattle.stretch.specs.declared.Stretch.{Stretch}

-- the digits of n, the highest first, in k steps at the most: n itself where it is one digit, else those of a tenth of it and
-- then its last; the digit 0 is the byte 48
unfoldable pub digits_in : ℕ → ℕ → List ℕ
digits_in zero n = []
digits_in (suc k) n = when leb n 9 then ((48 + n) ∷ []) else digits_in k (n / 10) ++ ((48 + n % 10) ∷ [])

-- n + 1 steps are enough for n
unfoldable pub decimal : ℕ → List ℕ
decimal n = digits_in (suc n) n

-- a number, and the byte after it
unfoldable pub ended : ℕ → ℕ → List ℕ
ended n b = decimal n ++ (b ∷ [])

-- 32 is a space, 10 a line end; zeros stand beside a refusal
unfoldable pub line_of : Result Stretch Refusal → List ℕ
line_of a =
    let run = result_unwrap_or a no_stretch in
    ended (number a) 32 ++ (ended run.first 32 ++ ended run.count 10)
