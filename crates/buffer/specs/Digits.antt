-- Hex digits, as bytes.
use Rattle.std.specs.Prelude.{ℕ, zero, suc, ◌+◌, ◌*◌, ◌/◌, ◌%◌, ◌^◌, List, [], ◌∷◌, ltb}
use Rattle.float.specs.Choice.{when◌then◌else◌}

-- 0 to 9 are the bytes from 48 on, 10 to 15 those from 97 on: lower case
unfoldable pub digit_of : ℕ → ℕ
digit_of d = when ltb d 10 then 48 + d else 87 + d

-- the k low digits of n, the highest first: digit k stands for the four bits from 4k on
unfoldable pub hex : ℕ → ℕ → List ℕ
hex zero n = []
hex (suc k) n = digit_of (n / 2 ^ (4 * k) % 16) ∷ hex k n

-- a space and 16 digits
unfoldable pub group : ℕ → List ℕ
group n = 32 ∷ hex 16 n
