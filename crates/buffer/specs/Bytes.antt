-- Little-endian words in bytes, and what a run of stores leaves in a buffer.
use Rattle.std.specs.Prelude.{ℕ, zero, suc, ◌+◌, ◌*◌, ◌/◌, ◌%◌, List, [], ◌∷◌, ◌++◌, leb, length, take, drop, set}
use Rattle.float.specs.Choice.{when◌then◌else◌}

-- the number of some bytes, the lowest first
unfoldable pub word : List ℕ → ℕ
word [] = 0
word (b ∷ bs) = word bs * 256 + b

-- the word at a place; 0 where its 8 bytes are not all there
unfoldable pub word_at : List ℕ → ℕ → ℕ
word_at s p = when leb (p + 8) (length s) then word (take 8 (drop p s)) else 0

-- the k low bytes of n, the lowest first
unfoldable pub bytes_of : ℕ → ℕ → List ℕ
bytes_of zero n = []
bytes_of (suc k) n = n % 256 ∷ bytes_of k (n / 256)

-- xs with the bytes bs from the place p on
unfoldable pub stored : List ℕ → ℕ → List ℕ → List ℕ
stored xs p [] = xs
stored xs p (b ∷ bs) = stored (set xs p b) (p + 1) bs

-- the same where all of bs fits, else xs as it was
unfoldable pub placed : List ℕ → ℕ → List ℕ → List ℕ
placed xs p bs = when leb (p + length bs) (length xs) then stored xs p bs else xs

-- the bytes bs, then those of xs after them
abbrev pub followed_by : List ℕ → List ℕ → List ℕ
followed_by bs xs = bs ++ drop (length bs) xs
