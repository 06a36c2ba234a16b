-- The text of records of one length: the line of each whole record, in order, and a torn line for a last part.
use Rattle.std.specs.Prelude.{ℕ, zero, suc, ◌+◌, ◌*◌, ◌/◌, ◌%◌, ◌≡◌, List, [], ◌∷◌, ◌++◌, eqb, leb, length, take, drop}
use Rattle.float.specs.Choice.{when◌then◌else◌}
use Rattle.buffer.specs.Bytes.{stored}

module _ (size : ℕ) (line : List ℕ → List ℕ) (torn : List ℕ) where
  -- the lines of n records, and of the part that follows them
  unfoldable pub lines_of : ℕ → List ℕ → List ℕ
  lines_of zero [] = []
  lines_of zero (b ∷ bs) = torn
  lines_of (suc n) s = line (take size s) ++ lines_of n (drop size s)

  unfoldable pub text_of : List ℕ → List ℕ
  text_of s = lines_of (length s / size) s

-- ---- a text is written where out has the room that it may take, else nothing is
-- the room: so many bytes for the longest line of a record, and 2 for a torn line
abbrev pub room_for : ℕ → ℕ → List ℕ → ℕ
room_for size longest s = length s / size * longest + 2

-- what out holds after
abbrev pub written : ℕ → List ℕ → List ℕ → List ℕ
written room text out = when leb room (length out) then stored out 0 text else out

-- how many bytes are written
abbrev pub count_written : ℕ → List ℕ → List ℕ → ℕ
count_written room text out = when leb room (length out) then length text else 0

-- ---- what is promised of a text
-- how many line ends, bytes 10, there are
unfoldable pub line_ends : List ℕ → ℕ
line_ends [] = 0
line_ends (b ∷ bs) = (when eqb b 10 then 1 else 0) + line_ends bs

module _ (size : ℕ) (text : List ℕ → List ℕ) where
  -- the text of an input is that of its blocks: to read in blocks of whole records changes nothing
  abbrev pub JoinsBlocks : Type 0
  JoinsBlocks = (a b : List ℕ) → length a % size ≡ 0 → text (a ++ b) ≡ text a ++ text b

  -- a line for each record, and one for a last part
  abbrev pub OneLineEach : Type 0
  OneLineEach = (s : List ℕ) → line_ends (text s) ≡ length s / size + (when eqb (length s % size) 0 then 0 else 1)
