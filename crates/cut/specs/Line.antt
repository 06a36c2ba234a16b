-- The lines: the number and, for 0, four groups of 16 lower-case hex digits. A last part under 64 bytes writes 9.
use Rattle.std.specs.Prelude.{ℕ, ◌+◌, ◌<◌, ◌≡◌, List, [], ◌∷◌, ◌++◌, Result, Ok, Err}
use Rattle.std.specs.Float.{binary64}
use Rattle.std.specs.Float.Ieee.{to_bits}
use Rattle.answer.specs.Refusal.{number_of, number}
use Rattle.answer.specs.declared.Refusal.{Refusal}
use Rattle.answer.specs.declared.Refusal.TheVariants.{Torn}
use Rattle.buffer.specs.Digits.{group}
use Rattle.buffer.specs.Text as Text
use Rattle.clip.specs.declared.Segment.{Segment}
use Rattle.clip.specs.Answers.{points_of}
use Rattle.cut.specs.Record.{answer_of}

-- a number below 10 as its digit, and a line end
unfoldable pub number_line : ℕ → List ℕ
number_line n = (48 + n) ∷ 10 ∷ []

-- 0, the bits of A's x and y and of B's, and a line end
unfoldable pub kept_line : Segment → List ℕ
kept_line s =
    48
    ∷ (group (to_bits binary64 s.ax)
    ++ (group (to_bits binary64 s.ay) ++ (group (to_bits binary64 s.bx) ++ (group (to_bits binary64 s.by) ++ (10 ∷ [])))))

unfoldable pub line_of : Result Segment Refusal → List ℕ
line_of (Ok s) = kept_line s
line_of (Err e) = number_line (number_of e)

-- what an edge can get, which the writing of its line relies on: a number of one digit, 0 for kept points alone
abbrev pub Told : Result Segment Refusal → Type 0
Told r = (number r < 10) × (number r ≡ 0 → r ≡ Ok (points_of r))

abbrev pub record_line : List ℕ → List ℕ
record_line s = line_of (answer_of s)

-- for a last part under 64 bytes
abbrev pub torn_line : List ℕ
torn_line = number_line (number_of Torn)

abbrev pub text_of : List ℕ → List ℕ
text_of s = Text.text_of 64 record_line torn_line s

-- the room that a text can take: 70 bytes for each record, and 2 for a torn end
abbrev pub room : List ℕ → ℕ
room s = Text.room_for 64 70 s
