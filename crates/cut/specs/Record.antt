-- A record of 64 bytes: a.x, a.y, b.x, b.y, window low x, low y, high x, high y, little-endian bits.
use Rattle.std.specs.Prelude.{ℕ, List, Result}
use Rattle.answer.specs.declared.Refusal.{Refusal}
use Rattle.clip.specs.Answers.{clipped}
use Rattle.clip.specs.declared.Segment.{Segment}
use Rattle.reading.specs.Samples.{point_at, window_at}

-- the answer for the record
unfoldable pub answer_of : List ℕ → Result Segment Refusal
answer_of s = clipped (point_at s 0) (point_at s 16) (window_at s 32)
