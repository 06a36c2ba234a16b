-- What is promised of the line that an input gives. Statements only; proofs/Promises.antt has the proofs.
use Rattle.std.specs.Prelude.{ℕ, ◌≡◌, List, take, Result}
use Rattle.answer.specs.declared.Refusal.{Refusal}
use Rattle.buffer.specs.Text.{line_ends}
use Rattle.plane.specs.declared.rect.Rect.{Rect}
use Rattle.reading.specs.Samples.{floats_of}
use Rattle.stretch.specs.Answers.{stretch_of}
use Rattle.stretch.specs.declared.Stretch.{Stretch}
use Rattle.run_stretch.specs.Line.{line_of}

pub record Promises : Type 0 where
  -- The bytes of 4,097 samples, one more than a trace may have, are all that is read: what follows them changes nothing.
  pub rest_unread : (s : List ℕ) (w : Rect) → stretch_of (floats_of (take 65552 s)) w ≡ stretch_of (floats_of s) w
  -- it is one line
  pub one_line : (a : Result Stretch Refusal) → line_ends (line_of a) ≡ 1
