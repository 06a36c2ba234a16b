-- The arguments of a request, by the place of their first word: 0 is the operation, and each word is 8 bytes, little-endian.
use Rattle.std.specs.Prelude.{ℕ, ◌+◌, ◌*◌, ◌%◌, ◌^◌, Bool, not, List, eqb, Float, take, min}
use Rattle.std.specs.Float.{binary64}
use Rattle.std.specs.Float.Ieee.{of_bits}
use Rattle.buffer.specs.Bytes.{word_at}
use Rattle.reading.specs.Samples.{floats_from}
use Rattle.plane.specs.Point.{at}
use Rattle.plane.specs.Interval.{from◌to◌}
use Rattle.plane.specs.Rect.{◌by◌}
use Rattle.plane.specs.declared.point.Point.{Point}
use Rattle.plane.specs.declared.interval.Interval.{Interval}
use Rattle.plane.specs.declared.rect.Rect.{Rect}
use Rattle.cube.specs.Vector.{vec}
use Rattle.cube.specs.Faces.{uv}
use Rattle.cube.specs.declared.vector.Vector.{Vector}
use Rattle.cube.specs.declared.compute.Uv.{Uv}
use Rattle.line.specs.Line.{axis_of}
use Rattle.line.specs.declared.compute.Axis.{Axis}

abbrev pub word_of : List ℕ → ℕ → ℕ
word_of s k = word_at s (8 * k)

unfoldable pub float_at : List ℕ → ℕ → Float
float_at s k = of_bits binary64 (word_of s k)

unfoldable pub point_at : List ℕ → ℕ → Point
point_at s k = at (float_at s k) (float_at s (k + 1))

unfoldable pub interval_at : List ℕ → ℕ → Interval
interval_at s k = from float_at s k to float_at s (k + 1)

-- the low corner, then the high one
unfoldable pub rect_at : List ℕ → ℕ → Rect
rect_at s k =
    let lo = point_at s k in
    let hi = point_at s (k + 2) in
    (from lo.x to hi.x) by (from lo.y to hi.y)

unfoldable pub uv_at : List ℕ → ℕ → Uv
uv_at s k = uv (float_at s k) (float_at s (k + 1))

unfoldable pub vector_at : List ℕ → ℕ → Vector
vector_at s k = vec (float_at s k) (float_at s (k + 1)) (float_at s (k + 2))

-- the sixteen from a place on
abbrev pub floats_at : List ℕ → ℕ → List Float
floats_at s k = floats_from s k 16

-- the word, or the most where it is larger
abbrev pub word_up_to : List ℕ → ℕ → ℕ → ℕ
word_up_to s k most = min (word_of s k) most

-- the samples from a place on: as many floats as word 1 asks, 16 at the most
abbrev pub samples_at : List ℕ → ℕ → List Float
samples_at s k = take (word_up_to s 1 16) (floats_at s k)

-- a face, axis or direction: 255, above every limit, for a word above it
abbrev pub number_at : List ℕ → ℕ → ℕ
number_at s k = min (word_of s k) 255

-- a trace number: the word modulo 2^32
unfoldable pub whose_at : List ℕ → ℕ → ℕ
whose_at s k = word_of s k % 2 ^ 32

abbrev pub yes_at : List ℕ → ℕ → Bool
yes_at s k = not (eqb (word_of s k) 0)

-- U for 0, V for any other word
abbrev pub axis_at : List ℕ → ℕ → Axis
axis_at s k = axis_of (not (eqb (number_at s k) 0))
