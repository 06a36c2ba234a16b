-- The window (low x, low y, high x, high y) and the samples (x, y) in bytes: each float its bits, little-endian.
use Rattle.std.specs.Prelude.{ℕ, zero, suc, ◌+◌, ◌*◌, ◌/◌, List, [], ◌∷◌, length, set, Float}
use Rattle.std.specs.Float.{binary64}
use Rattle.std.specs.Float.Ieee.{of_bits}
use Rattle.buffer.specs.Bytes.{word_at}
use Rattle.plane.specs.Point.{at}
use Rattle.plane.specs.Interval.{from◌to◌}
use Rattle.plane.specs.Rect.{◌by◌}
use Rattle.plane.specs.declared.point.Point.{Point}
use Rattle.plane.specs.declared.rect.Rect.{Rect}

abbrev pub float_at : List ℕ → ℕ → Float
float_at s p = of_bits binary64 (word_at s p)

-- x, then y
abbrev pub point_at : List ℕ → ℕ → Point
point_at s p = at (float_at s p) (float_at s (p + 8))

-- the low corner, then the high one
abbrev pub window_at : List ℕ → ℕ → Rect
window_at s p = (from float_at s p to float_at s (p + 16)) by (from float_at s (p + 8) to float_at s (p + 24))

-- at the front
abbrev pub window_of : List ℕ → Rect
window_of s = (from float_at s 0 to float_at s 16) by (from float_at s 8 to float_at s 24)

-- how many floats the whole samples in s are
abbrev pub floats_in : List ℕ → ℕ
floats_in s = length s / 16 * 2

-- k floats from the i-th on
unfoldable pub floats_from : List ℕ → ℕ → ℕ → List Float
floats_from s i zero = []
floats_from s i (suc k) = float_at s (8 * i) ∷ floats_from s (i + 1) k

-- the floats of the whole samples in s
abbrev pub floats_of : List ℕ → List Float
floats_of s = floats_from s 0 (floats_in s)

-- xs with fs from the place p on
unfoldable pub floats_into : List Float → ℕ → List Float → List Float
floats_into xs p [] = xs
floats_into xs p (f ∷ fs) = floats_into (set xs p f) (p + 1) fs
