-- How far off a cut can be: what is given at a cut is within 2 ^ -50 of the exact line. Statements only; proofs/Near.antt has the proofs.
-- Exact values are whole numbers of 2 ^ -1074, and no rounding stands here.
use Rattle.std.specs.Prelude.{ℕ, ◌*◌, ◌^◌, ◌≤◌, ◌≡◌, ◌⊎◌, Bool, true, false, not, [], ◌∷◌, ℤ, pos, ◌+ℤ◌, ◌-ℤ◌, ◌*ℤ◌, leb, Ok, Float}
use Rattle.std.specs.Float.{fin, binary64}
use Rattle.std.specs.Float.Ieee.{le, eq, of_bits}
use Rattle.float.specs.Float.{zero_f, magnitude_of}
use Rattle.float.specs.Exact.{units}
use Rattle.float.specs.Errors.{apart}
use Rattle.answer.specs.Refusal.{number, value_or, done}
use Rattle.plane.specs.Interval.{between, end_of}
use Rattle.plane.specs.Rect.{box_of}
use Rattle.plane.specs.Within.{In}
use Rattle.plane.specs.declared.point.Point.{Point}
use Rattle.plane.specs.declared.interval.Interval.{Interval}
use Rattle.plane.specs.declared.rect.Rect.{Rect}
use Rattle.clip.specs.declared.Segment.{Segment}
use Rattle.clip.specs.Cut.{value_at, inward}
use Rattle.clip.specs.Refuse.{edge_refusal, value_refusal}
use Rattle.clip.specs.Answers.{whole, clipped, first_of, second_of, value_or_refusal}
use Rattle.clip.specs.Values.{every, HandedIn, floats_of, places_on_x, places_on_y, tiny}

-- ---- exact values

abbrev pub exact : Float → ℤ
exact x = units binary64 x

-- 2 ^ k, in units
abbrev pub power : ℕ → ℕ
power k = 2 ^ k * 2 ^ 1074

-- 2 ^ -500 and 2 ^ -1014
abbrev pub least : ℕ
least = 2 ^ 574

abbrev pub narrow : ℕ
narrow = 2 ^ 60

-- x is at most 2 ^ k in magnitude; for k = 0 it lies in -1..1
unfoldable pub within : ℕ → Float → Bool
within k x = le (magnitude_of x) (fin false 1 (pos k))

-- how far apart a and b are
abbrev pub width : Float → Float → ℕ
width a b = apart (exact b) (exact a)

-- How far v is from the line through (a, a1) and (b, b1) at x, times the width: the line is there at (a1 (b - x) + b1 (x - a)) / (b - a).
abbrev pub off_times : Float → Float → Float → Float → Float → Float → ℕ
off_times v x a b a1 b1 =
    apart (exact v *ℤ (exact b -ℤ exact a)) (exact a1 *ℤ (exact b -ℤ exact x) +ℤ exact b1 *ℤ (exact x -ℤ exact a))

-- that is at most 2 ^ (k - 50)
unfoldable pub near : ℕ → Float → Float → Float → Float → Float → Float → Bool
near k v x a b a1 b1 = leb (off_times v x a b a1 b1 * 2 ^ 50) (width a b * power k)

-- ---- the places at which a cut asks the line: at each the value is near it, where the edge's ends are at least 2 ^ -500 apart on that axis
abbrev pub near_at : ℕ → Float → Float → Float → Float → Float → Bool
near_at k a b a1 b1 x = near k (value_at x a b a1 b1) x a b a1 b1

pub record NearAsks (k : ℕ) (a b : Point) (window box : Rect) : Type 0 where
  pub on_x : least ≤ width a.x b.x → every (near_at k a.x b.x a.y b.y) (places_on_x a b window box) ≡ true
  pub on_y : least ≤ width a.y b.y → every (near_at k a.y b.y a.x b.x) (places_on_y a b window box) ≡ true

-- ---- a kept point: which of its coordinates are a window's sides, and which a cut value

-- on axis y, or on axis x
abbrev pub on : Bool → Point → Float
on true p = p.y
on false p = p.x

abbrev pub sides_on : Bool → Rect → Interval
sides_on true w = w.y
sides_on false w = w.x

-- p lies on the window's side, exactly, and the own end beyond it
pub record AtSide (y high : Bool) (window : Rect) (own p : Point) : Type 0 where
  pub beyond : inward high (end_of (sides_on y window) high) (on y own) ≡ true
  pub side : on y p ≡ end_of (sides_on y window) high

-- p's other coordinate is near the line's at this one
abbrev pub near_on : ℕ → Bool → Point → Point → Point → Bool
near_on k y a b p = near k (on (not y) p) (on y p) (on y a) (on y b) (on (not y) a) (on (not y) b)

pub data KeptFrom (k : ℕ) (a b : Point) (window : Rect) (own p : Point) : Type 0 where
  -- the own end, as it was
  uncut : p ≡ own → KeptFrom k a b window own p
  -- cut at a side of one axis: the other coordinate is the cut value there, as a number, and is near the line
  cut : (y high : Bool) → AtSide y high window own p → eq (on (not y) p) (value_at (on y p) (on y a) (on y b) (on (not y) a) (on (not y) b)) ≡ true
      → (least ≤ width (on y a) (on y b) → near_on k y a b p ≡ true) → KeptFrom k a b window own p
  -- cut at a side of both, and the corner between them: no cut value is left, and it is near the line along one of the axes
  corner : (high_x high_y : Bool) → AtSide false high_x window own p → AtSide true high_y window own p
      → (least ≤ width a.x b.x → least ≤ width a.y b.y → (near_on k false a b p ≡ true) ⊎ (near_on k true a b p ≡ true)) → KeptFrom k a b window own p

-- ---- what is promised

-- 3 * 2 ^ -1074, and 1/2
abbrev pub tiny_three : Float
tiny_three = of_bits binary64 3

abbrev pub half : Float
half = of_bits binary64 0x3fe0_0000_0000_0000

-- the input with the greatest error that a search has found (docs/DIFFERENCES.md, D11)
abbrev pub worst_x : Float
worst_x = of_bits binary64 0xab65_d6f8_13f2_3e72

abbrev pub worst_a : Float
worst_a = of_bits binary64 0xab85_75c1_d286_e734

abbrev pub worst_b : Float
worst_b = of_bits binary64 0x2b75_148b_8ff8_38f2

abbrev pub worst_a1 : Float
worst_a1 = of_bits binary64 0xbfef_fff2_de74_3fe9

abbrev pub worst_b1 : Float
worst_b1 = of_bits binary64 0x3fef_ffff_ffff_fbfa

pub record NearLine : Type 0 where
  -- interpolate, of coordinates in -1..1 and ends at least 2 ^ -500 apart: for x from a to b, in either order, the value is within 2 ^ -50 of the line
  pub near_line : (x a b a1 b1 : Float) → HandedIn (x ∷ a ∷ b ∷ a1 ∷ b1 ∷ []) → every (within 0) (a ∷ b ∷ a1 ∷ b1 ∷ []) ≡ true → In (between a b) x → least ≤ width a b
      → (number (value_or_refusal x a b a1 b1) ≡ 0) × (near 0 (value_or zero_f (value_or_refusal x a b a1 b1)) x a b a1 b1 ≡ true)
  -- beyond what was asked: of all that is not refused, with heights up to 2 ^ k and ends at least 2 ^ -1014 apart, it is within 49 * 2 ^ (k - 56), about three quarters of 2 ^ (k - 50)
  pub nearer_line : (k : ℕ) → k ≤ 500 → (x a b a1 b1 : Float) → HandedIn (x ∷ a ∷ b ∷ a1 ∷ b1 ∷ []) → value_refusal x a b a1 b1 ≡ done → every (within k) (a1 ∷ b1 ∷ []) ≡ true
      → In (between a b) x → narrow ≤ width a b
      → off_times (value_or zero_f (value_or_refusal x a b a1 b1)) x a b a1 b1 * 2 ^ 56 ≤ width a b * (49 * power k)
  -- without a least difference it is false: between ends 3 * 2 ^ -1074 apart the product of 1/2 and 2 ^ -1074 is rounded to 0, and the value to 0, where the line has 1/6
  pub width_needed : (value_or_refusal tiny zero_f tiny_three zero_f half ≡ Ok zero_f) × (near 0 zero_f tiny zero_f tiny_three zero_f half ≡ false)
  -- and 2 ^ -53 is false: this error is more than 3.99 of it
  pub worst_seen : leb (off_times (value_or zero_f (value_or_refusal worst_x worst_a worst_b worst_a1 worst_b1)) worst_x worst_a worst_b worst_a1 worst_b1 * (100 * 2 ^ 53)) (width worst_a worst_b * (399 * power 0)) ≡ false
  -- clip_edge, of coordinates up to 2 ^ k, so for k = 0 in -1..1: each value that is asked for is within 2 ^ (k - 50) of the line
  pub edge_near_asks : (k : ℕ) → k ≤ 500 → (a b : Point) (window : Rect) → HandedIn (floats_of a b window) → edge_refusal a b window ≡ done → every (within k) (a.x ∷ a.y ∷ b.x ∷ b.y ∷ []) ≡ true
      → NearAsks k a b window (box_of a b)
  -- and so is each kept point that was cut, whether once or twice
  pub kept_near : (k : ℕ) → k ≤ 500 → (a b : Point) (window : Rect) → HandedIn (floats_of a b window) → every (within k) (a.x ∷ a.y ∷ b.x ∷ b.y ∷ []) ≡ true
      → (s : Segment) → clipped a b window ≡ Ok s → KeptFrom k a b window a (first_of s) × KeptFrom k a b window (second_of (whole a b)) (second_of s)
