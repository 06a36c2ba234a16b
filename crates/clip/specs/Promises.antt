-- What is promised of cutting, by what an entry gives, and by its number. Statements only; proofs/Promises.antt has the proofs.
use Rattle.std.specs.Prelude.{ℕ, ◌≤◌, ◌≡◌, ◌↔◌, ◌⊎◌, Bool, true, false, Some, None, Ok, Err, Float}
use Rattle.std.specs.Float.Ieee.{is_nan, le}
use Rattle.float.specs.Choice.{◌and◌}
use Rattle.answer.specs.Refusal.{number_of, number, done}
use Rattle.answer.specs.declared.Refusal.TheVariants.{Missed, NotFinite, BadWindow}
use Rattle.plane.specs.Point.{difference_of, ortho_of}
use Rattle.plane.specs.Interval.{is_empty, finite_interval}
use Rattle.plane.specs.Rect.{box_of}
use Rattle.plane.specs.Within.{InRect, SomeRect, PartRect, EndsRect, ShareRect}
use Rattle.plane.specs.Within as within
use Rattle.plane.specs.declared.point.Point.{Point}
use Rattle.plane.specs.declared.interval.Interval.{Interval}
use Rattle.plane.specs.declared.rect.Rect.{Rect}
use Rattle.clip.specs.declared.Segment.{Segment}
use Rattle.clip.specs.Cut.{moved_end, axis_cut, box_cut, off_line, farthest, nearest, edge_meets}
use Rattle.clip.specs.Refuse.{coordinate, side, coordinates, point_fine, bound_fine, box_fine, sides_fine, window_fine, edge_refusal, bound_refusal}
use Rattle.clip.specs.Answers.{whole, clipped, points_of, first_of, second_of, bound_or_refusal, axis_or_refusal, end_or_refusal, meets_or_refusal, value_or_refusal}
use Rattle.clip.specs.Values.{HandedIn, floats_of, Values}
use Rattle.clip.specs.Near.{NearLine}

-- nothing is refused of the edge and the window
abbrev pub Fine : Point → Point → Rect → Type 0
Fine a b window = edge_refusal a b window ≡ done

-- ---- which number an entry gives

-- n is given by whether the floats other than the window's are admitted, whether the window is, and whether the cut misses
pub record Numbered (points window : Bool) (Misses : Type 0) (n : ℕ) : Type 0 where
  pub two : n ≡ number_of NotFinite ↔ (points ≡ false)
  pub three : n ≡ number_of BadWindow ↔ ((points ≡ true) × (window ≡ false))
  pub one : n ≡ number_of Missed ↔ ((points ≡ true) × (window ≡ true) × Misses)
  pub zero : n ≡ 0 ↔ ((points ≡ true) × (window ≡ true) × (Misses → ⊥))
  pub no_other : n ≤ number_of BadWindow

pub record Numbers : Type 0 where
  pub clip_edge : (a b : Point) (window : Rect)
      → Numbered (point_fine a and point_fine b) (window_fine window) (box_cut a b window (box_of a b) ≡ None) (number (clipped a b window))
  pub clip_edge_bound : (a b : Point) (window bound : Rect)
      → Numbered ((point_fine a and point_fine b) and box_fine bound) (window_fine window) (box_cut a b window bound ≡ None) (number (bound_or_refusal a b window bound))
  pub clip_bound_axis : (a0 b0 : Float) (bound0 : Interval) (a1 b1 : Float) (bound1 : Interval) (negative : Bool) (window : Interval)
      → Numbered ((coordinates a0 b0 and coordinates a1 b1) and (bound_fine bound0 and bound_fine bound1)) (sides_fine window)
      (axis_cut a0 b0 bound0 a1 b1 bound1 negative window ≡ None) (number (axis_or_refusal a0 b0 bound0 a1 b1 bound1 negative window))
  pub update_endpoint : (bound : Interval) (high : Bool) (v : Float)
      → Numbered (bound_fine bound and coordinate v) true (moved_end bound high v ≡ None) (number (end_or_refusal bound high v))
  -- these two never miss
  pub edge_intersects_rect : (a b : Point) (window : Rect)
      → Numbered (point_fine a and point_fine b) (window_fine window) ⊥ (number (meets_or_refusal a b window))
  pub interpolate : (x a b a1 b1 : Float)
      → Numbered (coordinate x and (coordinates a b and coordinates a1 b1)) true ⊥ (number (value_or_refusal x a b a1 b1))
  -- a window is refused for a side that is not admitted, or for lo > hi, on either axis
  pub bad_window_lem : (w : Rect) → window_fine w ≡ false ↔ ((sides_fine w.x ≡ false) ⊎ (sides_fine w.y ≡ false))
  pub bad_sides : (i : Interval) → sides_fine i ≡ false ↔ ((side i.lo ≡ false) ⊎ ((side i.hi ≡ false) ⊎ (is_empty i ≡ true)))

-- ---- what is kept

-- i reaches no farther than j at either end; it is nonempty where j is, and where j is empty it is j itself
pub record NoWider (i j : Interval) : Type 0 where
  pub low : le j.lo i.lo ≡ true
  pub high : le i.hi j.hi ≡ true
  pub some : within.Some j → within.Some i
  pub empty : is_empty j ≡ true → i ≡ j

-- a kept box is nonempty, within both the window and the box that was cut, and finite
pub record KeptBox (window first box : Rect) : Type 0 where
  pub in_window : PartRect box window
  pub in_first_lem : PartRect box first
  pub finite_ends : EndsRect box

-- both lie in the rectangle
pub record BothIn (r : Rect) (s : Segment) : Type 0 where
  pub a : InRect r (first_of s)
  pub b : InRect r (second_of s)

pub record Promises : Type 0 where
  pub numbers : Numbers
  pub values : Values
  pub near : NearLine
  -- moving an end never widens
  pub never_wider : (i : Interval) (high : Bool) (v : Float) → finite_interval i ≡ true
      → (j : Interval) → moved_end i high v ≡ Some j → NoWider j i
  -- the box of A and B is nonempty and not refused
  pub first_box : (a b : Point) (window : Rect) → Fine a b window → SomeRect (box_of a b) × (bound_refusal a b window (box_of a b) ≡ done)
  -- from it, or from any nonempty box, every kept box is nonempty and within both window and first box
  pub kept_box : (a b : Point) (window first : Rect) → SomeRect first
      → (box : Rect) → bound_or_refusal a b window first ≡ Ok box → KeptBox window first box
  -- a first box inside the window comes back unchanged
  pub inside_box : (a b : Point) (window first : Rect) → bound_refusal a b window first ≡ done → PartRect first window
      → bound_or_refusal a b window first ≡ Ok first
  -- one that shares no point with the window is missed
  pub apart_box : (a b : Point) (window first : Rect) → bound_refusal a b window first ≡ done → SomeRect first → (ShareRect first window → ⊥)
      → bound_or_refusal a b window first ≡ Err Missed
  -- the same of an edge: a kept point lies in the window, and in the box of A and B
  pub kept_points : (a b : Point) (window : Rect) (s : Segment) → clipped a b window ≡ Ok s → BothIn window s × BothIn (box_of a b) s
  -- 0 is given for kept points alone, and never as a refusal's number
  pub zero_kept : (a b : Point) (window : Rect) → number (clipped a b window) ≡ 0 → clipped a b window ≡ Ok (points_of (clipped a b window))
  -- inside, A comes back as A, and B as B but for a coordinate that compares equal to A's
  pub inside_kept : (a b : Point) (window : Rect) → Fine a b window → PartRect (box_of a b) window
      → clipped a b window ≡ Ok (whole a b)
  pub apart_missed : (a b : Point) (window : Rect) → Fine a b window → (ShareRect (box_of a b) window → ⊥) → clipped a b window ≡ Err Missed
  -- an edge with an own end in the window is kept, wherever its other end is, and that end comes back as it was: A as A, and B as B but for a coordinate that compares equal to A's
  pub a_kept : (a b : Point) (window : Rect) → HandedIn (floats_of a b window) → Fine a b window → InRect window a
      → (s : Segment) × (clipped a b window ≡ Ok s) × (first_of s ≡ a)
  pub b_kept : (a b : Point) (window : Rect) → HandedIn (floats_of a b window) → Fine a b window → InRect window b
      → (s : Segment) × (clipped a b window ≡ Ok s) × (second_of s ≡ second_of (whole a b))
  -- where edge_intersects_rect says yes the boxes share a point, NaN and infinities included
  pub meets_share : (a b : Point) (r : Rect) → edge_meets a b r ≡ true → ShareRect r (box_of a b)
  -- its two corners are the farthest along the normal and the nearest, of those whose place is no NaN
  pub is_farthest : (n a : Point) (r : Rect) → SomeRect r → is_nan (farthest n a r) ≡ false
      → (i j : Bool) → is_nan (off_line n a r i j) ≡ false → le (off_line n a r i j) (farthest n a r) ≡ true
  pub is_nearest : (n a : Point) (r : Rect) → SomeRect r → is_nan (nearest n a r) ≡ false
      → (i j : Bool) → is_nan (off_line n a r i j) ≡ false → le (nearest n a r) (off_line n a r i j) ≡ true
  -- with nothing refused no place is a NaN (Values.antt, `corners_finite`): they are the farthest and the nearest of all four
  pub corners_between : (a b : Point) (r : Rect) → HandedIn (floats_of a b r) → Fine a b r → (i j : Bool)
      → let n = ortho_of (difference_of b a) in (le (off_line n a r i j) (farthest n a r) ≡ true) × (le (nearest n a r) (off_line n a r i j) ≡ true)
  -- a NaN at either says no: this is of any floats, and in the entry no NaN can arise
  pub nan_says_no : (a b : Point) (r : Rect)
      → (is_nan (farthest (ortho_of (difference_of b a)) a r) ≡ true) ⊎ (is_nan (nearest (ortho_of (difference_of b a)) a r) ≡ true) → edge_meets a b r ≡ false
