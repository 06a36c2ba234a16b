-- What is promised of the value at x, on which every cut rests: it is never a NaN, and where x lies from a to b it is finite and lies between a1 and b1; and of a corner's place off the line, on which edge_intersects_rect rests: it is finite.
-- Statements only; proofs/Values.antt has the proofs.
use Rattle.std.specs.Prelude.{◌≡◌, Bool, true, false, not, List, [], ◌∷◌, ◌++◌, map, Option, Some, None, Ok, Err, Float}
use Rattle.std.specs.Float.{inf, binary64}
use Rattle.std.specs.Float.Ieee.{eq, fits, is_nan, of_bits}
use Rattle.float.specs.Choice.{when◌then◌else◌, ◌and◌}
use Rattle.float.specs.Float.{zero_f, one_f, finite}
use Rattle.answer.specs.Refusal.{value_or, done}
use Rattle.answer.specs.declared.Refusal.TheVariants.{Missed}
use Rattle.plane.specs.Point.{difference_of, ortho_of}
use Rattle.plane.specs.Interval.{from◌to◌, holds, between, end_of}
use Rattle.plane.specs.Rect.{box_of}
use Rattle.plane.specs.Within.{In, Part, PartRect}
use Rattle.plane.specs.declared.point.Point.{Point}
use Rattle.plane.specs.declared.interval.Interval.{Interval}
use Rattle.plane.specs.declared.rect.Rect.{Rect}
use Rattle.clip.specs.declared.compute.Both.{Both}
use Rattle.clip.specs.Cut.{negative_slope, value_at, inward, side_cut, axis_cut, box_cut, off_line}
use Rattle.clip.specs.Refuse.{edge_refusal, bound_refusal, axis_refusal, value_refusal}
use Rattle.clip.specs.Answers.{axis_or_refusal, value_or_refusal}

-- the test holds of every one
unfoldable pub every : (Float → Bool) → List Float → Bool
every test [] = true
every test (x ∷ xs) = test x and every test xs

-- no NaN
abbrev pub number : Float → Bool
number x = not (is_nan x)

-- floats that can be handed in: binary64 holds them, as it holds that of every bit pattern (float's specs/Laws.antt, `Handed`)
abbrev pub HandedIn : List Float → Type 0
HandedIn xs = every (fits binary64) xs ≡ true

abbrev pub floats_of : Point → Point → Rect → List Float
floats_of a b window =
    a.x ∷ a.y ∷ b.x ∷ b.y ∷ window.x.lo ∷ window.x.hi ∷ window.y.lo ∷ window.y.hi ∷ []

-- ---- the places at which a cut asks the line, in the order of Cut.antt: sides of the window

-- the side, where an end of the other axis is to be moved: where the box reaches past it, and its other end does not
unfoldable pub side_places : Bool → Interval → Interval → List Float
side_places high this window =
    let side = end_of window high in
    when inward high side (end_of this high) then
    when inward high side (end_of this (not high)) then []
    else side ∷ []
    else []

-- that of the low side, then that of the high side on what it left
unfoldable pub high_places : Interval → Option Both → List Float
high_places window (Some s) = side_places true s.this window
high_places window None = []

unfoldable pub axis_places : Float → Float → Interval → Float → Float → Interval → Bool → Interval → List Float
axis_places a0 b0 this a1 b1 other negative window =
    side_places false this window ++ high_places window (side_cut false a0 b0 this a1 b1 other negative window)

-- those of axis x, then those of axis y on what x left
unfoldable pub y_places : Point → Point → Bool → Interval → Option Both → List Float
y_places a b negative window (Some s) = axis_places a.y b.y s.other a.x b.x s.this negative window
y_places a b negative window None = []

abbrev pub places_on_x : Point → Point → Rect → Rect → List Float
places_on_x a b window box = axis_places a.x b.x box.x a.y b.y box.y (negative_slope a b) window.x

abbrev pub places_on_y : Point → Point → Rect → Rect → List Float
places_on_y a b window box =
    let negative = negative_slope a b in
    y_places a b negative window.y (axis_cut a.x b.x box.x a.y b.y box.y negative window.x)

-- ---- the values that it asks for there

abbrev pub axis_asks : Float → Float → Interval → Float → Float → Interval → Bool → Interval → List Float
axis_asks a0 b0 this a1 b1 other negative window =
    map (λ (x : Float). value_at x a0 b0 a1 b1) (axis_places a0 b0 this a1 b1 other negative window)

abbrev pub asks_on_x : Point → Point → Rect → Rect → List Float
asks_on_x a b window box = map (λ (x : Float). value_at x a.x b.x a.y b.y) (places_on_x a b window box)

abbrev pub asks_on_y : Point → Point → Rect → Rect → List Float
asks_on_y a b window box = map (λ (y : Float). value_at y a.y b.y a.x b.x) (places_on_y a b window box)

unfoldable pub box_asks : Point → Point → Rect → Rect → List Float
box_asks a b window box = asks_on_x a b window box ++ asks_on_y a b window box

-- ---- what is promised

-- 2 and 2 ^ -1074
abbrev pub two_f : Float
two_f = of_bits binary64 0x4000_0000_0000_0000

abbrev pub tiny : Float
tiny = of_bits binary64 1

-- each value that is asked for lies between the edge's own two coordinates: at a side of axis x those of y, at a side of axis y those of x
pub record OwnAsks (a b : Point) (window box : Rect) : Type 0 where
  pub on_x : every (holds (between a.y b.y)) (asks_on_x a b window box) ≡ true
  pub on_y : every (holds (between a.x b.x)) (asks_on_y a b window box) ≡ true

pub record Values : Type 0 where
  -- interpolate: no NaN wherever x is, and finite for x from a to b, in either order
  pub never_nan : (x a b a1 b1 : Float) → HandedIn (x ∷ a ∷ b ∷ a1 ∷ b1 ∷ [])
      → is_nan (value_or zero_f (value_or_refusal x a b a1 b1)) ≡ false
  pub finite_between : (x a b a1 b1 : Float) → HandedIn (x ∷ a ∷ b ∷ a1 ∷ b1 ∷ []) → In (between a b) x
      → finite (value_or zero_f (value_or_refusal x a b a1 b1)) ≡ true
  -- there it lies between a1 and b1, whichever of a and b, and of a1 and b1, is the greater
  pub between_ends : (x a b a1 b1 : Float) → HandedIn (x ∷ a ∷ b ∷ a1 ∷ b1 ∷ []) → value_refusal x a b a1 b1 ≡ done → In (between a b) x
      → In (between a1 b1) (value_or zero_f (value_or_refusal x a b a1 b1))
  -- at a it is a1 and at b it is b1, as numbers; where a = b it is a1
  pub at_a : (x a b a1 b1 : Float) → HandedIn (x ∷ a ∷ b ∷ a1 ∷ b1 ∷ []) → value_refusal x a b a1 b1 ≡ done → eq x a ≡ true
      → eq (value_or zero_f (value_or_refusal x a b a1 b1)) a1 ≡ true
  pub at_b : (x a b a1 b1 : Float) → HandedIn (x ∷ a ∷ b ∷ a1 ∷ b1 ∷ []) → value_refusal x a b a1 b1 ≡ done → eq x b ≡ true → eq a b ≡ false
      → eq (value_or zero_f (value_or_refusal x a b a1 b1)) b1 ≡ true
  pub level : (x a b a1 b1 : Float) → value_refusal x a b a1 b1 ≡ done → eq a b ≡ true → value_or_refusal x a b a1 b1 ≡ Ok a1
  -- for x elsewhere it may be infinite
  pub infinite_elsewhere : value_or_refusal one_f zero_f tiny zero_f one_f ≡ Ok (inf false)
  -- what is asked for is all that a cut takes from the line, but for the sign of its slope: two lines that are asked for the same values are cut alike
  pub axis_by_asks : (a0 b0 a1 b1 c0 d0 c1 d1 : Float) (this other : Interval) (negative : Bool) (window : Interval)
      → axis_asks a0 b0 this a1 b1 other negative window ≡ axis_asks c0 d0 this c1 d1 other negative window
      → axis_cut a0 b0 this a1 b1 other negative window ≡ axis_cut c0 d0 this c1 d1 other negative window
  pub box_by_asks : (a b c d : Point) (window box : Rect) → negative_slope a b ≡ negative_slope c d
      → box_asks a b window box ≡ box_asks c d window box → box_cut a b window box ≡ box_cut c d window box
  -- clip_edge: every value that is asked for is finite
  pub edge_asks : (a b : Point) (window : Rect) → HandedIn (floats_of a b window) → edge_refusal a b window ≡ done
      → every finite (box_asks a b window (box_of a b)) ≡ true
  -- clip_edge_bound and clip_bound_axis: none is a NaN, whatever the bound
  pub bound_asks : (a b : Point) (window bound : Rect) → HandedIn (floats_of a b window) → bound_refusal a b window bound ≡ done
      → every number (box_asks a b window bound) ≡ true
  pub axis_asks_lem : (a0 b0 : Float) (bound0 : Interval) (a1 b1 : Float) (bound1 : Interval) (negative : Bool) (window : Interval)
      → HandedIn (a0 ∷ b0 ∷ a1 ∷ b1 ∷ window.lo ∷ window.hi ∷ []) → axis_refusal a0 b0 bound0 a1 b1 bound1 window ≡ done
      → every number (axis_asks a0 b0 bound0 a1 b1 bound1 negative window) ≡ true
  -- clip_edge, clip_edge_bound and clip_bound_axis: with the edge's own box, or a bound within it, every value that is asked for lies between the edge's own coordinates
  pub edge_own_asks : (a b : Point) (window : Rect) → HandedIn (floats_of a b window) → edge_refusal a b window ≡ done
      → OwnAsks a b window (box_of a b)
  pub bound_own_asks : (a b : Point) (window bound : Rect) → HandedIn (floats_of a b window) → bound_refusal a b window bound ≡ done → PartRect bound (box_of a b)
      → OwnAsks a b window bound
  pub axis_own_asks : (a0 b0 : Float) (bound0 : Interval) (a1 b1 : Float) (bound1 : Interval) (negative : Bool) (window : Interval)
      → HandedIn (a0 ∷ b0 ∷ a1 ∷ b1 ∷ window.lo ∷ window.hi ∷ []) → axis_refusal a0 b0 bound0 a1 b1 bound1 window ≡ done → Part bound0 (between a0 b0)
      → every (holds (between a1 b1)) (axis_asks a0 b0 bound0 a1 b1 bound1 negative window) ≡ true
  -- a bound that reaches beyond the edge's box can ask beyond the edge's ends, where the value stays as it is, and may be infinite:
  -- the edge from (0, 0) to (2 ^ -1074, 1), the bound [0, 2] by [0, 1], the window [1, 2]
  pub infinite_asked : axis_asks zero_f tiny (from zero_f to two_f) zero_f one_f (from zero_f to one_f) false (from one_f to two_f) ≡ inf false ∷ []
  pub infinite_missed : axis_or_refusal zero_f tiny (from zero_f to two_f) zero_f one_f (from zero_f to one_f) false (from one_f to two_f)
      ≡ Err Missed
  -- edge_intersects_rect: each corner's place off the line is finite
  pub corners_finite : (a b : Point) (r : Rect) → HandedIn (floats_of a b r) → edge_refusal a b r ≡ done
      → (i j : Bool) → finite (off_line (ortho_of (difference_of b a)) a r i j) ≡ true
