-- What the entries of module 4 refuse, in document 01's order for the plane: 2, then 3.
use Rattle.std.specs.Prelude.{Bool, true, false, pos, Result, Float}
use Rattle.std.specs.Float.{fin}
use Rattle.std.specs.Float.Ieee.{le}
use Rattle.float.specs.Choice.{◌and◌}
use Rattle.float.specs.Float.{magnitude_of}
use Rattle.answer.specs.Refusal.{unless◌refuse◌else◌, done}
use Rattle.answer.specs.declared.Refusal.{Refusal}
use Rattle.answer.specs.declared.Refusal.TheVariants.{NotFinite, BadWindow}
use Rattle.plane.specs.declared.point.Point.{Point}
use Rattle.plane.specs.declared.interval.Interval.{Interval}
use Rattle.plane.specs.declared.rect.Rect.{Rect}

-- 2 ^ 500
abbrev pub limit : Float
limit = fin false 1 (pos 500)

-- what is admitted as a point's coordinate, and as a window's side: at most 2 ^ 500 in magnitude, which no NaN and no infinity is
unfoldable pub coordinate : Float → Bool
coordinate x = le (magnitude_of x) limit

unfoldable pub side : Float → Bool
side x = le (magnitude_of x) limit

-- 2 for a float other than the window's, then 3 for the window
unfoldable pub plane_refusal : Bool → Bool → Result (Unit {0}) Refusal
plane_refusal points window = unless points refuse NotFinite else unless window refuse BadWindow else done

-- ---- points, bounds and windows

abbrev pub coordinates : Float → Float → Bool
coordinates x y = coordinate x and coordinate y

abbrev pub point_fine : Point → Bool
point_fine p = coordinates p.x p.y

abbrev pub bound_fine : Interval → Bool
bound_fine i = coordinates i.lo i.hi

abbrev pub box_fine : Rect → Bool
box_fine r = bound_fine r.x and bound_fine r.y

-- a window's sides are admitted, and lo is at most hi
unfoldable pub sides_fine : Interval → Bool
sides_fine i = (side i.lo and side i.hi) and le i.lo i.hi

unfoldable pub window_fine : Rect → Bool
window_fine r = sides_fine r.x and sides_fine r.y

-- ---- the entries

abbrev pub edge_refusal : Point → Point → Rect → Result (Unit {0}) Refusal
edge_refusal a b window = plane_refusal (point_fine a and point_fine b) (window_fine window)

abbrev pub bound_refusal : Point → Point → Rect → Rect → Result (Unit {0}) Refusal
bound_refusal a b window bound = plane_refusal ((point_fine a and point_fine b) and box_fine bound) (window_fine window)

-- the window is one interval: 3 over that axis alone
abbrev pub axis_refusal : Float → Float → Interval → Float → Float → Interval → Interval → Result (Unit {0}) Refusal
axis_refusal a0 b0 bound0 a1 b1 bound1 window =
    plane_refusal ((coordinates a0 b0 and coordinates a1 b1) and (bound_fine bound0 and bound_fine bound1)) (sides_fine window)

abbrev pub end_refusal : Interval → Float → Result (Unit {0}) Refusal
end_refusal bound v = plane_refusal (bound_fine bound and coordinate v) true

abbrev pub value_refusal : Float → Float → Float → Float → Float → Result (Unit {0}) Refusal
value_refusal x a b a1 b1 = plane_refusal (coordinate x and (coordinates a b and coordinates a1 b1)) true
