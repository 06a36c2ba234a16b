-- What is promised of intervals and rectangles. Statements only; proofs/Promises.antt has the proofs.
-- A float of which nothing is asked is any float, an infinity or a NaN too.
use Rattle.std.specs.Prelude.{◌≡◌, ◌↔◌, ◌⊎◌, true, false, Float}
use Rattle.std.specs.Float.Ieee.{eq}
use Rattle.plane.specs.Point.{finite_point}
use Rattle.plane.specs.Interval.{from◌to◌, is_empty, holds, contains, intersects, union_of, intersection_of, between, finite_interval}
use Rattle.plane.specs.Rect.{empty_rect, box_of, contains_point, contains_rect, intersects_rect, union_rect, intersection_rect, finite_rect}
use Rattle.plane.specs.Within.{In, Share, InRect, PartRect, ShareRect}
use Rattle.plane.specs.declared.point.Point.{Point}
use Rattle.plane.specs.declared.interval.Interval.{Interval}
use Rattle.plane.specs.declared.rect.Rect.{Rect}

-- of two intervals with finite ends, as the entries take them
pub record OfTwo (i j : Interval) : Type 0 where
  -- they intersect exactly where they share a number
  pub intersects_share : intersects i j ≡ true ↔ Share i j
  -- the first contains the second exactly where every number in the second is in the first
  pub contains_all : contains i j ≡ true ↔ ((x : Float) → In j x → In i x)
  -- a number is in the intersection exactly where it is in both
  pub in_both : (x : Float) → In (intersection_of i j) x ↔ (In i x × In j x)
  -- a number in either is in the union, which contains both
  pub in_either : (x : Float) → In i x ⊎ In j x → In (union_of i j) x
  pub union_contains : (contains (union_of i j) i ≡ true) × (contains (union_of i j) j ≡ true)

-- of two rectangles with finite sides, as the entries take them
pub record OfTwoRects (r q : Rect) : Type 0 where
  -- they intersect exactly where they share a point
  pub rects_share : intersects_rect r q ≡ true ↔ ShareRect r q
  -- the first contains the second exactly where, on each axis, every number in the second is in the first
  pub contains_axes : contains_rect r q ≡ true
      ↔ (((x : Float) → In q.x x → In r.x x) × ((y : Float) → In q.y y → In r.y y))
  -- for a second that is empty on both axes or on neither: exactly where every point in the second is in the first.
  -- One that is empty on one axis alone has no point, and its other axis is still asked for.
  pub contains_points : is_empty q.x ≡ is_empty q.y → contains_rect r q ≡ true ↔ ((p : Point) → InRect q p → InRect r p)
  -- a point is in the intersection exactly where it is in both
  pub points_both : (p : Point) → InRect (intersection_rect r q) p ↔ (InRect r p × InRect q p)
  -- a point in either is in the union, which contains both
  pub points_either : (p : Point) → InRect r p ⊎ InRect q p → InRect (union_rect r q) p
  pub union_both : (contains_rect (union_rect r q) r ≡ true) × (contains_rect (union_rect r q) q ≡ true)

pub record Promises : Type 0 where
  -- closed: it holds a number exactly where lo <= the number <= hi
  pub holds_in : (i : Interval) (x : Float) → holds i x ≡ true ↔ In i x
  -- an empty one holds nothing, lies in every interval and adds nothing to a union
  pub empty_holds : (i : Interval) (x : Float) → is_empty i ≡ true → holds i x ≡ false
  pub empty_contained : (i j : Interval) → is_empty j ≡ true → contains i j ≡ true
  pub empty_first : (i j : Interval) → is_empty i ≡ true → union_of i j ≡ j
  pub empty_second : (i j : Interval) → is_empty i ≡ false → is_empty j ≡ true → union_of i j ≡ i
  -- a union lies within every interval that contains both
  pub union_least : (i j k : Interval) → contains k i ≡ true → contains k j ≡ true → contains k (union_of i j) ≡ true
  pub of_two : (i j : Interval) → finite_interval i ≡ true → finite_interval j ≡ true → OfTwo i j
  -- a rectangle: the same on both axes
  pub contains_in : (r : Rect) (p : Point) → contains_point r p ≡ true ↔ InRect r p
  pub of_two_rects : (r q : Rect) → finite_rect r ≡ true → finite_rect q ≡ true → OfTwoRects r q
  pub union_least_rect : (r q s : Rect) → contains_rect s r ≡ true → contains_rect s q ≡ true → contains_rect s (union_rect r q) ≡ true
  -- `intersection` gives the empty rectangle when either axis comes out empty, and only then
  pub empty_axis : (r q : Rect) → intersection_rect r q ≡ empty_rect
      ↔ ((is_empty (intersection_of r.x q.x) ≡ true) ⊎ (is_empty (intersection_of r.y q.y) ≡ true))
  -- the box of two points holds both, and is the least rectangle that does
  pub box_holds : (a b : Point) → finite_point a ≡ true → finite_point b ≡ true → InRect (box_of a b) a × InRect (box_of a b) b
  pub box_least : (a b : Point) (r : Rect) → InRect r a → InRect r b → PartRect (box_of a b) r
  -- on each axis it keeps the first point's coordinate where two compare equal
  pub box_first : (a b : Float) → eq a b ≡ true → between a b ≡ from a to a
