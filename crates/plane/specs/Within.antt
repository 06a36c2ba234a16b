-- What it is to lie in an interval or a rectangle, and to share a point: the words of the promises.
use Rattle.std.specs.Prelude.{◌≡◌, true, Float}
use Rattle.std.specs.Float.Ieee.{le}
use Rattle.float.specs.Float.{finite}
use Rattle.plane.specs.declared.point.Point.{Point}
use Rattle.plane.specs.declared.interval.Interval.{Interval}
use Rattle.plane.specs.declared.rect.Rect.{Rect}

-- x lies in i
pub record In (i : Interval) (x : Float) : Type 0 where
  pub low : le i.lo x ≡ true
  pub high : le x i.hi ≡ true

-- i is not empty, and neither end is a NaN
abbrev pub Some : Interval → Type 0
Some i = le i.lo i.hi ≡ true

-- i is not empty and lies within j
pub record Part (i j : Interval) : Type 0 where
  pub some : Some i
  pub low : le j.lo i.lo ≡ true
  pub high : le i.hi j.hi ≡ true

-- both ends are finite
pub record Ends (i : Interval) : Type 0 where
  pub low : finite i.lo ≡ true
  pub high : finite i.hi ≡ true

-- a number lies in both
abbrev pub Share : Interval → Interval → Type 0
Share i j = (x : Float) × In i x × In j x

-- ---- the same on both axes
pub record InRect (r : Rect) (p : Point) : Type 0 where
  pub x : In r.x p.x
  pub y : In r.y p.y

pub record SomeRect (r : Rect) : Type 0 where
  pub x : Some r.x
  pub y : Some r.y

pub record PartRect (r q : Rect) : Type 0 where
  pub x : Part r.x q.x
  pub y : Part r.y q.y

pub record EndsRect (r : Rect) : Type 0 where
  pub x : Ends r.x
  pub y : Ends r.y

abbrev pub ShareRect : Rect → Rect → Type 0
ShareRect r q = (p : Point) × InRect r p × InRect q p
