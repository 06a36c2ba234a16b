-- What the functions inside give. No entry's contract and no promise cites it: a reader of those can pass it over.
use Rattle.std.specs.Prelude.{Bool, ◌&&◌, ◌||◌, Float}
use Rattle.std.specs.Float.Ieee.{lt, le}
use Rattle.plane.specs.declared.point.Point.{Point}
use Rattle.plane.specs.declared.interval.Interval.{Interval}
use Rattle.plane.specs.declared.rect.Rect.{Rect}

-- ---- the early answers of an edge: tests that tell without a cut that all of it is kept, or nothing; proofs/Early.antt has why they are right

abbrev pub both_in : Interval → Float → Float → Bool
both_in i a b = le i.lo a && le a i.hi && le i.lo b && le b i.hi

-- both ends of the edge lie in the window
abbrev pub inside_window : Point → Point → Rect → Bool
inside_window a b window = both_in window.x a.x b.x && both_in window.y a.y b.y

-- i lies past the low side of j, or past the high
abbrev pub past : Interval → Interval → Bool
past i j = lt i.hi j.lo || lt j.hi i.lo

abbrev pub apart : Rect → Rect → Bool
apart r window = past r.x window.x || past r.y window.y
