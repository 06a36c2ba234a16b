-- The answers of module 4: the refusal, or what was cut, or that it is missed.
use Rattle.std.specs.Prelude.{Bool, not, Option, Some, None, Result, Ok, Err, ok_or, Float}
use Rattle.std.specs.Float.Ieee.{lt, eq}
use Rattle.float.specs.Choice.{when◌then◌else◌}
use Rattle.float.specs.Float.{zero_f}
use Rattle.answer.specs.Refusal.{value_or, ◌then◌}
use Rattle.answer.specs.declared.Refusal.{Refusal}
use Rattle.answer.specs.declared.Refusal.TheVariants.{Missed}
use Rattle.plane.specs.Point.{at}
use Rattle.plane.specs.Interval.{end_of}
use Rattle.plane.specs.Rect.{box_of}
use Rattle.plane.specs.declared.point.Point.{Point}
use Rattle.plane.specs.declared.interval.Interval.{Interval}
use Rattle.plane.specs.declared.rect.Rect.{Rect}
use Rattle.clip.specs.declared.compute.Both.{Both}
use Rattle.clip.specs.declared.Segment.{Segment}
use Rattle.clip.specs.Cut.{value_at, moved_end, axis_cut, box_cut, edge_meets}
use Rattle.clip.specs.Refuse.{value_refusal, end_refusal, axis_refusal, bound_refusal, edge_refusal}

-- what is left, or that nothing is
abbrev pub or_missed : {A : Type 0} → Option A → Result A Refusal
or_missed cut = ok_or cut Missed

-- ---- clip_edge

-- A's kept point takes, on each axis, the high end where a > b, else the low; B's takes the other.
unfoldable pub ends : Point → Point → Rect → Segment
ends a b r =
    record {
      ax = end_of r.x (lt b.x a.x);
      ay = end_of r.y (lt b.y a.y);
      bx = end_of r.x (not (lt b.x a.x));
      by = end_of r.y (not (lt b.y a.y));
    }

-- the edge as it is: b's coordinate, or a's where the two compare equal, since the box keeps the first
unfoldable pub second : Float → Float → Float
second a b = when eq a b then a else b

abbrev pub whole : Point → Point → Segment
whole a b = record { ax = a.x; ay = a.y; bx = second a.x b.x; by = second a.y b.y }

unfoldable pub edge_answer : Point → Point → Option Rect → Result Segment Refusal
edge_answer a b (Some r) = Ok (ends a b r)
edge_answer a b None = Err Missed

-- the refusal, or what is left of the box of A and B
unfoldable pub clipped : Point → Point → Rect → Result Segment Refusal
clipped a b window = edge_refusal a b window then edge_answer a b (box_cut a b window (box_of a b))

-- the points that stand beside document 01's number: zeros where the edge is missed or refused
abbrev pub points_of : Result Segment Refusal → Segment
points_of answer = value_or (record { ax = zero_f; ay = zero_f; bx = zero_f; by = zero_f }) answer

-- the two kept points
abbrev pub first_of : Segment → Point
first_of s = at s.ax s.ay

abbrev pub second_of : Segment → Point
second_of s = at s.bx s.by

-- ---- clip_edge_bound, clip_bound_axis, update_endpoint

abbrev pub bound_or_refusal : Point → Point → Rect → Rect → Result Rect Refusal
bound_or_refusal a b window bound = bound_refusal a b window bound then or_missed (box_cut a b window bound)

abbrev pub axis_or_refusal : Float → Float → Interval → Float → Float → Interval → Bool → Interval → Result Both Refusal
axis_or_refusal a0 b0 bound0 a1 b1 bound1 negative window =
    axis_refusal a0 b0 bound0 a1 b1 bound1 window then or_missed (axis_cut a0 b0 bound0 a1 b1 bound1 negative window)

abbrev pub end_or_refusal : Interval → Bool → Float → Result Interval Refusal
end_or_refusal bound high v = end_refusal bound v then or_missed (moved_end bound high v)

-- ---- edge_intersects_rect, interpolate

abbrev pub meets_or_refusal : Point → Point → Rect → Result Bool Refusal
meets_or_refusal a b window = edge_refusal a b window then Ok (edge_meets a b window)

abbrev pub value_or_refusal : Float → Float → Float → Float → Float → Result Float Refusal
value_or_refusal x a b a1 b1 = value_refusal x a b a1 b1 then Ok (value_at x a b a1 b1)
