-- The same cut side by side, as the code's one loop goes: so many sides in turn, the axes changing places after each high one. In the edge's own box a value of the line is held only where it would lose the edge, and the nearer end is told without magnitudes; proofs/OwnBox.antt and proofs/OwnLine.antt have why that is the same. No entry's contract and no promise cites it: a reader of those can pass it over.
use Rattle.std.specs.Prelude.{ℕ, zero, suc, Bool, true, false, not, Option, Some, None, Float}
use Rattle.std.specs.Float.Ieee.{lt, le, eq, unlike}
use Rattle.float.specs.Choice.{when◌then◌else◌, ◌and◌}
use Rattle.float.specs.Float.{◌⊖◌}
use Rattle.plane.specs.Interval.{end_of}
use Rattle.plane.specs.Rect.{◌by◌}
use Rattle.plane.specs.declared.point.Point.{Point}
use Rattle.plane.specs.declared.interval.Interval.{Interval}
use Rattle.plane.specs.declared.rect.Rect.{Rect}
use Rattle.clip.specs.declared.compute.Axis.{Axis}
use Rattle.clip.specs.declared.compute.Both.{Both}
use Rattle.clip.specs.Cut.{from_end, value_at, inward, moved_end, side_with}

abbrev pub axis_with : Float → Float → Interval → Interval → Axis
axis_with a b bound clip = record { a = a; b = b; bound = bound; clip = clip }

-- the two axes of the line from a to b, of a window and of a box
abbrev pub axis_x : Point → Point → Rect → Rect → Axis
axis_x a b window box = axis_with a.x b.x box.x window.x

abbrev pub axis_y : Point → Point → Rect → Rect → Axis
axis_y a b window box = axis_with a.y b.y box.y window.y

-- the axis with what is left of its bound
abbrev pub bounded_by : Axis → Interval → Axis
bounded_by t i = axis_with t.a t.b i t.clip

-- ---- the line's value in the edge's own box: x lies from a to b, in either order

-- whether a is the nearer end
unfoldable pub a_nearer : Float → Float → Float → Bool
a_nearer x a b = when lt b a then le (a ⊖ x) (x ⊖ b) else le (x ⊖ a) (b ⊖ x)

unfoldable pub own_line : Float → Float → Float → Float → Float → Float
own_line x a b a1 b1 = when a_nearer x a b then from_end x a b a1 b1 else from_end x b a b1 a1

-- ---- an end moved to the line's value

-- where a side cuts this axis, the edge's own end of the other that stays: the coordinate of the point at this axis' other end
unfoldable pub own_end : Bool → Axis → Axis → Float
own_end high this other = when unlike high (lt this.b this.a) then other.a else other.b

-- past the end that stays: lost, unless that is still the edge's own
unfoldable pub stayed : Interval → Bool → Float → Option Interval
stayed i high own = when eq (end_of i (not high)) own then moved_end i high own else None

-- by a value of the line that is not held
unfoldable pub own_moved : Interval → Bool → Float → Float → Option Interval
own_moved i high v own =
    when inward high v (end_of i high) and inward high v (end_of i (not high)) then stayed i high own
    else moved_end i high v

-- in the edge's own box, or in any
unfoldable pub line_moved : Bool → Bool → Axis → Axis → Bool → Option Interval
line_moved own high this other end =
    let side = end_of this.clip high in
    when own then own_moved other.bound end (own_line side this.a this.b other.a other.b) (own_end high this other)
    else moved_end other.bound end (value_at side this.a this.b other.a other.b)

-- ---- the sides

-- the cut of one side, on two axes
unfoldable pub turn_cut : Bool → Bool → Axis → Axis → Bool → Option Both
turn_cut own high this other negative =
    side_with high this.bound other.bound this.clip (line_moved own high this other (unlike high negative))

unfoldable pub where_left : Option Both → (Both → Option Rect) → Option Rect
where_left (Some s) rest = rest s
where_left None rest = None

-- so many sides, from the low or the high one of the first axis on
unfoldable pub sides_cut : Bool → ℕ → Bool → Axis → Axis → Bool → Option Rect
sides_cut own zero high this other negative = Some (this.bound by other.bound)
sides_cut own (suc k) high this other negative =
    where_left (turn_cut own high this other negative) (λ (s : Both).
    when high then sides_cut own k false (bounded_by other s.other) (bounded_by this s.this) negative
    else sides_cut own k true (bounded_by this s.this) (bounded_by other s.other) negative)
