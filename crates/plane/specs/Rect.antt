-- Module 3: the rectangle, a closed interval on each axis.
use Rattle.std.specs.Prelude.{Bool, true, false, List, [], ◌∷◌}
use Rattle.float.specs.Choice.{when◌then◌else◌, ◌and◌}
use Rattle.plane.specs.Point.{at}
use Rattle.plane.specs.Interval.{empty_interval, is_empty, holds, contains, intersects, union_of, intersection_of, between, end_of, finite_interval}
use Rattle.plane.specs.declared.point.Point.{Point}
use Rattle.plane.specs.declared.interval.Interval.{Interval}
use Rattle.plane.specs.declared.rect.Rect.{Rect}

infix 10 ◌by◌
abbrev pub ◌by◌ : Interval → Interval → Rect
i by j = record { x = i; y = j }

-- the empty rectangle: lo 1 and hi 0 on both axes
abbrev pub empty_rect : Rect
empty_rect = empty_interval by empty_interval

-- the box of two points keeps the first point's coordinate where two compare equal
abbrev pub box_of : Point → Point → Rect
box_of a b = between a.x b.x by between a.y b.y

-- the corner on the high side of x where i, on the high side of y where j
abbrev pub corner_of : Rect → Bool → Bool → Point
corner_of r i j = at (end_of r.x i) (end_of r.y j)

-- the four corners, from the low one against the clock
abbrev pub vertices_of : Rect → List Point
vertices_of r = corner_of r false false ∷ corner_of r true false ∷ corner_of r true true ∷ corner_of r false true ∷ []

-- reads x alone
abbrev pub is_empty_rect : Rect → Bool
is_empty_rect r = is_empty r.x

unfoldable pub contains_point : Rect → Point → Bool
contains_point r p = holds r.x p.x and holds r.y p.y

unfoldable pub contains_rect : Rect → Rect → Bool
contains_rect r q = contains r.x q.x and contains r.y q.y

unfoldable pub intersects_rect : Rect → Rect → Bool
intersects_rect r q = intersects r.x q.x and intersects r.y q.y

-- axis by axis, empty ones too
abbrev pub union_rect : Rect → Rect → Rect
union_rect r q = union_of r.x q.x by union_of r.y q.y

-- the empty rectangle when either axis comes out empty
unfoldable pub or_empty : Interval → Interval → Rect
or_empty x y = when is_empty x then empty_rect else when is_empty y then empty_rect else x by y

abbrev pub intersection_rect : Rect → Rect → Rect
intersection_rect r q = or_empty (intersection_of r.x q.x) (intersection_of r.y q.y)

unfoldable pub finite_rect : Rect → Bool
finite_rect r = finite_interval r.x and finite_interval r.y
