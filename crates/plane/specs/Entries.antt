-- The entries of modules 1 to 3: each refuses a float handed in that is not finite, and else gives its value.
use Rattle.std.specs.Prelude.{ℕ, Bool, true, false, not, eqb, Float, List, Result, Ok}
use Rattle.float.specs.Choice.{◌and◌}
use Rattle.float.specs.Float.{finite}
use Rattle.answer.specs.Refusal.{unless◌refuse◌else◌}
use Rattle.answer.specs.declared.Refusal.{Refusal}
use Rattle.answer.specs.declared.Refusal.TheVariants.{NotFinite}
use Rattle.plane.specs.Point.{at, sum_of, difference_of, scaled_by, ortho_of, dot_of, cross_of, finite_point}
use Rattle.plane.specs.Interval.{is_empty, holds, contains, intersects, union_of, intersection_of, between, finite_interval}
use Rattle.plane.specs.Rect.{box_of, corner_of, vertices_of, is_empty_rect, contains_point, contains_rect, intersects_rect, union_rect, intersection_rect, finite_rect}
use Rattle.plane.specs.declared.point.Point.{Point}
use Rattle.plane.specs.declared.interval.Interval.{Interval}
use Rattle.plane.specs.declared.rect.Rect.{Rect}

-- ---- points

abbrev pub new_or_refusal : Float → Float → Result Point Refusal
new_or_refusal x y = unless finite x and finite y refuse NotFinite else Ok (at x y)

abbrev pub ortho_or_refusal : Point → Result Point Refusal
ortho_or_refusal p = unless finite_point p refuse NotFinite else Ok (ortho_of p)

abbrev pub dot_or_refusal : Point → Point → Result Float Refusal
dot_or_refusal p q = unless finite_point p and finite_point q refuse NotFinite else Ok (dot_of p q)

abbrev pub cross_or_refusal : Point → Point → Result Float Refusal
cross_or_refusal p q = unless finite_point p and finite_point q refuse NotFinite else Ok (cross_of p q)

abbrev pub sum_or_refusal : Point → Point → Result Point Refusal
sum_or_refusal p q = unless finite_point p and finite_point q refuse NotFinite else Ok (sum_of p q)

abbrev pub difference_or_refusal : Point → Point → Result Point Refusal
difference_or_refusal p q = unless finite_point p and finite_point q refuse NotFinite else Ok (difference_of p q)

abbrev pub scaled_or_refusal : Point → Float → Result Point Refusal
scaled_or_refusal p factor = unless finite_point p and finite factor refuse NotFinite else Ok (scaled_by p factor)

-- ---- intervals

abbrev pub is_empty_or_refusal : Interval → Result Bool Refusal
is_empty_or_refusal i = unless finite_interval i refuse NotFinite else Ok (is_empty i)

abbrev pub holds_or_refusal : Interval → Float → Result Bool Refusal
holds_or_refusal i x = unless finite_interval i and finite x refuse NotFinite else Ok (holds i x)

abbrev pub contains_or_refusal : Interval → Interval → Result Bool Refusal
contains_or_refusal i j = unless finite_interval i and finite_interval j refuse NotFinite else Ok (contains i j)

abbrev pub intersects_or_refusal : Interval → Interval → Result Bool Refusal
intersects_or_refusal i j = unless finite_interval i and finite_interval j refuse NotFinite else Ok (intersects i j)

abbrev pub union_or_refusal : Interval → Interval → Result Interval Refusal
union_or_refusal i j = unless finite_interval i and finite_interval j refuse NotFinite else Ok (union_of i j)

abbrev pub intersection_or_refusal : Interval → Interval → Result Interval Refusal
intersection_or_refusal i j = unless finite_interval i and finite_interval j refuse NotFinite else Ok (intersection_of i j)

abbrev pub between_or_refusal : Float → Float → Result Interval Refusal
between_or_refusal a b = unless finite a and finite b refuse NotFinite else Ok (between a b)

-- ---- rectangles

abbrev pub box_or_refusal : Point → Point → Result Rect Refusal
box_or_refusal a b = unless finite_point a and finite_point b refuse NotFinite else Ok (box_of a b)

abbrev pub vertices_or_refusal : Rect → Result (List Point) Refusal
vertices_or_refusal r = unless finite_rect r refuse NotFinite else Ok (vertices_of r)

abbrev pub corner_or_refusal : Rect → Bool → Bool → Result Point Refusal
corner_or_refusal r i j = unless finite_rect r refuse NotFinite else Ok (corner_of r i j)

-- vertex_ij: 0 is low, any other number high
abbrev pub vertex_or_refusal : Rect → ℕ → ℕ → Result Point Refusal
vertex_or_refusal r i j = corner_or_refusal r (not (eqb i 0)) (not (eqb j 0))

abbrev pub lo_or_refusal : Rect → Result Point Refusal
lo_or_refusal r = corner_or_refusal r false false

abbrev pub hi_or_refusal : Rect → Result Point Refusal
hi_or_refusal r = corner_or_refusal r true true

abbrev pub is_empty_rect_or_refusal : Rect → Result Bool Refusal
is_empty_rect_or_refusal r = unless finite_rect r refuse NotFinite else Ok (is_empty_rect r)

abbrev pub contains_point_or_refusal : Rect → Point → Result Bool Refusal
contains_point_or_refusal r p = unless finite_rect r and finite_point p refuse NotFinite else Ok (contains_point r p)

abbrev pub contains_rect_or_refusal : Rect → Rect → Result Bool Refusal
contains_rect_or_refusal r q = unless finite_rect r and finite_rect q refuse NotFinite else Ok (contains_rect r q)

abbrev pub intersects_rect_or_refusal : Rect → Rect → Result Bool Refusal
intersects_rect_or_refusal r q = unless finite_rect r and finite_rect q refuse NotFinite else Ok (intersects_rect r q)

abbrev pub union_rect_or_refusal : Rect → Rect → Result Rect Refusal
union_rect_or_refusal r q = unless finite_rect r and finite_rect q refuse NotFinite else Ok (union_rect r q)

abbrev pub intersection_rect_or_refusal : Rect → Rect → Result Rect Refusal
intersection_rect_or_refusal r q = unless finite_rect r and finite_rect q refuse NotFinite else Ok (intersection_rect r q)
