-- The written search: down the halves to the lowest-numbered kept edge, over any floats that are lent as boxes.
use Rattle.std.specs.Prelude.{ℕ, ◌+◌, ◌*◌, Bool, true, None, Some, List, Float, get_or}
use Rattle.std.specs.Option.{is_some}
use Rattle.std.specs.Float.{nan}
use Rattle.std.specs.Float.Ieee.{eq}
use Rattle.float.specs.Choice.{when◌then◌else◌, ◌and◌}
use Rattle.float.specs.Float.{one_f}
use Rattle.plane.specs.Interval.{from◌to◌}
use Rattle.plane.specs.Rect.{◌by◌, intersects_rect}
use Rattle.plane.specs.declared.point.Point.{Point}
use Rattle.plane.specs.declared.rect.Rect.{Rect}
use Rattle.trace.specs.Trace.{edge_cut}
use Rattle.trace.specs.Records.{is_kept}
use Rattle.trace.specs.Promises.{sample_at}
use Rattle.pages.specs.Halves.{Halves, single, halved, edges_in}
use Rattle.pages.specs.declared.Found.{Found}

-- ---- a box, and an edge

-- the box at a place
abbrev pub box_at : List Float → ℕ → Rect
box_at bs i =
    (from get_or bs (5 * i) nan to get_or bs (5 * i + 2) nan) by (from get_or bs (5 * i + 1) nan to get_or bs (5 * i + 3) nan)

-- it has its mark, and does not miss the window: with a NaN in it, it does
unfoldable pub opens : List Float → Rect → ℕ → Bool
opens bs w i = eq (get_or bs (5 * i + 4) nan) one_f and intersects_rect (box_at bs i) w

-- edge k is kept in the window, by W1's rules with touches
unfoldable pub kept_at : Rect → List Point → ℕ → Bool
kept_at w ps k = is_kept (edge_cut true w (sample_at k ps) (sample_at (k + 1) ps))

-- ---- the search

-- an edge, or none; and how many boxes were opened
abbrev pub found : ℕ → ℕ → Found
found k opened = record { edge = Some k; opened = opened }

abbrev pub none : ℕ → Found
none opened = record { edge = None; opened = opened }

-- what the first half gives, or else what the second does; the box of both counts as well
unfoldable pub first_of : Found → Found → Found
first_of f s =
    when is_some f.edge then record { edge = f.edge; opened = f.opened + 1 }
    else record { edge = s.edge; opened = f.opened + s.opened + 1 }

-- among the edges from edge k on, whose boxes lie from place i on: the halves' boxes are at i + 1 and past those of the first half
unfoldable pub search : List Float → Rect → List Point → Halves → ℕ → ℕ → Found
search bs w ps single i k = when opens bs w i and kept_at w ps k then found k 1 else none 1
search bs w ps (halved f s) i k =
    when opens bs w i then first_of (search bs w ps f (i + 1) k) (search bs w ps s (i + 2 * edges_in f) (k + edges_in f))
    else none 1
