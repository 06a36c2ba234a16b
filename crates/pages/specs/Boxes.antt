-- The box of the live edges among some neighbouring edges, and the boxes of their halves as a list of floats.
use Rattle.std.specs.Prelude.{ℕ, ◌+◌, Bool, Option, None, Some, List, [], ◌∷◌, ◌++◌, Float}
use Rattle.std.specs.Option.{is_some, unwrap_or}
use Rattle.float.specs.Choice.{when◌then◌else◌, ◌and◌}
use Rattle.float.specs.Float.{zero_f, one_f}
use Rattle.plane.specs.Rect.{empty_rect, box_of, union_rect}
use Rattle.plane.specs.declared.point.Point.{Point}
use Rattle.plane.specs.declared.rect.Rect.{Rect}
use Rattle.clip.specs.Refuse.{point_fine}
use Rattle.trace.specs.Promises.{sample_at}
use Rattle.pages.specs.Halves.{Halves, single, halved, edges_in}

-- an edge is live where neither sample is refused
abbrev pub live_edge : Point → Point → Bool
live_edge a b = point_fine a and point_fine b

unfoldable pub edge_extent : Point → Point → Option Rect
edge_extent a b = when live_edge a b then Some (box_of a b) else None

-- of both
abbrev pub joined : Option Rect → Option Rect → Option Rect
joined None f = f
joined (Some r) None = Some r
joined (Some r) (Some q) = Some (union_rect r q)

-- of the edges from edge k on; none where no edge is live
unfoldable pub extent_of : List Point → Halves → ℕ → Option Rect
extent_of ps single k = edge_extent (sample_at k ps) (sample_at (k + 1) ps)
extent_of ps (halved f s) k = joined (extent_of ps f k) (extent_of ps s (k + edges_in f))

-- the empty rectangle where there is no live edge
abbrev pub rect_of : Option Rect → Rect
rect_of e = unwrap_or e empty_rect

-- five floats a box: low x, low y, high x, high y, and the mark, 1 where a live edge is below, else 0
abbrev pub five_floats : Option Rect → List Float
five_floats e =
    let r = rect_of e in
    r.x.lo ∷ r.y.lo ∷ r.x.hi ∷ r.y.hi ∷ (when is_some e then one_f else zero_f) ∷ []

-- the box of all, then the boxes of the first half, then those of the second
unfoldable pub boxes_of : List Point → Halves → ℕ → List Float
boxes_of ps single k = five_floats (extent_of ps single k)
boxes_of ps (halved f s) k =
    five_floats (extent_of ps (halved f s) k) ++ (boxes_of ps f k ++ boxes_of ps s (k + edges_in f))
