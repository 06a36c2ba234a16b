-- A point in a window that is not refused is not refused either: each of its coordinates lies between two sides.
use mathlib.Core.Path.{◌≡◌}
use mathlib.Core.Bool.{true}
use lib.Ieee.{Float}
use Rattle.float.proofs.Choice.{and_parts, and_both}
use Rattle.float.proofs.Size.{magnitude_between}
use Rattle.plane.specs.Interval.{holds}
use Rattle.plane.specs.Rect.{contains_point}
use Rattle.plane.specs.declared.point.Point.{Point}
use Rattle.plane.specs.declared.interval.Interval.{Interval}
use Rattle.plane.specs.declared.rect.Rect.{Rect}
use Rattle.clip.specs.Refuse.{coordinate, side, point_fine, sides_fine, window_fine}

inside_coordinate : (i : Interval) (x : Float) → sides_fine i ≡ true → holds i x ≡ true → coordinate x ≡ true
unfolding sides_fine side coordinate holds
inside_coordinate i x f h =
    let (low, high) = and_parts _ _ (and_parts _ _ f).0 in
    let (above, below) = and_parts _ _ h in
    magnitude_between x i.lo i.hi _ above below low high

pub inside_fine : (w : Rect) (p : Point) → window_fine w ≡ true → contains_point w p ≡ true → point_fine p ≡ true
unfolding window_fine contains_point
inside_fine w p f h =
    let (fx, fy) = and_parts _ _ f in
    let (hx, hy) = and_parts _ _ h in
    and_both _ _ (inside_coordinate w.x p.x fx hx) (inside_coordinate w.y p.y fy hy)
