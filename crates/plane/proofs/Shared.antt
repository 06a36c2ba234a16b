-- `intersects` says yes exactly where a point is shared.
use mathlib.Core.Path.{◌≡◌}
use mathlib.Core.Bool.{Bool, true}
use Rattle.float.proofs.Choice.{split, cases, and_parts, and_both}
use Rattle.float.proofs.Order.{Num, le_num, le_refl, le_trans, lt_le, not_le}
use Rattle.plane.specs.Interval.{intersects}
use Rattle.plane.specs.Rect.{box_of, intersects_rect}
use Rattle.plane.specs.Within.{Share, ShareRect}
use Rattle.plane.specs.declared.point.Point.{Point}
use Rattle.plane.specs.declared.interval.Interval.{Interval}
use Rattle.plane.specs.declared.rect.Rect.{Rect}
use Rattle.plane.proofs.Parts.{in_some}
use Rattle.plane.proofs.Between.{between_num}

-- the higher low end is the shared point; no low end of j alone is a NaN
pub intersects_share : (i j : Interval) → (Num j.hi → Num j.lo) → intersects i j ≡ true → Share i j
unfolding intersects
intersects_share i j n e =
    split _ _ _ _ e
    (λ p h. let (q, k) = and_parts _ _ h in (j.lo, record { low = p; high = q }, record { low = le_refl _ (le_num _ _ k).0; high = k }))
    (λ p h.
    let (q, k) = and_parts _ _ h in
    let (u, v) = le_num _ _ q in
    (i.lo, record { low = le_refl _ u; high = k }, record { low = lt_le _ _ (not_le _ _ u (n v) p); high = q }))

pub share_intersects : (i j : Interval) → Share i j → intersects i j ≡ true
unfolding intersects
share_intersects i j (x, p, q) =
    cases (λ (b : Bool). b ≡ true) _ _ _ (λ h. and_both _ _ (le_trans _ _ _ q.low p.high) (in_some j x q))
    (λ h. and_both _ _ (le_trans _ _ _ p.low q.high) (in_some i x p))

-- ---- the same on both axes
pub intersects_share_rect : (r q : Rect) → (Num q.x.hi → Num q.x.lo) → (Num q.y.hi → Num q.y.lo) → intersects_rect r q ≡ true → ShareRect r q
unfolding intersects_rect
intersects_share_rect r q m n e =
    let (p, o) = and_parts _ _ e in
    let (x, i, j) = intersects_share r.x q.x m p in
    let (y, k, l) = intersects_share r.y q.y n o in
    (record { x = x; y = y }, record { x = i; y = k }, record { x = j; y = l })

-- the box of two points, NaN included
pub box_share : (r : Rect) (a b : Point) → intersects_rect r (box_of a b) ≡ true → ShareRect r (box_of a b)
box_share r a b = intersects_share_rect r (box_of a b) (between_num a.x b.x) (between_num a.y b.y)

pub share_intersects_rect : (r q : Rect) → ShareRect r q → intersects_rect r q ≡ true
unfolding intersects_rect
share_intersects_rect r q (p, i, j) = and_both _ _ (share_intersects _ _ (p.x, i.x, j.x)) (share_intersects _ _ (p.y, i.y, j.y))
