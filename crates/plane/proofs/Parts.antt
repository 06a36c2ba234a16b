-- Parts of intervals and rectangles, and the values in them.
use mathlib.Core.Path.{◌≡◌, sym, ◌∙◌}
use mathlib.Core.Bool.{Bool, true, false, true≢false}
use lib.Ieee.{Float, le, lt, eq}
use Rattle.float.specs.Choice.{when◌then◌else◌}
use Rattle.float.proofs.Choice.{cases}
use Rattle.float.proofs.Order.{Num, le_num, le_refl, le_trans, lt_le, not_lt, le_not_lt, eq_le, between}
use Rattle.plane.specs.Interval.{is_empty, lesser, greater, end_of}
use Rattle.plane.specs.Within.{In, Some, Part, Ends, PartRect, EndsRect}
use Rattle.plane.specs.declared.interval.Interval.{Interval}
use Rattle.plane.specs.declared.rect.Rect.{Rect}

pub in_some : (i : Interval) (x : Float) → In i x → Some i
in_some i x h = le_trans _ _ _ h.low h.high

-- nothing lies in an empty one
pub empty_in : {A : Type 0} (i : Interval) (x : Float) → is_empty i ≡ true → In i x → A
unfolding is_empty
empty_in i x e h = absurd (true≢false (sym e ∙ le_not_lt _ _ (in_some i x h)))

pub part_refl : (i : Interval) → Some i → Part i i
part_refl i h = let n = le_num _ _ h in record { some = h; low = le_refl _ n.0; high = le_refl _ n.1 }

pub part_trans : (i j k : Interval) → Part i j → Part j k → Part i k
part_trans i j k p q = record { some = p.some; low = le_trans _ _ _ q.low p.low; high = le_trans _ _ _ p.high q.high }

-- what lies in an interval lies in a wider one
pub wider_in : {i j : Interval} {x : Float} → le j.lo i.lo ≡ true → le i.hi j.hi ≡ true → In i x → In j x
wider_in l u h = record { low = le_trans _ _ _ l h.low; high = le_trans _ _ _ h.high u }

pub part_in : (i j : Interval) (x : Float) → Part i j → In i x → In j x
part_in i j x p h = wider_in p.low p.high h

-- of two that compare equal, where one lies the other does
pub equal_in : (i : Interval) (x y : Float) → eq x y ≡ true → In i y → In i x
equal_in i x y e h = let (p, q) = eq_le x y e in record { low = le_trans _ _ _ h.low q; high = le_trans _ _ _ p h.high }

-- a part of an interval with finite ends has finite ends
pub part_ends : (i j : Interval) → Part i j → Ends j → Ends i
part_ends i j p e =
    record {
      low = between _ _ _ e.low e.high p.low (le_trans _ _ _ p.some p.high);
      high = between _ _ _ e.low e.high (le_trans _ _ _ p.low p.some) p.high;
    }

-- either end lies in it
pub end_in : (i : Interval) (high : Bool) → Some i → In i (end_of i high)
unfolding end_of when◌then◌else◌
end_in i true h = record { low = h; high = le_refl _ (le_num _ _ h).1 }
end_in i false h = record { low = le_refl _ (le_num _ _ h).0; high = h }

-- ---- the lesser of two is at most either, the greater at least
pub lesser_below : (x y : Float) → Num x → Num y → (le (lesser x y) x ≡ true) × (le (lesser x y) y ≡ true)
unfolding lesser
lesser_below x y m n = cases (λ (c : Float). (le c x ≡ true) × (le c y ≡ true)) (lt y x) y x (λ h. (lt_le _ _ h, le_refl y n)) (λ h. (le_refl x m, not_lt y x n m h))

pub greater_above : (x y : Float) → Num x → Num y → (le x (greater x y) ≡ true) × (le y (greater x y) ≡ true)
unfolding greater
greater_above x y m n = cases (λ (c : Float). (le x c ≡ true) × (le y c ≡ true)) (lt x y) y x (λ h. (lt_le _ _ h, le_refl y n)) (λ h. (le_refl x m, not_lt x y m n h))

-- ---- the same on both axes
pub rect_ends : (r q : Rect) → PartRect r q → EndsRect q → EndsRect r
rect_ends r q p e = record { x = part_ends _ _ p.x e.x; y = part_ends _ _ p.y e.y }
