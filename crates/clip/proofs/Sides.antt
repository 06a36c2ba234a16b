-- One argument for both ends of an interval: the order as seen from the high end, or from the low.
use mathlib.Core.Path.{◌≡◌, refl}
use mathlib.Core.Bool.{Bool, true, false, not}
use lib.Ieee.{Float, le, eq}
use Rattle.float.specs.Choice.{when◌then◌else◌}
use Rattle.float.proofs.Order.{Num, le_num, le_refl, le_trans, lt_le, not_lt, le_not_lt, eq_le}
use Rattle.plane.specs.Interval.{end_of}
use Rattle.plane.specs.Within.{In, Some, Part}
use Rattle.plane.specs.declared.interval.Interval.{Interval}
use Rattle.clip.specs.Cut.{inward, with_end}

-- inward or equal
abbrev pub up_to : Bool → Float → Float → Bool
up_to true x y = le x y
up_to false x y = le y x

pub inward_up : (d : Bool) (x y : Float) → inward d x y ≡ true → up_to d x y ≡ true
unfolding inward when◌then◌else◌
inward_up true x y h = lt_le x y h
inward_up false x y h = lt_le y x h

pub not_inward : (d : Bool) (x y : Float) → Num x → Num y → inward d x y ≡ false → up_to d y x ≡ true
unfolding inward when◌then◌else◌
not_inward true x y p q h = not_lt x y p q h
not_inward false x y p q h = not_lt y x q p h

pub up_not : (d : Bool) (x y : Float) → up_to d x y ≡ true → inward d y x ≡ false
unfolding inward when◌then◌else◌
up_not true x y h = le_not_lt x y h
up_not false x y h = le_not_lt y x h

pub eq_not : (d : Bool) (x y : Float) → eq x y ≡ true → inward d y x ≡ false
unfolding inward when◌then◌else◌
eq_not true x y h = le_not_lt x y (eq_le x y h).0
eq_not false x y h = le_not_lt y x (eq_le x y h).1

pub up_refl : (d : Bool) (x : Float) → Num x → up_to d x x ≡ true
up_refl true x p = le_refl x p
up_refl false x p = le_refl x p

pub up_num : (d : Bool) (x y : Float) → up_to d x y ≡ true → Num x × Num y
up_num true x y h = le_num x y h
up_num false x y h = let n = le_num y x h in (n.1, n.0)

-- ---- an interval's end
pub end_num : (i : Interval) (d : Bool) → Some i → Num (end_of i d)
unfolding end_of when◌then◌else◌
end_num i true h = (le_num _ _ h).1
end_num i false h = (le_num _ _ h).0

pub end_with : (i : Interval) (d : Bool) (v : Float) → end_of (with_end i d v) d ≡ v
unfolding with_end end_of when◌then◌else◌
end_with i true v = refl
end_with i false v = refl

-- the other end stays
pub end_stays : (i : Interval) (d : Bool) (v : Float) → end_of (with_end i d v) (not d) ≡ end_of i (not d)
unfolding with_end end_of when◌then◌else◌
end_stays i true v = refl
end_stays i false v = refl

-- what lies in i lies from either end on
pub in_up : (d : Bool) (i : Interval) (x : Float) → In i x → up_to d x (end_of i d) ≡ true
unfolding end_of when◌then◌else◌
in_up true i x h = h.high
in_up false i x h = h.low

pub in_from : (d : Bool) (i : Interval) (x : Float) → In i x → up_to d (end_of i (not d)) x ≡ true
unfolding end_of when◌then◌else◌
in_from true i x h = h.low
in_from false i x h = h.high

-- an end that moves inwards, and not past the other, leaves a part
pub with_part : (i : Interval) (d : Bool) (v : Float) → up_to d (end_of i (not d)) v ≡ true → up_to d v (end_of i d) ≡ true → Part (with_end i d v) i
unfolding with_end end_of when◌then◌else◌
with_part i true v p q = record { some = p; low = le_refl _ (le_num _ _ p).0; high = q }
with_part i false v p q = record { some = p; low = q; high = le_refl _ (le_num _ _ p).1 }

-- ---- the end d of i lies at the window's or inward of it
abbrev pub Reach : Bool → Interval → Interval → Type 0
Reach d i w = up_to d (end_of i d) (end_of w d) ≡ true

pub part_reach : (d : Bool) (i j w : Interval) → Part j i → Reach d i w → Reach d j w
unfolding end_of when◌then◌else◌
part_reach true i j w p h = le_trans _ _ _ p.high h
part_reach false i j w p h = le_trans _ _ _ h p.low

pub reaches : (d : Bool) (i w : Interval) → Part i w → Reach d i w
unfolding end_of when◌then◌else◌
reaches true i w p = p.high
reaches false i w p = p.low

-- where both ends do, i is a part of the window
pub reach_part : (i w : Interval) → Some i → Reach false i w → Reach true i w → Part i w
unfolding end_of when◌then◌else◌
reach_part i w h l r = record { some = h; low = l; high = r }
