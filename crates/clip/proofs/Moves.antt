-- What a cut leaves is a part of what was there and reaches no farther than the window; where nothing reaches past the window it leaves all.
-- Nothing here depends on the cut values: an end may be moved to any value.
use Rattle.std.specs.Prelude.{Option, Some, None}
use mathlib.Core.Path.{◌≡◌, refl, sym, ap, ◌∙◌, subst}
use mathlib.Core.Bool.{Bool, true, false, not, true≢false}
use Prim.Native.Nat.{ℕ}
use native.Mathlib.Omega.{arith}
use lib.Ieee.{Float}
use Rattle.float.specs.Choice.{when◌then◌else◌}
use Rattle.float.proofs.Choice.{else_is, split}
use Rattle.float.proofs.Order.{Num, le_refl, le_trans, le_not_lt}
use Rattle.plane.specs.Interval.{is_empty, end_of}
use Rattle.plane.specs.Within.{Part, SomeRect, PartRect}
use Rattle.plane.specs.Within as within
use Rattle.plane.specs.declared.point.Point.{Point}
use Rattle.plane.specs.declared.interval.Interval.{Interval}
use Rattle.plane.specs.declared.rect.Rect.{Rect}
use Rattle.plane.proofs.Parts.{part_refl, part_trans}
use Rattle.clip.specs.declared.compute.Both.{Both}
use Rattle.clip.specs.Cut.{inward, with_end, moved_end, other_moved, side_cut, then_high, axis_cut, negative_slope, after_y, after_x, then_y, box_cut}
use Rattle.clip.specs.Promises.{NoWider}
use Rattle.clip.proofs.Sides.{up_to, inward_up, not_inward, up_not, up_refl, up_num, end_num, end_with, with_part, Reach, part_reach, reaches, reach_part}

-- ---- constructors
pub to_same : (i j : Interval) → Some i ≡ Some j → i ≡ j
to_same i j e = cc

pub to_lost : {A : Type 0} (i : Interval) → None ≡ Some i → A
to_lost i e = let z : ◌≡◌ {A = ℕ} 0 1 = cc in absurd (omega arith)

pub left_same : (s t : Both) → Some s ≡ Some t → s ≡ t
left_same s t e = cc

pub left_gone : {A : Type 0} (t : Both) → None ≡ Some t → A
left_gone t e = let z : ◌≡◌ {A = ℕ} 0 1 = cc in absurd (omega arith)

pub inside_same : (r k : Rect) → Some r ≡ Some k → r ≡ k
inside_same r k e = cc

pub inside_out : {A : Type 0} (k : Rect) → None ≡ Some k → A
inside_out k e = let z : ◌≡◌ {A = ℕ} 0 1 = cc in absurd (omega arith)

-- ---- one end
-- neither end is a NaN
abbrev pub Ended : Interval → Type 0
Ended i = (d : Bool) → Num (end_of i d)

-- an end moved to a value inward of it, and not inward of the other end
inner : (i : Interval) (d : Bool) (v : Float) → Ended i → inward d v (end_of i (not d)) ≡ false → inward d v (end_of i d) ≡ true → Part (with_end i d v) i
inner i d v n p q =
    let u = inward_up d v (end_of i d) q in
    with_part i d v (not_inward d v _ (up_num d _ _ u).0 (n (not d)) p) u

-- what holds of each interval that a moved end can leave holds of the one left
moved_cases : (P : Interval → Type 0) (i j : Interval) (d : Bool) (v : Float) → Ended i → moved_end i d v ≡ Some j → (Part (with_end i d v) i → P (with_end i d v)) → P i → P j
unfolding moved_end
moved_cases P i j d v n e f g =
    split _ _ _ _ e (λ p q. to_lost j q)
    (λ p q. split _ _ _ _ q (λ h k. subst P (to_same _ j k) (f (inner i d v n p h))) (λ h k. subst P (to_same i j k) g))

pub moved_part : (i j : Interval) (d : Bool) (v : Float) → within.Some i → moved_end i d v ≡ Some j → Part j i
moved_part i j d v some e = moved_cases (λ k. Part k i) i j d v (λ c. end_num i c some) e (λ p. p) (part_refl i some)

-- an interval with a part is not empty, so an empty one is left as it is
pub moved_wider : (i j : Interval) (d : Bool) (v : Float) → Ended i → moved_end i d v ≡ Some j → NoWider j i
moved_wider i j d v n e =
    moved_cases (λ k. NoWider k i) i j d v n e
    (λ p. record { low = p.low; high = p.high; some = λ s. p.some; empty = λ h. absurd (true≢false (sym h ∙ unfold is_empty in le_not_lt _ _ (whole p))) })
    (record { low = unfold end_of when◌then◌else◌ in le_refl _ (n false); high = unfold end_of when◌then◌else◌ in le_refl _ (n true); some = λ s. s; empty = λ h. refl })
  where
    whole : {k : Interval} → Part k i → within.Some i
    whole p = le_trans _ _ _ p.low (le_trans _ _ _ p.some p.high)

-- ---- one side of the window
-- t is what a cut left of two axes
pub record Cut (t : Both) (this other : Interval) : Type 0 where
  pub on_this : Part t.this this
  pub on_other : Part t.other other

pub other_left : {R : Type 0} (i : Interval) (m : Option Interval) (t : Both) → other_moved i m ≡ Some t → ((j : Interval) → m ≡ Some j → record { this = i; other = j } ≡ t → R) → R
unfolding other_moved
other_left i (Some j) t e f = f j refl (left_same _ t e)
other_left i None t e f = left_gone t e

-- what is left of this axis, whatever the other is, and of the other where it is not empty
pub side_part : (d : Bool) (a0 b0 : Float) (this : Interval) (a1 b1 : Float) (other : Interval) (neg : Bool) (w : Interval) (t : Both) → within.Some this → Num (end_of w d)
    → side_cut d a0 b0 this a1 b1 other neg w ≡ Some t → Part t.this this × (within.Some other → Part t.other other) × Reach d t.this w
unfolding side_cut
side_part d a0 b0 this a1 b1 other neg w t p n e =
    split _ _ _ _ e
    (λ h g. split _ _ _ _ g (λ k c. left_gone t c) (λ k c. other_left _ _ t c (λ j m r. subst Result r (
      inner this d (end_of w d) (λ c. end_num this c p) k h,
      λ q. moved_part other j _ _ q m,
      subst (λ (x : Float). up_to d x (end_of w d) ≡ true) (sym (end_with this d (end_of w d))) (up_refl d (end_of w d) n),
    ))))
    (λ h c. subst Result (left_same _ t c) (part_refl _ p, λ q. part_refl _ q, not_inward d _ _ n (end_num this d p) h))
  where
    Result : Both → Type 0
    Result u = Part u.this this × (within.Some other → Part u.other other) × Reach d u.this w

side_left : (d : Bool) (a0 b0 : Float) (this : Interval) (a1 b1 : Float) (other : Interval) (neg : Bool) (w : Interval) (t : Both) → within.Some this → within.Some other → Num (end_of w d)
    → side_cut d a0 b0 this a1 b1 other neg w ≡ Some t → Cut t this other × Reach d t.this w
side_left d a0 b0 this a1 b1 other neg w t p q n e =
    let (i, j, r) = side_part d a0 b0 this a1 b1 other neg w t p n e in
    (record { on_this = i; on_other = j q }, r)

-- ---- one axis: the low side, then the high
pub axis_left : (a0 b0 : Float) (this : Interval) (a1 b1 : Float) (other : Interval) (neg : Bool) (w : Interval) (t : Both) → within.Some this → within.Some other → within.Some w
    → axis_cut a0 b0 this a1 b1 other neg w ≡ Some t → Cut t this other × Part t.this w
unfolding axis_cut then_high
axis_left a0 b0 this a1 b1 other neg w t p q n e = go (side_cut false a0 b0 this a1 b1 other neg w) refl e
  where
    go : (m : Option Both) → side_cut false a0 b0 this a1 b1 other neg w ≡ m → then_high a0 b0 a1 b1 neg w m ≡ Some t → Cut t this other × Part t.this w
    go (Some u) h k =
        let (c, l) = side_left false a0 b0 this a1 b1 other neg w u p q (end_num w false n) h in
        let (g, r) = side_left true a0 b0 u.this a1 b1 u.other neg w t c.on_this.some c.on_other.some (end_num w true n) k in (
          record { on_this = part_trans _ _ _ g.on_this c.on_this; on_other = part_trans _ _ _ g.on_other c.on_other },
          reach_part t.this w g.on_this.some (part_reach false u.this t.this w g.on_this l) r,
        )
    go None h k = left_gone t k

-- ---- axis x, then axis y on what x left
y_inside : (a b : Point) (neg : Bool) (w : Interval) (s : Both) (k : Rect) → within.Some s.this → within.Some s.other → within.Some w
    → after_x a b neg w s ≡ Some k → Part k.x s.this × Part k.y s.other × Part k.y w
unfolding after_x after_y
y_inside a b neg w s k p q n e = go (axis_cut a.y b.y s.other a.x b.x s.this neg w) refl e
  where
    go : (m : Option Both) → axis_cut a.y b.y s.other a.x b.x s.this neg w ≡ m → after_y m ≡ Some k → Part k.x s.this × Part k.y s.other × Part k.y w
    go (Some t) h c =
        let (g, l) = axis_left a.y b.y s.other a.x b.x s.this neg w t q p n h in
        subst (λ (r : Rect). Part r.x s.this × Part r.y s.other × Part r.y w) (inside_same _ k c) (g.on_other, g.on_this, l)
    go None h c = inside_out k c

pub box_inside : (a b : Point) (w r k : Rect) → SomeRect r → SomeRect w → box_cut a b w r ≡ Some k → PartRect k w × PartRect k r
unfolding box_cut then_y
box_inside a b w r k p q e = go (axis_cut a.x b.x r.x a.y b.y r.y neg w.x) refl e
  where
    neg : Bool
    neg = negative_slope a b

    go : (m : Option Both) → axis_cut a.x b.x r.x a.y b.y r.y (negative_slope a b) w.x ≡ m → then_y a b (negative_slope a b) w.y m ≡ Some k → PartRect k w × PartRect k r
    go (Some s) h c =
        let (g, l) = axis_left a.x b.x r.x a.y b.y r.y (negative_slope a b) w.x s p.x p.y q.x h in
        let (u, v, o) = y_inside a b (negative_slope a b) w.y s k g.on_this.some g.on_other.some q.y c in
        (record { x = part_trans _ _ _ u l; y = o }, record { x = part_trans _ _ _ u g.on_this; y = part_trans _ _ _ v g.on_other })
    go None h c = inside_out k c

-- ---- nothing moves where the box lies in the window
pub side_stays : (d : Bool) (a0 b0 : Float) (this : Interval) (a1 b1 : Float) (other : Interval) (neg : Bool) (w : Interval) → Reach d this w
    → side_cut d a0 b0 this a1 b1 other neg w ≡ Some (record { this = this; other = other })
unfolding side_cut
side_stays d a0 b0 this a1 b1 other neg w h = sym (else_is _ _ _ _ (up_not d _ _ h) refl)

axis_stays : (a0 b0 : Float) (this : Interval) (a1 b1 : Float) (other : Interval) (neg : Bool) (w : Interval) → Part this w
    → axis_cut a0 b0 this a1 b1 other neg w ≡ Some (record { this = this; other = other })
unfolding axis_cut then_high
axis_stays a0 b0 this a1 b1 other neg w p =
    ap (then_high a0 b0 a1 b1 neg w) (side_stays false a0 b0 this a1 b1 other neg w (reaches false this w p)) ∙ side_stays true a0 b0 this a1 b1 other neg w (reaches true this w p)

pub box_stays : (a b : Point) (w r : Rect) → PartRect r w → box_cut a b w r ≡ Some r
unfolding box_cut then_y after_x after_y
box_stays a b w r p =
    ap (then_y a b (negative_slope a b) w.y) (axis_stays a.x b.x r.x a.y b.y r.y (negative_slope a b) w.x p.x)
    ∙ ap after_y (axis_stays a.y b.y r.y a.x b.x r.x (negative_slope a b) w.y p.y)
