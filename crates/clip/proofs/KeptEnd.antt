-- What a cut makes of one corner of the edge's box. Only the side of the window beyond it moves it: there its coordinate becomes the side, and its other coordinate goes to the line's value, or stays where that lies past it.
use Rattle.std.specs.Prelude.{Option, Some, None}
use mathlib.Core.Path.{◌≡◌, refl, sym, ap, subst, ◌∙◌}
use mathlib.Core.Logic.{◌⊎◌, inl, inr}
use mathlib.Core.Bool.{Bool, true, false, not}
use lib.Ieee.{Float, unlike}
use Rattle.float.proofs.Choice.{split}
use Rattle.float.proofs.Unlike.{unlike_not}
use Rattle.plane.specs.Interval.{between, end_of}
use Rattle.plane.specs.Rect.{box_of, corner_of}
use Rattle.plane.specs.Within.{In, Part, SomeRect}
use Rattle.plane.specs.Within as within
use Rattle.plane.specs.declared.point.Point.{Point}
use Rattle.plane.specs.declared.interval.Interval.{Interval}
use Rattle.plane.specs.declared.rect.Rect.{Rect}
use Rattle.plane.proofs.Parts.{part_refl, part_trans, part_in}
use Rattle.clip.specs.declared.compute.Both.{Both}
use Rattle.clip.specs.Cut.{negative_slope, value_at, inward, with_end, moved_end, side_cut, then_high, axis_cut, after_y, after_x, then_y, box_cut}
use Rattle.clip.proofs.Sides.{end_num, end_with, end_stays}
use Rattle.clip.proofs.Moves.{to_same, to_lost, left_same, left_gone, inside_same, inside_out, other_left, side_part, axis_left}
use Rattle.clip.proofs.Asks.{Asked, asked_in}
use Rattle.clip.proofs.OwnEnd.{turned}

-- an end e is to be moved to v, and is f after that
abbrev pub MovedTo : Bool → Float → Float → Float → Type 0
MovedTo c v e f = ((inward c v e ≡ true) × (f ≡ v)) ⊎ ((inward c v e ≡ false) × (f ≡ e))

-- the other end stays
moved_ends : (i j : Interval) (d : Bool) (v : Float) → moved_end i d v ≡ Some j → MovedTo d v (end_of i d) (end_of j d) × (end_of j (not d) ≡ end_of i (not d))
unfolding moved_end
moved_ends i j d v e =
    split _ _ _ _ e (λ p q. to_lost j q)
    (λ p q. split _ _ _ _ q (λ h k. subst P (to_same _ j k) (inl (h, end_with i d v), end_stays i d v)) (λ h k. subst P (to_same i j k) (inr (h, refl), refl)))
  where
    P : Interval → Type 0
    P k = MovedTo d v (end_of i d) (end_of k d) × (end_of k (not d) ≡ end_of i (not d))

-- ---- one side: nothing is cut, or this axis ends there and an end of the other is moved
side_either : (d : Bool) (a0 b0 : Float) (this : Interval) (a1 b1 : Float) (other : Interval) (neg : Bool) (w : Interval) (t : Both) → side_cut d a0 b0 this a1 b1 other neg w ≡ Some t
    → ((t.this ≡ this) × (t.other ≡ other)) ⊎ (Asked d this w × (t.this ≡ with_end this d (end_of w d)) × (moved_end other (unlike d neg) (value_at (end_of w d) a0 b0 a1 b1) ≡ Some t.other))
unfolding side_cut
side_either d a0 b0 this a1 b1 other neg w t e =
    split _ _ _ _ e
    (λ h g. split _ _ _ _ g (λ k c. left_gone t c) (λ k c. other_left _ _ t c (λ j m r. inr ((h, k), ap this_of (sym r), m ∙ ap (λ (s : Both). Some s.other) r))))
    (λ h c. let r = left_same _ t c in inl (ap this_of (sym r), ap other_of (sym r)))
  where
    this_of : Both → Interval
    this_of s = s.this

    other_of : Both → Interval
    other_of s = s.other

-- ---- one axis: its end c was e and is f, the end c1 of the other axis was e1 and is f1; the line's value at the side beyond c is v
pub data After (c c1 : Bool) (v : Float) (range w : Interval) (e e1 f f1 : Float) : Type 0 where
  stays : f ≡ e → f1 ≡ e1 → After c c1 v range w e e1 f f1
  cuts : inward c (end_of w c) e ≡ true → In range (end_of w c) → f ≡ end_of w c → MovedTo c1 v e1 f1 → After c c1 v range w e e1 f f1

module _ (a0 b0 a1 b1 : Float) (neg : Bool) (w : Interval) where
  -- of a cut of this axis from `this` and `other` to t
  abbrev Left-at : Bool → Interval → Interval → Both → Type 0
  Left-at c this other t = After c (unlike c neg) (value_at (end_of w c) a0 b0 a1 b1) (between a0 b0) w (end_of this c) (end_of other (unlike c neg)) (end_of t.this c) (end_of t.other (unlike c neg))

  -- the side beyond c
  own_side : (c : Bool) (this other : Interval) (t : Both) → Part this (between a0 b0) → side_cut c a0 b0 this a1 b1 other neg w ≡ Some t → Left-at c this other t
  own_side c this other t part e =
      elim (side_either c a0 b0 this a1 b1 other neg w t e) [
        | inl (p, q) ↦ stays (ap (λ (i : Interval). end_of i c) p) (ap (λ (i : Interval). end_of i (unlike c neg)) q)
        | inr (asked, p, q) ↦
            cuts asked.0 (part_in _ _ _ part (asked_in c this w part.some asked)) (ap (λ (i : Interval). end_of i c) p ∙ end_with this c (end_of w c)) (moved_ends other t.other (unlike c neg) _ q).0
      ]

  -- the side opposite moves neither end
  other_side : (d : Bool) (this other : Interval) (t : Both) → side_cut d a0 b0 this a1 b1 other neg w ≡ Some t
      → (end_of t.this (not d) ≡ end_of this (not d)) × (end_of t.other (unlike (not d) neg) ≡ end_of other (unlike (not d) neg))
  other_side d this other t e =
      rw (unlike_not d neg)
      (elim (side_either d a0 b0 this a1 b1 other neg w t e) [
        | inl (p, q) ↦ (ap (λ (i : Interval). end_of i (not d)) p, ap (λ (i : Interval). end_of i (not (unlike d neg))) q)
        | inr (asked, p, q) ↦ (ap (λ (i : Interval). end_of i (not d)) p ∙ end_stays this d (end_of w d), (moved_ends other t.other (unlike d neg) _ q).1)
      ])

  axis_after : (c : Bool) (this other : Interval) (t : Both) → Part this (between a0 b0) → within.Some w → axis_cut a0 b0 this a1 b1 other neg w ≡ Some t → Left-at c this other t
  unfolding axis_cut then_high
  axis_after c this other t part some e = go (side_cut false a0 b0 this a1 b1 other neg w) refl e c
    where
      go : (m : Option Both) → side_cut false a0 b0 this a1 b1 other neg w ≡ m → then_high a0 b0 a1 b1 neg w m ≡ Some t → (c : Bool) → Left-at c this other t
      go (Some s) h k false = let (p, q) = other_side true s.this s.other t k in rw (p, q) (own_side false this other s part h)
      go (Some s) h k true =
          let (p, q) = other_side false this other s h in
          let n = (side_part false a0 b0 this a1 b1 other neg w s part.some (end_num w false some) h).0 in
          rw (p, q) at (own_side true s.this s.other t (part_trans _ _ _ n part) k)
      go None h k c = left_gone t k

-- ---- the box: its corner at the ends cx and cy is cut on axis x, and what that left of it on axis y
abbrev pub value_x : Point → Point → Rect → Bool → Float
value_x a b w c = value_at (end_of w.x c) a.x b.x a.y b.y

abbrev pub value_y : Point → Point → Rect → Bool → Float
value_y a b w c = value_at (end_of w.y c) a.y b.y a.x b.x

pub record CutCorner (a b : Point) (w : Rect) (cx cy : Bool) (own p : Point) : Type 0 where
  pub mid_x : Float
  pub mid_y : Float
  pub on_x : After cx cy (value_x a b w cx) (between a.x b.x) w.x own.x own.y mid_x mid_y
  pub on_y : After cy cx (value_y a b w cy) (between a.y b.y) w.y mid_y mid_x p.y p.x

module _ (a b : Point) (w : Rect) (cx cy : Bool) (slope : unlike cx cy ≡ negative_slope a b) (some : SomeRect (box_of a b)) (window : SomeRect w) where
  -- the axis that c and c1 turn
  at_x : (s : Both) → Left-at a.x b.x a.y b.y (negative_slope a b) w.x cx (box_of a b).x (box_of a b).y s
      → After cx cy (value_x a b w cx) (between a.x b.x) w.x (end_of (box_of a b).x cx) (end_of (box_of a b).y cy) (end_of s.this cx) (end_of s.other cy)
  at_x s h = rw (← slope, (turned cx cy).0) at h

  at_y : (s t : Both) → Left-at a.y b.y a.x b.x (negative_slope a b) w.y cy s.other s.this t
      → After cy cx (value_y a b w cy) (between a.y b.y) w.y (end_of s.other cy) (end_of s.this cx) (end_of t.this cy) (end_of t.other cx)
  at_y s t h = rw (← slope, (turned cx cy).1) at h

  pub box_after : (k : Rect) → box_cut a b w (box_of a b) ≡ Some k → CutCorner a b w cx cy (corner_of (box_of a b) cx cy) (corner_of k cx cy)
  unfolding box_cut then_y after_x after_y
  box_after k e = go (axis_cut a.x b.x (box_of a b).x a.y b.y (box_of a b).y (negative_slope a b) w.x) refl e
    where
      last : (s : Both) (m : Option Both) → Part s.other (between a.y b.y)
          → axis_cut a.y b.y s.other a.x b.x s.this (negative_slope a b) w.y ≡ m → after_y m ≡ Some k
          → After cy cx (value_y a b w cy) (between a.y b.y) w.y (end_of s.other cy) (end_of s.this cx) (end_of k.y cy) (end_of k.x cx)
      last s (Some t) part h c =
          subst (λ (r : Rect). After cy cx (value_y a b w cy) (between a.y b.y) w.y (end_of s.other cy) (end_of s.this cx) (end_of r.y cy) (end_of r.x cx)) (inside_same _ k c)
          (at_y s t (axis_after a.y b.y a.x b.x (negative_slope a b) w.y cy s.other s.this t part window.y h))
      last s None part h c = inside_out k c

      go : (m : Option Both) → axis_cut a.x b.x (box_of a b).x a.y b.y (box_of a b).y (negative_slope a b) w.x ≡ m → then_y a b (negative_slope a b) w.y m ≡ Some k
          → CutCorner a b w cx cy (corner_of (box_of a b) cx cy) (corner_of k cx cy)
      go (Some s) h c =
          let (left, r) = axis_left _ _ _ _ _ _ _ _ s some.x some.y window.x h in
          record {
            mid_x = end_of s.this cx;
            mid_y = end_of s.other cy;
            on_x = at_x s (axis_after a.x b.x a.y b.y (negative_slope a b) w.x cx (box_of a b).x (box_of a b).y s (part_refl _ some.x) window.x h);
            on_y = last s _ left.on_other refl c;
          }
      go None h c = inside_out k c
