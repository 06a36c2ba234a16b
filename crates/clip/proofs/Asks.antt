-- The places at which a cut asks the line, and the values that it asks for there. What holds of every place holds of the sides that are asked at; from the edge's own box, or a part of it, those lie in that box, since what is left of it stays a part of it.
use Rattle.std.specs.Prelude.{Option, Some, None}
use mathlib.Core.Path.{◌≡◌, refl, ap}
use mathlib.Core.Bool.{Bool, true, false, not}
use mathlib.Core.List.{List, [], ◌∷◌, ◌++◌, append_assoc, map, map-append}
use lib.Ieee.{Float, unlike}
use Rattle.float.specs.Choice.{when◌then◌else◌}
use Rattle.float.proofs.Choice.{cases, and_parts, and_both}
use Rattle.plane.specs.Interval.{between, end_of}
use Rattle.plane.specs.Rect.{box_of}
use Rattle.plane.specs.Within.{In, Part, SomeRect, PartRect}
use Rattle.plane.specs.Within as within
use Rattle.plane.specs.declared.point.Point.{Point}
use Rattle.plane.specs.declared.interval.Interval.{Interval}
use Rattle.plane.specs.declared.rect.Rect.{Rect}
use Rattle.plane.proofs.Parts.{part_trans, part_in}
use Rattle.clip.specs.declared.compute.Both.{Both}
use Rattle.clip.specs.Cut.{negative_slope, value_at, inward, with_end, moved_end, other_moved, side_cut, then_high, axis_cut, after_y, after_x, then_y, box_cut}
use Rattle.clip.specs.Values.{every, side_places, high_places, axis_places, y_places, places_on_x, places_on_y, axis_asks, asks_on_x, asks_on_y, box_asks}
use Rattle.clip.proofs.Sides.{up_to, inward_up, not_inward, up_num, end_num}
use Rattle.clip.proofs.Moves.{side_part, axis_left}

every_both : (test : Float → Bool) (xs ys : List Float) → every test xs ≡ true → every test ys ≡ true → every test (xs ++ ys) ≡ true
unfolding every
every_both test [] ys p q = q
every_both test (x ∷ xs) ys p q = let (h, t) = and_parts _ _ p in and_both _ _ h (every_both test xs ys t q)

-- a test of the values at places is one of the places
pub every_map : (test : Float → Bool) (g : Float → Float) (xs : List Float) → every test (map g xs) ≡ every (λ (x : Float). test (g x)) xs
unfolding every
every_map test g [] = refl
every_map test g (x ∷ xs) = rw (every_map test g xs)

-- the side lies inward of the end d of i, and not of the other
abbrev pub Asked : Bool → Interval → Interval → Type 0
Asked d i w = (inward d (end_of w d) (end_of i d) ≡ true) × (inward d (end_of w d) (end_of i (not d)) ≡ false)

-- so it lies in i
pub asked_in : (d : Bool) (i w : Interval) → within.Some i → Asked d i w → In i (end_of w d)
asked_in d i w some (p, q) =
    let u = inward_up d _ _ p in
    go d (not_inward d _ _ (up_num d _ _ u).0 (end_num i (not d) some) q) u
  where
    go : (d : Bool) {x : Float} → up_to d (end_of i (not d)) x ≡ true → up_to d x (end_of i d) ≡ true → In i x
    go true p q = unfold end_of when◌then◌else◌ in record { low = p; high = q }
    go false p q = unfold end_of when◌then◌else◌ in record { low = q; high = p }

module _ (test : Float → Bool) where
  -- ---- side by side, and axis by axis
  side_places_lem : (d : Bool) (this w : Interval) → (Asked d this w → test (end_of w d) ≡ true) → every test (side_places d this w) ≡ true
  unfolding side_places every
  side_places_lem d this w h =
      cases All _ _ _ (λ p. cases All _ _ _ (λ q. refl) (λ q. and_both _ _ (h (p, q)) refl)) (λ p. refl)
    where
      All : List Float → Type 0
      All xs = every test xs ≡ true

  axis_places_lem : (a0 b0 : Float) (this : Interval) (a1 b1 : Float) (other : Interval) (neg : Bool) (w : Interval)
      → (Asked false this w → test (end_of w false) ≡ true)
      → ((s : Both) → side_cut false a0 b0 this a1 b1 other neg w ≡ Some s → Asked true s.this w → test (end_of w true) ≡ true)
      → every test (axis_places a0 b0 this a1 b1 other neg w) ≡ true
  unfolding axis_places
  axis_places_lem a0 b0 this a1 b1 other neg w l h = every_both test _ _ (side_places_lem false this w l) (go (side_cut false a0 b0 this a1 b1 other neg w) refl)
    where
      go : (m : Option Both) → side_cut false a0 b0 this a1 b1 other neg w ≡ m → every test (high_places w m) ≡ true
      go (Some s) e = unfold high_places in side_places_lem true s.this w (h s e)
      go None e = unfold high_places every in refl

  y_places_lem : (a b : Point) (w r : Rect)
      → ((s : Both) → axis_cut a.x b.x r.x a.y b.y r.y (negative_slope a b) w.x ≡ Some s
      → every test (axis_places a.y b.y s.other a.x b.x s.this (negative_slope a b) w.y) ≡ true)
      → every test (places_on_y a b w r) ≡ true
  y_places_lem a b w r k = go (axis_cut a.x b.x r.x a.y b.y r.y (negative_slope a b) w.x) refl
    where
      go : (m : Option Both) → axis_cut a.x b.x r.x a.y b.y r.y (negative_slope a b) w.x ≡ m → every test (y_places a b (negative_slope a b) w.y m) ≡ true
      go (Some s) e = unfold y_places in k s e
      go None e = unfold y_places every in refl

  -- ---- any box: what holds at both sides
  pub axis_any : (a0 b0 : Float) (this : Interval) (a1 b1 : Float) (other : Interval) (neg : Bool) (w : Interval)
      → ((d : Bool) → test (end_of w d) ≡ true) → every test (axis_places a0 b0 this a1 b1 other neg w) ≡ true
  axis_any a0 b0 this a1 b1 other neg w h = axis_places_lem a0 b0 this a1 b1 other neg w (λ p. h false) (λ s e p. h true)

  -- ---- a part of the edge's own box: what holds at the sides in that box
  pub axis_own : (a0 b0 : Float) (this : Interval) (a1 b1 : Float) (other : Interval) (neg : Bool) (w : Interval) → Part this (between a0 b0) → within.Some w
      → ((d : Bool) → In (between a0 b0) (end_of w d) → test (end_of w d) ≡ true) → every test (axis_places a0 b0 this a1 b1 other neg w) ≡ true
  axis_own a0 b0 this a1 b1 other neg w part n h =
      axis_places_lem a0 b0 this a1 b1 other neg w (at false this part)
      (λ s e. at true s.this (part_trans _ _ _ (side_part false a0 b0 this a1 b1 other neg w s part.some (end_num w false n) e).0 part))
    where
      at : (d : Bool) (i : Interval) → Part i (between a0 b0) → Asked d i w → test (end_of w d) ≡ true
      at d i p q = h d (part_in i _ _ p (asked_in d i w p.some q))

  pub x_own : (a b : Point) (w r : Rect) → PartRect r (box_of a b) → SomeRect w
      → ((d : Bool) → In (between a.x b.x) (end_of w.x d) → test (end_of w.x d) ≡ true) → every test (places_on_x a b w r) ≡ true
  x_own a b w r p n h = axis_own _ _ _ _ _ _ _ w.x p.x n.x h

  pub y_own : (a b : Point) (w r : Rect) → PartRect r (box_of a b) → SomeRect w
      → ((d : Bool) → In (between a.y b.y) (end_of w.y d) → test (end_of w.y d) ≡ true) → every test (places_on_y a b w r) ≡ true
  y_own a b w r p n h =
      y_places_lem a b w r (λ s e.
      let c = (axis_left _ _ _ _ _ _ _ _ s p.x.some p.y.some n.x e).0 in
      axis_own _ _ _ _ _ _ _ w.y (part_trans _ _ _ c.on_other p.y) n.y h)

-- ---- of the values, by their places on each axis
module _ (test : Float → Bool) (a b : Point) (w r : Rect) where
  pub box_asks_lem : every (λ (x : Float). test (value_at x a.x b.x a.y b.y)) (places_on_x a b w r) ≡ true
      → every (λ (y : Float). test (value_at y a.y b.y a.x b.x)) (places_on_y a b w r) ≡ true → every test (box_asks a b w r) ≡ true
  unfolding box_asks
  box_asks_lem h k = every_both test (asks_on_x a b w r) (asks_on_y a b w r) (rw every_map h) (rw every_map k)

  pub box_any : ((d : Bool) → test (value_at (end_of w.x d) a.x b.x a.y b.y) ≡ true)
      → ((d : Bool) → test (value_at (end_of w.y d) a.y b.y a.x b.x) ≡ true) → every test (box_asks a b w r) ≡ true
  box_any h k = box_asks_lem (axis_any _ _ _ _ _ _ _ _ w.x h) (y_places_lem _ a b w r (λ s e. axis_any _ _ _ _ _ _ _ _ w.y k))

-- ---- a cut takes no more from the line than what it asks for: where two lines are asked for the same values, their cuts are the same
-- the line's value at x
abbrev line : Float → Float → Float → Float → Float → Float
line a b a1 b1 x = value_at x a b a1 b1

-- the two choices of a side, one of where the line is asked and one of what is made of the value there
alike : {A : Type 0} (f : Float → A) (x y : A) (s t : Bool) (side : Float) (g h : Float → Float) (r q : List Float)
    → map g (when s then when t then [] else side ∷ [] else []) ++ r ≡ map h (when s then when t then [] else side ∷ [] else []) ++ q
    → ((when s then when t then x else f (g side) else y) ≡ (when s then when t then x else f (h side) else y)) × (r ≡ q)
unfolding when◌then◌else◌
alike f x y true true side g h r q e = (refl, e)
alike f x y true false side g h r q e = let k : g side ≡ h side = cc in (ap f k, cc)
alike f x y false t side g h r q e = (refl, e)

module _ (a0 b0 a1 b1 c0 d0 c1 d1 : Float) (neg : Bool) (w : Interval) where
  side_alike : (d : Bool) (this other : Interval) (r q : List Float)
      → map (line a0 b0 a1 b1) (side_places d this w) ++ r ≡ map (line c0 d0 c1 d1) (side_places d this w) ++ q
      → (side_cut d a0 b0 this a1 b1 other neg w ≡ side_cut d c0 d0 this c1 d1 other neg w) × (r ≡ q)
  unfolding side_places side_cut
  side_alike d this other r q e = alike (λ v. other_moved (with_end this d (end_of w d)) (moved_end other (unlike d neg) v)) None _ _ _ _ _ _ r q e

  axis_alike : (this other : Interval) (r q : List Float) → axis_asks a0 b0 this a1 b1 other neg w ++ r ≡ axis_asks c0 d0 this c1 d1 other neg w ++ q
      → (axis_cut a0 b0 this a1 b1 other neg w ≡ axis_cut c0 d0 this c1 d1 other neg w) × (r ≡ q)
  unfolding axis_places axis_cut
  axis_alike this other r q e =
      let m = side_cut false a0 b0 this a1 b1 other neg w in
      let (k, f) = side_alike false this other _ _ (simp (map-append, append_assoc) at e) in
      rw (← k) (go m (rw (← k) at f))
    where
      go : (m : Option Both) → map (line a0 b0 a1 b1) (high_places w m) ++ r ≡ map (line c0 d0 c1 d1) (high_places w m) ++ q
          → (then_high a0 b0 a1 b1 neg w m ≡ then_high c0 d0 c1 d1 neg w m) × (r ≡ q)
      go (Some s) e = unfold high_places then_high in side_alike true s.this s.other r q e
      go None e = unfold high_places then_high in (refl, e)

  pub axis_by_asks : (this other : Interval) → axis_asks a0 b0 this a1 b1 other neg w ≡ axis_asks c0 d0 this c1 d1 other neg w
      → axis_cut a0 b0 this a1 b1 other neg w ≡ axis_cut c0 d0 this c1 d1 other neg w
  axis_by_asks this other e = (axis_alike this other [] [] (ap (λ (xs : List Float). xs ++ []) e)).0

pub box_by_asks : (a b c d : Point) (w r : Rect) → negative_slope a b ≡ negative_slope c d → box_asks a b w r ≡ box_asks c d w r → box_cut a b w r ≡ box_cut c d w r
unfolding box_asks box_cut
box_by_asks a b c d w r n e =
    let g = negative_slope a b in
    let m = axis_cut a.x b.x r.x a.y b.y r.y g w.x in
    let (k, f) = axis_alike a.x b.x a.y b.y c.x d.x c.y d.y g w.x r.x r.y _ _ (rw (← n) at e) in
    rw (← n, ← k) (go g m (rw (← k) at f))
  where
    go : (g : Bool) (m : Option Both) → map (line a.y b.y a.x b.x) (y_places a b g w.y m) ≡ map (line c.y d.y c.x d.x) (y_places c d g w.y m)
        → then_y a b g w.y m ≡ then_y c d g w.y m
    go g (Some s) e = unfold y_places then_y after_x in ap after_y (axis_by_asks a.y b.y a.x b.x c.y d.y c.x d.x g w.y s.other s.this e)
    go g None e = unfold y_places then_y in refl
