-- An own end of the edge that lies in the window is never moved. On each axis it is one end of the edge's box: the side of the window beyond it cuts nothing,
-- and the side opposite moves the other end of this axis, and of the other axis the end that is not the own one, to a value that is never past the own one.
use Rattle.std.specs.Prelude.{Option, Some, None, Ok}
use Rattle.clip.specs.declared.Segment.{Segment}
use mathlib.Core.Path.{◌≡◌, refl, sym, ap, subst, ◌∙◌}
use mathlib.Core.Bool.{Bool, true, false, not, true≢false}
use lib.Ieee.{Float, lt, eq, unlike}
use Rattle.float.proofs.Choice.{cases}
use Rattle.float.proofs.Order.{Num}
use Rattle.plane.specs.Interval.{between, end_of}
use Rattle.plane.specs.Rect.{box_of, corner_of}
use Rattle.plane.specs.Within.{In, Part, InRect, SomeRect}
use Rattle.plane.specs.declared.point.Point.{Point}
use Rattle.plane.specs.declared.interval.Interval.{Interval}
use Rattle.plane.specs.declared.rect.Rect.{Rect}
use Rattle.plane.proofs.Parts.{part_refl, part_trans, part_in, equal_in}
use Rattle.plane.proofs.Between.{a_end, second_end}
use Rattle.clip.specs.declared.compute.Both.{Both}
use Rattle.clip.specs.Cut.{negative_slope, value_at, inward, with_end, moved_end, other_moved, side_cut, then_high, axis_cut, after_y, after_x, then_y, box_cut}
use Rattle.clip.proofs.Sides.{up_to, inward_up, up_not, end_stays, with_part, in_up, in_from}
use Rattle.clip.proofs.Moves.{side_stays}
use Rattle.clip.specs.Answers.{ends, second, whole, edge_answer, clipped, first_of, second_of}
use Rattle.clip.specs.Values.{HandedIn, floats_of}
use Rattle.clip.specs.Promises.{Fine}
use Rattle.clip.proofs.Asks.{asked_in}
use Rattle.clip.proofs.Cases.{fine_clipped}
use Rattle.clip.proofs.Numbers.{fine_parts}
use Rattle.clip.proofs.Held.{num_a, num_b, value_between}
use Rattle.clip.proofs.Values.{along_both, first_some}

-- ---- something is left, and P holds of it
abbrev Moves : (Interval → Type 0) → Option Interval → Type 0
Moves P (Some i) = P i
Moves P None = ⊥

abbrev Leaves : (Both → Type 0) → Option Both → Type 0
Leaves P (Some s) = P s
Leaves P None = ⊥

abbrev Keeps : (Rect → Type 0) → Option Rect → Type 0
Keeps P (Some r) = P r
Keeps P None = ⊥

-- ---- one axis of the edge, from a to b, of which the end `free` may be moved
-- what is left of it: a part of a..b whose other end is the own one
record Own (free : Bool) (a b : Float) (i : Interval) : Type 0 where
  part : Part i (between a b)
  same : end_of i (not free) ≡ end_of (between a b) (not free)

-- the free end moved inwards, not past the own one
with_own : (free : Bool) (a b : Float) (i : Interval) (v : Float) → Own free a b i → up_to free (end_of i (not free)) v ≡ true → inward free v (end_of i free) ≡ true
    → Own free a b (with_end i free v)
with_own free a b i v o p q = record { part = part_trans _ _ _ (with_part i free v p (inward_up free _ _ q)) o.part; same = end_stays i free v ∙ o.same }

-- a value from a to b is not past the own end
not_past : (free : Bool) (a b : Float) (i : Interval) (v : Float) → Own free a b i → In (between a b) v → up_to free (end_of i (not free)) v ≡ true
not_past free a b i v o h = rw o.same (in_from free _ v h)

moved_own : (free : Bool) (a b : Float) (i : Interval) (v : Float) → Own free a b i → In (between a b) v → Moves (Own free a b) (moved_end i free v)
unfolding moved_end
moved_own free a b i v o h =
    let p = not_past free a b i v o h in
    cases (Moves (Own free a b)) _ _ _ (λ e. absurd (true≢false (sym e ∙ up_not free _ _ p))) (λ e. cases (Moves (Own free a b)) _ _ _ (λ f. with_own free a b i v o p f) (λ f. o))

-- ---- two axes: of this one the end `free` may be moved, and of the other the end `free1`
module _ (free free1 neg : Bool) (turn : unlike free neg ≡ free1) (a0 b0 a1 b1 : Float) (w : Interval) (inside : In w (end_of (between a0 b0) (not free)))
    (held : (d : Bool) → In (between a0 b0) (end_of w d) → In (between a1 b1) (value_at (end_of w d) a0 b0 a1 b1)) where
  abbrev BothOwn : Both → Type 0
  BothOwn s = Own free a0 b0 s.this × Own free1 a1 b1 s.other

  other_own : (i : Interval) (m : Option Interval) → Own free a0 b0 i → Moves (Own free1 a1 b1) m → Leaves BothOwn (other_moved i m)
  unfolding other_moved
  other_own i (Some j) o p = (o, p)
  other_own i None o p = absurd p

  module _ (this other : Interval) (o : Own free a0 b0 this) (p : Own free1 a1 b1 other) where
    in_window : In w (end_of this (not free))
    in_window = rw o.same inside

    -- the side opposite
    side_cuts : Leaves BothOwn (side_cut free a0 b0 this a1 b1 other neg w)
    unfolding side_cut
    side_cuts =
        let up = in_up free w _ in_window in
        cases (Leaves BothOwn) _ _ _
        (λ q. cases (Leaves BothOwn) _ _ _ (λ r. absurd (true≢false (sym r ∙ up_not free _ _ up)))
        (λ r. other_own _ _ (with_own free a0 b0 this (end_of w free) o up q)
        (rw turn (moved_own free1 a1 b1 other _ p (held free (part_in _ _ _ o.part (asked_in free this w o.part.some (q, r))))))))
        (λ q. (o, p))

    side_own : (d : Bool) → Leaves BothOwn (side_cut d a0 b0 this a1 b1 other neg w)
    side_own d = go d free refl
      where
        beyond : Leaves BothOwn (side_cut (not free) a0 b0 this a1 b1 other neg w)
        beyond = rw (side_stays (not free) a0 b0 this a1 b1 other neg w (in_up (not free) w _ in_window)) (o, p)

        at : (c d : Bool) → c ≡ d → Leaves BothOwn (side_cut c a0 b0 this a1 b1 other neg w) → Leaves BothOwn (side_cut d a0 b0 this a1 b1 other neg w)
        at c d e h = subst (λ (k : Bool). Leaves BothOwn (side_cut k a0 b0 this a1 b1 other neg w)) e h

        go : (d f : Bool) → free ≡ f → Leaves BothOwn (side_cut d a0 b0 this a1 b1 other neg w)
        go true true e = at _ true e side_cuts
        go false false e = at _ false e side_cuts
        go true false e = at _ true (ap not e) beyond
        go false true e = at _ false (ap not e) beyond

  axis_own : (this other : Interval) → Own free a0 b0 this → Own free1 a1 b1 other → Leaves BothOwn (axis_cut a0 b0 this a1 b1 other neg w)
  unfolding axis_cut
  axis_own this other o p = go (side_cut false a0 b0 this a1 b1 other neg w) (side_own this other o p false)
    where
      go : (m : Option Both) → Leaves BothOwn m → Leaves BothOwn (then_high a0 b0 a1 b1 neg w m)
      go (Some s) q = unfold then_high in side_own s.this s.other q.0 q.1 true
      go None q = absurd q

-- ---- the box: on axis x the end `dx` may be moved, on axis y the end `dy`
pub turned : (c d : Bool) → (unlike c (unlike c d) ≡ d) × (unlike d (unlike c d) ≡ c)
turned true true = (refl, refl)
turned true false = (refl, refl)
turned false true = (refl, refl)
turned false false = (refl, refl)

module _ (a b : Point) (w : Rect) (dx dy : Bool) (slope : unlike dx dy ≡ negative_slope a b) (some : SomeRect (box_of a b)) (inside : InRect w (corner_of (box_of a b) (not dx) (not dy)))
    (held_x : (d : Bool) → In (between a.x b.x) (end_of w.x d) → In (between a.y b.y) (value_at (end_of w.x d) a.x b.x a.y b.y))
    (held_y : (d : Bool) → In (between a.y b.y) (end_of w.y d) → In (between a.x b.x) (value_at (end_of w.y d) a.y b.y a.x b.x)) where
  abbrev OwnBox : Rect → Type 0
  OwnBox r = Own dx a.x b.x r.x × Own dy a.y b.y r.y

  box_own : Keeps OwnBox (box_cut a b w (box_of a b))
  unfolding box_cut
  box_own =
      go _ (axis_own dx dy _ (rw (← slope) (turned dx dy).0) a.x b.x a.y b.y w.x inside.x held_x _ _
      (record { part = part_refl _ some.x; same = refl }) (record { part = part_refl _ some.y; same = refl }))
    where
      last : (m : Option Both) → Leaves (λ s. Own dy a.y b.y s.this × Own dx a.x b.x s.other) m → Keeps OwnBox (after_y m)
      last (Some t) (p, q) = unfold after_y in (q, p)
      last None p = absurd p

      go : (m : Option Both) → Leaves (λ s. Own dx a.x b.x s.this × Own dy a.y b.y s.other) m → Keeps OwnBox (then_y a b (negative_slope a b) w.y m)
      go (Some s) (p, q) = unfold then_y after_x in last _ (axis_own dy dx _ (rw (← slope) (turned dx dy).1) a.y b.y a.x b.x w.y inside.y held_y _ _ q p)
      go None p = absurd p

-- ---- the edge: its corner at the ends cx and cy
twice : (c : Bool) → not (not c) ≡ c
twice true = refl
twice false = refl

pub both_not : (c d : Bool) → unlike (not c) (not d) ≡ unlike c d
both_not true true = refl
both_not true false = refl
both_not false true = refl
both_not false false = refl

module _ (a b : Point) (w : Rect) (h : HandedIn (floats_of a b w)) (f : Fine a b w) where
  -- a corner of the box that is an own end, and in the window
  corner_kept : (cx cy : Bool) → unlike cx cy ≡ negative_slope a b → InRect w (corner_of (box_of a b) cx cy)
      → (r : Rect) × (clipped a b w ≡ Ok (ends a b r)) × (corner_of r cx cy ≡ corner_of (box_of a b) cx cy)
  corner_kept cx cy slope inside =
      let (p, q) = fine_parts _ _ f in
      let (x, y) = along_both a b w h p q in
      go (box_cut a b w (box_of a b)) refl (box_own a b w (not cx) (not cy) (both_not cx cy ∙ slope) (first_some a b w h p q) (rw (twice cx, twice cy) inside) (λ d. value_between (x d)) (λ d. value_between (y d)))
    where
      go : (m : Option Rect) → box_cut a b w (box_of a b) ≡ m → Keeps (λ r. Own (not cx) a.x b.x r.x × Own (not cy) a.y b.y r.y) m
          → (r : Rect) × (clipped a b w ≡ Ok (ends a b r)) × (corner_of r cx cy ≡ corner_of (box_of a b) cx cy)
      go (Some r) e (o, p) =
          let x : end_of r.x cx ≡ end_of (between a.x b.x) cx = rw (twice cx) at o.same in
          let y : end_of r.y cy ≡ end_of (between a.y b.y) cy = rw (twice cy) at p.same in
          (r, fine_clipped a b w f ∙ unfold edge_answer in ap (edge_answer a b) e, rw (x, y))
      go None e p = absurd p

  nums : (Num a.x × Num b.x) × (Num a.y × Num b.y)
  nums =
      let (p, q) = fine_parts _ _ f in
      let (x, y) = along_both a b w h p q in
      ((num_a (x true), num_b (x true)), (num_a (y true), num_b (y true)))

  -- A has the greater coordinate
  abbrev pub above_x : Bool
  above_x = lt b.x a.x

  abbrev pub above_y : Bool
  above_y = lt b.y a.y

  -- the corners that A and B take
  pub a_corner : corner_of (box_of a b) above_x above_y ≡ a
  a_corner = rw (a_end a.x b.x, a_end a.y b.y)

  pub b_corner : corner_of (box_of a b) (not above_x) (not above_y) ≡ second_of (whole a b)
  unfolding second
  b_corner =
      let (x, y) = nums in
      rw (second_end a.x b.x x.0 x.1, second_end a.y b.y y.0 y.1)

  second_in : (i : Interval) (x y : Float) → In i y → In i (second x y)
  unfolding second
  second_in i x y k = cases (In i) (eq x y) x y (λ e. equal_in i x y e k) (λ e. k)

  pub a_kept : InRect w a → (s : Segment) × (clipped a b w ≡ Ok s) × (first_of s ≡ a)
  unfolding negative_slope ends
  a_kept i =
      let (r, e, k) = corner_kept above_x above_y refl (rw a_corner i) in
      (ends a b r, e, k ∙ a_corner)

  pub b_kept : InRect w b → (s : Segment) × (clipped a b w ≡ Ok s) × (second_of s ≡ second_of (whole a b))
  unfolding negative_slope ends
  b_kept i =
      let (r, e, k) = corner_kept (not above_x) (not above_y) (both_not above_x above_y) (rw b_corner (record { x = second_in _ _ _ i.x; y = second_in _ _ _ i.y })) in
      (ends a b r, e, k ∙ b_corner)
