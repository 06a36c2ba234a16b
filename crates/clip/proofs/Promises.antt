-- What specs/Promises.antt promises, proved.
use Rattle.std.specs.Prelude.{Option, Some, None, Ok, Err}
use Rattle.answer.specs.declared.Refusal.TheVariants.{Missed}
use Rattle.clip.specs.declared.Segment.{Segment}
use mathlib.Core.Path.{◌≡◌, refl, ap, ◌∙◌}
use mathlib.Core.Bool.{Bool, true, false}
use lib.Ieee.{Float, le}
use Rattle.float.specs.Choice.{when◌then◌else◌}
use Rattle.float.specs.Float.{finite}
use Rattle.float.proofs.Choice.{and_parts, and_both}
use Rattle.float.proofs.Order.{Num, finite_num}
use Rattle.float.proofs.UpTo.{test_finite}
use Rattle.answer.specs.Refusal.{number, done}
use Rattle.plane.specs.Point.{at, difference_of, ortho_of}
use Rattle.plane.specs.Interval.{end_of, finite_interval}
use Rattle.plane.specs.Rect.{box_of}
use Rattle.plane.specs.Within.{In, Ends, InRect, SomeRect, PartRect, EndsRect, ShareRect}
use Rattle.plane.specs.declared.point.Point.{Point}
use Rattle.plane.specs.declared.interval.Interval.{Interval}
use Rattle.plane.specs.declared.rect.Rect.{Rect}
use Rattle.plane.proofs.Parts.{in_some, part_in, end_in, rect_ends}
use Rattle.plane.proofs.Between.{between_in, between_ends, a_end, second_end}
use Rattle.plane.proofs.Shared.{box_share}
use Rattle.clip.specs.Cut.{moved_end, box_cut, off_line, farthest, nearest, edge_meets}
use Rattle.clip.specs.Refuse.{coordinate, point_fine, bound_fine, window_fine, bound_refusal}
use Rattle.clip.specs.Answers.{ends, second, whole, or_missed, edge_answer, clipped, points_of, bound_or_refusal}
use Rattle.clip.specs.Values.{HandedIn, floats_of}
use Rattle.clip.specs.Promises.{Fine, NoWider, KeptBox, BothIn, Promises}
use Rattle.clip.proofs.Moves.{Ended, moved_wider, box_inside, box_stays}
use Rattle.clip.proofs.Numbers.{fine_from, fine_parts, numbers}
use Rattle.clip.proofs.Values.{fine_some, values}
use Rattle.clip.proofs.Cases.{then_rest, given, fine_clipped, kept_cases}
use Rattle.clip.proofs.OwnEnd.{a_kept, b_kept}
use Rattle.clip.proofs.Near.{near_the_line}
use Rattle.clip.proofs.Farthest.{is_farthest, is_nearest, nan_says_no}

-- ---- what is not refused is finite, and the window is good

-- both coordinates of a point that is fine are finite
fine_point : (p : Point) → point_fine p ≡ true → (finite p.x ≡ true) × (finite p.y ≡ true)
unfolding coordinate
fine_point p e = let (x, y) = and_parts _ _ e in (test_finite _ _ x, test_finite _ _ y)

pub record Good (a b : Point) (w : Rect) : Type 0 where
  pub first_some : SomeRect (box_of a b)
  pub first_ends : EndsRect (box_of a b)
  pub window_some : SomeRect w
  pub ax : finite a.x ≡ true
  pub ay : finite a.y ≡ true
  pub bx : finite b.x ≡ true
  pub by : finite b.y ≡ true

pub good : (a b : Point) (w : Rect) → Fine a b w → Good a b w
unfolding window_fine
good a b w e =
    let (p, q) = fine_parts _ _ e in
    let (fa, fb) = and_parts _ _ p in
    let (wx, wy) = and_parts _ _ q in
    let (ax, ay) = fine_point a fa in
    let (bx, by) = fine_point b fb in
    let x = between_ends (λ (v : Float). finite v ≡ true) a.x b.x ax bx in
    let y = between_ends (λ (v : Float). finite v ≡ true) a.y b.y ay by in
    record {
      first_some =
          record {
            x = in_some _ _ (between_in a.x b.x (finite_num _ ax) (finite_num _ bx)).0;
            y = in_some _ _ (between_in a.y b.y (finite_num _ ay) (finite_num _ by)).0;
          };
      first_ends = record { x = record { low = x.0; high = x.1 }; y = record { low = y.0; high = y.1 } };
      window_some = record { x = fine_some _ wx; y = fine_some _ wy };
      ax = ax;
      ay = ay;
      bx = bx;
      by = by;
    }

-- ---- boxes
fine_ends : (i : Interval) → bound_fine i ≡ true → Ends i
unfolding coordinate
fine_ends i e = let (l, h) = and_parts _ _ e in record { low = test_finite _ _ l; high = test_finite _ _ h }

fine_box : (a b : Point) (w r : Rect) → bound_refusal a b w r ≡ done → EndsRect r × SomeRect w
unfolding window_fine
fine_box a b w r e =
    let (p, q) = fine_parts _ _ e in
    let (x, y) = and_parts _ _ (and_parts _ _ p).1 in
    let (wx, wy) = and_parts _ _ q in
    (record { x = fine_ends _ x; y = fine_ends _ y }, record { x = fine_some _ wx; y = fine_some _ wy })

kept_cut : (a b : Point) (w r k : Rect) → SomeRect r → bound_refusal a b w r ≡ done → box_cut a b w r ≡ Some k → KeptBox w r k
kept_cut a b w r k s n e =
    let (l, o) = fine_box a b w r n in
    let (p, q) = box_inside a b w r k s o e in
    record { in_window = p; in_first_lem = q; finite_ends = rect_ends k r q l }

kept_box : (a b : Point) (w r : Rect) → SomeRect r → (k : Rect) → bound_or_refusal a b w r ≡ Ok k → KeptBox w r k
kept_box a b w r s k e = given _ _ k e (λ n h. kept_cut a b w r k s n h)

fine_bound : (a b : Point) (w r : Rect) → bound_refusal a b w r ≡ done → bound_or_refusal a b w r ≡ or_missed (box_cut a b w r)
fine_bound a b w r n = then_rest _ _ n

inside_box : (a b : Point) (w r : Rect) → bound_refusal a b w r ≡ done → PartRect r w → bound_or_refusal a b w r ≡ Ok r
inside_box a b w r n p = fine_bound a b w r n ∙ ap or_missed (box_stays a b w r p)

-- a kept box has a point, and it is one of both
kept_shares : (w r k : Rect) → KeptBox w r k → ShareRect r w
kept_shares w r k q = (_, corner_in r q.in_first_lem, corner_in w q.in_window)
  where
    corner_in : (o : Rect) → PartRect k o → InRect o (at (end_of k.x false) (end_of k.y false))
    corner_in o p = record { x = part_in _ _ _ p.x (end_in k.x false p.x.some); y = part_in _ _ _ p.y (end_in k.y false p.y.some) }

apart_cut : (a b : Point) (w r : Rect) → bound_refusal a b w r ≡ done → SomeRect r → (ShareRect r w → ⊥) → box_cut a b w r ≡ None
apart_cut a b w r n s f = go (box_cut a b w r) refl
  where
    go : (m : Option Rect) → box_cut a b w r ≡ m → box_cut a b w r ≡ None
    go (Some k) e = absurd (f (kept_shares w r k (kept_cut a b w r k s n e)))
    go None e = e

apart_box : (a b : Point) (w r : Rect) → bound_refusal a b w r ≡ done → SomeRect r → (ShareRect r w → ⊥) → bound_or_refusal a b w r ≡ Err Missed
apart_box a b w r n s f = fine_bound a b w r n ∙ ap or_missed (apart_cut a b w r n s f)

-- ---- the box of A and B: its sides are coordinates of A and B
first_box : (a b : Point) (w : Rect) → Fine a b w → SomeRect (box_of a b) × (bound_refusal a b w (box_of a b) ≡ done)
first_box a b w f =
    let (p, q) = fine_parts _ _ f in
    let (fa, fb) = and_parts _ _ p in
    let (ax, ay) = and_parts _ _ fa in
    let (bx, by) = and_parts _ _ fb in
    let x = between_ends (λ (v : Float). coordinate v ≡ true) a.x b.x ax bx in
    let y = between_ends (λ (v : Float). coordinate v ≡ true) a.y b.y ay by in
    ((good a b w f).first_some, fine_from _ _ (and_both _ _ p (and_both _ _ (and_both _ _ x.0 x.1) (and_both _ _ y.0 y.1))) q)

-- ---- edges
ends_in : (a b : Point) (w k : Rect) → PartRect k w → BothIn w (ends a b k)
unfolding ends
ends_in a b w k p =
    let x : (d : Bool) → In w.x (end_of k.x d) = λ d. part_in _ _ _ p.x (end_in k.x d p.x.some) in
    let y : (d : Bool) → In w.y (end_of k.y d) = λ d. part_in _ _ _ p.y (end_in k.y d p.y.some) in
    record { a = record { x = x _; y = y _ }; b = record { x = x _; y = y _ } }

kept_points : (a b : Point) (w : Rect) (s : Segment) → clipped a b w ≡ Ok s → BothIn w s × BothIn (box_of a b) s
kept_points a b w s e =
    kept_cases a b w s e (λ k f h is.
    let (o, n) = first_box a b w f in
    let q = kept_cut a b w (box_of a b) k o n h in
    rw (← is) (ends_in a b w k q.in_window, ends_in a b (box_of a b) k q.in_first_lem))

zero_kept : (a b : Point) (w : Rect) → number (clipped a b w) ≡ 0 → clipped a b w ≡ Ok (points_of (clipped a b w))
zero_kept a b w e = let (p, q, some) = (numbers.clip_edge a b w).zero.0 e in go (fine_from _ _ p q) (box_cut a b w (box_of a b)) refl some
  where
    go : Fine a b w → (m : Option Rect) → box_cut a b w (box_of a b) ≡ m → (box_cut a b w (box_of a b) ≡ None → ⊥) → clipped a b w ≡ Ok (points_of (clipped a b w))
    go f (Some k) h some = let c : clipped a b w ≡ Ok (ends a b k) = fine_clipped a b w f ∙ unfold edge_answer in ap (edge_answer a b) h in rw c
    go f None h some = absurd (some h)

-- the ends of the first box are the edge's own
whole_is : (a b : Point) (w : Rect) → Good a b w → ends a b (box_of a b) ≡ whole a b
unfolding ends second
whole_is a b w g = rw (a_end a.x b.x, a_end a.y b.y, second_end a.x b.x (finite_num _ g.ax) (finite_num _ g.bx), second_end a.y b.y (finite_num _ g.ay) (finite_num _ g.by))

pub inside_clipped : (a b : Point) (w : Rect) → Fine a b w → PartRect (box_of a b) w → clipped a b w ≡ Ok (whole a b)
unfolding edge_answer
inside_clipped a b w f p = fine_clipped a b w f ∙ ap (edge_answer a b) (box_stays a b w (box_of a b) p) ∙ ap Ok (whole_is a b w (good a b w f))

pub apart_clipped : (a b : Point) (w : Rect) → Fine a b w → (ShareRect (box_of a b) w → ⊥) → clipped a b w ≡ Err Missed
unfolding edge_answer
apart_clipped a b w f h = let (s, n) = first_box a b w f in fine_clipped a b w f ∙ ap (edge_answer a b) (apart_cut a b w (box_of a b) n s h)

-- ---- a moved end
never_wider : (i : Interval) (high : Bool) (v : Float) → finite_interval i ≡ true → (j : Interval) → moved_end i high v ≡ Some j → NoWider j i
never_wider i high v f j e = moved_wider i j high v nums e
  where
    ends : (finite i.lo ≡ true) × (finite i.hi ≡ true)
    ends = unfold finite_interval in and_parts _ _ f

    nums : Ended i
    nums true = unfold end_of when◌then◌else◌ in finite_num i.hi ends.1
    nums false = unfold end_of when◌then◌else◌ in finite_num i.lo ends.0

-- ---- the corners
corners_between : (a b : Point) (r : Rect) → HandedIn (floats_of a b r) → Fine a b r → (i j : Bool)
    → let n = ortho_of (difference_of b a) in (le (off_line n a r i j) (farthest n a r) ≡ true) × (le (nearest n a r) (off_line n a r i j) ≡ true)
corners_between a b r h f i j =
    let n = ortho_of (difference_of b a) in
    let s = (good a b r f).window_some in
    let num : (i j : Bool) → Num (off_line n a r i j) = λ i j. finite_num _ (values.corners_finite a b r h f i j) in
    (is_farthest n a r s (num _ _) i j (num i j), is_nearest n a r s (num _ _) i j (num i j))

pub promises : Promises
unfolding edge_meets
promises = record {
  numbers = numbers;
  values = values;
  near = near_the_line;
  never_wider = never_wider;
  first_box = first_box;
  kept_box = kept_box;
  inside_box = inside_box;
  apart_box = apart_box;
  kept_points = kept_points;
  zero_kept = zero_kept;
  inside_kept = inside_clipped;
  a_kept = a_kept;
  b_kept = b_kept;
  apart_missed = apart_clipped;
  meets_share = λ a b r e. box_share r a b (and_parts _ _ e).0;
  is_farthest = is_farthest;
  is_nearest = is_nearest;
  corners_between = corners_between;
  nan_says_no = nan_says_no;
}
