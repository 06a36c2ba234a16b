-- What specs/Values.antt promises, proved: what is not refused is at most 2 ^ 500 in size, and of such values proofs/Held.antt and proofs/OffLine.antt tell.
use Rattle.std.specs.Prelude.{Ok, Err}
use mathlib.Core.Path.{◌≡◌, refl, sym, ap, subst, ◌∙◌}
use mathlib.Core.Bool.{Bool, true, false, not}
use mathlib.Core.List.{List, [], ◌∷◌}
use native.Mathlib.Omega.{arith}
use lib.Ieee.{Float, inf, binary64, add, sub, mul, div, neg, lt, le, eq, fits, is_nan, of_bits}
use Rattle.float.specs.Choice.{when◌then◌else◌, ◌and◌}
use Rattle.float.specs.Float.{zero_f, one_f, finite, magnitude_of}
use Rattle.float.proofs.Choice.{and_parts}
use Rattle.float.proofs.Order.{Num, finite_num}
use Rattle.float.proofs.UpTo.{test_up_to}
use Rattle.answer.specs.Refusal.{value_or, done}
use Rattle.answer.specs.declared.Refusal.TheVariants.{Missed}
use Rattle.plane.specs.Point.{difference_of, ortho_of}
use Rattle.plane.specs.Interval.{from◌to◌, holds, lesser, greater, between, end_of}
use Rattle.plane.specs.Rect.{box_of}
use Rattle.plane.specs.Within.{In, Some, Part, SomeRect, PartRect}
use Rattle.plane.specs.declared.point.Point.{Point}
use Rattle.plane.specs.declared.interval.Interval.{Interval}
use Rattle.plane.specs.declared.rect.Rect.{Rect}
use Rattle.plane.proofs.Parts.{in_some, part_refl}
use Rattle.plane.proofs.Promises.{promises as plane}
use Rattle.plane.proofs.Between.{between_in}
use Rattle.clip.specs.Cut.{on_line, value_at, inward, with_end, moved_end, other_moved, side_cut, then_high, axis_cut, off_line}
use Rattle.clip.specs.Refuse.{coordinate, side, plane_refusal, point_fine, sides_fine, window_fine, axis_refusal, value_refusal}
use Rattle.clip.specs.Answers.{axis_or_refusal, value_or_refusal}
use Rattle.clip.specs.Values.{every, number, HandedIn, floats_of, side_places, high_places, axis_places, axis_asks, box_asks, two_f, tiny, OwnAsks, Values}
use Rattle.clip.proofs.Cases.{then_rest, then_cases}
use Rattle.clip.proofs.Numbers.{fine_parts}
use Rattle.clip.proofs.Held.{Small, Fit, num_a, num_b, value_num, value_value, value_level, value_between, value_at_a, value_at_b}
use Rattle.clip.proofs.OffLine.{off_line_finite}
use Rattle.clip.proofs.Asks.{every_map, box_asks_lem, axis_any, box_any, axis_own, x_own, y_own, axis_by_asks, box_by_asks}

-- ---- what is not refused is small
module _ {x : Float} (t : fits binary64 x ≡ true) where
  small : coordinate x ≡ true → Small x
  unfolding coordinate
  small h = test_up_to binary64 _ x t h

  small_side : side x ≡ true → Small x
  unfolding side
  small_side h = test_up_to binary64 _ x t h

-- each of the floats handed in
abbrev pub Each : (Float → Bool) → List Float → Type 0
Each test [] = Unit {0}
Each test (x ∷ xs) = (test x ≡ true) × Each test xs

pub each : (test : Float → Bool) (xs : List Float) → every test xs ≡ true → Each test xs
unfolding every
each test [] h = tt
each test (x ∷ xs) h = let (p, q) = and_parts _ _ h in (p, each test xs q)

fit : {x a b a1 b1 : Float} → Small x → Small a → Small b → Small a1 → Small b1 → Fit x a b a1 b1
fit x a b a1 b1 = record { at_x = x; at_a = a; at_b = b; height_a = a1; height_b = b1 }

small_end : (i : Interval) → fits binary64 i.lo ≡ true → fits binary64 i.hi ≡ true → sides_fine i ≡ true → (d : Bool) → Small (end_of i d)
unfolding sides_fine end_of when◌then◌else◌
small_end i l h f d = let (p, q) = and_parts _ _ (and_parts _ _ f).0 in elim d as (λ k. Small (end_of i k)) [ true ↦ small_side h q | false ↦ small_side l p ]

pub fine_some : (i : Interval) → sides_fine i ≡ true → Some i
unfolding sides_fine
fine_some i e = (and_parts _ _ e).1

-- ---- interpolate
module _ (x a b a1 b1 : Float) (h : HandedIn (x ∷ a ∷ b ∷ a1 ∷ b1 ∷ [])) where
  fine : value_refusal x a b a1 b1 ≡ done → Fit x a b a1 b1
  fine e =
      let (fx, (fa, (fb, (fa1, (fb1, u))))) = each _ _ h in
      let (p, q) = and_parts _ _ (fine_parts _ _ e).0 in
      let (ab, ab1) = and_parts _ _ q in
      let (pa, pb) = and_parts _ _ ab in
      let (pa1, pb1) = and_parts _ _ ab1 in
      fit (small fx p) (small fa pa) (small fb pb) (small fa1 pa1) (small fb1 pb1)

  -- not refused
  pub told : (P : Float → Type 0) → value_refusal x a b a1 b1 ≡ done → (Fit x a b a1 b1 → P (value_at x a b a1 b1)) → P (value_or zero_f (value_or_refusal x a b a1 b1))
  told P e f = subst (λ r. P (value_or zero_f r)) (sym (then_rest _ (Ok (value_at x a b a1 b1)) e)) (f (fine e))

  -- or refused: 0 then
  told_any : (P : Float → Type 0) → P zero_f → (Fit x a b a1 b1 → P (value_at x a b a1 b1)) → P (value_or zero_f (value_or_refusal x a b a1 b1))
  told_any P z f = then_cases (λ r. P (value_or zero_f r)) _ _ (λ e. f (fine e)) (λ e. z)

zero_finite : finite zero_f ≡ true
unfolding of_bits finite
zero_finite = refl

never_nan : (x a b a1 b1 : Float) → HandedIn (x ∷ a ∷ b ∷ a1 ∷ b1 ∷ []) → is_nan (value_or zero_f (value_or_refusal x a b a1 b1)) ≡ false
never_nan x a b a1 b1 h = told_any x a b a1 b1 h Num (finite_num _ zero_finite) (λ m. value_num m)

finite_between : (x a b a1 b1 : Float) → HandedIn (x ∷ a ∷ b ∷ a1 ∷ b1 ∷ []) → In (between a b) x → finite (value_or zero_f (value_or_refusal x a b a1 b1)) ≡ true
finite_between x a b a1 b1 h i = told_any x a b a1 b1 h (λ (v : Float). finite v ≡ true) zero_finite (λ m. (value_value m i).is_finite)

-- ---- the cuts
value_number : {x a b a1 b1 : Float} → Fit x a b a1 b1 → number (value_at x a b a1 b1) ≡ true
value_number m = ap not (value_num m)

module _ (a b : Point) (w : Rect) (h : HandedIn (floats_of a b w)) (p : (point_fine a and point_fine b) ≡ true) (q : window_fine w ≡ true) where
  -- at a side of either axis
  pub along_both : ((d : Bool) → Fit (end_of w.x d) a.x b.x a.y b.y) × ((d : Bool) → Fit (end_of w.y d) a.y b.y a.x b.x)
  unfolding window_fine
  along_both =
      let (fax, (fay, (fbx, (fby, (xl, (xh, (yl, (yh, u)))))))) = each _ _ h in
      let (pa, pb) = and_parts _ _ p in
      let (ax, ay) = and_parts _ _ pa in
      let (bx, by) = and_parts _ _ pb in
      let (wx, wy) = and_parts _ _ q in (
        λ d. fit (small_end w.x xl xh wx d) (small fax ax) (small fbx bx) (small fay ay) (small fby by),
        λ d. fit (small_end w.y yl yh wy d) (small fay ay) (small fby by) (small fax ax) (small fbx bx),
      )

  any_asks : (r : Rect) → every number (box_asks a b w r) ≡ true
  any_asks r = let (x, y) = along_both in box_any number a b w r (λ d. value_number (x d)) (λ d. value_number (y d))

  pub window_some : SomeRect w
  unfolding window_fine
  window_some = let (x, y) = and_parts _ _ q in record { x = fine_some _ x; y = fine_some _ y }

  pub first_some : SomeRect (box_of a b)
  first_some = let (x, y) = along_both in record { x = some (x true); y = some (y true) }
    where
      some : {x a b a1 b1 : Float} → Fit x a b a1 b1 → Some (between a b)
      some {a = a} {b = b} m = in_some _ _ (between_in a b (num_a m) (num_b m)).0

  -- a part of the edge's own box, and that box itself
  pub own_box : PartRect (box_of a b) (box_of a b)
  own_box = record { x = part_refl _ first_some.x; y = part_refl _ first_some.y }

  own_asks : (r : Rect) → PartRect r (box_of a b) → OwnAsks a b w r
  own_asks r part =
      let (x, y) = along_both in
      record {
        on_x = rw every_map (x_own _ a b w r part window_some (λ d i. (plane.holds_in _ _).1 (value_between (x d) i)));
        on_y = rw every_map (y_own _ a b w r part window_some (λ d i. (plane.holds_in _ _).1 (value_between (y d) i)));
      }

  finite_asks : every finite (box_asks a b w (box_of a b)) ≡ true
  finite_asks =
      let (x, y) = along_both in
      box_asks_lem finite a b w (box_of a b) (x_own _ a b w _ own_box window_some (λ d i. (value_value (x d) i).is_finite)) (y_own _ a b w _ own_box window_some (λ d i. (value_value (y d) i).is_finite))

  corners_finite : (i j : Bool) → finite (off_line (ortho_of (difference_of b a)) a w i j) ≡ true
  corners_finite i j = let (x, y) = along_both in off_line_finite (omega arith) (x i) (y j)

-- one axis, at a side of it
module _ (a0 b0 : Float) (i : Interval) (a1 b1 : Float) (j : Interval) (neg : Bool) (w : Interval) (h : HandedIn (a0 ∷ b0 ∷ a1 ∷ b1 ∷ w.lo ∷ w.hi ∷ [])) (e : axis_refusal a0 b0 i a1 b1 j w ≡ done) where
  along_one : (d : Bool) → Fit (end_of w d) a0 b0 a1 b1
  along_one d =
      let (fa0, (fb0, (fa1, (fb1, (l, (u, v)))))) = each _ _ h in
      let (p, q) = fine_parts _ _ e in
      let (p0, p1) = and_parts _ _ (and_parts _ _ p).0 in
      let (pa0, pb0) = and_parts _ _ p0 in
      let (pa1, pb1) = and_parts _ _ p1 in
      fit (small_end w l u q d) (small fa0 pa0) (small fb0 pb0) (small fa1 pa1) (small fb1 pb1)

  axis_asks_lem : every number (axis_asks a0 b0 i a1 b1 j neg w) ≡ true
  axis_asks_lem = rw every_map (axis_any _ a0 b0 i a1 b1 j neg w (λ d. value_number (along_one d)))

  axis_own_asks : Part i (between a0 b0) → every (holds (between a1 b1)) (axis_asks a0 b0 i a1 b1 j neg w) ≡ true
  axis_own_asks part = rw every_map (axis_own _ a0 b0 i a1 b1 j neg w part (fine_some _ (fine_parts _ _ e).1) (λ d k. (plane.holds_in _ _).1 (value_between (along_one d) k)))

-- ---- two cases, computed
infinite_elsewhere : value_or_refusal one_f zero_f tiny zero_f one_f ≡ Ok (inf false)
unfolding of_bits add sub mul div neg lt le eq when◌then◌else◌ magnitude_of coordinate plane_refusal holds lesser greater between on_line value_at
infinite_elsewhere = refl

infinite_asked : axis_asks zero_f tiny (from zero_f to two_f) zero_f one_f (from zero_f to one_f) false (from one_f to two_f) ≡ inf false ∷ []
unfolding of_bits add sub mul div neg lt le eq when◌then◌else◌ magnitude_of holds lesser greater between on_line value_at end_of inward with_end moved_end other_moved side_cut side_places high_places axis_places
infinite_asked = refl

infinite_missed : axis_or_refusal zero_f tiny (from zero_f to two_f) zero_f one_f (from zero_f to one_f) false (from one_f to two_f) ≡ Err Missed
unfolding of_bits add sub mul div neg lt le eq when◌then◌else◌ magnitude_of holds lesser greater between on_line value_at end_of inward with_end moved_end other_moved side_cut then_high axis_cut coordinate side sides_fine plane_refusal
infinite_missed = refl

pub values : Values
values = record {
  never_nan = never_nan;
  finite_between = finite_between;
  between_ends = λ x a b a1 b1 h e i. told x a b a1 b1 h (In (between a1 b1)) e (λ m. value_between m i);
  at_a = λ x a b a1 b1 h e f. told x a b a1 b1 h (λ (v : Float). eq v a1 ≡ true) e (λ m. value_at_a m f);
  at_b = λ x a b a1 b1 h e f g. told x a b a1 b1 h (λ (v : Float). eq v b1 ≡ true) e (λ m. value_at_b m f g);
  level = λ x a b a1 b1 e f. then_rest _ (Ok (value_at x a b a1 b1)) e ∙ ap Ok (value_level x a b a1 b1 f);
  infinite_elsewhere = infinite_elsewhere;
  axis_by_asks = λ a0 b0 a1 b1 c0 d0 c1 d1 this other neg w. axis_by_asks a0 b0 a1 b1 c0 d0 c1 d1 neg w this other;
  box_by_asks = box_by_asks;
  edge_asks = λ a b w h e. let (p, q) = fine_parts _ _ e in finite_asks a b w h p q;
  bound_asks = λ a b w r h e. let (p, q) = fine_parts _ _ e in any_asks a b w h (and_parts _ _ p).0 q r;
  axis_asks_lem = axis_asks_lem;
  edge_own_asks = λ a b w h e. let (p, q) = fine_parts _ _ e in own_asks a b w h p q (box_of a b) (own_box a b w h p q);
  bound_own_asks = λ a b w r h e part. let (p, q) = fine_parts _ _ e in own_asks a b w h (and_parts _ _ p).0 q r part;
  axis_own_asks = axis_own_asks;
  infinite_asked = infinite_asked;
  infinite_missed = infinite_missed;
  corners_finite = λ a b w h e. let (p, q) = fine_parts _ _ e in corners_finite a b w h p q;
}
