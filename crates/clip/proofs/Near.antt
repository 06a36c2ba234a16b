-- What specs/Near.antt promises, proved: proofs/NearLine.antt at binary64, for values that are not refused.
use Rattle.std.specs.Prelude.{Some, Ok}
use Rattle.clip.specs.declared.Segment.{Segment}
use mathlib.Core.Path.{◌≡◌, refl, ap}
use mathlib.Core.Logic.{◌⊎◌, inl, inr}
use mathlib.Core.Bool.{Bool, true, false, not}
use mathlib.Core.List.{[], ◌∷◌}
use Prim.Native.Nat.{ℕ, ◌*◌, ◌^◌, ◌≤◌}
use native.Mathlib.Nat.{le_trans}
use native.Mathlib.Omega.{arith}
use lib.Dec.{leb, lit≤}
use borrow.Author.Tests.{le-leb}
use lib.IntN.{ℤ, nat_abs}
use lib.Ieee.{Float, binary64, add, sub, mul, div, neg, lt, le, eq, fits, of_bits}
use Rattle.float.specs.Choice.{when◌then◌else◌, ◌and◌}
use Rattle.float.specs.Float.{zero_f, finite, magnitude_of, sign_bit}
use Rattle.float.specs.Exact.{mag, units, Value}
use Rattle.float.proofs.Choice.{and_both}
use Rattle.float.proofs.Order as Order
use Rattle.float.proofs.Order.{finite_num, lt_le, not_lt, le_trans as le_chain}
use Rattle.float.proofs.Apart.{size_between}
use Rattle.float.proofs.UpTo.{UpTo, power_units, test_up_to, power_le, up_to_test}
use Rattle.answer.specs.Refusal.{number, value_or, done}
use Rattle.plane.specs.Interval.{lesser, greater, between, holds, end_of}
use Rattle.plane.specs.Rect.{box_of}
use Rattle.plane.specs.Within.{In}
use Rattle.plane.specs.declared.point.Point.{Point}
use Rattle.plane.specs.declared.rect.Rect.{Rect}
use Rattle.plane.proofs.Between.{between_ends}
use Rattle.clip.specs.Cut.{negative_slope, on_line, held_in, value_at, box_cut}
use Rattle.clip.specs.Refuse.{coordinate, plane_refusal, point_fine, window_fine, value_refusal}
use Rattle.clip.specs.Answers.{ends, whole, clipped, first_of, second_of, value_or_refusal}
use Rattle.clip.specs.Values.{every, HandedIn, floats_of, tiny}
use Rattle.clip.specs.Near.{power, least, narrow, within, width, off_times, near, NearAsks, KeptFrom, tiny_three, half, worst_x, worst_a, worst_b, worst_a1, worst_b1, NearLine}
use Rattle.clip.specs.Promises.{Fine}
use Rattle.clip.proofs.Cases.{then_rest, kept_cases}
use Rattle.clip.proofs.Numbers.{fine_from, fine_parts}
use Rattle.clip.proofs.FromEnd.{Along}
use Rattle.clip.proofs.Held.{Fit, along}
use Rattle.clip.proofs.Lines.{Ahead}
use Rattle.clip.proofs.NearLine.{Close, size_of, exactly, ahead_up, ahead_down, value_close}
use Rattle.clip.proofs.Asks.{x_own, y_own}
use Rattle.clip.proofs.Values.{each, told, along_both, window_some, first_some, own_box}
use Rattle.clip.proofs.OwnEnd.{both_not, a_corner, b_corner}
use Rattle.clip.proofs.KeptEnd.{value_x, value_y, box_after}
use Rattle.clip.proofs.NearKept.{kept_from}

-- ---- the two bounds, of one number
-- within 49 * 2 ^ -56, and so within 2 ^ -50; C and w may be numerals too long for omega
three_quarters : (n w C N M : ℕ) → N * 8 ≡ M → n * N * 8 ≤ C * w * 49 → n * M ≤ w * (49 * C)
three_quarters n w C N M e h = rw (← e) (omega arith)

in_whole : (n w C N M : ℕ) → N ≡ M * 8 → n * N * 8 ≤ C * w * 49 → n * M ≤ w * C
in_whole n w C N M e h = omega (arith, rw e at h)

pub close_near : (k : ℕ) (v x a b a1 b1 : Float) → Close binary64 (power_units binary64 k) v x a b a1 b1 → near k v x a b a1 b1 ≡ true
unfolding near
close_near k v x a b a1 b1 h = le-leb _ _ (in_whole (off_times v x a b a1 b1) (width a b) (power k) (2 ^ 53) (2 ^ 50) refl h)

-- ---- floats up to 2 ^ k
module _ {k : ℕ} (few : k ≤ 500) (x : Float) where
  pub within_units : fits binary64 x ≡ true → within k x ≡ true → UpTo binary64 (power_units binary64 k) x
  unfolding within
  within_units t h = test_up_to binary64 k x t h

  pub within_coordinate : within k x ≡ true → coordinate x ≡ true
  unfolding within coordinate
  within_coordinate h = le_chain _ _ _ h (power_le binary64 few)

-- what lies between two such floats is one
under : {n : ℕ} (x y z : Float) → (nat_abs (units binary64 x) ≤ nat_abs (units binary64 y)) ⊎ (nat_abs (units binary64 x) ≤ nat_abs (units binary64 z)) → mag binary64 y ≤ n → mag binary64 z ≤ n → mag binary64 x ≤ n
under x y z (inl h) p q = le_trans (rw (size_of binary64 x, size_of binary64 y) at h) p
under x y z (inr h) p q = le_trans (rw (size_of binary64 x, size_of binary64 z) at h) q

between_within : (k : ℕ) (x a b : Float) → fits binary64 x ≡ true → UpTo binary64 (power_units binary64 k) a → UpTo binary64 (power_units binary64 k) b → In (between a b) x → within k x ≡ true
unfolding within
between_within k x a b t A B i =
    let (l, h) = between_ends (λ (y : Float). finite y ≡ true) a b A.value.is_finite B.value.is_finite in
    let v : Value binary64 x = record { is_finite = Order.between _ _ _ l h i.low i.high; held = t } in
    up_to_test binary64 k x v (inner v (along x a b (finite_num _ A.value.is_finite) (finite_num _ B.value.is_finite) i))
  where
    u : Float → ℤ
    u y = units binary64 y

    inner : Value binary64 x → Along x a b → mag binary64 x ≤ power_units binary64 k
    inner v (inl (p, q)) = under x a b (size_between (u a) (u x) (u b) (exactly A.value v p) (exactly v B.value q)) A.size B.size
    inner v (inr (p, q)) = under x b a (size_between (u b) (u x) (u a) (exactly B.value v p) (exactly v A.value q)) B.size A.size

-- ---- interpolate
far_enough : (a b : Float) → least ≤ width a b → narrow ≤ width a b
far_enough a b h = le_trans (lit≤ tt) h

near_line : (x a b a1 b1 : Float) → HandedIn (x ∷ a ∷ b ∷ a1 ∷ b1 ∷ []) → every (within 0) (a ∷ b ∷ a1 ∷ b1 ∷ []) ≡ true → In (between a b) x → least ≤ width a b
    → (number (value_or_refusal x a b a1 b1) ≡ 0) × (near 0 (value_or zero_f (value_or_refusal x a b a1 b1)) x a b a1 b1 ≡ true)
near_line x a b a1 b1 h w i l =
    let (fx, (fa, (fb, (fa1, (fb1, z))))) = each _ _ h in
    let (wa, (wb, (wa1, (wb1, y)))) = each _ _ w in
    let few : 0 ≤ 500 = lit≤ tt in
    let wx = between_within 0 x a b fx (within_units few a fa wa) (within_units few b fb wb) i in
    let c : (y : Float) → within 0 y ≡ true → coordinate y ≡ true = within_coordinate few in
    let r : value_refusal x a b a1 b1 ≡ done = fine_from _ _ (and_both _ _ (c x wx) (and_both _ _ (and_both _ _ (c a wa) (c b wb)) (and_both _ _ (c a1 wa1) (c b1 wb1)))) refl in
    (ap number (then_rest _ (Ok (value_at x a b a1 b1)) r), told x a b a1 b1 h (λ (v : Float). near 0 v x a b a1 b1 ≡ true) r (λ m. close_near 0 _ x a b a1 b1 (value_close m i 0 (within_units few a1 fa1 wa1) (within_units few b1 fb1 wb1) (far_enough a b l))))

nearer_line : (k : ℕ) → k ≤ 500 → (x a b a1 b1 : Float) → HandedIn (x ∷ a ∷ b ∷ a1 ∷ b1 ∷ []) → value_refusal x a b a1 b1 ≡ done → every (within k) (a1 ∷ b1 ∷ []) ≡ true
    → In (between a b) x → narrow ≤ width a b → off_times (value_or zero_f (value_or_refusal x a b a1 b1)) x a b a1 b1 * 2 ^ 56 ≤ width a b * (49 * power k)
nearer_line k few x a b a1 b1 h r w i l =
    let (fx, (fa, (fb, (fa1, (fb1, z))))) = each _ _ h in
    let (wa1, (wb1, y)) = each _ _ w in
    told x a b a1 b1 h (λ (v : Float). off_times v x a b a1 b1 * 2 ^ 56 ≤ width a b * (49 * power k)) r
    (λ m. three_quarters (off_times (value_at x a b a1 b1) x a b a1 b1) (width a b) (power k) (2 ^ 53) (2 ^ 56) refl (value_close m i k (within_units few a1 fa1 wa1) (within_units few b1 fb1 wb1) l))

-- ---- two cases, computed
width_needed : (value_or_refusal tiny zero_f tiny_three zero_f half ≡ Ok zero_f) × (near 0 zero_f tiny zero_f tiny_three zero_f half ≡ false)
unfolding of_bits add sub mul div neg lt le eq when◌then◌else◌ magnitude_of sign_bit mag coordinate plane_refusal holds lesser greater between on_line held_in value_at near
width_needed = (refl, refl)

worst_seen : leb (off_times (value_or zero_f (value_or_refusal worst_x worst_a worst_b worst_a1 worst_b1)) worst_x worst_a worst_b worst_a1 worst_b1 * (100 * 2 ^ 53)) (width worst_a worst_b * (399 * power 0)) ≡ false
unfolding of_bits add sub mul div neg lt le eq when◌then◌else◌ magnitude_of sign_bit mag coordinate plane_refusal holds lesser greater between on_line held_in value_at
worst_seen = refl

-- ---- clip_edge
module _ (k : ℕ) (few : k ≤ 500) (a b : Point) (w : Rect) (h : HandedIn (floats_of a b w)) (f : Fine a b w) (within_k : every (within k) (a.x ∷ a.y ∷ b.x ∷ b.y ∷ []) ≡ true) where
  p : (point_fine a and point_fine b) ≡ true
  p = (fine_parts _ _ f).0

  q : window_fine w ≡ true
  q = (fine_parts _ _ f).1

  X : (d : Bool) → Fit (end_of w.x d) a.x b.x a.y b.y
  X = (along_both a b w h p q).0

  Y : (d : Bool) → Fit (end_of w.y d) a.y b.y a.x b.x
  Y = (along_both a b w h p q).1

  -- the coordinates on axis x, and on axis y
  sizes : (UpTo binary64 (power_units binary64 k) a.x × UpTo binary64 (power_units binary64 k) b.x) × (UpTo binary64 (power_units binary64 k) a.y × UpTo binary64 (power_units binary64 k) b.y)
  sizes =
      let (fax, (fay, (fbx, (fby, u)))) = each _ _ h in
      let (wax, (way, (wbx, (wby, v)))) = each _ _ within_k in
      ((within_units few a.x fax wax, within_units few b.x fbx wbx), (within_units few a.y fay way, within_units few b.y fby wby))

  -- at a side that lies between the ends
  near_x : (d : Bool) → In (between a.x b.x) (end_of w.x d) → least ≤ width a.x b.x → near k (value_x a b w d) (end_of w.x d) a.x b.x a.y b.y ≡ true
  near_x d i l = close_near k _ _ _ _ _ _ (value_close (X d) i k sizes.1.0 sizes.1.1 (far_enough a.x b.x l))

  near_y : (d : Bool) → In (between a.y b.y) (end_of w.y d) → least ≤ width a.y b.y → near k (value_y a b w d) (end_of w.y d) a.y b.y a.x b.x ≡ true
  near_y d i l = close_near k _ _ _ _ _ _ (value_close (Y d) i k sizes.0.0 sizes.0.1 (far_enough a.y b.y l))

  edge_near_asks : NearAsks k a b w (box_of a b)
  edge_near_asks =
      let box = own_box a b w h p q in
      let window = window_some a b w h p q in
      record { on_x = λ l. x_own _ a b w _ box window (λ d i. near_x d i l); on_y = λ l. y_own _ a b w _ box window (λ d i. near_y d i l) }

  -- A's corner, which is ahead of B's, and B's
  ahead_of : (x y : Float) → Value binary64 x → Value binary64 y → Ahead (lt y x) (units binary64 y) (units binary64 x) × Ahead (not (lt y x)) (units binary64 x) (units binary64 y)
  ahead_of x y P Q = go (lt y x) refl
    where
      go : (c : Bool) → lt y x ≡ c → Ahead c (units binary64 y) (units binary64 x) × Ahead (not c) (units binary64 x) (units binary64 y)
      go true e = let l = lt_le y x e in (ahead_up Q P l, ahead_down P Q l)
      go false e = let l = not_lt y x (finite_num _ Q.is_finite) (finite_num _ P.is_finite) e in (ahead_down Q P l, ahead_up P Q l)

  kept : (r : Rect) → box_cut a b w (box_of a b) ≡ Some r → let s = ends a b r in KeptFrom k a b w a (first_of s) × KeptFrom k a b w (second_of (whole a b)) (second_of s)
  unfolding negative_slope ends
  kept r e =
      let cx = lt b.x a.x in
      let cy = lt b.y a.y in
      let (ax, bx) = ahead_of a.x b.x (X true).at_a.value (X true).at_b.value in
      let (ay, by) = ahead_of a.y b.y (Y true).at_a.value (Y true).at_b.value in
      let some = first_some a b w h p q in
      let window = window_some a b w h p q in (
        rw (a_corner a b w h f) at (kept_from k a b w X Y near_x near_y cx cy (inl (ax, ay)) _ (box_after a b w cx cy refl some window r e)),
        rw (b_corner a b w h f) at (kept_from k a b w X Y near_x near_y (not cx) (not cy) (inr (bx, by)) _ (box_after a b w (not cx) (not cy) (both_not cx cy) some window r e)),
      )

kept_near : (k : ℕ) → k ≤ 500 → (a b : Point) (w : Rect) → HandedIn (floats_of a b w) → every (within k) (a.x ∷ a.y ∷ b.x ∷ b.y ∷ []) ≡ true
    → (s : Segment) → clipped a b w ≡ Ok s → KeptFrom k a b w a (first_of s) × KeptFrom k a b w (second_of (whole a b)) (second_of s)
kept_near k few a b w h wk s e = kept_cases a b w s e (λ r f c is. rw (← is) (kept k few a b w h f wk r c))

pub near_the_line : NearLine
near_the_line = record {
  near_line = near_line;
  nearer_line = nearer_line;
  width_needed = width_needed;
  worst_seen = worst_seen;
  edge_near_asks = edge_near_asks;
  kept_near = kept_near;
}
