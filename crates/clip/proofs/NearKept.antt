-- The kept points of an edge: each coordinate is the own end's, a window's side or a cut value, and a point that was cut is near the line. A corner between two sides is too: the values there lie on both sides of the line, or on it, so that the corner is no farther than one of them.
use mathlib.Core.Path.{◌≡◌, refl, sym, ap, ◌∙◌}
use mathlib.Core.Logic.{◌⊎◌, inl, inr}
use mathlib.Core.Bool.{Bool, true, false}
use Prim.Native.Nat.{ℕ, ◌≤◌}
use native.Mathlib.Nat.{le_trans, mul-le-mul_right}
use borrow.Author.Tests.{leb-true, le-leb}
use lib.IntN.{ℤ, nat_abs}
use lib.Ieee.{Float, binary64, eq}
use Rattle.float.specs.Choice.{when◌then◌else◌}
use Rattle.float.specs.Exact.{units, Value}
use Rattle.float.proofs.Order.{Num, finite_num, le_refl, le_eq, eq_le, le_trans as le_chain, lt_le_trans, le_lt_trans}
use Rattle.float.proofs.Sizes.{eq_z_true}
use Rattle.float.proofs.Laws.{compared}
use Rattle.plane.specs.Point.{at}
use Rattle.plane.specs.Interval.{between, end_of}
use Rattle.plane.specs.Rect.{box_of, corner_of}
use Rattle.plane.specs.Within.{In}
use Rattle.plane.specs.declared.point.Point.{Point}
use Rattle.plane.specs.declared.rect.Rect.{Rect}
use Rattle.plane.proofs.Between.{between_ends}
use Rattle.clip.specs.Cut.{inward}
use Rattle.clip.specs.Near.{least, width, near, KeptFrom, uncut, cut, corner}
use Rattle.clip.proofs.Sides.{up_to, inward_up, not_inward, up_refl, in_up}
use Rattle.clip.proofs.Lines.{off, off_turned, Ahead, off_corner}
use Rattle.clip.proofs.Held.{Fit, value_value, value_between}
use Rattle.clip.proofs.NearLine.{ahead_up, ahead_down}
use Rattle.clip.proofs.KeptEnd.{MovedTo, After, stays, cuts, value_x, value_y, CutCorner}

-- ---- one of two that compare equal is as near as the other, and one that is no farther off too
up_eq : (c : Bool) (x y : Float) → up_to c x y ≡ true → up_to c y x ≡ true → eq x y ≡ true
up_eq true x y p q = le_eq x y p q
up_eq false x y p q = le_eq x y q p

up_on : (c : Bool) (x y z : Float) → up_to c x y ≡ true → eq y z ≡ true → up_to c x z ≡ true
up_on true x y z p e = le_chain x y z p (eq_le y z e).0
up_on false x y z p e = le_chain z y x (eq_le y z e).1 p

num_eq : (x : Float) → Num x → eq x x ≡ true
num_eq x n = le_eq x x (le_refl x n) (le_refl x n)

near_equal : (k : ℕ) (v y x a b a1 b1 : Float) → Value binary64 v → Value binary64 y → eq y v ≡ true → near k v x a b a1 b1 ≡ true → near k y x a b a1 b1 ≡ true
unfolding near
near_equal k v y x a b a1 b1 p q e h = let d : units binary64 y ≡ units binary64 v = eq_z_true _ _ (sym (compared binary64 y v q p).equal ∙ e) in rw d h

abbrev off_of : Float → Float → Float → Float → Float → Float → ℤ
off_of v x a b a1 b1 = off (units binary64 v) (units binary64 x) (units binary64 a) (units binary64 b) (units binary64 a1) (units binary64 b1)

near_no_farther : (k : ℕ) (v y x a b a1 b1 : Float) → nat_abs (off_of y x a b a1 b1) ≤ nat_abs (off_of v x a b a1 b1) → near k v x a b a1 b1 ≡ true → near k y x a b a1 b1 ≡ true
unfolding near
near_no_farther k v y x a b a1 b1 l h = le-leb _ _ (le_trans (mul-le-mul_right _ l) (leb-true _ _ h))

-- ---- an end that is moved to a value between a1 and b1 is that value, as a number
settled : (c : Bool) (v e f a1 b1 : Float) → e ≡ end_of (between a1 b1) c → Value binary64 e → Value binary64 v → In (between a1 b1) v → MovedTo c v e f → (eq f v ≡ true) × Value binary64 f
settled c v e f a1 b1 o E own i (inl (h, d)) = rw d (num_eq v (finite_num _ own.is_finite), own)
settled c v e f a1 b1 o E own i (inr (h, d)) =
    rw d (up_eq c e v (not_inward c v e (finite_num _ own.is_finite) (finite_num _ E.is_finite) h) (rw (← o) at (in_up c (between a1 b1) v i)), E)

-- what is inward of it is inward of where it was
inward_on : (c : Bool) (x y z : Float) → inward c x y ≡ true → up_to c y z ≡ true → inward c x z ≡ true
unfolding inward when◌then◌else◌
inward_on true x y z p q = lt_le_trans x y z p q
inward_on false x y z p q = le_lt_trans z y x q p

moved_up : (c : Bool) (v e f : Float) → Num e → MovedTo c v e f → up_to c f e ≡ true
moved_up c v e f n (inl (h, d)) = rw d (inward_up c v e h)
moved_up c v e f n (inr (h, d)) = rw d (up_refl c e n)

up_ahead : (c : Bool) {x y : Float} → Value binary64 x → Value binary64 y → up_to c x y ≡ true → Ahead c (units binary64 x) (units binary64 y)
up_ahead true p q h = ahead_up p q h
up_ahead false p q h = ahead_down p q h

same_point : (p q : Point) → p.x ≡ q.x → p.y ≡ q.y → p ≡ q
same_point p q e d = ap (λ (x : Float). at x p.y) e ∙ ap (at q.x) d

own_end_lem : (a b : Float) (c : Bool) → Value binary64 a → Value binary64 b → Value binary64 (end_of (between a b) c)
unfolding end_of when◌then◌else◌
own_end_lem a b c p q = let (l, h) = between_ends (Value binary64) a b p q in elim c as (λ k. Value binary64 (end_of (between a b) k)) [ true ↦ h | false ↦ l ]

-- ---- the edge from a to b, and its own end at the ends cx and cy of its box
module _ (k : ℕ) (a b : Point) (w : Rect) (X : (d : Bool) → Fit (end_of w.x d) a.x b.x a.y b.y) (Y : (d : Bool) → Fit (end_of w.y d) a.y b.y a.x b.x)
    (near_x : (d : Bool) → In (between a.x b.x) (end_of w.x d) → least ≤ width a.x b.x → near k (value_x a b w d) (end_of w.x d) a.x b.x a.y b.y ≡ true)
    (near_y : (d : Bool) → In (between a.y b.y) (end_of w.y d) → least ≤ width a.y b.y → near k (value_y a b w d) (end_of w.y d) a.y b.y a.x b.x ≡ true)
    (cx cy : Bool) where
  abbrev u : Float → ℤ
  u x = units binary64 x

  abbrev own : Point
  own = corner_of (box_of a b) cx cy

  -- the own end is ahead of the other one on both axes
  abbrev Own-ahead : Point → Point → Type 0
  Own-ahead p q = Ahead cx (u q.x) (u p.x) × Ahead cy (u q.y) (u p.y)

  -- v1 at the side of x lies past that of y, and v2 at the side of y past that of x
  corner_near : Own-ahead a b ⊎ Own-ahead b a → (p : Point) → In (between a.x b.x) (end_of w.x cx) → In (between a.y b.y) (end_of w.y cy)
      → up_to cy p.y (value_x a b w cx) ≡ true → up_to cx p.x (value_y a b w cy) ≡ true → p.x ≡ end_of w.x cx → p.y ≡ end_of w.y cy
      → least ≤ width a.x b.x → least ≤ width a.y b.y → (near k p.y p.x a.x b.x a.y b.y ≡ true) ⊎ (near k p.x p.y a.y b.y a.x b.x ≡ true)
  corner_near ahead p i j s t e d lx ly =
      let v1 = value_x a b w cx in
      let v2 = value_y a b w cy in
      let V1 = value_value (X cx) i in
      let V2 = value_value (Y cy) j in
      let P : Value binary64 p.x = rw e (X cx).at_x.value in
      let Q : Value binary64 p.y = rw d (Y cy).at_x.value in
      let m = up_ahead cy Q V1 s in
      let n = up_ahead cx P V2 t in
      let from : (nat_abs (off_of p.y p.x a.x b.x a.y b.y) ≤ nat_abs (off_of v1 p.x a.x b.x a.y b.y))
      ⊎ (nat_abs (off_of p.x p.y a.y b.y a.x b.x) ≤ nat_abs (off_of v2 p.y a.y b.y a.x b.x)) =
      elim ahead [
        | inl (g, h) ↦ off_corner cx cy (u p.x) (u p.y) (u v1) (u v2) (u a.x) (u b.x) (u a.y) (u b.y) g h m n
        | inr (g, h) ↦
            rw (
              ← off_turned (u p.y) (u p.x) (u a.x) (u b.x) (u a.y) (u b.y),
              ← off_turned (u v1) (u p.x) (u a.x) (u b.x) (u a.y) (u b.y),
              ← off_turned (u p.x) (u p.y) (u a.y) (u b.y) (u a.x) (u b.x),
              ← off_turned (u v2) (u p.y) (u a.y) (u b.y) (u a.x) (u b.x),
            )
            (off_corner cx cy (u p.x) (u p.y) (u v1) (u v2) (u b.x) (u a.x) (u b.y) (u a.y) g h m n)
      ]
      in
      elim from [
        | inl l ↦ inl (near_no_farther k v1 p.y p.x a.x b.x a.y b.y l (rw e (near_x cx i lx)))
        | inr l ↦ inr (near_no_farther k v2 p.x p.y a.y b.y a.x b.x l (rw d (near_y cy j ly)))
      ]

  -- what each end of the box is before it is moved
  own_x : Value binary64 own.x
  own_x = own_end_lem a.x b.x cx (X true).at_a.value (X true).at_b.value

  own_y : Value binary64 own.y
  own_y = own_end_lem a.y b.y cy (Y true).at_a.value (Y true).at_b.value

  pub kept_from : Own-ahead a b ⊎ Own-ahead b a → (p : Point) → CutCorner a b w cx cy own p → KeptFrom k a b w own p
  kept_from ahead p c = go c.on_x c.on_y
    where
      -- what was beyond the side on axis y before axis x was cut
      still : inward cy (end_of w.y cy) c.mid_y ≡ true → MovedTo cy (value_x a b w cx) own.y c.mid_y → inward cy (end_of w.y cy) own.y ≡ true
      still j m = inward_on cy _ _ _ j (moved_up cy _ _ _ (finite_num _ own_y.is_finite) m)

      go : After cx cy (value_x a b w cx) (between a.x b.x) w.x own.x own.y c.mid_x c.mid_y
          → After cy cx (value_y a b w cy) (between a.y b.y) w.y c.mid_y c.mid_x p.y p.x → KeptFrom k a b w own p
      go (stays e d) (stays g h) = uncut (same_point p own (h ∙ e) (g ∙ d))
      go (cuts i n e m) (stays g h) =
          let s : p.x ≡ end_of w.x cx = h ∙ e in
          let (q, v) = settled cy _ _ _ a.y b.y refl own_y (value_value (X cx) n) (value_between (X cx) n) (rw (← g) at m) in
          cut false cx (record { beyond = i; side = s }) (rw s q) (λ l. rw s (near_equal k _ p.y _ _ _ _ _ (value_value (X cx) n) v q (near_x cx n l)))
      go (stays e d) (cuts i n g m) =
          let (q, v) = settled cx _ _ _ a.x b.x e (rw e own_x) (value_value (Y cy) n) (value_between (Y cy) n) m in
          cut true cy (record { beyond = rw d at i; side = g }) (rw g q) (λ l. rw g (near_equal k _ p.x _ _ _ _ _ (value_value (Y cy) n) v q (near_y cy n l)))
      go (cuts i n e m) (cuts j o g (inl (h, d))) =
          let V2 = value_value (Y cy) o in
          cut true cy (record { beyond = still j m; side = g }) (rw (g, d) (num_eq _ (finite_num _ V2.is_finite))) (λ l. rw (g, d) (near_y cy o l))
      go (cuts i n e m) (cuts j o g (inr (h, d))) =
          let V1 = value_value (X cx) n in
          let V2 = value_value (Y cy) o in
          let (q, v) = settled cy _ _ _ a.y b.y refl own_y V1 (value_between (X cx) n) m in
          let s = d ∙ e in
          let mid : Value binary64 c.mid_x = rw e (X cx).at_x.value in
          corner cx cy (record { beyond = i; side = s }) (record { beyond = still j m; side = g })
          (corner_near ahead p n o (rw g (up_on cy _ _ _ (inward_up cy _ _ j) q)) (rw d (not_inward cx _ _ (finite_num _ V2.is_finite) (finite_num _ mid.is_finite) h)) s g)
