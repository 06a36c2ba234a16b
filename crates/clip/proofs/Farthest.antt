-- The two corners that edge_intersects_rect looks at are the farthest along the normal and the nearest: each operation on the way to a corner's place keeps the order.
use mathlib.Core.Path.{◌≡◌, refl, sym, ◌∙◌}
use mathlib.Core.Logic.{◌⊎◌, inl, inr}
use mathlib.Core.Bool.{Bool, true, false, not, true≢false}
use lib.Ieee.{Float, binary64, le, is_nan, of_bits}
use Rattle.float.specs.Choice.{when◌then◌else◌}
use Rattle.float.specs.Float.{◌⊖◌, ◌⊗◌, zero_f}
use Rattle.float.proofs.Choice.{and_parts}
use Rattle.float.proofs.Order.{Num, le_num, le_refl, lt_le, not_le}
use Rattle.float.proofs.Zero.{nought}
use Rattle.float.proofs.SumOrder.{add_up, add_nums, sub_up}
use Rattle.float.proofs.ProductOrder.{mul_up, mul_down, mul_nums}
use Rattle.plane.specs.Point.{difference_of, ortho_of}
use Rattle.plane.specs.Interval.{end_of}
use Rattle.plane.specs.Within.{Some, SomeRect}
use Rattle.plane.specs.declared.point.Point.{Point}
use Rattle.plane.specs.declared.interval.Interval.{Interval}
use Rattle.plane.specs.declared.rect.Rect.{Rect}
use Rattle.clip.specs.Cut.{off_line, farthest, nearest, crossed, edge_meets}

zero_is : zero_f ≡ nought
unfolding of_bits
zero_is = refl

-- ---- one axis: how far x lies from c, times k
module _ (k c x y : Float) (h : le x y ≡ true) (p : Num (k ⊗ (x ⊖ c))) (q : Num (k ⊗ (y ⊖ c))) where
  less : le (x ⊖ c) (y ⊖ c) ≡ true
  less = sub_up binary64 x y c h (mul_nums binary64 k _ p).1 (mul_nums binary64 k _ q).1

  keeps : le zero_f k ≡ true → le (k ⊗ (x ⊖ c)) (k ⊗ (y ⊖ c)) ≡ true
  keeps z = mul_up binary64 k _ _ (rw zero_is at z) less p q

  turns : le zero_f k ≡ false → le (k ⊗ (y ⊖ c)) (k ⊗ (x ⊖ c)) ≡ true
  turns z =
      let n : Num nought = unfold is_nan in refl in
      mul_down binary64 k _ _ (lt_le _ _ (not_le nought k n (mul_nums binary64 k _ p).0 (rw zero_is at z))) less p q

module _ (i : Interval) (s : Some i) (e : Bool) where
  under_high : le (end_of i e) (end_of i true) ≡ true
  unfolding end_of when◌then◌else◌
  under_high = elim e as (λ k. le (end_of i k) (end_of i true) ≡ true) [ true ↦ le_refl _ (le_num _ _ s).1 | false ↦ s ]

  over_low : le (end_of i false) (end_of i e) ≡ true
  unfolding end_of when◌then◌else◌
  over_low = elim e as (λ k. le (end_of i false) (end_of i k) ≡ true) [ true ↦ s | false ↦ le_refl _ (le_num _ _ s).0 ]

-- the place of an end, along the axis alone
along : Float → Float → Interval → Bool → Float
along k c i e = k ⊗ (end_of i e ⊖ c)

module _ (k c : Float) (i : Interval) (s : Some i) (e : Bool) (q : Num (along k c i e)) where
  far : Num (along k c i (le zero_f k)) → le (along k c i e) (along k c i (le zero_f k)) ≡ true
  far = go (le zero_f k) refl
    where
      go : (b : Bool) → le zero_f k ≡ b → Num (along k c i b) → le (along k c i e) (along k c i b) ≡ true
      go true z p = unfold along in keeps k c _ _ (under_high i s e) q p z
      go false z p = unfold along in turns k c _ _ (over_low i s e) p q z

  near : Num (along k c i (not (le zero_f k))) → le (along k c i (not (le zero_f k))) (along k c i e) ≡ true
  near = go (le zero_f k) refl
    where
      go : (b : Bool) → le zero_f k ≡ b → Num (along k c i (not b)) → le (along k c i (not b)) (along k c i e) ≡ true
      go true z p = unfold along in keeps k c _ _ (over_low i s e) p q z
      go false z p = unfold along in turns k c _ _ (under_high i s e) q p z

-- ---- both axes
module _ (n a : Point) (r : Rect) (s : SomeRect r) where
  pub is_farthest : Num (farthest n a r) → (i j : Bool) → Num (off_line n a r i j) → le (off_line n a r i j) (farthest n a r) ≡ true
  unfolding along
  is_farthest p i j q =
      let (px, py) = add_nums binary64 _ _ p in
      let (qx, qy) = add_nums binary64 _ _ q in
      add_up binary64 _ _ _ _ (far n.x a.x r.x s.x i qx px) (far n.y a.y r.y s.y j qy py) q p

  pub is_nearest : Num (nearest n a r) → (i j : Bool) → Num (off_line n a r i j) → le (nearest n a r) (off_line n a r i j) ≡ true
  unfolding along
  is_nearest p i j q =
      let (px, py) = add_nums binary64 _ _ p in
      let (qx, qy) = add_nums binary64 _ _ q in
      add_up binary64 _ _ _ _ (near n.x a.x r.x s.x i qx px) (near n.y a.y r.y s.y j qy py) p q

-- ---- a NaN is not compared
pub nan_says_no : (a b : Point) (r : Rect)
    → (is_nan (farthest (ortho_of (difference_of b a)) a r) ≡ true) ⊎ (is_nan (nearest (ortho_of (difference_of b a)) a r) ≡ true) → edge_meets a b r ≡ false
unfolding edge_meets crossed
nan_says_no a b r h =
    refuted _ (λ e.
    let (p, q) = and_parts _ _ (and_parts _ _ e).1 in
    elim h [ inl k ↦ true≢false (sym k ∙ (le_num _ _ p).1) | inr k ↦ true≢false (sym k ∙ (le_num _ _ q).0) ])
  where
    refuted : (t : Bool) → (t ≡ true → ⊥) → t ≡ false
    refuted true f = absurd (f refl)
    refuted false f = refl
