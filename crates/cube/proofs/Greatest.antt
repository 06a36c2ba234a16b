-- `face_of` names the greatest absolute coordinate, ties to the lower axis, and no other number does.
use mathlib.Core.Path.{◌≡◌, refl, sym, ◌∙◌}
use mathlib.Core.Logic.{inl, inr}
use mathlib.Core.Bool.{true, false, cond, true≢false}
use Prim.Native.Nat.{ℕ, suc, ◌+◌, ◌≤◌, ◌<◌}
use native.Mathlib.Nat.{eq-or-lt_of_le}
use native.Mathlib.Omega.{arith}
use lib.Dec.{leb}
use lib.Ieee.{lt, le}
use Rattle.float.specs.Float.{zero_f}
use Rattle.float.proofs.Choice.{cases}
use Rattle.float.proofs.Order.{Num, finite_num, le_refl, le_trans, lt_le, not_lt, le_not_lt, le_lt_trans}
use Rattle.float.proofs.Size.{size_finite}
use Rattle.float.proofs.Whole.{le_or_lt}
use Rattle.cube.specs.Vector.{finite_vector}
use Rattle.cube.specs.Faces.{along, absolute, greater, face_of}
use Rattle.cube.specs.Promises.{own_axis, Greatest}
use Rattle.cube.specs.declared.vector.Vector.{Vector}
use Rattle.cube.proofs.Six.{six, three}
use Rattle.cube.proofs.Vectors.{along_finite}

axis_le : (p : Vector) → greater p (greater p 0 1) 2 ≤ 2
axis_le p = either (greater p 0 1) 2 (either 0 1 (omega arith) (omega arith)) (omega arith)
  where
    either : (i j : ℕ) → i ≤ 2 → j ≤ 2 → greater p i j ≤ 2
    either i j I J = unfold greater in cases (λ (k : ℕ). k ≤ 2) (lt (absolute i p) (absolute j p)) j i (λ e. J) (λ e. I)

pub face_le : (p : Vector) → face_of p ≤ 5
unfolding face_of
face_le p = cases (λ (f : ℕ). f ≤ 5) _ _ _ (λ e. omega (arith, axis_le p)) (λ e. omega (arith, axis_le p))

-- ---- of the first n axes k has the greatest absolute coordinate, and is the lowest that has it
record Top (p : Vector) (n k : ℕ) : Type 0 where
  axis : k < n
  most : (i : ℕ) → i < n → le (absolute i p) (absolute k p) ≡ true
  lowest : (i : ℕ) → i < k → lt (absolute i p) (absolute k p) ≡ true

-- what holds of the last of n + 1, and of those before it, holds of each
each : (P : ℕ → Type 0) (n : ℕ) → P n → ((i : ℕ) → i < n → P i) → (i : ℕ) → i < suc n → P i
each P n a b i h = elim (le_or_lt n i) [ inl l ↦ let e : i ≡ n = omega arith in rw e a | inr l ↦ b i l ]

module _ (p : Vector) (fine : finite_vector p ≡ true) where
  num : (i : ℕ) → i ≤ 2 → Num (absolute i p)
  num i h = finite_num _ (size_finite (along i p) ∙ along_finite p fine i (omega arith))

  first : Top p 1 0
  first = record { axis = omega arith; most = each _ 0 (le_refl _ (num 0 (omega arith))) (λ i h. absurd (omega arith)); lowest = λ i h. absurd (omega arith) }

  next : (n k : ℕ) → n ≤ 2 → Top p n k → Top p (suc n) (greater p k n)
  unfolding greater
  next n k h t =
      let less = t.axis in
      cases (Top p (suc n)) (lt (absolute k p) (absolute n p)) n k
      (λ up. record { axis = omega arith; most = each _ n (le_refl _ (num n h)) (λ i l. le_trans _ _ _ (t.most i l) (lt_le _ _ up)); lowest = λ i l. le_lt_trans _ _ _ (t.most i l) up })
      (λ no. record { axis = omega arith; most = each _ n (not_lt _ _ (num k (omega arith)) (num n h) no) t.most; lowest = t.lowest })

  -- ---- the face: its axis, and 3 more when the coordinate is negative
  named : (k f : ℕ) → f ≤ 5 → own_axis f ≡ k → leb 3 f ≡ lt (along k p) zero_f → Top p 3 k → Greatest p f
  named k f h e s t = record { face = h; most = rw e (λ i l. t.most i (omega arith)); lowest = rw e t.lowest; sign = rw e s }

  pub face_greatest : Greatest p (face_of p)
  unfolding face_of
  face_greatest =
      let k = greater p (greater p 0 1) 2 in
      let t : Top p 3 k = next 2 (greater p 0 1) (omega arith) (next 1 0 (omega arith) first) in
      let K : k < 3 = t.axis in
      cases (Greatest p) (lt (along k p) zero_f) (k + 3) k
      (λ e. named k (k + 3) (omega arith) (three (λ i. own_axis (i + 3) ≡ i) refl refl refl k (omega arith)) (three (λ i. leb 3 (i + 3) ≡ true) refl refl refl k (omega arith) ∙ sym e) t)
      (λ e. named k k (omega arith) (three (λ i. own_axis i ≡ i) refl refl refl k (omega arith)) (three (λ i. leb 3 i ≡ false) refl refl refl k (omega arith) ∙ sym e) t)

-- ---- no other number: the axis is the same, by `most` and `lowest`, and the sign
no_lower : (p : Vector) (f g : ℕ) → Greatest p f → Greatest p g → own_axis f < own_axis g → ⊥
no_lower p f g a b h = true≢false (sym (b.lowest (own_axis f) h) ∙ le_not_lt _ _ (a.most (own_axis g) (omega arith)))

whole : (f : ℕ) → f ≤ 5 → f ≡ own_axis f + cond (leb 3 f) 3 0
whole = six (λ f. f ≡ own_axis f + cond (leb 3 f) 3 0) refl refl refl refl refl refl

pub face_only : (p : Vector) (f g : ℕ) → Greatest p f → Greatest p g → f ≡ g
face_only p f g a b =
    let e : own_axis f ≡ own_axis g = elim (le_or_lt (own_axis f) (own_axis g)) [
      | inl l ↦ elim (eq-or-lt_of_le l) [ inl e ↦ e | inr h ↦ absurd (no_lower p f g a b h) ]
      | inr h ↦ absurd (no_lower p g f b a h)
    ] in
    whole f a.face ∙ (rw (a.sign, b.sign, e)) ∙ sym (whole g b.face)
