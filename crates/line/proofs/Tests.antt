-- The three tests on floats of any format, by the sizes and the exact values of what they compare.
use mathlib.Core.Path.{◌≡◌, sym, ap, ◌∙◌}
use mathlib.Core.Logic.{inl, inr}
use mathlib.Core.Bool.{true, not}
use Prim.Native.Nat.{ℕ, ◌+◌, ◌-◌}
use native.Mathlib.Nat.{le_of_lt, sub-eq-zero_of_le, add-zero, zero-add}
use native.Mathlib.Omega.{arith}
use lib.Dec.{leb}
use borrow.Author.Tests.{leb-true, le-leb, lt-leb}
use lib.IntN.{ℤ, neg_ℤ, ◌+ℤ◌, ◌-ℤ◌, +ℤ_comm, neg_ℤ-+ℤ, neg_ℤ-neg_ℤ, +ℤ-neg_ℤ_cancel}
use lib.Ieee.{Float, Format, add, sub, le, eq}
use Rattle.float.specs.Choice.{when◌then◌else◌, ◌and◌}
use Rattle.float.specs.Float.{magnitude_of, sign_bit}
use Rattle.float.specs.Exact.{mag, units, eq_z}
use Rattle.float.proofs.Choice.{same, and_parts, and_both}
use Rattle.float.proofs.Whole.{rnd_le, le_or_lt}
use Rattle.float.proofs.Values.{Held}
use Rattle.float.proofs.Signed.{turned}
use Rattle.float.proofs.Sizes.{eq_z_true, eq_eq_z}
use Rattle.float.proofs.Plain.{Plain, le_units, eq_units, sub_le_is, le_sub_is, gap_is}
use Rattle.float.proofs.Sums.{rnd_z, rnd_z_neg, rnd_z_fix, eq_swap, sum_equals, difference_equals}
use Rattle.line.proofs.Lines.{face_only, edges_is}
use Rattle.line.proofs.Balance.{Thirds, balance}

-- ---- the face, and opposite edges
module _ {f : Format} {x y z : Float} {a b c : ℕ} (p : Plain f x a) (q : Plain f y b) (r : Plain f z c) where
  pub face_test : (le (sub f z x) y and le (sub f z y) x) ≡ leb c (a + b)
  face_test =
      let g = sub_le_is r p q in
      let h = sub_le_is r q p in
      same (le (sub f z x) y and le (sub f z y) x) (leb c (a + b))
      (λ e.
      let (i, j) = and_parts _ _ e in
      le-leb c (a + b) (face_only p.rep q.rep r.rep (leb-true _ _ (sym g ∙ i)) (leb-true _ _ (sym h ∙ j))))
      (λ e.
      let k = leb-true c (a + b) e in
      and_both _ _ (g ∙ le-leb _ _ (rnd_le q.rep (omega arith))) (h ∙ le-leb _ _ (rnd_le p.rep (omega arith))))

  pub edges_test : (when eq (magnitude_of (sub f x y)) z then (when le y x then le y (sub f x z) else le x (sub f y z)) else le z (magnitude_of (sub f x y))) ≡ leb c (a - b + (b - a))
  unfolding when◌then◌else◌
  edges_test =
      let g = gap_is p q in
      elim (le_or_lt b a) [
        | inl o ↦ rw (eq_units g r.is, le_units r.is g, le_units q.is p.is, le_sub_is p r q, le-leb b a o, sub-eq-zero_of_le o, add-zero) (edges_is p.rep q.rep r.rep o)
        | inr o ↦ rw (eq_units g r.is, le_units r.is g, le_units q.is p.is, le_sub_is q r p, lt-leb b a o, sub-eq-zero_of_le (le_of_lt o), zero-add) (edges_is q.rep p.rep r.rep (le_of_lt o))
      ]

-- ---- the sum
swap : (x y : ℤ) → neg_ℤ (x -ℤ y) ≡ y -ℤ x
swap x y = neg_ℤ-+ℤ x (neg_ℤ y) ∙ ap (λ (z : ℤ). neg_ℤ x +ℤ z) (neg_ℤ-neg_ℤ y) ∙ +ℤ_comm (neg_ℤ x) y

thirds : (f : Format) (x y z : ℤ) → rnd_z f (x +ℤ y) ≡ z → rnd_z f (z -ℤ y) ≡ x → rnd_z f (z -ℤ x) ≡ y → Thirds f x y (neg_ℤ z)
thirds f x y z g h k = record { last = g ∙ sym (neg_ℤ-neg_ℤ z); first = back y x h; middle = ap (rnd_z f) (+ℤ_comm (neg_ℤ z) x) ∙ back x y k }
  where
    back : (v w : ℤ) → rnd_z f (z -ℤ v) ≡ w → rnd_z f (v -ℤ z) ≡ neg_ℤ w
    back v w h = ap (rnd_z f) (sym (swap z v)) ∙ rnd_z_neg f (z -ℤ v) ∙ ap neg_ℤ h

-- an exact value that is a float's is rounded to it
hit : {f : Format} {z : Float} (t : ℤ) → Held f z → t ≡ units f z → eq_z (rnd_z f t) (units f z) ≡ true
hit {f} {z} t h e = eq_eq_z (rnd_z f t) (units f z) (ap (rnd_z f) e ∙ rnd_z_fix h)

module _ {f : Format} {x y z : Float} (p : Held f x) (q : Held f y) (r : Held f z) where
  pub sum_test : (eq (add f x y) z and eq x (sub f z y) and eq y (sub f z x)) ≡ eq_z (units f x +ℤ units f y) (units f z)
  sum_test =
      let a = units f x in
      let b = units f y in
      let c = units f z in
      let g = sum_equals r p.is_own q.is_own in
      let h = eq_swap x (sub f z y) ∙ difference_equals p r.is_own q.is_own in
      let k = eq_swap y (sub f z x) ∙ difference_equals q r.is_own p.is_own in
      same (eq (add f x y) z and eq x (sub f z y) and eq y (sub f z x)) (eq_z (a +ℤ b) c)
      (λ e.
      let (i, o) = and_parts _ _ e in
      let (j, l) = and_parts _ _ o in
      let t = thirds f a b c (eq_z_true _ _ (sym g ∙ i)) (eq_z_true _ _ (sym h ∙ j)) (eq_z_true _ _ (sym k ∙ l)) in
      let n = turned (sign_bit z) (mag f z) in
      let d : a +ℤ b ≡ c = balance (sign_bit x) (sign_bit y) (not (sign_bit z)) p.mag_rep q.mag_rep r.mag_rep (rw n at t) ∙ ap neg_ℤ (sym n) ∙ neg_ℤ-neg_ℤ c in
      eq_eq_z (a +ℤ b) c d)
      (λ e.
      let d = eq_z_true (a +ℤ b) c e in
      let i : c -ℤ b ≡ a = rw (← d) (+ℤ-neg_ℤ_cancel a b) in
      let j : c -ℤ a ≡ b = rw (← d, +ℤ_comm a b) (+ℤ-neg_ℤ_cancel b a) in
      and_both _ _ (g ∙ hit (a +ℤ b) r d) (and_both _ _ (h ∙ hit (c -ℤ b) p i) (k ∙ hit (c -ℤ a) q j)))
