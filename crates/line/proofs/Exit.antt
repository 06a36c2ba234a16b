-- Where a line leaves a face that it meets: the divisor is not zero, and the exit point lies on an edge.
use mathlib.Core.Path.{◌≡◌, refl, sym, ap, ◌∙◌}
use mathlib.Core.Logic.{◌⊎◌, inl, inr}
use mathlib.Core.Bool.{Bool, true, false, not, true≢false, false≢true, not-not}
use Prim.Native.Nat.{◌+◌, ◌≤◌, ◌<◌}
use native.Mathlib.Nat.{pos_of_ne-zero}
use native.Mathlib.Omega.{arith}
use lib.Dec.{leb}
use borrow.Author.Tests.{leb-true, leb-false, eqb-false}
use lib.Ieee.{Float, binary64, unlike, lt, neg, of_bits}
use Rattle.float.specs.Choice.{when◌then◌else◌}
use Rattle.float.specs.Float.{zero_f, sign_bit}
use Rattle.float.proofs.Choice.{split}
use Rattle.float.proofs.Values.{Held}
use Rattle.float.proofs.Plain.{plain, le_units}
use Rattle.float.proofs.Zero.{lt_nought, nought_lt}
use Rattle.float.proofs.Unit.{one}
use Rattle.cube.specs.Vector.{is_zero}
use Rattle.cube.specs.declared.vector.Vector.{Vector}
use Rattle.cube.proofs.Square.{unit_is}
use Rattle.line.specs.declared.compute.Axis.{Axis}
use Rattle.line.specs.declared.compute.Axis.TheVariants.{U, «V»}
use Rattle.line.specs.Line.{meets_face, passes_opposite_edges, by_axis, axis_of, even_signs, exit_axis, one_if, exit_point, divisor, other_axis, coordinate}
use Rattle.line.specs.Promises.{size, Finite, apart, Leaves}
use Rattle.float.proofs.Unlike.{unlike_swap, unlike_not}
use Rattle.line.proofs.Ratio.{ratio, ratio_within}
use Rattle.line.proofs.Normal.{u_held, v_held, w_held, divisor_held, meets_is, opposite_is, zero_is}

-- ---- by the axis
-- the normal's part along the axis itself
abbrev pub along : Axis → Vector → Float
along a n = divisor (other_axis a) n

abbrev pub is_v : Axis → Bool
is_v a = by_axis a false true

-- whether the side of the exit is plus, by the divisor
abbrev pub plus_at : Axis → Float → Bool
plus_at a d = by_axis a (lt zero_f d) (lt d zero_f)

-- ---- the axis that is chosen
-- its divisor is not zero, no part is greater than the other two together, and the terms of the numerator are small or have unlike signs
pub record Gap (n : Vector) (a : Axis) : Type 0 where
  pub some : 0 < size (divisor a n)
  pub along_least : size (along a n) ≤ size (divisor a n) + size n.z
  pub w_least : size n.z ≤ size (divisor a n) + size (along a n)
  pub across : (size (along a n) + size n.z ≤ size (divisor a n)) ⊎ (even_signs n ≡ is_v a)

module _ (n : Vector) (met : size n.z ≤ size n.x + size n.y) where
  -- past opposite edges
  gap_opposite : (a : Axis) → 0 < size n.x + size n.y + size n.z → size n.z ≤ apart (size n.x) (size n.y) → leb (size n.y) (size n.x) ≡ is_v a → Gap n a
  unfolding by_axis
  gap_opposite U s h k = let l = leb-false (size n.y) (size n.x) k in record { some = omega arith; along_least = omega arith; w_least = omega arith; across = inl (omega arith) }
  gap_opposite «V» s h k = let l = leb-true (size n.y) (size n.x) k in record { some = omega arith; along_least = omega arith; w_least = omega arith; across = inl (omega arith) }

  -- past adjacent ones
  gap_adjacent : (a : Axis) → apart (size n.x) (size n.y) < size n.z → even_signs n ≡ is_v a → Gap n a
  unfolding by_axis
  gap_adjacent U h k = record { some = omega arith; along_least = omega arith; w_least = omega arith; across = inr k }
  gap_adjacent «V» h k = record { some = omega arith; along_least = omega arith; w_least = omega arith; across = inr k }

pub axis_v : (b : Bool) (a : Axis) → axis_of b ≡ a → b ≡ is_v a
axis_v b a e = is_v_lem b ∙ ap is_v e
  where
    is_v_lem : (b : Bool) → b ≡ is_v (axis_of b)
    is_v_lem true = unfold by_axis axis_of when◌then◌else◌ in refl
    is_v_lem false = unfold by_axis axis_of when◌then◌else◌ in refl

module _ {n : Vector} (v : Finite n) (nz : is_zero n ≡ false) (met : meets_face n ≡ true) where
  pub gap : (a : Axis) → exit_axis n ≡ a → Gap n a
  unfolding exit_axis
  gap a e =
      let m = leb-true _ _ (sym (meets_is v) ∙ met) in
      let s = pos_of_ne-zero (eqb-false _ 0 (sym (zero_is v) ∙ nz)) in
      split (passes_opposite_edges n) _ _ a e
      (λ h k. gap_opposite n m a s (leb-true _ _ (sym (opposite_is v) ∙ h)) (sym (le_units (plain (v_held v)).is (plain (u_held v)).is) ∙ axis_v _ a k))
      (λ h k. gap_adjacent n m a (leb-false _ _ (sym (opposite_is v) ∙ h)) (axis_v _ a k))

-- ---- the exit point, by the axis
pub one_if_lem : (plus : Bool) → one_if plus ≡ one (not plus)
unfolding one_if when◌then◌else◌ of_bits neg
one_if_lem true = refl
one_if_lem false = refl

turned_one_if : (plus : Bool) → neg (one_if plus) ≡ one plus
unfolding one_if when◌then◌else◌ of_bits neg
turned_one_if true = refl
turned_one_if false = refl

pub exit_side : (n : Vector) (a : Axis) → coordinate a (exit_point n a) ≡ one_if (plus_at a (divisor a n))
unfolding exit_point by_axis
exit_side n U = refl
exit_side n «V» = refl

pub exit_other : (n : Vector) (a : Axis) → coordinate (other_axis a) (exit_point n a) ≡ ratio binary64 (plus_at a (divisor a n)) (along a n) n.z (divisor a n)
unfolding exit_point by_axis
exit_other n U = rw (turned_one_if (lt zero_f n.y))
exit_other n «V» = rw (turned_one_if (lt n.x zero_f))

-- ---- where the number of sign bits decides, the two terms of the numerator have unlike signs
-- the sign of the first factor, by the divisor's
abbrev factor_sign : Axis → Bool → Bool
factor_sign a s = by_axis a (not s) s

factor_sign_lem : (a : Axis) {x : Float} → Held binary64 x → 0 < size x → plus_at a x ≡ factor_sign a (sign_bit x)
unfolding by_axis of_bits
factor_sign_lem U h p = nought_lt h.is_own p
factor_sign_lem «V» h p = lt_nought h.is_own p

-- terms of one sign: the bits set are odd in number on V, and even on U
odd_bits : (z : Bool) → not (unlike (not z) z) ≡ true → ⊥
odd_bits true h = false≢true h
odd_bits false h = false≢true h

even_bits : (z : Bool) → not (unlike z z) ≡ false → ⊥
even_bits true h = true≢false h
even_bits false h = true≢false h

turned_back : (x y z : Bool) → unlike (not y) x ≡ not z → unlike x y ≡ z
turned_back x y z h = sym (not-not (unlike x y)) ∙ ap not (ap not (unlike_swap x y) ∙ sym (unlike_not y x) ∙ h) ∙ not-not z

unlike_terms : (n : Vector) (a : Axis) → even_signs n ≡ is_v a → unlike (factor_sign a (sign_bit (divisor a n))) (sign_bit (along a n)) ≡ not (sign_bit n.z) → ⊥
unfolding by_axis
unlike_terms n U h k = even_bits (sign_bit n.z) (rw (turned_back (sign_bit n.x) (sign_bit n.y) (sign_bit n.z) k) at h)
unlike_terms n «V» h k = odd_bits (sign_bit n.z) (rw k at h)

module _ {n : Vector} (v : Finite n) (nz : is_zero n ≡ false) (met : meets_face n ≡ true) where
  pub leaves : (a : Axis) → exit_axis n ≡ a → Leaves n a
  leaves a e =
      let g = gap v nz met a e in
      let d = divisor_held v a in
      let k = plus_at a (divisor a n) in
      let h : unlike k (sign_bit (along a n)) ≡ not (sign_bit n.z) → size (along a n) + size n.z ≤ size (divisor a n) = λ t. elim g.across [ inl l ↦ l | inr l ↦ absurd (unlike_terms n a l (rw (factor_sign_lem a d g.some) at t)) ] in
      let i = ratio_within d (divisor_held v (other_axis a)) (w_held v) k g.some h g.along_least g.w_least in
      record { divides = g.some; edge = (k, exit_side n a); inside = rw (exit_other n a) (unit_is _ i) }
