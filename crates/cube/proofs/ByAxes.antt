-- What W3 finds from the axis directions is document 01's neighbour: each axis, direction and face is computed.
use mathlib.Core.Path.{◌≡◌, refl, sym, ◌∙◌}
use mathlib.Core.Bool.{Bool, true, false, ◌&&◌, beq}
use Prim.Native.Nat.{ℕ, zero, suc, ◌+◌, ◌%◌, ◌≤◌}
use native.Mathlib.Omega.{arith}
use borrow.Author.Tests.{eqb-true, eq-eqb, ne_eqb}
use lib.Dec.{eqb}
use lib.Ieee.{lt, eq, neg, of_bits}
use Rattle.float.specs.Choice.{when◌then◌else◌}
use Rattle.float.specs.Float.{one_f}
use Rattle.float.proofs.Choice.{cases}
use Rattle.cube.specs.Faces.{by_face, point_at, uvw_of, minus_or_plus, row_at, neighbour, u_axis, v_axis}
use Rattle.cube.specs.ByAxes.{axis_of, unit_toward, facing, neighbour_by_axes}
use Rattle.cube.specs.Promises.{TheOneOver, TheOneAlong}
use Rattle.cube.specs.declared.vector.Vector.{Vector}
use Rattle.cube.proofs.Six.{up_to, at, both, beq_is}
use Rattle.cube.proofs.Neighbours.{neighbours}

-- ---- a face, whatever is asked
pub facing_le : (r : Vector) → facing r ≤ 5
unfolding facing
facing_le r = step _ 0 _ (omega arith) (step _ 1 _ (omega arith) (step _ 2 _ (omega arith) (step _ 3 _ (omega arith) (step _ 4 _ (omega arith) (omega arith)))))
  where
    step : (b : Bool) (x y : ℕ) → x ≤ 5 → y ≤ 5 → (when b then x else y) ≤ 5
    step b x y X Y = cases (λ (n : ℕ). n ≤ 5) b x y (λ e. X) (λ e. Y)

-- ---- the face that the axis points at, or the one 3 on, which is opposite; and the face that the turned axis points at, as the code finds it
abbrev pub found : ℕ → ℕ → ℕ → ℕ
found f axis direction = minus_or_plus direction ((facing (axis_of f axis) + 3) % 6) (facing (axis_of f axis))

-- both are the table's, each face computed
right : ℕ → ℕ → ℕ → Bool
right axis direction f = eqb (found f axis direction) (neighbour f axis direction) && eqb (neighbour_by_axes f axis direction) (neighbour f axis direction)

not_zero : (n : ℕ) → eqb (suc n) 0 ≡ false
not_zero n = ne_eqb (suc n) 0 (λ e. absurd (omega (arith, e)))

not_one : (n : ℕ) → eqb (suc (suc n)) 1 ≡ false
not_one n = ne_eqb (suc (suc n)) 1 (λ e. absurd (omega (arith, e)))

all_right : (axis direction : ℕ) → up_to 5 (right axis direction) ≡ true
unfolding right neighbour row_at minus_or_plus axis_of unit_toward facing point_at u_axis v_axis by_face when◌then◌else◌ lt neg of_bits
all_right zero zero = refl
all_right zero (suc d) = rw (not_zero d) refl
all_right (suc zero) zero = refl
all_right (suc zero) (suc d) = rw (not_zero d) refl
all_right (suc (suc a)) zero = rw (not_zero (suc a), not_one a) refl
all_right (suc (suc a)) (suc d) = rw (not_zero (suc a), not_one a, not_zero d) refl

right_at : (f axis direction : ℕ) → f ≤ 5 → (found f axis direction ≡ neighbour f axis direction) × (neighbour_by_axes f axis direction ≡ neighbour f axis direction)
unfolding right
right_at f axis direction F =
    let g = neighbour f axis direction in
    let (p, q) = both (eqb (found f axis direction) g) (eqb (neighbour_by_axes f axis direction) g) (at 5 (right axis direction) (all_right axis direction) f F) in
    (eqb-true _ g p, eqb-true _ g q)

pub found_is : (f axis direction : ℕ) → f ≤ 5 → found f axis direction ≡ neighbour f axis direction
found_is f axis direction F = (right_at f axis direction F).0

pub by_axes : (f axis direction : ℕ) → f ≤ 5 → neighbour_by_axes f axis direction ≡ neighbour f axis direction
by_axes f axis direction F = (right_at f axis direction F).1

-- ---- of the unit vector: its coordinate along a face's own w is 1 at the neighbour, and there alone
along_one : ℕ → ℕ → ℕ → ℕ → Bool
along_one f axis direction h = beq (eq (uvw_of h (unit_toward f axis direction)).z one_f) (eqb h (neighbour f axis direction))

all_along : up_to 5 (λ f. up_to 2 (λ a. up_to 1 (λ d. up_to 5 (along_one f a d)))) ≡ true
unfolding along_one neighbour row_at minus_or_plus axis_of unit_toward point_at u_axis v_axis uvw_of by_face when◌then◌else◌ eq neg of_bits
all_along = refl

module _ (f axis direction : ℕ) (F : f ≤ 5) (A : axis ≤ 2) (D : direction ≤ 1) where
  pub neighbours_by_axes : TheOneOver f axis direction (neighbour_by_axes f axis direction)
  neighbours_by_axes = rw (by_axes f axis direction F) (neighbours f axis direction F A D)

  along_at : (h : ℕ) → h ≤ 5 → eq (uvw_of h (unit_toward f axis direction)).z one_f ≡ eqb h (neighbour f axis direction)
  unfolding along_one
  along_at h H =
      let e = at 1 (λ d. up_to 5 (along_one f axis d)) (at 2 (λ a. up_to 1 (λ d. up_to 5 (along_one f a d))) (at 5 (λ f. up_to 2 (λ a. up_to 1 (λ d. up_to 5 (along_one f a d)))) all_along f F) axis A) direction D in
      beq_is _ _ (at 5 (along_one f axis direction) e h H)

  pub neighbours_along : TheOneAlong (unit_toward f axis direction) (neighbour f axis direction)
  neighbours_along =
      let g = neighbour f axis direction in
      let G = (neighbours f axis direction F A D).face in
      record {
        face = G;
        along = along_at g G ∙ eq-eqb g g refl;
        only = λ h H e. eqb-true h g (sym (along_at h H) ∙ e);
      }
