-- The corner rule is exact: the test at a corner is that the exact line passes through it, and a line that passes through a corner of its exit edge leaves exactly there.
use mathlib.Core.Path.{◌≡◌, refl, sym, ap, ◌∙◌}
use mathlib.Core.Logic.{◌↔◌, ◌⊎◌, inl, inr}
use mathlib.Core.Bool.{Bool, true, false, not, not-not}
use Prim.Native.Nat.{ℕ, ◌+◌, ◌-◌, ◌≤◌, ◌<◌}
use native.Mathlib.Omega.{arith}
use lib.Dec.{eqb}
use borrow.Author.Tests.{eqb-true, eq-eqb}
use lib.IntN.{ℤ, neg_ℤ, ◌+ℤ◌, ◌*ℤ◌, +ℤ_assoc, +ℤ_comm, +ℤ_idl, +ℤ_invl}
use lib.Ieee.{Float, binary64, unlike, lt, eq, neg, of_bits}
use lib.Ieee.Bits.{is_true}
use lib.Ieee.Fits.{div-fits}
use Rattle.float.specs.Choice.{when◌then◌else◌}
use Rattle.float.specs.Float.{◌⊗◌, zero_f, one_f, magnitude_of, sign_bit, finite}
use Rattle.float.specs.Exact.{signed, eq_z, Value}
use Rattle.float.proofs.Choice.{and_parts, and_both}
use Rattle.float.proofs.Order.{between}
use Rattle.float.proofs.Unlike.{unlike_not}
use Rattle.float.proofs.Signed.{turned}
use Rattle.float.proofs.Sizes.{eq_z_true, eq_eq_z, sizes}
use Rattle.float.proofs.Unit.{one, is_one_lem, signed_one, factor_held, factor_units, neg_held, neg_units}
use Rattle.cube.specs.Faces.{uv}
use Rattle.cube.specs.declared.vector.Vector.{Vector}
use Rattle.cube.specs.declared.compute.Uv.{Uv}
use Rattle.line.specs.declared.compute.Axis.{Axis}
use Rattle.line.specs.declared.compute.Axis.TheVariants.{U, «V»}
use Rattle.line.specs.Line.{by_axis, sum_equal, one_if, exit_point, divisor, other_axis, coordinate, is_one, neighbour_over, at_corner}
use Rattle.line.specs.Promises.{exact, size, Finite, Leaves, corner_at, whole_if, Through, PassesTo, LeavesTo}
use Rattle.line.proofs.Tests.{sum_test}
use Rattle.line.proofs.Ratio.{ratio_exactly}
use Rattle.line.proofs.Normal.{u_held, v_held, w_held, divisor_held}
use Rattle.line.proofs.Exit.{along, plus_at, one_if_lem, exit_side, exit_other}

-- ---- at a corner that is handed in
whole_if_lem : (plus : Bool) → whole_if plus ≡ signed (not plus) 1
whole_if_lem true = refl
whole_if_lem false = refl

one_size : (plus : Bool) → is_one (one_if plus) ≡ true
unfolding one_if when◌then◌else◌ magnitude_of neg eq of_bits
one_size true = refl
one_size false = refl

corner_size : (a : Axis) (i j : Bool) → is_one (coordinate a (corner_at i j)) ≡ true
unfolding by_axis
corner_size U i j = one_size i
corner_size «V» i j = one_size j

module _ {n : Vector} (v : Finite n) where
  corner_sum : (i j : Bool) → sum_equal (one_if i ⊗ n.x) (one_if j ⊗ n.y) (neg n.z) ≡ eq_z ((whole_if i *ℤ exact n.x) +ℤ (whole_if j *ℤ exact n.y)) (neg_ℤ (exact n.z))
  unfolding sum_equal
  corner_sum i j =
      let p = factor_units (u_held v) (not i) in
      let q = factor_units (v_held v) (not j) in
      let r = neg_units (w_held v) in
      let s = sum_test (factor_held (u_held v) (not i)) (factor_held (v_held v) (not j)) (neg_held (w_held v)) in
      rw (one_if_lem i, one_if_lem j, whole_if_lem i, whole_if_lem j, ← p, ← q, ← r) s

  module _ (a : Axis) (f t : ℕ) (i j : Bool) where
    corner_only : at_corner f (corner_at i j) a n t ≡ true → PassesTo n a f t i j
    unfolding at_corner
    corner_only h =
        let (x, o) = and_parts (is_one (coordinate (other_axis a) (corner_at i j))) _ h in
        let (y, z) = and_parts (eqb (neighbour_over f (other_axis a) (corner_at i j)) t) _ o in
        record { through = eq_z_true _ _ (sym (corner_sum i j) ∙ z); target = eqb-true _ _ y }

    corner_if : PassesTo n a f t i j → at_corner f (corner_at i j) a n t ≡ true
    unfolding at_corner
    corner_if c = and_both _ _ (corner_size (other_axis a) i j) (and_both _ _ (eq-eqb _ _ c.target) (corner_sum i j ∙ eq_eq_z _ _ c.through))

    pub corner : (at_corner f (corner_at i j) a n t ≡ true) ↔ PassesTo n a f t i j
    corner = (corner_only, corner_if)

-- ---- by the axis
pub corner_coordinate : (a : Axis) (i j : Bool) → coordinate a (corner_at i j) ≡ one_if (by_axis a i j)
unfolding by_axis
corner_coordinate U i j = refl
corner_coordinate «V» i j = refl

-- a point is its coordinates
same_point : (a : Axis) (p q : Uv) → coordinate a p ≡ coordinate a q → coordinate (other_axis a) p ≡ coordinate (other_axis a) q → p ≡ q
unfolding by_axis
same_point U p q g h = ap (λ (x : Float). uv x p.v) g ∙ ap (λ (x : Float). uv q.u x) h
same_point «V» p q g h = ap (λ (x : Float). uv x p.v) h ∙ ap (λ (x : Float). uv q.u x) g

pub one_if_inj : (i j : Bool) → one_if i ≡ one_if j → i ≡ j
one_if_inj i j e = sym (above i) ∙ ap (λ (x : Float). lt zero_f x) e ∙ above j
  where
    above : (i : Bool) → lt zero_f (one_if i) ≡ i
    above true = unfold one_if when◌then◌else◌ neg lt of_bits in refl
    above false = unfold one_if when◌then◌else◌ neg lt of_bits in refl

-- ---- at the exit point
-- from x + y = -z: -x - z = y
rest_is : (x y z : ℤ) → x +ℤ y ≡ neg_ℤ z → neg_ℤ x +ℤ neg_ℤ z ≡ y
rest_is x y z h = rw (← h) (sym (+ℤ_assoc (neg_ℤ x) x y) ∙ ap (λ (w : ℤ). w +ℤ y) (+ℤ_invl x) ∙ +ℤ_idl y)

pub factor_is_signed : (plus : Bool) (s : Bool) (n : ℕ) → whole_if plus *ℤ signed s n ≡ signed (unlike (not plus) s) n
factor_is_signed plus s n = rw (whole_if_lem plus) (signed_one (not plus) s n)

turned_factor : (plus : Bool) (s : Bool) (n : ℕ) → neg_ℤ (whole_if plus *ℤ signed s n) ≡ signed (unlike plus s) n
turned_factor plus s n = ap neg_ℤ (factor_is_signed plus s n) ∙ turned (unlike (not plus) s) n ∙ ap (λ (t : Bool). signed t n) (ap not (unlike_not plus s) ∙ not-not (unlike plus s))

module _ {n : Vector} (v : Finite n) (i j : Bool) (h : Through n i j) where
  through_at : (a : Axis) → (whole_if (by_axis a i j) *ℤ exact (along a n)) +ℤ (whole_if (by_axis (other_axis a) i j) *ℤ exact (divisor a n)) ≡ neg_ℤ (exact n.z)
  unfolding by_axis
  through_at U = h
  through_at «V» = +ℤ_comm (whole_if j *ℤ exact n.y) (whole_if i *ℤ exact n.x) ∙ h

  -- so no part of the normal is greater than the others together
  pub through_size : (a : Axis) → size (divisor a n) ≤ size (along a n) + size n.z
  through_size a =
      let k = unlike (not (by_axis a i j)) (sign_bit (along a n)) in
      let l = unlike (not (by_axis (other_axis a) i j)) (sign_bit (divisor a n)) in
      let x = factor_is_signed (by_axis a i j) (sign_bit (along a n)) (size (along a n)) in
      let y = factor_is_signed (by_axis (other_axis a) i j) (sign_bit (divisor a n)) (size (divisor a n)) in
      let z = turned (sign_bit n.z) (size n.z) in
      let d : ((k ≡ l) × (size n.z ≡ size (along a n) + size (divisor a n))) ⊎ (size n.z ≡ size (along a n) - size (divisor a n) + (size (divisor a n) - size (along a n))) =
      sizes k l (not (sign_bit n.z)) (size (along a n)) (size (divisor a n)) (rw (x, y, z) at (through_at a)) in
      elim d [ inl (g, e) ↦ omega arith | inr e ↦ omega arith ]

  pub leaves_at : (a : Axis) → 0 < size (divisor a n) → coordinate a (corner_at i j) ≡ coordinate a (exit_point n a) → exit_point n a ≡ corner_at i j
  leaves_at a some e =
      let k = plus_at a (divisor a n) in
      let b = by_axis (other_axis a) i j in
      let g : by_axis a i j ≡ k = one_if_inj _ _ (sym (corner_coordinate a i j) ∙ e ∙ exit_side n a) in
      let t = rest_is (whole_if k *ℤ exact (along a n)) (whole_if b *ℤ exact (divisor a n)) (exact n.z) (rw g at (through_at a)) in
      let x = sym (turned_factor k (sign_bit (along a n)) (size (along a n))) in
      let y = sym (turned (sign_bit n.z) (size n.z)) in
      let z = factor_is_signed b (sign_bit (divisor a n)) (size (divisor a n)) in
      let r = ratio_exactly (divisor_held v a) (divisor_held v (other_axis a)) (w_held v) k some (not b) (rw (x, y) (t ∙ z)) in
      same_point a (exit_point n a) (corner_at i j) (sym e) (exit_other n a ∙ r ∙ sym (one_if_lem b) ∙ sym (corner_coordinate (other_axis a) i j))

one_finite : (finite (neg one_f) ≡ true) × (finite one_f ≡ true)
unfolding finite neg of_bits
one_finite = (refl, refl)

pub on_own : {A : Type 0} (a : Axis) (i j : A) → by_axis a (by_axis a i j) (by_axis a j i) ≡ i
unfolding by_axis
on_own U i j = refl
on_own «V» i j = refl

pub on_other : {A : Type 0} (a : Axis) (i j : A) → by_axis (other_axis a) (by_axis a i j) (by_axis a j i) ≡ j
unfolding by_axis
on_other U i j = refl
on_other «V» i j = refl

module _ {n : Vector} (v : Finite n) (a : Axis) (l : Leaves n a) where
  -- a point of an edge whose other coordinate is 1 or -1 too is a corner
  pub corner_of_lem : is_one (coordinate (other_axis a) (exit_point n a)) ≡ true → (i : Bool) × (j : Bool) × (exit_point n a ≡ corner_at i j)
  unfolding of_bits
  corner_of_lem h =
      let c = coordinate (other_axis a) (exit_point n a) in
      let w : Value binary64 c = record { is_finite = between (neg one_f) c one_f one_finite.0 one_finite.1 l.inside.low l.inside.high; held = rw (exit_other n a) (is_true _ (div-fits binary64 _ _)) } in
      let (k, g) = l.edge in
      let b = not (sign_bit c) in
      let i = by_axis a k b in
      let j = by_axis a b k in
      let d : c ≡ one_if b = is_one_lem w h ∙ ap one (sym (not-not (sign_bit c))) ∙ sym (one_if_lem b) in
      (i, j, same_point a (exit_point n a) (corner_at i j) (g ∙ ap one_if (sym (on_own a k b)) ∙ sym (corner_coordinate a i j)) (d ∙ ap one_if (sym (on_other a k b)) ∙ sym (corner_coordinate (other_axis a) i j)))

  module _ (f t : ℕ) where
    exit_only : at_corner f (exit_point n a) a n t ≡ true → LeavesTo n a f t
    exit_only h =
        let (i, j, e) = corner_of_lem (unfold at_corner in (and_parts _ _ h).0) in
        record { i = i; j = j; edge = ap (coordinate a) (sym e); corner = corner_only v a f t i j (rw e at h) }

    exit_if : LeavesTo n a f t → at_corner f (exit_point n a) a n t ≡ true
    exit_if c = rw (leaves_at v c.i c.j c.corner.through a l.divides c.edge) (corner_if v a f t c.i c.j c.corner)

    pub exit_corner : (at_corner f (exit_point n a) a n t ≡ true) ↔ LeavesTo n a f t
    exit_corner = (exit_only, exit_if)
