-- The line meets the next face: the part of its normal along the axis that is crossed is no greater than the others together.
use mathlib.Core.Path.{◌≡◌, refl, ap, ◌∙◌}
use mathlib.Core.Bool.{Bool, true, false}
use Prim.Native.Nat.{ℕ, ◌+◌, ◌≤◌}
use native.Mathlib.Omega.{arith}
use lib.Dec.{eqb}
use borrow.Author.Tests.{le-leb}
use lib.Ieee.{Float, binary64, lt, neg, of_bits}
use Rattle.float.specs.Choice.{when◌then◌else◌}
use Rattle.float.specs.Float.{zero_f, one_f}
use Rattle.float.specs.Exact.{Value}
use Rattle.float.proofs.Choice.{cases}
use Rattle.float.proofs.Unit.{neg_mag, neg_value}
use Rattle.cube.specs.Vector.{vec, is_zero}
use Rattle.cube.specs.Faces as Faces
use Rattle.cube.specs.Faces.{by_face, uv, point_at, uvw_of, minus_or_plus}
use Rattle.cube.specs.Promises.{toward}
use Rattle.cube.specs.declared.vector.Vector.{Vector}
use Rattle.cube.proofs.Six.{six}
use Rattle.cube.proofs.Promises.{promises}
use Rattle.line.specs.declared.compute.Axis.{Axis}
use Rattle.line.specs.declared.compute.Axis.TheVariants.{U, «V»}
use Rattle.line.specs.Line.{by_axis, meets_face, exit_axis, one_if, divisor, other_axis, coordinate, axis_number, direction_of, neighbour_over, at_corner, next_face, left_at, onward}
use Rattle.line.specs.Promises.{size, Finite, Enters}
use Rattle.line.proofs.Normal.{meets_is, zero_is}
use Rattle.line.proofs.Exit.{along, gap, leaves}
use Rattle.line.proofs.Corner.{exit_corner, corner_coordinate, through_size, leaves_at}

-- ---- a vector in a face's u, v, w: its parts are the same, in another order and with other signs
abbrev total : Vector → ℕ
total p = size p.x + size p.y + size p.z

pub total_is : (p : Vector) (f : ℕ) → f ≤ 5 → total (uvw_of f p) ≡ total p
unfolding uvw_of by_face
total_is p =
    let x = neg_mag binary64 p.x in
    let y = neg_mag binary64 p.y in
    let z = neg_mag binary64 p.z in
    six (λ f. total (uvw_of f p) ≡ total p) (omega arith) (omega arith) (omega arith) (omega arith) (omega arith) (omega arith)

three : {x y z : Float} → Value binary64 x → Value binary64 y → Value binary64 z → Finite (vec x y z)
three u v w = record { u = u; v = v; w = w }

pub finite_in : {p : Vector} → Finite p → (f : ℕ) → f ≤ 5 → Finite (uvw_of f p)
unfolding uvw_of by_face
finite_in {p} v =
    let record { u = x; v = y; w = z } = v in
    six (λ f. Finite (uvw_of f p)) (three y z x) (three (neg_value x) z y) (three (neg_value x) (neg_value y) z)
    (three (neg_value z) (neg_value y) (neg_value x)) (three (neg_value z) x (neg_value y)) (three y x (neg_value z))

module _ {p : Vector} (v : Finite p) where
  -- it is zero in no face if it is not zero
  pub not_zero_in : is_zero p ≡ false → (f : ℕ) → f ≤ 5 → is_zero (uvw_of f p) ≡ false
  not_zero_in h f F = rw (zero_is (finite_in v f F), total_is p f F, ← zero_is v) h

  -- a face is met where w there is no greater than the other two together
  met_in : (g : ℕ) → g ≤ 5 → size (uvw_of g p).z + size (uvw_of g p).z ≤ total p → meets_face (uvw_of g p) ≡ true
  met_in g G h =
      let n = uvw_of g p in
      let e = total_is p g G in
      meets_is (finite_in v g G) ∙ le-leb (size n.z) (size n.x + size n.y) (omega arith)

-- ---- the neighbour over an axis
-- in size its w is the part along that axis
toward_size : (n : Vector) (a : Axis) (d : ℕ) → size (Faces.along (toward (axis_number a) d) n) ≡ size (along a n)
unfolding by_axis minus_or_plus Faces.along by_face
toward_size n U d = cases (λ (h : ℕ). size (Faces.along h n) ≡ size n.x) (eqb d 0) 3 0 (λ e. neg_mag binary64 n.x) (λ e. refl)
toward_size n «V» d = cases (λ (h : ℕ). size (Faces.along h n) ≡ size n.y) (eqb d 0) 4 1 (λ e. neg_mag binary64 n.y) (λ e. refl)

-- and of a point whose coordinate on that axis is 1 or -1 it is 1
toward_one : (u v : Float) (a : Axis) (plus : Bool) → coordinate a (uv u v) ≡ one_if plus → Faces.along (toward (axis_number a) (direction_of (coordinate a (uv u v)))) (vec u v one_f) ≡ one_f
unfolding by_axis minus_or_plus direction_of one_if when◌then◌else◌ Faces.along by_face lt neg of_bits
toward_one u v U true e = rw e
toward_one u v U false e = rw e
toward_one u v «V» true e = rw e
toward_one u v «V» false e = rw e

parts : (n : Vector) (a : Axis) → size (along a n) + size (divisor a n) + size n.z ≡ total n
unfolding by_axis
parts n U = refl
parts n «V» = omega arith

-- an axis of a face is u or v
pub axis_le : (a : Axis) → axis_number a ≤ 1
unfolding by_axis
axis_le U = omega arith
axis_le «V» = omega arith

pub direction_le : (c : Float) → direction_of c ≤ 1
unfolding direction_of
direction_le c = cases (λ (d : ℕ). d ≤ 1) (lt zero_f c) 1 0 (λ e. omega arith) (λ e. omega arith)

other_twice : (a : Axis) → other_axis (other_axis a) ≡ a
unfolding by_axis
other_twice U = refl
other_twice «V» = refl

module _ {p : Vector} (v : Finite p) (f : ℕ) (F : f ≤ 5) where
  enters_over : (a : Axis) (plus : Bool) → coordinate a (left_at p f) ≡ one_if plus → size (along a (uvw_of f p)) ≤ size (divisor a (uvw_of f p)) + size (uvw_of f p).z → Enters p f (neighbour_over f a (left_at p f))
  enters_over a plus e h =
      let q = left_at p f in
      let g = neighbour_over f a q in
      let o = promises.neighbours f (axis_number a) (direction_of (coordinate a q)) F (omega (arith, axis_le a)) (direction_le (coordinate a q)) in
      let w : size (uvw_of g p).z ≡ size (along a (uvw_of f p)) = ap size (o.over p) ∙ toward_size (uvw_of f p) a (direction_of (coordinate a q)) in
      record {
        face = o.face;
        met = met_in v g o.face (omega (arith, parts (uvw_of f p) a, total_is p f F));
        shared = o.over (point_at f q.u q.v) ∙ (rw (promises.point_uvw f F q.u q.v) (toward_one q.u q.v a plus e));
      }

  pub next : is_zero p ≡ false → (t : ℕ) → meets_face (uvw_of f p) ≡ true → Enters p f (onward p f t)
  unfolding next_face
  next nz t met =
      let n = uvw_of f p in
      let w = finite_in v f F in
      let z = not_zero_in v nz f F in
      let a = exit_axis n in
      let l = leaves w z met a refl in
      cases (Enters p f) (at_corner f (left_at p f) a n t) t (neighbour_over f a (left_at p f))
      (λ h.
      let record { i = i; j = j; edge = o; corner = c } = (exit_corner w a l f t).0 h in
      let e = leaves_at w i j c.through a l.divides o in
      let k : coordinate (other_axis a) (left_at p f) ≡ one_if (by_axis (other_axis a) i j) = rw e (corner_coordinate (other_axis a) i j) in
      let d : neighbour_over f (other_axis a) (left_at p f) ≡ t = ap (neighbour_over f (other_axis a)) e ∙ c.target in
      rw (← d) (enters_over (other_axis a) (by_axis (other_axis a) i j) k (rw (other_twice a) (through_size w i j c.through a))))
      (λ h. enters_over a l.edge.0 l.edge.1 (gap w z met a refl).along_least)
