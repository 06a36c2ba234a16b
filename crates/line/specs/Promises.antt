-- What is promised of the line tests and of the step from face to face, for finite numbers. Statements only; proofs/Promises.antt has their proofs.
-- Exact values are whole numbers of 2^-1074: `exact x` with its sign, `size x` without.
use Rattle.std.specs.Prelude.{ℕ, ◌+◌, ◌-◌, ◌≤◌, ◌<◌, ◌≡◌, ◌↔◌, Bool, true, false, cond, leb, ℤ, pos, neg_ℤ, ◌+ℤ◌, ◌*ℤ◌, Float}
use Rattle.std.specs.Float.{binary64}
use Rattle.float.specs.Float.{one_f}
use Rattle.float.specs.Exact.{mag, units, eq_z, Value}
use Rattle.cube.specs.Vector.{finite_vector, is_zero, HandedIn}
use Rattle.cube.specs.Faces.{uv, point_at, uvw_of}
use Rattle.cube.specs.Promises.{InUnit}
use Rattle.cube.specs.declared.vector.Vector.{Vector}
use Rattle.cube.specs.declared.compute.Uv.{Uv}
use Rattle.line.specs.declared.compute.Axis.{Axis}
use Rattle.line.specs.Line.{meets_face, passes_opposite_edges, sum_equal, exit_axis, one_if, exit_point, divisor, other_axis, coordinate, neighbour_over, at_corner, left_at, onward}

abbrev pub exact : Float → ℤ
exact x = units binary64 x

abbrev pub size : Float → ℕ
size x = mag binary64 x

-- each part of the normal is finite, and a value of binary64, as all that is handed in is: `finite_is`
pub record Finite (n : Vector) : Type 0 where
  pub u : Value binary64 n.x
  pub v : Value binary64 n.y
  pub w : Value binary64 n.z

-- ---- each test is its whole-number statement

-- |a - b|: one of the two differences is 0
abbrev pub apart : ℕ → ℕ → ℕ
apart a b = (a - b) + (b - a)

pub record Tests (n : Vector) : Type 0 where
  -- |Nu|+|Nv| >= |Nw|
  pub face : meets_face n ≡ leb (size n.z) (size n.x + size n.y)
  -- ||Nu|-|Nv|| >= |Nw|
  pub edges : passes_opposite_edges n ≡ leb (size n.z) (apart (size n.x) (size n.y))
  -- on the zero normal both say yes
  pub zeros : is_zero n ≡ true → (meets_face n ≡ true) × (passes_opposite_edges n ≡ true)

-- u+v = w
abbrev pub SumExact : Float → Float → Float → Type 0
SumExact u v w = sum_equal u v w ≡ eq_z (exact u +ℤ exact v) (exact w)

-- ---- the exit of a line that meets the face

-- the divisor is not zero; the coordinate on the exit axis is 1 or -1, and the other from -1 to 1
pub record Leaves (n : Vector) (a : Axis) : Type 0 where
  pub divides : 0 < size (divisor a n)
  pub edge : (plus : Bool) × (coordinate a (exit_point n a) ≡ one_if plus)
  pub inside : InUnit (coordinate (other_axis a) (exit_point n a))

-- ---- corners

-- the corner whose u is 1 if i holds, else -1, and its v so by j
abbrev pub corner_at : Bool → Bool → Uv
corner_at i j = uv (one_if i) (one_if j)

-- 1 if it holds, else -1, as a whole number
abbrev pub whole_if : Bool → ℤ
whole_if plus = cond plus (pos 1) (neg_ℤ (pos 1))

-- the exact line passes through that corner: u*Nu + v*Nv = -Nw
abbrev pub Through : Vector → Bool → Bool → Type 0
Through n i j = (whole_if i *ℤ exact n.x) +ℤ (whole_if j *ℤ exact n.y) ≡ neg_ℤ (exact n.z)

-- the exact line passes through that corner, and the target t is the neighbour of f there over the axis other than a
pub record PassesTo (n : Vector) (a : Axis) (f t : ℕ) (i j : Bool) : Type 0 where
  pub through : Through n i j
  pub target : neighbour_over f (other_axis a) (corner_at i j) ≡ t

-- so it does at a corner of the edge by which the line leaves
pub record LeavesTo (n : Vector) (a : Axis) (f t : ℕ) : Type 0 where
  pub i : Bool
  pub j : Bool
  pub edge : coordinate a (corner_at i j) ≡ coordinate a (exit_point n a)
  pub corner : PassesTo n a f t i j

-- ---- the next face

-- g is a face, the line meets it, and the point where the line leaves f lies on it: its w there is 1
pub record Enters (p : Vector) (f g : ℕ) : Type 0 where
  pub face : g ≤ 5
  pub met : meets_face (uvw_of g p) ≡ true
  pub shared : (uvw_of g (point_at f (left_at p f).u (left_at p f).v)).z ≡ one_f

-- ---- all of it

pub record Promises : Type 0 where
  -- of a normal that can be handed in, to be finite is all
  pub finite_is : (n : Vector) → HandedIn n → finite_vector n ≡ true → Finite n
  pub tests : (n : Vector) → Finite n → Tests n
  pub sum : (u v w : Float) → Value binary64 u → Value binary64 v → Value binary64 w → SumExact u v w
  pub exit : (n : Vector) → Finite n → is_zero n ≡ false → meets_face n ≡ true → Leaves n (exit_axis n)
  -- the corner branch, at any corner that is handed in, and at the exit point
  pub corner : (n : Vector) → Finite n → (a : Axis) (f t : ℕ) (i j : Bool) → (at_corner f (corner_at i j) a n t ≡ true) ↔ PassesTo n a f t i j
  pub exit_corner : (n : Vector) → Finite n → is_zero n ≡ false → meets_face n ≡ true → (f t : ℕ) → (at_corner f (exit_point n (exit_axis n)) (exit_axis n) n t ≡ true) ↔ LeavesTo n (exit_axis n) f t
  pub next : (p : Vector) → Finite p → is_zero p ≡ false → (f t : ℕ) → f ≤ 5 → meets_face (uvw_of f p) ≡ true → Enters p f (onward p f t)
