-- What is promised of the six faces, over the definitions, each rule for all faces at once. Statements only; proofs/Promises.antt has their proofs.
use Rattle.std.specs.Prelude.{ℕ, ◌+◌, ◌%◌, ◌≤◌, ◌<◌, ◌≡◌, true, false, leb, Float}
use Rattle.std.specs.Float.{binary64}
use Rattle.std.specs.Float.Ieee.{lt, le, eq, neg}
use Rattle.float.specs.Float.{zero_f, one_f, finite, magnitude_of}
use Rattle.float.specs.Exact.{Value}
use Rattle.answer.specs.Refusal.{done}
use Rattle.cube.specs.Vector.{vec, finite_vector, is_zero}
use Rattle.cube.specs.Faces.{along, absolute, face_of, uv, uv_of, point_at, uvw_of, minus_or_plus, neighbour, u_axis, v_axis, u_norm, v_norm}
use Rattle.cube.specs.ByAxes.{unit_toward, neighbour_by_axes}
use Rattle.cube.specs.Refuse.{vector_refusal, side_refusal}
use Rattle.cube.specs.declared.vector.Vector.{Vector}
use Rattle.cube.specs.declared.compute.Uv.{Uv}

-- ---- face: greatest absolute coordinate, ties to the lower axis; 3 more when it is negative

-- the axis of a face: x is 0, y 1, z 2
abbrev pub own_axis : ℕ → ℕ
own_axis f = f % 3

-- No absolute coordinate of p is greater than that of f's axis, those of lower axes are less, and f is 3 or more exactly when the coordinate is negative.
pub record Greatest (p : Vector) (f : ℕ) : Type 0 where
  pub face : f ≤ 5
  pub most : (i : ℕ) → i ≤ 2 → le (absolute i p) (absolute (own_axis f) p) ≡ true
  pub lowest : (i : ℕ) → i < own_axis f → lt (absolute i p) (absolute (own_axis f) p) ≡ true
  pub sign : leb 3 f ≡ lt (along (own_axis f) p) zero_f

-- ---- (u, v): from xyz_to_face_uv both lie in -1..1

pub record InUnit (x : Float) : Type 0 where
  pub low : le (neg one_f) x ≡ true
  pub high : le x one_f ≡ true

pub record InSquare (q : Uv) : Type 0 where
  pub u : InUnit q.u
  pub v : InUnit q.v

-- ---- point at (u, v): reading it back gives the same face and numbers

-- neither xyz_to_face_uv nor face_xyz_to_uv refuses the point; the numbers are the very floats, a zero with its sign
pub record ReadBack (f : ℕ) (u v : Float) : Type 0 where
  pub admitted : vector_refusal (point_at f u v) ≡ done
  pub on_side : side_refusal f (point_at f u v) ≡ done
  pub face : face_of (point_at f u v) ≡ f
  pub numbers : uv_of f (point_at f u v) ≡ uv u v

-- ---- neighbours: the face whose own w is the asked axis, u, v or w, in the asked direction, minus or plus

-- the asked axis in the asked direction, as a direction of (u, v, w)
abbrev pub toward : ℕ → ℕ → ℕ
toward axis direction = minus_or_plus direction (axis + 3) axis

-- the own w of g is the axis of f in the direction: they have the same coordinate of every vector
abbrev pub Over : ℕ → ℕ → ℕ → ℕ → Type 0
Over f axis direction g = (p : Vector) → (uvw_of g p).z ≡ along (toward axis direction) (uvw_of f p)

-- g is such a face, and there is no other
pub record TheOneOver (f axis direction g : ℕ) : Type 0 where
  pub face : g ≤ 5
  pub over : Over f axis direction g
  pub only : (h : ℕ) → h ≤ 5 → Over f axis direction h → h ≡ g

-- W3 from the axes: the own w of g is 1 at the unit vector r, and of no other face
pub record TheOneAlong (r : Vector) (g : ℕ) : Type 0 where
  pub face : g ≤ 5
  pub along : eq (uvw_of g r).z one_f ≡ true
  pub only : (h : ℕ) → h ≤ 5 → eq (uvw_of h r).z one_f ≡ true → h ≡ g

-- ---- from source document 002: the unit vectors along u and v, and the normals at a u and at a v, in the face's own (u, v, w)

-- the coordinates compare equal: a zero may have the other sign
pub record Alike (p q : Vector) : Type 0 where
  pub x : eq p.x q.x ≡ true
  pub y : eq p.y q.y ≡ true
  pub z : eq p.z q.z ≡ true

pub record Axes (f : ℕ) : Type 0 where
  pub u : Alike (uvw_of f (u_axis f)) (vec one_f zero_f zero_f)
  pub v : Alike (uvw_of f (v_axis f)) (vec zero_f one_f zero_f)

-- (-1, 0, c) is orthogonal to each (c, v, 1), and (0, 1, -c) to each (u, c, 1)
pub record Norms (f : ℕ) (c : Float) : Type 0 where
  pub u : Alike (uvw_of f (u_norm f c)) (vec (neg one_f) zero_f c)
  pub v : Alike (uvw_of f (v_norm f c)) (vec zero_f one_f (neg c))

-- ---- what is promised

pub record Promises : Type 0 where
  -- face names the greatest magnitude, ties to the lower axis, and no other number does
  pub face : (p : Vector) → finite_vector p ≡ true → Greatest p (face_of p)
  pub face_only : (p : Vector) (f g : ℕ) → Greatest p f → Greatest p g → f ≡ g
  -- from xyz_to_face_uv both coordinates lie in -1..1, subnormals included
  pub square : (p : Vector) → finite_vector p ≡ true → is_zero p ≡ false → InSquare (uv_of (face_of p) p)
  -- for |u|, |v| < 1 the point at (u, v) read back gives the same face and the same numbers
  pub read_back : (f : ℕ) → f ≤ 5 → (u v : Float) → Value binary64 u → Value binary64 v → lt (magnitude_of u) one_f ≡ true → lt (magnitude_of v) one_f ≡ true → ReadBack f u v
  -- (u, v, w) of the point at (u, v) has w = 1 and the same u, v, whatever floats they are
  pub point_uvw : (f : ℕ) → f ≤ 5 → (u v : Float) → uvw_of f (point_at f u v) ≡ vec u v one_f
  -- the neighbour over an axis is the one face whose own w is the asked axis in the asked direction
  pub neighbours : (f axis direction : ℕ) → f ≤ 5 → axis ≤ 2 → direction ≤ 1 → TheOneOver f axis direction (neighbour f axis direction)
  -- so is what W3 finds from the axis directions, and the neighbour is the one face whose own w is the unit vector along the asked axis in the asked direction
  pub neighbours_by_axes : (f axis direction : ℕ) → f ≤ 5 → axis ≤ 2 → direction ≤ 1 → TheOneOver f axis direction (neighbour_by_axes f axis direction)
  pub neighbours_along : (f axis direction : ℕ) → f ≤ 5 → axis ≤ 2 → direction ≤ 1 → TheOneAlong (unit_toward f axis direction) (neighbour f axis direction)
  -- the axes and the normals in the face's own (u, v, w)
  pub axes : (f : ℕ) → f ≤ 5 → Axes f
  pub norms : (f : ℕ) → f ≤ 5 → (c : Float) → finite c ≡ true → Norms f c
