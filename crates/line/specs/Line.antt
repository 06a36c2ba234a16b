-- The line tests and the step from face to face: the rules of document 01, in its order. A normal N stands in a face's u, v, w: x is its u, y its v, z its w.
use Rattle.std.specs.Prelude.{ℕ, Bool, not, eqb, Float}
use Rattle.std.specs.Float.Ieee.{lt, le, eq, neg, unlike}
use Rattle.float.specs.Choice.{when◌then◌else◌, ◌and◌}
use Rattle.float.specs.Float.{◌⊕◌, ◌⊖◌, ◌⊗◌, ◌⊘◌, zero_f, one_f, magnitude_of, sign_bit}
use Rattle.cube.specs.Faces.{uv, uvw_of, neighbour}
use Rattle.cube.specs.declared.vector.Vector.{Vector}
use Rattle.line.specs.declared.compute.Axis.{Axis}
use Rattle.line.specs.declared.compute.Axis.TheVariants.{U, «V»}
use Rattle.cube.specs.declared.compute.Uv.{Uv}

-- ---- the three tests, as they are computed; Promises.antt says what each is exactly

-- the line meets the face: |Nu|+|Nv| >= |Nw|
unfoldable pub meets_face : Vector → Bool
meets_face n =
    let u = magnitude_of n.x in
    let v = magnitude_of n.y in
    let w = magnitude_of n.z in
    le (w ⊖ u) v and le (w ⊖ v) u

-- it passes opposite edges: ||Nu|-|Nv|| >= |Nw|
unfoldable pub passes_opposite_edges : Vector → Bool
passes_opposite_edges n =
    let u = magnitude_of n.x in
    let v = magnitude_of n.y in
    let w = magnitude_of n.z in
    let d = magnitude_of (u ⊖ v) in
    when eq d w then
    when le v u then le v (u ⊖ w)
    else le u (v ⊖ w)
    else le w d

-- u+v = w
unfoldable pub sum_equal : Float → Float → Float → Bool
sum_equal u v w = eq (u ⊕ v) w and eq u (w ⊖ v) and eq v (w ⊖ u)

-- ---- the exit

-- what is on U, and what on V
unfoldable pub by_axis : {A : Type 0} → Axis → A → A → A
by_axis U x y = x
by_axis «V» x y = y

-- V where it holds, else U
unfoldable pub axis_of : Bool → Axis
axis_of v = when v then «V» else U

-- an even number of sign bits is set
abbrev pub even_signs : Vector → Bool
even_signs n = not (unlike (unlike (sign_bit n.x) (sign_bit n.y)) (sign_bit n.z))

-- Opposite edges give V when |Nu| >= |Nv|, else U. Otherwise V when an even number of sign bits is set.
unfoldable pub exit_axis : Vector → Axis
exit_axis n =
    when passes_opposite_edges n then axis_of (le (magnitude_of n.y) (magnitude_of n.x))
    else axis_of (even_signs n)

-- 1 if it holds, else -1
unfoldable pub one_if : Bool → Float
one_if plus = when plus then one_f else neg one_f

-- the other coordinate at the side s of the exit axis: (-s*a - w)/b, for the normal's part a along that axis and its part b along the other
abbrev pub other_at : Float → Float → Float → Float → Float
other_at s a w b = (neg s ⊗ a ⊖ w) ⊘ b

-- On U: u is 1 if Nv > 0 else -1, v = (-u*Nu - Nw)/Nv. On V: v is 1 if Nu < 0 else -1, u = (-v*Nv - Nw)/Nu.
unfoldable pub exit_point : Vector → Axis → Uv
exit_point n a =
    let u = one_if (lt zero_f n.y) in
    let v = one_if (lt n.x zero_f) in
    by_axis a (uv u (other_at u n.x n.z n.y)) (uv (other_at v n.y n.z n.x) v)

-- what the exit point over an axis is divided by
abbrev pub divisor : Axis → Vector → Float
divisor a n = by_axis a n.y n.x

-- ---- the next face

abbrev pub other_axis : Axis → Axis
other_axis a = by_axis a «V» U

abbrev pub coordinate : Axis → Uv → Float
coordinate a e = by_axis a e.u e.v

-- an axis and a side as the cube numbers them
abbrev pub axis_number : Axis → ℕ
axis_number a = by_axis a 0 1

unfoldable pub direction_of : Float → ℕ
direction_of c = when lt zero_f c then 1 else 0

-- the neighbour over an axis, plus side when that coordinate is above 0, else minus
abbrev pub neighbour_over : ℕ → Axis → Uv → ℕ
neighbour_over f a e = neighbour f (axis_number a) (direction_of (coordinate a e))

-- the coordinate is 1 or -1
abbrev pub is_one : Float → Bool
is_one c = eq (magnitude_of c) one_f

-- The coordinate on the other axis is also 1 or -1, its neighbour is the target, and u*Nu, v*Nv, -Nw pass `sum_equal`.
unfoldable pub at_corner : ℕ → Uv → Axis → Vector → ℕ → Bool
at_corner f e a n t =
    let other = other_axis a in
    is_one (coordinate other e) and eqb (neighbour_over f other e) t and sum_equal (e.u ⊗ n.x) (e.v ⊗ n.y) (neg n.z)

-- The neighbour over the exit axis; at such a corner the target.
unfoldable pub next_face : ℕ → Uv → Axis → Vector → ℕ → ℕ
next_face f e a n t = when at_corner f e a n t then t else neighbour_over f a e

-- ---- a step of the walk, for the line with the normal p in x, y, z

-- where it leaves the face f, and the face where it goes on toward the target t
abbrev pub left_at : Vector → ℕ → Uv
left_at p f = let n = uvw_of f p in exit_point n (exit_axis n)

abbrev pub onward : Vector → ℕ → ℕ → ℕ
onward p f t = let n = uvw_of f p in next_face f (left_at p f) (exit_axis n) n t
