-- The neighbour as W3 has it, from the axis directions: the face whose own axis points where it is asked for. That it is document 01's table is promised (Promises.antt).
use Rattle.std.specs.Prelude.{ℕ, eqb}
use Rattle.std.specs.Float.Ieee.{lt}
use Rattle.float.specs.Choice.{when◌then◌else◌}
use Rattle.float.specs.Float.{zero_f}
use Rattle.cube.specs.Vector.{opposite}
use Rattle.cube.specs.Faces.{point_at, u_axis, v_axis}
use Rattle.cube.specs.declared.vector.Vector.{Vector}

-- the unit vector along an axis of f: 0 is u, 1 is v, any other w, which ends in the middle of the face
unfoldable pub axis_of : ℕ → ℕ → Vector
axis_of f axis = when eqb axis 0 then u_axis f else when eqb axis 1 then v_axis f else point_at f zero_f zero_f

-- the same in a direction: 0 is minus, any other plus
unfoldable pub unit_toward : ℕ → ℕ → ℕ → Vector
unit_toward f axis direction =
    let a = axis_of f axis in
    when eqb direction 0 then opposite a else a

-- the face whose own axis is a unit vector: the sign and the place of the one component that is not zero
unfoldable pub facing : Vector → ℕ
facing r =
    when lt zero_f r.x then 0
    else when lt zero_f r.y then 1
    else when lt zero_f r.z then 2
    else when lt r.x zero_f then 3
    else when lt r.y zero_f then 4
    else 5

abbrev pub neighbour_by_axes : ℕ → ℕ → ℕ → ℕ
neighbour_by_axes f axis direction = facing (unit_toward f axis direction)
