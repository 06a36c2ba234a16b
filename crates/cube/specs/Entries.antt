-- The entries of module 5: what each refuses, and else its value.
use Rattle.std.specs.Prelude.{ℕ, true, Float, Result, Ok}
use Rattle.float.specs.Choice.{◌and◌}
use Rattle.float.specs.Float.{finite}
use Rattle.answer.specs.Refusal.{◌then◌}
use Rattle.answer.specs.declared.Refusal.{Refusal}
use Rattle.cube.specs.Vector.{finite_vector}
use Rattle.cube.specs.Faces.{face_of, uv_of, point_at, uvw_of, neighbour, u_axis, v_axis, u_norm, v_norm}
use Rattle.cube.specs.Refuse.{vector_refusal, face_refusal, side_refusal, neighbour_refusal}
use Rattle.cube.specs.declared.vector.Vector.{Vector}
use Rattle.cube.specs.declared.compute.Uv.{Uv}
use Rattle.cube.specs.declared.FaceUv.{FaceUv}

abbrev pub face_or_refusal : Vector → Result ℕ Refusal
face_or_refusal p = vector_refusal p then Ok (face_of p)

-- xyz_to_face_uv
abbrev pub face_uv_or_refusal : Vector → Result FaceUv Refusal
face_uv_or_refusal p = vector_refusal p then Ok (record { face = face_of p; at = uv_of (face_of p) p })

-- face_xyz_to_uv
abbrev pub uv_or_refusal : ℕ → Vector → Result Uv Refusal
uv_or_refusal f p = side_refusal f p then Ok (uv_of f p)

-- face_uv_to_xyz
abbrev pub xyz_or_refusal : ℕ → Float → Float → Result Vector Refusal
xyz_or_refusal f u v = face_refusal f (finite u and finite v) then Ok (point_at f u v)

-- face_xyz_to_uvw
abbrev pub uvw_or_refusal : ℕ → Vector → Result Vector Refusal
uvw_or_refusal f p = face_refusal f (finite_vector p) then Ok (uvw_of f p)

-- uvw_face
abbrev pub neighbour_or_refusal : ℕ → ℕ → ℕ → Result ℕ Refusal
neighbour_or_refusal f axis direction = neighbour_refusal f axis direction then Ok (neighbour f axis direction)

abbrev pub u_axis_or_refusal : ℕ → Result Vector Refusal
u_axis_or_refusal f = face_refusal f true then Ok (u_axis f)

abbrev pub v_axis_or_refusal : ℕ → Result Vector Refusal
v_axis_or_refusal f = face_refusal f true then Ok (v_axis f)

abbrev pub u_norm_or_refusal : ℕ → Float → Result Vector Refusal
u_norm_or_refusal f u = face_refusal f (finite u) then Ok (u_norm f u)

abbrev pub v_norm_or_refusal : ℕ → Float → Result Vector Refusal
v_norm_or_refusal f v = face_refusal f (finite v) then Ok (v_norm f v)
