-- What the entries of module 5 refuse, in document 01's order for the cube and the walk: 4, 2, 5, then what is left to the entry.
use Rattle.std.specs.Prelude.{ℕ, Bool, true, not, leb, Result}
use Rattle.std.specs.Float.Ieee.{lt}
use Rattle.float.specs.Choice.{◌and◌}
use Rattle.float.specs.Float.{zero_f}
use Rattle.answer.specs.Refusal.{unless◌refuse◌else◌, done}
use Rattle.answer.specs.declared.Refusal.{Refusal}
use Rattle.answer.specs.declared.Refusal.TheVariants.{Missed, NotFinite, BadFace, Zero}
use Rattle.cube.specs.Vector.{finite_vector, is_zero}
use Rattle.cube.specs.Faces.{along}
use Rattle.cube.specs.declared.vector.Vector.{Vector}

-- 4 for a number that is no face, axis or direction, 2 for a float that is not finite, 5 for a vector all zero, then the rest
abbrev pub cube_refusal : Bool → Bool → Bool → Result (Unit {0}) Refusal → Result (Unit {0}) Refusal
cube_refusal faces floats some rest =
    unless faces refuse BadFace else unless floats refuse NotFinite else unless some refuse Zero else rest

-- a face is a number up to 5
abbrev pub is_face : ℕ → Bool
is_face f = leb f 5

-- ---- the entries

-- face, xyz_to_face_uv
abbrev pub vector_refusal : Vector → Result (Unit {0}) Refusal
vector_refusal p = cube_refusal true (finite_vector p) (not (is_zero p)) done

-- face_uv_to_xyz, face_xyz_to_uvw, u_axis, v_axis, unorm, vnorm: a face, and whether the floats handed in are finite
abbrev pub face_refusal : ℕ → Bool → Result (Unit {0}) Refusal
face_refusal f floats = cube_refusal (is_face f) floats true done

-- face_xyz_to_uv: 1 for a vector not on the side of the asked face, the zero vector too
abbrev pub side_refusal : ℕ → Vector → Result (Unit {0}) Refusal
side_refusal f p = cube_refusal (is_face f) (finite_vector p) true (unless lt zero_f (along f p) refuse Missed else done)

-- uvw_face: 4 also for an axis above 2 or a direction above 1
abbrev pub neighbour_refusal : ℕ → ℕ → ℕ → Result (Unit {0}) Refusal
neighbour_refusal f axis direction = cube_refusal (is_face f and leb axis 2 and leb direction 1) true true done
