-- The entries of module 6: what each refuses, and else its value.
use Rattle.std.specs.Prelude.{ℕ, Bool, Float, Result, Ok}
use Rattle.answer.specs.Refusal.{◌then◌}
use Rattle.answer.specs.declared.Refusal.{Refusal}
use Rattle.cube.specs.Vector.{vec}
use Rattle.cube.specs.Refuse.{vector_refusal}
use Rattle.cube.specs.declared.vector.Vector.{Vector}
use Rattle.cube.specs.declared.compute.Uv.{Uv}
use Rattle.line.specs.Line.{sum_equal, meets_face, passes_opposite_edges, exit_axis, exit_point, next_face}
use Rattle.line.specs.Refuse.{line_refusal, exit_refusal, next_refusal}
use Rattle.line.specs.declared.compute.Axis.{Axis}

abbrev pub sum_equal_or_refusal : Float → Float → Float → Result Bool Refusal
sum_equal_or_refusal u v w = line_refusal (vec u v w) then Ok (sum_equal u v w)

-- intersects_face
abbrev pub meets_face_or_refusal : Vector → Result Bool Refusal
meets_face_or_refusal n = line_refusal n then Ok (meets_face n)

-- intersects_opposite_edges
abbrev pub opposite_edges_or_refusal : Vector → Result Bool Refusal
opposite_edges_or_refusal n = line_refusal n then Ok (passes_opposite_edges n)

abbrev pub exit_axis_or_refusal : Vector → Result Axis Refusal
exit_axis_or_refusal n = vector_refusal n then Ok (exit_axis n)

abbrev pub exit_point_or_refusal : Vector → Axis → Result Uv Refusal
exit_point_or_refusal n a = exit_refusal n a then Ok (exit_point n a)

abbrev pub next_face_or_refusal : ℕ → Uv → Axis → Vector → ℕ → Result ℕ Refusal
next_face_or_refusal f e a n t = next_refusal f e n t then Ok (next_face f e a n t)
