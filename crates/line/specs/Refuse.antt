-- What the entries of module 6 refuse, in document 01's order for the cube and the walk: 4, 2, 5. `exit_axis` refuses as `face` does.
use Rattle.std.specs.Prelude.{ℕ, true, not, Result}
use Rattle.std.specs.Float.Ieee.{eq}
use Rattle.float.specs.Choice.{◌and◌}
use Rattle.float.specs.Float.{zero_f, finite}
use Rattle.answer.specs.Refusal.{done}
use Rattle.answer.specs.declared.Refusal.{Refusal}
use Rattle.cube.specs.Vector.{finite_vector, is_zero}
use Rattle.cube.specs.Refuse.{cube_refusal, is_face}
use Rattle.cube.specs.declared.vector.Vector.{Vector}
use Rattle.cube.specs.declared.compute.Uv.{Uv}
use Rattle.line.specs.declared.compute.Axis.{Axis}
use Rattle.line.specs.Line.{divisor}

-- sum_equal, intersects_face, intersects_opposite_edges: three floats
abbrev pub line_refusal : Vector → Result (Unit {0}) Refusal
line_refusal n = cube_refusal true (finite_vector n) true done

-- exit_point: 5 for a zero divisor on the asked axis, as the zero normal has on both
abbrev pub exit_refusal : Vector → Axis → Result (Unit {0}) Refusal
exit_refusal n a = cube_refusal true (finite_vector n) (not (eq (divisor a n) zero_f)) done

-- next_face: 4 for a face or a target above 5
abbrev pub next_refusal : ℕ → Uv → Vector → ℕ → Result (Unit {0}) Refusal
next_refusal f e n t = cube_refusal (is_face f and is_face t) ((finite e.u and finite e.v) and finite_vector n) (not (is_zero n)) done
