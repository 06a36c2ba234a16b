-- What the walk refuses, in document 01's order: 4, 2, 5, then 6 or 7 as the walk finds them, then 8.
use Rattle.std.specs.Prelude.{ℕ, ◌/◌, not, leb, length, Result}
use Rattle.float.specs.Choice.{◌and◌}
use Rattle.float.specs.Float.{finite}
use Rattle.answer.specs.Refusal.{unless◌refuse◌else◌, ◌then◌, done}
use Rattle.answer.specs.declared.Refusal.{Refusal}
use Rattle.answer.specs.declared.Refusal.TheVariants.{ShortBuffer}
use Rattle.cube.specs.Vector.{finite_vector, is_zero}
use Rattle.cube.specs.Refuse.{cube_refusal, is_face}
use Rattle.cube.specs.declared.vector.Vector.{Vector}
use Rattle.cube.specs.declared.compute.Uv.{Uv}
use Rattle.walk.specs.Walk.{stop_refusal, segments}

-- 4 for a face or a target above 5, 2 for a float that is not finite, 5 for a normal all zero
abbrev pub input_refusal : ℕ → Uv → ℕ → Uv → Vector → Result (Unit {0}) Refusal
input_refusal f a t b p =
    cube_refusal (is_face f and is_face t) (((finite a.u and finite a.v) and (finite b.u and finite b.v)) and finite_vector p) (not (is_zero p)) done

-- 8 where so many bytes hold fewer whole records than the walk has
unfoldable pub room_refusal : ℕ → ℕ → Result (Unit {0}) Refusal
room_refusal count bytes = unless leb count (bytes / 40) refuse ShortBuffer else done

-- all of it, with so many bytes lent
unfoldable pub walk_refusal : ℕ → ℕ → Uv → ℕ → Uv → Vector → Result (Unit {0}) Refusal
walk_refusal bytes f a t b p = input_refusal f a t b p then stop_refusal 8 p f t then room_refusal (length (segments 8 p f a t b)) bytes
