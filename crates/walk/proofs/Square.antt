-- The points of a walk stay in -1..1: where the line leaves a face, and the same point in the coordinates of the next.
use Prim.Native.Nat.{ℕ, ◌≤◌}
use mathlib.Core.Path.{◌≡◌, refl}
use mathlib.Core.Bool.{Bool, true, false, not}
use borrow.Author.Tests.{leb-true}
use lib.Dec.{T, leb}
use lib.Ieee.{Float, is_nan, le, neg, of_bits}
use Rattle.float.specs.Choice.{when◌then◌else◌}
use Rattle.float.specs.Float.{one_f}
use Rattle.float.proofs.Order.{Num, le_num}
use Rattle.float.proofs.Monotone.{le_neg}
use Rattle.float.proofs.Negated.{neg_neg}
use Rattle.cube.specs.Vector.{vec}
use Rattle.cube.specs.Faces as Faces
use Rattle.cube.specs.Faces.{by_face}
use Rattle.cube.specs.Promises.{InUnit, InSquare}
use Rattle.cube.specs.declared.compute.Uv.{Uv}
use Rattle.cube.proofs.Six.{six, up_to, at}
use Rattle.cube.proofs.Directions.{at_point, u_dir, v_dir, u_dir_le, v_dir_le}
use Rattle.line.specs.declared.compute.Axis.{Axis}
use Rattle.line.specs.declared.compute.Axis.TheVariants.{U, «V»}
use Rattle.line.specs.Line.{by_axis, one_if, coordinate, other_axis}
use Rattle.walk.specs.Walk.{moved_to}
use Rattle.walk.specs.Inner.{Numbers}
use Rattle.walk.proofs.Over.{moved_u, moved_v}

-- ---- a coordinate
neg_unit : {x : Float} → InUnit x → InUnit (neg x)
neg_unit {x} h = record { low = le_neg x one_f h.high; high = rw neg_neg at (le_neg (neg one_f) x h.low) }

one_unit : InUnit one_f
unfolding le neg of_bits
one_unit = record { low = refl; high = refl }

side_unit : (plus : Bool) → InUnit (one_if plus)
unfolding one_if when◌then◌else◌
side_unit true = one_unit
side_unit false = neg_unit one_unit

-- ---- where the line leaves
pub exit_square : (e : Uv) (a : Axis) (plus : Bool) → coordinate a e ≡ one_if plus → InUnit (coordinate (other_axis a) e) → InSquare e
unfolding by_axis
exit_square e U plus o i = record { u = rw o (side_unit plus); v = i }
exit_square e «V» plus o i = record { u = i; v = rw o (side_unit plus) }

-- ---- and on the next face: each coordinate is one of u, v and 1, or its opposite
along_unit : (u v : Float) → InUnit u → InUnit v → (h : ℕ) → h ≤ 5 → InUnit (Faces.along h (vec u v one_f))
unfolding Faces.along by_face
along_unit u v p q = six (λ h. InUnit (Faces.along h (vec u v one_f))) p q one_unit (neg_unit p) (neg_unit q) (neg_unit one_unit)

at_point_le : (f h : ℕ) → f ≤ 5 → h ≤ 5 → at_point f h ≤ 5
unfolding at_point by_face
at_point_le f h F H = leb-true (at_point f h) 5 (at 5 (λ h. leb (at_point f h) 5) (at 5 (λ f. up_to 5 (λ h. leb (at_point f h) 5)) refl f F) h H)

pub moved_square : (f g : ℕ) → f ≤ 5 → g ≤ 5 → (e : Uv) → InSquare e → InSquare (moved_to f e g)
moved_square f g F G e s =
    record {
      u = rw (moved_u f g F G e) (along_unit e.u e.v s.u s.v (at_point f (u_dir g)) (at_point_le f (u_dir g) F (u_dir_le g G)));
      v = rw (moved_v f g F G e) (along_unit e.u e.v s.u s.v (at_point f (v_dir g)) (at_point_le f (v_dir g) F (v_dir_le g G)));
    }

-- ---- so neither is a NaN
pub no_nan : (x : Float) → Num x → T (not (is_nan x))
no_nan x h = rw h tt

pub square_numbers : {e : Uv} → InSquare e → Numbers e
square_numbers {e} s = record { u = no_nan _ (le_num e.u one_f s.u.high).0; v = no_nan _ (le_num e.v one_f s.v.high).0 }
