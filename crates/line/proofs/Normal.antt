-- A finite normal: its parts, and its tests in whole numbers.
use mathlib.Core.Path.{◌≡◌}
use Prim.Native.Nat.{ℕ, ◌+◌}
use native.Mathlib.Omega.{arith}
use lib.Dec.{leb, eqb}
use borrow.Author.Tests.{eq-eqb, eqb-true}
use lib.Ieee.{binary64, of_bits}
use Rattle.float.specs.Choice.{◌and◌}
use Rattle.float.proofs.Choice.{same, and_parts, and_both}
use Rattle.float.proofs.Values.{Held, held}
use Rattle.float.proofs.Plain.{plain}
use Rattle.float.proofs.Zero.{eq_nought}
use Rattle.cube.specs.Vector.{is_zero}
use Rattle.cube.specs.declared.vector.Vector.{Vector}
use Rattle.line.specs.declared.compute.Axis.{Axis}
use Rattle.line.specs.declared.compute.Axis.TheVariants.{U, «V»}
use Rattle.line.specs.Line.{meets_face, passes_opposite_edges, by_axis, divisor}
use Rattle.line.specs.Promises.{size, Finite, apart}
use Rattle.line.proofs.Tests.{face_test, edges_test}

all_zero_lem : (a b c : ℕ) → (eqb a 0 and eqb b 0 and eqb c 0) ≡ eqb (a + b + c) 0
all_zero_lem a b c =
    same (eqb a 0 and eqb b 0 and eqb c 0) (eqb (a + b + c) 0)
    (λ e.
    let (i, o) = and_parts (eqb a 0) (eqb b 0 and eqb c 0) e in
    let (j, k) = and_parts (eqb b 0) (eqb c 0) o in
    eq-eqb (a + b + c) 0 (omega (arith, eqb-true a 0 i, eqb-true b 0 j, eqb-true c 0 k)))
    (λ e.
    let s = eqb-true (a + b + c) 0 e in
    and_both (eqb a 0) _ (eq-eqb a 0 (omega arith)) (and_both (eqb b 0) _ (eq-eqb b 0 (omega arith)) (eq-eqb c 0 (omega arith))))

module _ {n : Vector} (v : Finite n) where
  pub u_held : Held binary64 n.x
  u_held = held v.u

  pub v_held : Held binary64 n.y
  v_held = held v.v

  pub w_held : Held binary64 n.z
  w_held = held v.w

  pub meets_is : meets_face n ≡ leb (size n.z) (size n.x + size n.y)
  unfolding meets_face
  meets_is = face_test (plain u_held) (plain v_held) (plain w_held)

  pub opposite_is : passes_opposite_edges n ≡ leb (size n.z) (apart (size n.x) (size n.y))
  unfolding passes_opposite_edges
  opposite_is = edges_test (plain u_held) (plain v_held) (plain w_held)

  pub zero_is : is_zero n ≡ eqb (size n.x + size n.y + size n.z) 0
  unfolding is_zero of_bits
  zero_is = rw (eq_nought u_held.is_own, eq_nought v_held.is_own, eq_nought w_held.is_own) (all_zero_lem (size n.x) (size n.y) (size n.z))

  pub divisor_held : (a : Axis) → Held binary64 (divisor a n)
  unfolding by_axis
  divisor_held U = v_held
  divisor_held «V» = u_held
