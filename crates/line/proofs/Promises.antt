-- What specs/Promises.antt promises, proved.
use mathlib.Core.Path.{◌≡◌, refl, sym, ◌∙◌}
use mathlib.Core.Bool.{true}
use Prim.Native.Nat.{◌+◌}
use native.Mathlib.Omega.{arith}
use borrow.Author.Tests.{eqb-true, le-leb}
use lib.Ieee.{Float, binary64}
use Rattle.float.specs.Exact.{Value}
use Rattle.float.proofs.Values.{held}
use Rattle.float.proofs.Choice.{and_parts}
use Rattle.cube.specs.Vector.{finite_vector, is_zero, HandedIn}
use Rattle.cube.specs.declared.vector.Vector.{Vector}
use Rattle.line.specs.Line.{meets_face, passes_opposite_edges, sum_equal, exit_axis}
use Rattle.line.specs.Promises.{size, Finite, apart, Tests, SumExact, Promises}
use Rattle.line.proofs.Tests.{sum_test}
use Rattle.line.proofs.Normal.{meets_is, opposite_is, zero_is}
use Rattle.line.proofs.Exit.{leaves}
use Rattle.line.proofs.Corner.{corner, exit_corner}
use Rattle.line.proofs.Next.{next}

finite_is : (n : Vector) → HandedIn n → finite_vector n ≡ true → Finite n
unfolding finite_vector
finite_is n h e =
    let (a, d) = and_parts _ _ e in
    let (b, c) = and_parts _ _ d in
    record { u = record { is_finite = a; held = h.x }; v = record { is_finite = b; held = h.y }; w = record { is_finite = c; held = h.z } }

zeros : {n : Vector} → Finite n → is_zero n ≡ true → (meets_face n ≡ true) × (passes_opposite_edges n ≡ true)
zeros {n} v h =
    let z = eqb-true (size n.x + size n.y + size n.z) 0 (sym (zero_is v) ∙ h) in (
      meets_is v ∙ le-leb (size n.z) (size n.x + size n.y) (omega arith),
      opposite_is v ∙ le-leb (size n.z) (apart (size n.x) (size n.y)) (omega arith),
    )

tests : (n : Vector) → Finite n → Tests n
tests n v = record { face = meets_is v; edges = opposite_is v; zeros = zeros v }

sum : (u v w : Float) → Value binary64 u → Value binary64 v → Value binary64 w → SumExact u v w
unfolding sum_equal
sum u v w p q r = sum_test (held p) (held q) (held r)

pub promises : Promises
promises =
    record {
      finite_is = finite_is;
      tests = tests;
      sum = sum;
      exit = λ n v nz met. leaves v nz met (exit_axis n) refl;
      corner = λ n v a f t i j. corner v a f t i j;
      exit_corner = λ n v nz met f t. exit_corner v (exit_axis n) (leaves v nz met (exit_axis n) refl) f t;
      next = λ p v nz f t F met. next v f F nz t met;
    }
