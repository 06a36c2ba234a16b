-- On a face that the line meets: where it leaves is no NaN, and where it goes on is a face, entered at a point that is none.
use Prim.Native.Nat.{ℕ, ◌≤◌}
use mathlib.Core.Path.{◌≡◌}
use mathlib.Core.Bool.{true, false}
use Rattle.cube.specs.Vector.{is_zero}
use Rattle.cube.specs.Faces.{uvw_of}
use Rattle.cube.specs.Promises.{InSquare}
use Rattle.cube.specs.declared.vector.Vector.{Vector}
use Rattle.cube.specs.declared.compute.Uv.{Uv}
use Rattle.line.specs.Line.{exit_axis, left_at, onward}
use Rattle.line.specs.Promises.{Finite}
use Rattle.line.proofs.Next.{finite_in, not_zero_in}
use Rattle.line.proofs.Promises as line
use Rattle.walk.specs.Walk.{met, moved_to}
use Rattle.walk.specs.Inner.{Numbers}
use Rattle.walk.proofs.Square.{exit_square, moved_square, square_numbers}

module _ (p : Vector) (v : Finite p) (nz : is_zero p ≡ false) (f : ℕ) (F : f ≤ 5) (m : met p f ≡ true) where
  pub left_square : InSquare (left_at p f)
  left_square =
      let n = uvw_of f p in
      let l = (line.promises).exit n (finite_in v f F) (not_zero_in v nz f F) m in
      exit_square (left_at p f) (exit_axis n) l.edge.0 l.edge.1 l.inside

  module _ (e : Uv) (d : e ≡ left_at p f) where
    pub exit_numbers : Numbers e
    exit_numbers = rw d (square_numbers left_square)

    pub entered : (t g : ℕ) → g ≡ onward p f t → (c : Uv) → c ≡ moved_to f e g → (g ≤ 5) × Numbers c
    entered t g k c q =
        let G : g ≤ 5 = rw k ((line.promises).next p v nz f t F m).face in
        (G, rw (q, d) (square_numbers (moved_square f g F G (left_at p f) left_square)))
