-- What the functions inside ask for and give. No entry's contract and no promise cites it: a reader of those can pass it over.
use Rattle.std.specs.Prelude.{ℕ, ◌≤◌, ◌≡◌, false, not, T}
use Rattle.std.specs.Float.Ieee.{is_nan}
use Rattle.cube.specs.Vector.{is_zero}
use Rattle.cube.specs.declared.vector.Vector.{Vector}
use Rattle.cube.specs.declared.compute.Uv.{Uv}
use Rattle.line.specs.Line.{exit_axis, exit_point, next_face}
use Rattle.line.specs.Promises.{Finite}
use Rattle.walk.specs.declared.compute.Crossing.{Crossing}

-- where the line leaves the face f, whose u, v and w the normal n stands in, and the face where it goes on toward the target t
abbrev pub crossing : ℕ → Vector → ℕ → Crossing
crossing f n t =
    let a = exit_axis n in
    let e = exit_point n a in
    record { exit = e; next = next_face f e a n t }

-- neither coordinate is the NaN
pub record Numbers (p : Uv) : Type 0 where
  pub u : T (not (is_nan p.u))
  pub v : T (not (is_nan p.v))

-- what is known of an input that was not refused, with so many bytes for its records
pub record Admitted (f : ℕ) (a b : Uv) (p : Vector) (bytes : ℕ) : Type 0 where
  pub face : f ≤ 5
  pub begins : Numbers a
  pub ends : Numbers b
  pub finite : Finite p
  pub some : is_zero p ≡ false
  pub room : 320 ≤ bytes
