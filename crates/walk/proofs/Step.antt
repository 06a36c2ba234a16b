-- A step from a face, by the normal in that face's u, v and w, is the line's own step.
use Prim.Native.Nat.{ℕ}
use mathlib.Core.Path.{◌≡◌, sym, ap, ◌∙◌}
use mathlib.Core.Bool.{Bool}
use Rattle.cube.specs.Faces.{uvw_of}
use Rattle.cube.specs.declared.vector.Vector.{Vector}
use Rattle.line.specs.Line.{meets_face, exit_axis, exit_point, next_face, left_at, onward}
use Rattle.walk.specs.Walk.{met}
use Rattle.walk.specs.Inner.{crossing}
use Rattle.walk.specs.declared.compute.Crossing.{Crossing}

module _ (p : Vector) (f : ℕ) (n : Vector) (e : n ≡ uvw_of f p) where
  pub tested : (b c : Bool) → b ≡ meets_face n → b ≡ c → met p f ≡ c
  tested b c d k = ap meets_face (sym e) ∙ sym d ∙ k

  module _ (t : ℕ) (r : Crossing) (s : r ≡ crossing f n t) where
    pub exit_is : r.exit ≡ left_at p f
    exit_is = ap (λ (r : Crossing). r.exit) s ∙ ap (λ (n : Vector). exit_point n (exit_axis n)) e

    pub next_is : r.next ≡ onward p f t
    next_is = ap (λ (r : Crossing). r.next) s ∙ ap (λ (n : Vector). next_face f (exit_point n (exit_axis n)) (exit_axis n) n t) e
