-- Module 1: the plane point.
use Rattle.std.specs.Prelude.{Bool, Float}
use Rattle.std.specs.Float.Ieee.{neg}
use Rattle.float.specs.Choice.{◌and◌}
use Rattle.float.specs.Float.{◌⊕◌, ◌⊖◌, ◌⊗◌, zero_f, finite}
use Rattle.plane.specs.declared.point.Point.{Point}

abbrev pub at : Float → Float → Point
at x y = record { x = x; y = y }

abbrev pub origin : Point
origin = at zero_f zero_f

abbrev pub sum_of : Point → Point → Point
sum_of p q = at (p.x ⊕ q.x) (p.y ⊕ q.y)

abbrev pub difference_of : Point → Point → Point
difference_of p q = at (p.x ⊖ q.x) (p.y ⊖ q.y)

abbrev pub scaled_by : Point → Float → Point
scaled_by p k = at (p.x ⊗ k) (p.y ⊗ k)

-- a quarter turn against the clock; negation flips the sign bit
abbrev pub ortho_of : Point → Point
ortho_of p = at (neg p.y) p.x

abbrev pub dot_of : Point → Point → Float
dot_of p q = p.x ⊗ q.x ⊕ p.y ⊗ q.y

abbrev pub cross_of : Point → Point → Float
cross_of p q = p.x ⊗ q.y ⊖ p.y ⊗ q.x

unfoldable pub finite_point : Point → Bool
finite_point p = finite p.x and finite p.y
