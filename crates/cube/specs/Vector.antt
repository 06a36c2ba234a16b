-- The vector, and what is asked of one.
use Rattle.std.specs.Prelude.{◌≡◌, Bool, true, Float}
use Rattle.std.specs.Float.{binary64}
use Rattle.std.specs.Float.Ieee.{eq, neg, fits}
use Rattle.float.specs.Choice.{◌and◌}
use Rattle.float.specs.Float.{zero_f, finite}
use Rattle.cube.specs.declared.vector.Vector.{Vector}

abbrev pub vec : Float → Float → Float → Vector
vec x y z = record { x = x; y = y; z = z }

abbrev pub zero_vector : Vector
zero_vector = vec zero_f zero_f zero_f

abbrev pub opposite : Vector → Vector
opposite p = vec (neg p.x) (neg p.y) (neg p.z)

unfoldable pub finite_vector : Vector → Bool
finite_vector p = finite p.x and finite p.y and finite p.z

-- all zero, of either sign
unfoldable pub is_zero : Vector → Bool
is_zero p = eq p.x zero_f and eq p.y zero_f and eq p.z zero_f

-- three floats that can be handed in: binary64 holds them, as it holds that of every bit pattern (float's specs/Laws.antt, `Handed`)
pub record HandedIn (p : Vector) : Type 0 where
  pub x : fits binary64 p.x ≡ true
  pub y : fits binary64 p.y ≡ true
  pub z : fits binary64 p.z ≡ true
