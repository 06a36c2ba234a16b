-- The exact value of a finite float: a whole number of the format's smallest value, which in binary64 is 2 ^ -1074. Definitions only.
use Rattle.std.specs.Prelude.{ℕ, ◌*◌, ◌/◌, ◌^◌, ◌≡◌, Bool, true, false, cond, ℤ, pos, negsuc, neg_ℤ, eqb, Float}
use Rattle.std.specs.Float.{nan, inf, fin, Format}
use Rattle.std.specs.Float.Ieee.{low, up, down, fits}
use Rattle.float.specs.Float.{finite, sign_bit}

-- the magnitude in units of 2 ^ -low; 0 of a NaN and of an infinity
unfoldable pub mag : Format → Float → ℕ
mag f nan = 0
mag f (inf s) = 0
mag f (fin s m e) = m * up e * 2 ^ low f / down e

-- n with a sign: -n where it is set
abbrev pub signed : Bool → ℕ → ℤ
signed s n = cond s (neg_ℤ (pos n)) (pos n)

-- the exact value, in units
abbrev pub units : Format → Float → ℤ
units f x = signed (sign_bit x) (mag f x)

-- whether two whole numbers are equal
abbrev pub eq_z : ℤ → ℤ → Bool
eq_z (pos a) (pos b) = eqb a b
eq_z (pos a) (negsuc b) = false
eq_z (negsuc a) (pos b) = false
eq_z (negsuc a) (negsuc b) = eqb a b

-- x is a finite value that the format holds
pub record Value (f : Format) (x : Float) : Type 0 where
  pub is_finite : finite x ≡ true
  pub held : fits f x ≡ true
