-- How far a rounded result is from the exact one, over every format, as long as it is finite: half a unit in the last place. Statements only; proofs/Errors.antt has their proofs.
-- All of it in units, as `Exact` of specs/Laws.antt has the four operations.
use Rattle.std.specs.Prelude.{ℕ, ◌-◌, ◌*◌, ◌^◌, ◌≤◌, ◌<◌, ◌≡◌, true, ℤ, pos, nat_abs, ◌+ℤ◌, ◌-ℤ◌, ◌*ℤ◌, Float}
use Rattle.std.specs.Float.{Format}
use Rattle.std.specs.Float.Ieee.{prec, low, add, sub, mul, div}
use Rattle.float.specs.Float.{finite}
use Rattle.float.specs.Exact.{mag, units}

-- how far apart two whole numbers are
abbrev pub apart : ℤ → ℤ → ℕ
apart x y = nat_abs (x -ℤ y)

-- r is off by at most 2 ^ -prec of z
abbrev pub Nearly : Format → ℤ → ℤ → Type 0
Nearly f r z = apart r z * 2 ^ prec f ≤ nat_abs z

-- the result is r / b, the exact one z / b
pub record HalfUnit (f : Format) (b : ℕ) (r z : ℤ) : Type 0 where
  -- relative, where the exact one is at least the least normal value
  pub relative : 2 ^ (prec f - 1) * b ≤ nat_abs z → Nearly f r z
  -- absolute below that, and as long as no digit is lost: half of the format's smallest value
  pub absolute : nat_abs z < 2 ^ prec f * b → apart r z * 2 ≤ b

pub record Errors (f : Format) (x y : Float) : Type 0 where
  -- a sum or a difference below the least normal value is exact, so that these are relative throughout
  pub sum : finite (add f x y) ≡ true → Nearly f (units f (add f x y)) (units f x +ℤ units f y)
  pub difference : finite (sub f x y) ≡ true → Nearly f (units f (sub f x y)) (units f x -ℤ units f y)
  pub product : finite (mul f x y) ≡ true → HalfUnit f (2 ^ low f) (units f (mul f x y) *ℤ pos (2 ^ low f)) (units f x *ℤ units f y)
  pub quotient : 0 < mag f y → finite (div f x y) ≡ true → HalfUnit f (mag f y) (units f (div f x y) *ℤ units f y) (units f x *ℤ pos (2 ^ low f))
