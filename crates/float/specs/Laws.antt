-- What is promised of the operations on floats, over every format: comparison and rounding against exact values, how far a rounded result is from the exact one, and that a float which is handed in is a value of its format. Statements only; proofs/Laws.antt has their proofs.
-- The order of all values, infinities and the NaN among them, is in proofs/Order.antt.
use Rattle.std.specs.Prelude.{ℕ, ◌*◌, ◌^◌, ◌≤◌, ◌<◌, ◌≡◌, Bool, true, pos, ◌+ℤ◌, ◌-ℤ◌, ◌*ℤ◌, Float}
use Rattle.std.specs.Int.Signed.{lt_z, le_z}
use Rattle.std.specs.Float.{Format}
use Rattle.std.specs.Float.Ieee.{low, round, add, sub, mul, div, lt, le, eq, fits, of_bits, to_bits}
use Rattle.float.specs.Float.{finite, sign_bit}
use Rattle.float.specs.Exact.{mag, signed, units, eq_z, Value}
use Rattle.float.specs.Errors.{Errors}

-- comparisons are those of the exact values
pub record Compared (f : Format) (x y : Float) : Type 0 where
  pub less : lt x y ≡ lt_z (units f x) (units f y)
  pub at_most : le x y ≡ le_z (units f x) (units f y)
  pub equal : eq x y ≡ eq_z (units f x) (units f y)

-- a sum, difference, product or quotient of x and y whose exact value is that of the float z is z
pub record Exact (f : Format) (x y z : Float) : Type 0 where
  pub sum : units f x +ℤ units f y ≡ units f z → eq (add f x y) z ≡ true
  pub difference : units f x -ℤ units f y ≡ units f z → eq (sub f x y) z ≡ true
  pub product : units f x *ℤ units f y ≡ units f z *ℤ pos (2 ^ low f) → eq (mul f x y) z ≡ true
  pub quotient : 0 < mag f y → units f x *ℤ pos (2 ^ low f) ≡ units f z *ℤ units f y → eq (div f x y) z ≡ true

-- Sterbenz: of two values of one sign, neither more than twice the other, the difference is exact
abbrev pub Sterbenz : Format → Float → Float → Type 0
Sterbenz f x y =
    sign_bit x ≡ sign_bit y → mag f x ≤ mag f y * 2 → mag f y ≤ mag f x * 2
    → (finite (sub f x y) ≡ true) × (units f (sub f x y) ≡ units f x -ℤ units f y)

-- rounding is monotone: where a / b, with the sign s, is at most c / d, with the sign t, so are the rounded values
abbrev pub Monotone : Format → Type 0
Monotone f =
    (s t : Bool) (a b c d : ℕ) → 0 < b → 0 < d → le_z (signed s (a * d)) (signed t (c * b)) ≡ true
    → le (round f s a b) (round f t c d) ≡ true

-- Every float of the language is that of its bit pattern, so `held` of a Value asks nothing of a float that is handed in: what a pattern stands for is always a value that the format holds, and every such value has a pattern.
pub record Handed (f : Format) : Type 0 where
  pub held : (n : ℕ) → fits f (of_bits f n) ≡ true
  pub pattern : (x : Float) → fits f x ≡ true → of_bits f (to_bits f x) ≡ x
  pub value : (n : ℕ) → finite (of_bits f n) ≡ true → Value f (of_bits f n)

pub record Laws : Type 0 where
  pub compared : (f : Format) (x y : Float) → Value f x → Value f y → Compared f x y
  pub exact : (f : Format) (x y z : Float) → Value f x → Value f y → Value f z → Exact f x y z
  pub sterbenz : (f : Format) (x y : Float) → Value f x → Value f y → Sterbenz f x y
  pub monotone : (f : Format) → Monotone f
  pub errors : (f : Format) (x y : Float) → Value f x → Value f y → Errors f x y
  pub handed : (f : Format) → Handed f
