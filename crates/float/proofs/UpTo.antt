-- Values of at most so many units in size. A program's test for one is that its magnitude is at most 2 ^ k: no NaN and no infinity passes.
use mathlib.Core.Path.{◌≡◌, refl, sym, ◌∙◌}
use mathlib.Core.Bool.{true, false, false≢true}
use Prim.Native.Nat.{ℕ, ◌*◌, ◌^◌, ◌≤◌}
use native.Mathlib.Nat.{mul-le-mul_right}
use native.Mathlib.Omega.{arith}
use borrow.Author.Tests.{leb-true, le-leb}
use lib.Pow.{pow_mono}
use lib.IntN.{pos}
use lib.Ieee.{Float, nan, inf, fin, Format, low, le, lt, eq, fits}
use Rattle.float.specs.Float.{finite, magnitude_of}
use Rattle.float.specs.Exact.{mag, Value}
use Rattle.float.proofs.Values.{Is, of, held}
use Rattle.float.proofs.Plain.{drop_sign, le_units}

-- x is a value of at most n units in size
pub record UpTo (f : Format) (n : ℕ) (x : Float) : Type 0 where
  pub value : Value f x
  pub size : mag f x ≤ n

-- 2 ^ k, and its units
abbrev pub power : ℕ → Float
power k = fin false 1 (pos k)

abbrev pub power_units : Format → ℕ → ℕ
power_units f k = 2 ^ k * 2 ^ low f

pub power_is : (f : Format) (k : ℕ) → Is f (power k) false (power_units f k)
power_is f k = let e : 1 * 2 ^ k * 2 ^ low f ≡ 2 ^ k * 2 ^ low f * 1 = omega arith in of {m = 1} {e = pos k} e

pub test_finite : (x : Float) (k : ℕ) → le (magnitude_of x) (power k) ≡ true → finite x ≡ true
test_finite nan k h = absurd (false≢true (unfold le lt eq magnitude_of in h))
test_finite (inf s) k h = absurd (false≢true (unfold le lt eq magnitude_of in h))
test_finite (fin s m e) k h = unfold finite in refl

pub test_up_to : (f : Format) (k : ℕ) (x : Float) → fits f x ≡ true → le (magnitude_of x) (power k) ≡ true → UpTo f (power_units f k) x
test_up_to f k x t h =
    let v : Value f x = record { is_finite = test_finite x k h; held = t } in
    record { value = v; size = leb-true _ _ (sym (le_units (drop_sign (held v).is_own) (power_is f k)) ∙ h) }

pub power_le : (f : Format) {j k : ℕ} → j ≤ k → le (power j) (power k) ≡ true
power_le f {j} {k} h = le_units (power_is f j) (power_is f k) ∙ le-leb _ _ (mul-le-mul_right (2 ^ low f) (pow_mono h))

-- a value of so many units passes it
pub up_to_test : (f : Format) (k : ℕ) (x : Float) → Value f x → mag f x ≤ power_units f k → le (magnitude_of x) (power k) ≡ true
up_to_test f k x v h = le_units (drop_sign (held v).is_own) (power_is f k) ∙ le-leb _ _ h
