-- Of floats that are not negative each summand is at most 2 ^ k where the sum is: rounding keeps a sum no less than either.
use mathlib.Core.Path.{◌≡◌, refl, sym, ◌∙◌}
use mathlib.Core.Logic.{inl, inr}
use mathlib.Core.Bool.{Bool, true, false, true≢false, false≢true}
use Prim.Native.Nat.{ℕ, ◌+◌, ◌^◌, ◌≤◌}
use native.Mathlib.Nat.{le_trans}
use native.Mathlib.Omega.{arith}
use borrow.Author.Tests.{leb-true, le-leb}
use lib.Ieee.{Float, nan, inf, fin, Format, low, add, le, lt, eq, round, fits}
use lib.Ieee.Bits.{is_true}
use lib.Ieee.Fits.{add-fits}
use lib.Ieee.Scale.{overflow}
use Rattle.float.specs.Float.{finite, magnitude_of, sign_bit}
use Rattle.float.specs.Exact.{mag, Value}
use Rattle.float.proofs.Whole.{rnd, rnd_ge, le_or_lt}
use Rattle.float.proofs.Values.{Is, held, is_sign, add_is, alike, round_is_rnd, round_over}
use Rattle.float.proofs.Plain.{le_units}
use Rattle.float.proofs.UpTo.{power, power_units, power_is}

-- x is held by the format and its sign bit is not set: the NaN, the infinity, or a value from +0 up
pub record Above (f : Format) (x : Float) : Type 0 where
  pub holds : fits f x ≡ true
  pub sign : sign_bit x ≡ false

pub magnitude_above : (f : Format) (x : Float) → fits f x ≡ true → Above f (magnitude_of x)
unfolding magnitude_of sign_bit fits
magnitude_above f nan t = record { holds = t; sign = refl }
magnitude_above f (inf s) t = record { holds = t; sign = refl }
magnitude_above f (fin s m e) t = record { holds = t; sign = refl }

-- ---- two values from +0 up: their sum is rounded once, from the sum of their units
module _ {f : Format} {x y : Float} (p : Value f x) (q : Value f y) (s : sign_bit x ≡ false) (t : sign_bit y ≡ false) where
  own : Is f x false (mag f x)
  own = rw s at (held p).is_own

  other : Is f y false (mag f y)
  other = rw t at (held q).is_own

  once : add f x y ≡ round f false (mag f x + mag f y) (2 ^ low f)
  once = add_is own other ∙ alike f false (mag f x) (mag f y) (2 ^ low f)

  sum_sign : sign_bit (add f x y) ≡ false
  sum_sign =
      elim (le_or_lt (overflow f) (rnd f (mag f x + mag f y))) [
        | inl o ↦ rw (once, round_over f false (mag f x + mag f y) o) (unfold sign_bit in refl)
        | inr u ↦ rw once (is_sign (round_is_rnd f false (mag f x + mag f y) u))
      ]

  each : (k : ℕ) → le (add f x y) (power k) ≡ true → (le x (power k) ≡ true) × (le y (power k) ≡ true)
  each k h =
      elim (le_or_lt (overflow f) (rnd f (mag f x + mag f y))) [
        | inl o ↦ absurd (false≢true (unfold le lt eq in (rw (once, round_over f false (mag f x + mag f y) o) at h)))
        | inr u ↦
            let z : Is f (add f x y) false (rnd f (mag f x + mag f y)) = rw once (round_is_rnd f false (mag f x + mag f y) u) in
            let l : rnd f (mag f x + mag f y) ≤ power_units f k = leb-true _ _ (sym (le_units z (power_is f k)) ∙ h) in
            let a : mag f x ≤ mag f x + mag f y = omega arith in
            let b : mag f y ≤ mag f x + mag f y = omega arith in
            (le_units own (power_is f k) ∙ le-leb _ _ (le_trans (rnd_ge (held p).mag_rep a) l), le_units other (power_is f k) ∙ le-leb _ _ (le_trans (rnd_ge (held q).mag_rep b) l))
      ]

-- ---- any two that are not negative
value : {f : Format} (s : Bool) (m : ℕ) (e : _) → fits f (fin s m e) ≡ true → Value f (fin s m e)
value s m e t = record { is_finite = unfold finite in refl; held = t }

record Sum (f : Format) (x y : Float) : Type 0 where
  sign : sign_bit (add f x y) ≡ false
  each : (k : ℕ) → le (add f x y) (power k) ≡ true → (le x (power k) ≡ true) × (le y (power k) ≡ true)

-- a NaN or an infinity among them makes the sum one, and that is not at most 2 ^ k
sum : {f : Format} (x y : Float) → Above f x → Above f y → Sum f x y
unfolding add sign_bit le lt eq
sum nan y p q = record { sign = refl; each = λ k h. absurd (false≢true h) }
sum (inf true) y p q = absurd (true≢false p.sign)
sum (inf false) nan p q = record { sign = refl; each = λ k h. absurd (false≢true h) }
sum (inf false) (inf true) p q = absurd (true≢false q.sign)
sum (inf false) (inf false) p q = record { sign = refl; each = λ k h. absurd (false≢true h) }
sum (inf false) (fin t n d) p q = record { sign = refl; each = λ k h. absurd (false≢true h) }
sum (fin s m e) nan p q = record { sign = refl; each = λ k h. absurd (false≢true h) }
sum (fin s m e) (inf true) p q = absurd (true≢false q.sign)
sum (fin s m e) (inf false) p q = record { sign = refl; each = λ k h. absurd (false≢true h) }
sum (fin s m e) (fin t n d) p q =
    let a = value s m e p.holds in
    let b = value t n d q.holds in
    record { sign = sum_sign a b p.sign q.sign; each = each a b p.sign q.sign }

pub sum_above : {f : Format} (x y : Float) → Above f x → Above f y → Above f (add f x y)
sum_above {f} x y p q = record { holds = is_true _ (add-fits f x y); sign = (sum x y p q).sign }

pub summands : {f : Format} (x y : Float) → Above f x → Above f y → (k : ℕ) → le (add f x y) (power k) ≡ true → (le x (power k) ≡ true) × (le y (power k) ≡ true)
summands x y p q = (sum x y p q).each
