-- A quotient x / y lies from -1 to 1 where y is not zero and |x| is at most |y|, subnormals and the rounding included.
use mathlib.Core.Path.{◌≡◌, refl, sym, ◌∙◌}
use mathlib.Core.Bool.{Bool, true, false, true≢false, false≢true}
use Prim.Native.Nat.{ℕ, zero, suc, ◌*◌, ◌≤◌, ◌<◌}
use native.Mathlib.Nat.{mul-pos, pos_of_ne-zero}
use native.Mathlib.Omega.{arith}
use borrow.Author.Tests.{leb-true, le-leb, ne_eqb}
use lib.Pow.{pow_pos}
use lib.IntN.{ℤ, pos, neg_ℤ}
use lib.Signed.{le_z}
use lib.Ieee.{Float, nan, inf, fin, Format, up, down, unlike, level, round, div, le, eq}
use lib.Ieee.Fits.{up_pos, down_pos}
use Rattle.float.specs.Float.{finite, magnitude_of}
use Rattle.float.specs.Exact.{signed}
use Rattle.float.proofs.Values.{le_plain}
use Rattle.float.proofs.Monotone.{monotone}

-- ---- ±a / b lies between -1 and 1 where a is at most b
at_most : (s : Bool) (a b : ℕ) → a ≤ b → le_z (signed s a) (pos b) ≡ true
at_most false a b h = le-leb a b h
at_most true zero b h = le-leb 0 b (omega arith)
at_most true (suc a) b h = refl

at_least : (s : Bool) (a b : ℕ) → a ≤ b → le_z (neg_ℤ (pos b)) (signed s a) ≡ true
at_least false a zero h = le-leb 0 a (omega arith)
at_least false a (suc b) h = refl
at_least true zero zero h = refl
at_least true zero (suc b) h = refl
at_least true (suc a) zero h = absurd (omega arith)
at_least true (suc a) (suc b) h = le-leb a b (omega arith)

-- the float lies from -1 to 1
pub record InUnit (f : Format) (x : Float) : Type 0 where
  pub low : le (round f true 1 1) x ≡ true
  pub high : le x (round f false 1 1) ≡ true

round_unit : (f : Format) (s : Bool) (a b : ℕ) → 0 < b → a ≤ b → InUnit f (round f s a b)
round_unit f s a b B h =
    let l : a * 1 ≤ 1 * b = omega arith in
    record {
      low = monotone f true s 1 1 a b (pow_pos 0) B (at_least s (a * 1) (1 * b) l);
      high = monotone f s false a b 1 1 B (pow_pos 0) (at_most s (a * 1) (1 * b) l);
    }

not_zero : (t : Bool) (n : ℕ) (d : ℤ) → eq (fin t n d) (fin false 0 (pos 0)) ≡ false → n ≡ 0 → ⊥
unfolding eq
not_zero t n d z k = true≢false (sym (zeros t (n * up d * 1) (0 * 1 * down d) (rw k (omega arith)) (omega arith)) ∙ z)
  where
    zeros : (t : Bool) (a b : ℕ) → a ≡ 0 → b ≡ 0 → level t a false b ≡ true
    zeros true a b p q = rw (p, q)
    zeros false a b p q = rw (p, q)

sizes : (s t : Bool) (m n : ℕ) (e d : ℤ) → le (magnitude_of (fin s m e)) (magnitude_of (fin t n d)) ≡ true → m * up e * down d ≤ n * up d * down e
unfolding le magnitude_of
sizes s t m n e d h =
    let a = m * up e * down d in
    let b = n * up d * down e in
    leb-true a b (sym (le_plain a b) ∙ h)

pub quotient_unit : (f : Format) (x y : Float) → finite x ≡ true → finite y ≡ true → eq y (fin false 0 (pos 0)) ≡ false → le (magnitude_of x) (magnitude_of y) ≡ true → InUnit f (div f x y)
unfolding div finite
quotient_unit f nan y p q z h = absurd (false≢true p)
quotient_unit f (inf s) y p q z h = absurd (false≢true p)
quotient_unit f (fin s m e) nan p q z h = absurd (false≢true q)
quotient_unit f (fin s m e) (inf t) p q z h = absurd (false≢true q)
quotient_unit f (fin s m e) (fin t n d) p q z h =
    let some = not_zero t n d z in
    rw (ne_eqb n 0 some) (round_unit f (unlike s t) _ _ (mul-pos (mul-pos (pos_of_ne-zero some) (up_pos d)) (down_pos e)) (sizes s t m n e d h))
