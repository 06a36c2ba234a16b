-- What specs/Errors.antt promises, proved: each operation is one rounding, and a rounding is off by half of the last digit that is kept.
use mathlib.Core.Path.{◌≡◌, sym, ap, ◌∙◌}
use mathlib.Core.Logic.{inl, inr}
use mathlib.Core.Bool.{Bool, true, false≢true}
use Prim.Native.Nat.{ℕ, ◌+◌, ◌-◌, ◌*◌, ◌^◌, ◌≤◌, ◌<◌}
use native.Mathlib.Nat.{add-mul, mul_assoc, mul-pos, mul-le-mul_right, le_of_mul-le-mul_right, div-one, one-mul, mul-one, mul-lt-mul_of_pos_right}
use native.Mathlib.Omega.{arith}
use borrow.Author.Tests.{le-ltb}
use lib.Pow.{pow_pos, pow_mono}
use lib.IntN.{ℤ, pos, nat_abs, ◌+ℤ◌, ◌-ℤ◌, ◌*ℤ◌}
use lib.Ieee.{Float, inf, Format, prec, low, unlike, round, units, add, sub, mul, div}
use lib.Ieee.Exact.{units_val}
use lib.Ieee.Fits.{round_is}
use lib.Ieee.Scale.{overflow}
use Rattle.float.specs.Float.{finite}
use Rattle.float.specs.Exact as Exact
use Rattle.float.specs.Exact.{signed, Value}
use Rattle.float.specs.Errors.{apart, Nearly, HalfUnit, Errors}
use Rattle.float.proofs.Whole.{rnd, rnd_fix, rep_small, sub_mul, le_or_lt}
use Rattle.float.proofs.Values.{Is, held, of_value, is_sign, is_mag, round_is_rnd, round_over, add_is, neg_is}
use Rattle.float.proofs.Unlike.{unlike_twice}
use Rattle.float.proofs.Signed.{turned, times, times_pos}
use Rattle.float.proofs.Sizes.{size_is}
use Rattle.float.proofs.Product.{mul_is, div_is}
use Rattle.float.proofs.Rounded.{net}
use Rattle.float.proofs.Apart.{apart_signed}
use Rattle.float.proofs.Fraction.{Gap, rounded, drop, relative, absolute}

-- ---- two numbers of one sign are as far apart as their sizes
apart_gap : (s : Bool) {m e x y : ℕ} → Gap m e x y → apart (signed s x) (signed s y) * m ≤ e
apart_gap s {m} {e} {x} {y} g = rw (apart_signed s x y, add-mul, ← sub_mul x y m, ← sub_mul y x m) (omega (arith, g.above, g.below))

cancel : {m e x y : ℕ} (k : ℕ) → 0 < k → Gap m (e * k) (x * k) (y * k) → Gap m e x y
cancel k K g = record { above = le_of_mul-le-mul_right (omega (arith, g.above)) K; below = le_of_mul-le-mul_right (omega (arith, g.below)) K }

-- the result is r / b, the exact one n / b, both with the sign s
half_unit : (f : Format) (s : Bool) (b r n : ℕ) → (2 ^ (prec f - 1) * b ≤ n → Gap (2 ^ prec f) n (r * b) n) → (n < 2 ^ prec f * b → Gap 2 b (r * b) n) → HalfUnit f b (signed s (r * b)) (signed s n)
half_unit f s b r n g h =
    let e = size_is s n in
    record { relative = λ l. rw e (apart_gap s (g (rw e at l))); absolute = λ l. apart_gap s (h (rw e at l)) }

-- ---- what is finite did not overflow
no_infinity : {A : Type 0} {s : Bool} {y : Float} → finite y ≡ true → y ≡ inf s → A
unfolding finite
no_infinity h e = absurd (false≢true (sym (ap finite e) ∙ h))

round_rounded : (f : Format) (s : Bool) (a b : ℕ) → finite (round f s a b) ≡ true → Is f (round f s a b) s (rounded f (a * 2 ^ low f) b)
unfolding rounded units
round_rounded f s a b h =
    let n = a * 2 ^ low f in
    elim (le_or_lt (overflow f) (rounded f n b)) [
      | inl o ↦ no_infinity {s = s} h (rw (round_is f s a b, le-ltb _ _ o))
      | inr u ↦ rw round_is (of_value (units_val f s _ (drop f n b) u))
    ]

-- ---- a whole number of units is exact where no digit is dropped
rnd_gap : (f : Format) (n : ℕ) → Gap (2 ^ prec f) n (rnd f n) n
rnd_gap f n =
    elim (le_or_lt (2 ^ (prec f - 1)) n) [
      | inl h ↦ rw (whole, mul-one) at (relative f n 1 (pow_pos 0) (omega arith))
      | inr h ↦ let l : 2 ^ (prec f - 1) ≤ 2 ^ prec f = pow_mono (omega arith) in rw (rnd_fix {f = f} {n = n} (rep_small (omega arith))) record { above = omega arith; below = omega arith }
    ]
  where
    whole : rounded f n 1 ≡ rnd f n
    whole = unfold rounded rnd in rw (div-one, one-mul)

module _ {f : Format} {x y : Float} {s t : Bool} {a b : ℕ} (p : Is f x s a) (q : Is f y t b) where
  sum : finite (add f x y) ≡ true → Nearly f (Exact.units f (add f x y)) (signed s a +ℤ signed t b)
  sum h =
      let (n, k) = net f s t a b in
      let e = add_is p q ∙ k.once in
      elim (le_or_lt (overflow f) (rnd f n)) [
        | inl o ↦ no_infinity h (e ∙ round_over f k.sign n o)
        | inr u ↦
            let i : Is f (add f x y) k.sign (rnd f n) = rw e (round_is_rnd f k.sign n u) in
            rw (k.whole, is_sign i, is_mag i, size_is k.sign n) (apart_gap k.sign (rnd_gap f n))
      ]

  product : finite (mul f x y) ≡ true → HalfUnit f (2 ^ low f) (Exact.units f (mul f x y) *ℤ pos (2 ^ low f)) (signed s a *ℤ signed t b)
  product h =
      let l = 2 ^ low f in
      let L : 0 < l = pow_pos (low f) in
      let r = rounded f (a * b * l) (l * l) in
      let e = mul_is p q in
      let i : Is f (mul f x y) (unlike s t) r = rw e (round_rounded f (unlike s t) (a * b) (l * l) (rw e at h)) in
      rw (is_sign i, is_mag i, times s t a b, times_pos (unlike s t) r l)
      (half_unit f (unlike s t) l r (a * b)
      (λ g. cancel l L (rw (← mul_assoc r l l) at (relative f (a * b * l) (l * l) (mul-pos L L) (omega (arith, mul-le-mul_right l g)))))
      (λ g. cancel l L (rw (← mul_assoc r l l) at (absolute f (a * b * l) (l * l) (mul-pos L L) (omega (arith, mul-lt-mul_of_pos_right g L))))))

  quotient : 0 < b → finite (div f x y) ≡ true → HalfUnit f b (Exact.units f (div f x y) *ℤ signed t b) (signed s a *ℤ pos (2 ^ low f))
  quotient B h =
      let l = 2 ^ low f in
      let r = rounded f (a * l) b in
      let e = div_is p q B in
      let i : Is f (div f x y) (unlike s t) r = rw e (round_rounded f (unlike s t) a b (rw e at h)) in
      rw (is_sign i, is_mag i, times (unlike s t) t r b, unlike_twice s t, times_pos s a l) (half_unit f s b r (a * l) (relative f (a * l) b B) (absolute f (a * l) b B))

difference : {f : Format} {x y : Float} {s t : Bool} {a b : ℕ} → Is f x s a → Is f y t b → finite (sub f x y) ≡ true → Nearly f (Exact.units f (sub f x y)) (signed s a -ℤ signed t b)
unfolding sub
difference {t = t} {b = b} p q h = rw (turned t b) (sum p (neg_is q) h)

pub errors : (f : Format) (x y : Float) → Value f x → Value f y → Errors f x y
errors f x y v w =
    let p = (held v).is_own in
    let q = (held w).is_own in
    record { sum = sum p q; difference = difference p q; product = product p q; quotient = quotient p q }

-- relative and absolute in one, whichever of them it is
pub in_all : {f : Format} {b : ℕ} {r z : ℤ} → HalfUnit f b r z → apart r z * (2 * 2 ^ prec f) ≤ nat_abs z * 2 + b * 2 ^ prec f
in_all {f} {b} {r} {z} h =
    let l : 2 ^ (prec f - 1) ≤ 2 ^ prec f = pow_mono (omega arith) in
    elim (le_or_lt (2 ^ (prec f - 1) * b) (nat_abs z)) [
      | inl g ↦ omega (arith, h.relative g)
      | inr g ↦ omega (arith, mul-le-mul_right (2 ^ prec f) (h.absolute (omega (arith, mul-le-mul_right b l))))
    ]
