-- The value at x worked out from the end a, a1 + (b1 - a1) * (x - a) / (b - a), where nothing is beyond 2 ^ k in size: no product of two differences overflows.
-- Over any format, so that no power of two becomes a long numeral.
use mathlib.Core.Path.{◌≡◌, ◌∙◌}
use mathlib.Core.Logic.{◌⊎◌, inl, inr}
use mathlib.Core.Bool.{true, false}
use Prim.Native.Nat.{ℕ, suc, ◌+◌, ◌≤◌, ◌<◌}
use native.Mathlib.Nat.{pow-suc}
use native.Mathlib.Omega.{arith}
use lib.Pow.{pow-add}
use lib.Ieee.{Float, Format, emax, add, sub, mul, div, le, eq}
use borrow.Author.Tests.{le-leb, lt-leb}
use lib.Ieee.Bits.{is_true}
use lib.Ieee.Fits.{div-fits}
use Rattle.float.specs.Float.{finite, magnitude_of}
use Rattle.float.specs.Exact.{mag}
use Rattle.float.proofs.Order.{Num, finite_num}
use Rattle.float.proofs.Values.{held}
use Rattle.float.proofs.Plain.{drop_sign, le_units}
use Rattle.float.proofs.SumOrder.{sub_up}
use Rattle.float.proofs.UpTo.{UpTo, power_units}
use Rattle.float.proofs.Bounded.{none_exactly, power_exactly, times_exactly, no_farther, sum_up_to, product_up_to, quotient_up_to, difference_up_to, itself_up_to, equal_up_to, with_none, difference_some, quotient_num, sum_num}

-- nothing is beyond 2 ^ k
pub record Modest (f : Format) (k : ℕ) (x a b a1 b1 : Float) : Type 0 where
  pub at_x : UpTo f (power_units f k) x
  pub at_a : UpTo f (power_units f k) a
  pub at_b : UpTo f (power_units f k) b
  pub height_a : UpTo f (power_units f k) a1
  pub height_b : UpTo f (power_units f k) b1

-- x lies from a to b, or from b to a
abbrev pub Along : Float → Float → Float → Type 0
Along x a b = ((le a x ≡ true) × (le x b ≡ true)) ⊎ ((le b x ≡ true) × (le x a ≡ true))

module _ {f : Format} {k : ℕ} (room : suc k + suc k ≤ emax f) {x a b a1 b1 : Float} (m : Modest f k x a b a1 b1) where
  pub difference : {y z : Float} → UpTo f (power_units f k) y → UpTo f (power_units f k) z → UpTo f (power_units f (suc k)) (sub f y z)
  difference Y Z = difference_up_to Y Z (power_exactly f (suc k) (omega arith)) (rw pow-suc (omega arith))

  pub rise : UpTo f (power_units f (suc k)) (sub f b1 a1)
  rise = difference m.height_b m.height_a

  pub run : UpTo f (power_units f (suc k)) (sub f b a)
  run = difference m.at_b m.at_a

  pub part : UpTo f (power_units f (suc k)) (sub f x a)
  part = difference m.at_x m.at_a

  pub product : {y : Float} → UpTo f (power_units f (suc k)) y → UpTo f (power_units f (suc k + suc k)) (mul f y (sub f x a))
  product u = product_up_to u part (power_exactly f (suc k + suc k) room) (rw (pow-add 2 (suc k) (suc k)) (omega arith))

  pub some : eq b a ≡ false → 0 < mag f (sub f b a)
  some apart = difference_some m.at_b.value m.at_a.value apart run.value.is_finite

  -- wherever x is, the quotient may overflow, and is no NaN
  pub from_end_num : eq b a ≡ false → Num (add f a1 (div f (mul f (sub f b1 a1) (sub f x a)) (sub f b a)))
  from_end_num apart = sum_num (held m.height_a.value).is_own _ (is_true _ (div-fits f _ _)) (quotient_num (product rise).value run.value (some apart))

  -- x - a is rounded as b - a is, so it stays no greater in size
  shorter : Along x a b → mag f (sub f x a) ≤ mag f (sub f b a)
  shorter o =
      let z = itself_up_to m.at_a.value in
      let nz = finite_num _ z.value.is_finite in
      let np = finite_num _ part.value.is_finite in
      let nr = finite_num _ run.value.is_finite in
      no_farther z part.value run.value (elim o [
        | inl (p, q) ↦ inl (sub_up f a x a p nz np, sub_up f x b a q np nr)
        | inr (p, q) ↦ inr (sub_up f b x a p nr np, sub_up f x a a q np nz)
      ])

  -- so the product is at most 2 ^ (k + 1) times the divisor, a value, and the quotient at most 2 ^ (k + 1)
  pub quotient : eq b a ≡ false → Along x a b → UpTo f (power_units f (suc k)) (div f (mul f (sub f b1 a1) (sub f x a)) (sub f b a))
  quotient apart o =
      let u : UpTo f (mag f (sub f b a)) (sub f x a) = record { value = part.value; size = shorter o } in
      let p = product_up_to rise u (times_exactly (suc k) (suc k) run room) (omega arith) in
      quotient_up_to p run (power_exactly f (suc k) (omega arith)) (some apart) (omega arith)

  pub from_end_finite : eq b a ≡ false → Along x a b → finite (add f a1 (div f (mul f (sub f b1 a1) (sub f x a)) (sub f b a))) ≡ true
  from_end_finite apart o = (sum_up_to m.height_a (quotient apart o) (power_exactly f (suc (suc k)) (omega arith)) (simp pow-suc (omega arith))).value.is_finite

  -- ---- at x = a: a zero is added to a1, and a is the nearer end
  module _ (low : le a x ≡ true) (high : le x a ≡ true) where
    pub from_end_own : eq b a ≡ false → eq (add f a1 (div f (mul f (sub f b1 a1) (sub f x a)) (sub f b a))) a1 ≡ true
    from_end_own apart =
        let u = equal_up_to m.at_x.value m.at_a.value part.value.is_finite high low in
        let p = product_up_to rise u (none_exactly f) (omega arith) in
        with_none m.height_a.value (quotient_up_to p run (none_exactly f) (some apart) (omega arith))

    off_a : UpTo f 0 (sub f a x)
    off_a = equal_up_to m.at_a.value m.at_x.value (difference m.at_a m.at_x).value.is_finite low high

    off_b : UpTo f (power_units f (suc k)) (sub f b x)
    off_b = difference m.at_b m.at_x

    pub own_nearer : le (magnitude_of (sub f a x)) (magnitude_of (sub f b x)) ≡ true
    own_nearer = le_units (drop_sign (held off_a.value).is_own) (drop_sign (held off_b.value).is_own) ∙ le-leb (mag f (sub f a x)) (mag f (sub f b x)) (omega (arith, off_a.size))

    pub other_farther : eq b x ≡ false → le (magnitude_of (sub f b x)) (magnitude_of (sub f a x)) ≡ false
    other_farther apart =
        let h = difference_some m.at_b.value m.at_x.value apart off_b.value.is_finite in
        le_units (drop_sign (held off_b.value).is_own) (drop_sign (held off_a.value).is_own) ∙ lt-leb (mag f (sub f b x)) (mag f (sub f a x)) (omega (arith, off_a.size))
