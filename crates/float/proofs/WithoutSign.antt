-- The magnitude by one comparison and one difference, which is exact: what each of the two branches gives.
use mathlib.Core.Path.{◌≡◌, refl, sym, subst, ◌∙◌}
use mathlib.Core.Bool.{Bool, true, false, not, ◌||◌, true≢false}
use Prim.Native.Nat.{ℕ, zero, suc, ◌-◌, ◌+◌, ◌^◌, ◌≤◌}
use native.Mathlib.Nat.{zero-add}
use native.Mathlib.Omega.{arith}
use lib.Dec.{T}
use lib.Pow.{pow_pos}
use borrow.Author.Tests.{leb-true, lt-ltb}
use lib.Ieee.{Float, nan, inf, fin, Format, binary64, low, below, level, round, sum, add, neg, sub, le, lt, eq, fits, of_bits}
use lib.Ieee.Fits.{sub-fits}
use Rattle.float.specs.Float.{finite, magnitude_of, sign_bit}
use Rattle.float.specs.Exact.{mag, Value}
use Rattle.float.proofs.Values.{Is, held, le_is, sub_is, alike, unlike_ge}
use Rattle.float.proofs.Rounded.{round_fix}
use Rattle.float.proofs.Plain.{drop_sign, le_units}
use Rattle.float.proofs.Unique.{same}
use Rattle.float.proofs.Zero.{nought, nought_is}

-- what is not more than 0 is 0
none : (f : Format) (n : ℕ) → n ≤ 0 → round f false (0 - n) (2 ^ low f) ≡ round f false n (2 ^ low f)
none f zero h = refl
none f (suc n) h = absurd (omega arith)

-- a negative value is at most 0
below_nought : (n : ℕ) → (below true n false 0 || level true n false 0) ≡ true
below_nought zero = refl
below_nought (suc n) = rw (lt-ltb 0 (suc n + 0) (omega arith))

module _ (f : Format) (x : Float) (v : Value f x) where
  -- 0 - x is rounded once, from the size of x; where x is not negative that size is 0
  once : le x nought ≡ true → sub f nought x ≡ round f false (mag f x) (2 ^ low f)
  once e = sub_is (nought_is f) (held v).is_own ∙ by_sign (sign_bit x) (held v).is_own
    where
      by_sign : (s : Bool) → Is f x s (mag f x) → sum f false 0 (not s) (mag f x) (2 ^ low f) ≡ round f false (mag f x) (2 ^ low f)
      by_sign true p = alike f false 0 (mag f x) (2 ^ low f) ∙ (rw zero-add)
      by_sign false p = let n : mag f x ≤ 0 = leb-true _ _ (sym (le_units p (nought_is f)) ∙ e) in unlike_ge f false (2 ^ low f) n ∙ none f (mag f x) n

  -- and that size is held as it is
  difference : le x nought ≡ true → T (fits f (magnitude_of x)) → sub f nought x ≡ magnitude_of x
  difference e t =
      let h = held v in
      let r : Is f (round f false (mag f x) (2 ^ low f)) false (mag f x) = round_fix h.mag_rep h.mag_under false (mag f x) (2 ^ low f) (pow_pos (low f)) refl in
      same (sub-fits f nought x) t (rw (once e) r) (drop_sign h.is_own)

  not_negative : le x nought ≡ false → sign_bit x ≡ false
  not_negative e = by_sign (sign_bit x) (held v).is_own
    where
      by_sign : (s : Bool) → Is f x s (mag f x) → s ≡ false
      by_sign true p = absurd (true≢false (sym (below_nought (mag f x)) ∙ sym (le_is p (nought_is f)) ∙ e))
      by_sign false p = refl

zero_is : of_bits binary64 0 ≡ nought
unfolding of_bits
zero_is = refl

same_fits : (f : Format) (s t : Bool) (m : ℕ) (e : _) → fits f (fin s m e) ≡ fits f (fin t m e)
unfolding fits
same_fits f s t zero e = refl
same_fits f s t (suc m) e = refl

value : (s : Bool) (m : ℕ) (e : _) → fits binary64 (fin s m e) ≡ true → Value binary64 (fin s m e)
value s m e t = record { is_finite = unfold finite in refl; held = t }

pub up_to_zero : (x : Float) → fits binary64 x ≡ true → le x (of_bits binary64 0) ≡ true → sub binary64 (of_bits binary64 0) x ≡ magnitude_of x
up_to_zero nan t h = unfold sub add neg of_bits magnitude_of in refl
up_to_zero (inf true) t h = unfold sub add neg of_bits magnitude_of in refl
up_to_zero (inf false) t h = absurd (true≢false (sym (unfold le lt eq of_bits in h)))
up_to_zero (fin s m e) t h =
    rw zero_is (difference binary64 (fin s m e) (value s m e t) (subst (λ (z : Float). le (fin s m e) z ≡ true) zero_is h) (unfold magnitude_of in subst T (sym (same_fits binary64 false s m e ∙ t)) tt))

pub above_zero : (x : Float) → fits binary64 x ≡ true → le x (of_bits binary64 0) ≡ false → x ≡ magnitude_of x
unfolding magnitude_of
above_zero nan t h = refl
above_zero (inf true) t h = absurd (true≢false (unfold le lt eq of_bits in h))
above_zero (inf false) t h = refl
above_zero (fin s m e) t h =
    let p : s ≡ false = unfold sign_bit in not_negative binary64 (fin s m e) (value s m e t) (subst (λ (z : Float). le (fin s m e) z ≡ false) zero_is h) in
    rw p
