-- How far rounding moves a fraction n / b of units: by half of the last digit that is kept.
use mathlib.Core.Path.{◌≡◌, refl, ap, subst, ◌∙◌}
use mathlib.Core.Bool.{not}
use Prim.Native.Nat.{ℕ, zero, suc, ◌+◌, ◌-◌, ◌*◌, ◌/◌, ◌%◌, ◌^◌, ◌≤◌, ◌<◌, compare, Ordering}
use native.Mathlib.Nat.{mul-one, mul-pos, mod-lt, mul-le-mul_right, div-add-mod', le-div_iff_mul-le, div-lt_iff_lt-mul, pow-suc}
use native.Mathlib.Omega.{arith}
use lib.Arith.{lt_of_le-ne}
use lib.Dec.{T, is_le, compare_is_eq, eqb, leb→le, nleb→lt, eqb→eq, eqb_refl}
use lib.Pow.{pow-add, pow_pos}
use lib.Ieee.{Format, prec, size, nearest}
use lib.Ieee.Digits.{size-le, size_reaches}
use lib.Ieee.Fits.{two}
use lib.Ieee.Nearest.{closest}

-- |x - y| * m is at most e
pub record Gap (m e x y : ℕ) : Type 0 where
  pub above : x * m ≤ y * m + e
  pub below : y * m ≤ x * m + e

-- ---- the whole number closest to a / u is within a half of it
abbrev Cmp : Ordering → ℕ → ℕ → Type 0
Cmp Ordering.lt a b = a < b
Cmp Ordering.eq a b = a ≡ b
Cmp Ordering.gt a b = b < a

cmp : (a b : ℕ) → Cmp (compare a b) a b
cmp a b = go (compare a b) (leb→le a b) (nleb→lt a b) (eqb→eq a b) (λ (e : a ≡ b). subst (λ (x : ℕ). T (eqb a x)) e (eqb_refl a))
  where
    go : (o : Ordering) → (T (is_le o) → a ≤ b) → (T (not (is_le o)) → b < a) → (T (compare_is_eq o) → a ≡ b) → (a ≡ b → T (compare_is_eq o)) → Cmp o a b
    go Ordering.lt h k e n = lt_of_le-ne (h tt) n
    go Ordering.eq h k e n = e tt
    go Ordering.gt h k e n = k tt

closest_half : (a u : ℕ) → 0 < u → Gap 2 u (closest a u * u) a
closest_half a u U = go (a / u) (a % u) (div-add-mod' a u) (mod-lt a U) (compare (a % u * 2) u) (cmp (a % u * 2) u)
  where
    go : (q r : ℕ) → q * u + r ≡ a → r < u → (o : Ordering) → Cmp o (r * 2) u → Gap 2 u (nearest q o * u) a
    go q r e l Ordering.lt c = record { above = omega arith; below = omega arith }
    go q r e l Ordering.eq c = let t : q % 2 * u ≤ 1 * u = mul-le-mul_right u (omega arith) in record { above = omega arith; below = omega arith }
    go q r e l Ordering.gt c = record { above = omega arith; below = omega arith }

-- ---- n / b units, rounded to the digits of the format
abbrev pub drop : Format → ℕ → ℕ → ℕ
drop f n b = size (n / b) - prec f

unfoldable pub rounded : Format → ℕ → ℕ → ℕ
rounded f n b = closest n (b * 2 ^ drop f n b) * 2 ^ drop f n b

module _ (f : Format) (n b : ℕ) (B : 0 < b) where
  -- within half of the last digit that is kept
  last : Gap 2 (b * 2 ^ drop f n b) (rounded f n b * b) n
  unfolding rounded
  last = let h = closest_half n (b * 2 ^ drop f n b) (mul-pos B (pow_pos (drop f n b))) in record { above = omega (arith, h.above); below = omega (arith, h.below) }

  -- that digit is at most 2 ^ (1 - prec) of n / b, where digits are dropped and where all that are kept are there
  all_digits : 2 ^ (prec f - 1) * b ≤ n → 2 ^ (prec f - 1) * (b * 2 ^ drop f n b) ≤ n
  all_digits h = go (drop f n b) refl
    where
      go : (k : ℕ) → drop f n b ≡ k → 2 ^ (prec f - 1) * (b * 2 ^ k) ≤ n
      go zero e = omega (arith, h)
      go (suc k) e =
          let l : 2 ^ (prec f - 1) * 2 ^ suc k ≤ n / b = rw (← pow-add) (size_reaches (n / b) (prec f - 1 + suc k) (omega (arith, two f))) in
          omega (arith, (le-div_iff_mul-le B).0 l)

  pub relative : 2 ^ (prec f - 1) * b ≤ n → Gap (2 ^ prec f) n (rounded f n b * b) n
  relative h =
      let N = 2 ^ prec f in
      let p = 2 ^ (prec f - 1) in
      let o : N ≡ p * 2 = ap (λ (x : ℕ). 2 ^ x) (omega (arith, two f)) ∙ pow-suc 2 (prec f - 1) in
      let l = all_digits h in
      let g = last in
      rw o record { above = omega (arith, mul-le-mul_right p g.above); below = omega (arith, mul-le-mul_right p g.below) }

  -- below 2 ^ prec none is dropped
  pub absolute : n < 2 ^ prec f * b → Gap 2 b (rounded f n b * b) n
  absolute h =
      let e : drop f n b ≡ 0 = omega (arith, size-le (n / b) (prec f) ((div-lt_iff_lt-mul B).1 h)) in
      rw (e, mul-one) at last
