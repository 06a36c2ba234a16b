-- A sum of floats equals a float exactly where the sum of their exact values, rounded, is that float's: a sum that overflows equals none.
use mathlib.Core.Path.{◌≡◌, refl, sym, ap, ◌∙◌}
use mathlib.Core.Logic.{◌⊎◌, inl, inr}
use mathlib.Core.Bool.{Bool, true, false, and_comm}
use Prim.Native.Nat.{ℕ, zero, suc, ◌+◌, ◌-◌, ◌^◌, ◌≤◌, ◌<◌}
use native.Mathlib.Nat.{lt_of_le_of_lt}
use native.Mathlib.Omega.{arith}
use lib.Pow.{pow_pos}
use lib.IntN.{ℤ, pos, negsuc, neg_ℤ, ◌+ℤ◌, ◌-ℤ◌, neg_ℤ-neg_ℤ}
use borrow.Author.Tests.{ne_eqb}
use lib.Ieee.{Float, inf, Format, prec, low, round, add, sub, level, le, eq}
use lib.Ieee.Scale.{overflow}
use Rattle.float.specs.Float.{sign_bit}
use Rattle.float.specs.Exact.{mag, signed, units, eq_z}
use Rattle.float.proofs.Order.{eq_both}
use Rattle.float.proofs.Whole.{Rep, rnd, rnd_fix, rnd_le, rep_small, le_or_lt}
use Rattle.float.proofs.Values.{Is, of, Held, round_is_rnd, round_over, eq_is, add_is, neg_is}
use Rattle.float.proofs.Signed.{level_z, turned}
use Rattle.float.proofs.Sizes.{same_size, same_sign, sizes}
use Rattle.float.proofs.Rounded.{net, round_fix}

-- ---- whole numbers with a sign, rounded
abbrev pub rnd_z : Format → ℤ → ℤ
rnd_z f (pos n) = pos (rnd f n)
rnd_z f (negsuc n) = neg_ℤ (pos (rnd f (suc n)))

rnd_zero : (f : Format) → rnd f 0 ≡ 0
rnd_zero f = rnd_fix (rep_small (pow_pos (prec f)))

pub rnd_z_signed : (f : Format) (s : Bool) (n : ℕ) → rnd_z f (signed s n) ≡ signed s (rnd f n)
rnd_z_signed f false n = refl
rnd_z_signed f true zero = rw rnd_zero
rnd_z_signed f true (suc n) = refl

pub rnd_z_neg : (f : Format) (z : ℤ) → rnd_z f (neg_ℤ z) ≡ neg_ℤ (rnd_z f z)
rnd_z_neg f (pos n) = rnd_z_signed f true n
rnd_z_neg f (negsuc n) = sym (neg_ℤ-neg_ℤ (pos (rnd f (suc n))))

pub rnd_z_fix : {f : Format} {z : Float} → Held f z → rnd_z f (units f z) ≡ units f z
rnd_z_fix {f} {z} h = rnd_z_signed f (sign_bit z) (mag f z) ∙ ap (signed (sign_bit z)) (rnd_fix h.mag_rep)

-- ---- against a value
pub eq_swap : (x y : Float) → eq x y ≡ eq y x
eq_swap x y = rw (eq_both x y, eq_both y x) (and_comm (le x y) (le y x))

over_eq : {f : Format} {z : Float} {t : Bool} {n : ℕ} → Is f z t n → (s : Bool) → eq (inf s) z ≡ false
unfolding eq
over_eq (of p) s = refl

module _ {f : Format} {z : Float} (h : Held f z) where
  round_eq : (s : Bool) (n : ℕ) → eq (round f s n (2 ^ low f)) z ≡ level s (rnd f n) (sign_bit z) (mag f z)
  round_eq s n =
      elim (le_or_lt (overflow f) (rnd f n)) [
        | inl o ↦ rw (round_over f s n o, over_eq h.is_own s, ne_eqb (rnd f n) (mag f z) (λ e. omega (arith, h.mag_under)))
        | inr o ↦ eq_is (round_is_rnd f s n o) h.is_own
      ]

  pub sum_equals : {x y : Float} {s t : Bool} {a b : ℕ} → Is f x s a → Is f y t b → eq (add f x y) z ≡ eq_z (rnd_z f (signed s a +ℤ signed t b)) (units f z)
  sum_equals {s = s} {t = t} {a = a} {b = b} p q =
      let (n, o) = net f s t a b in
      rw (add_is p q, o.once, o.whole, rnd_z_signed) (round_eq o.sign n ∙ level_z o.sign (sign_bit z) (rnd f n) (mag f z))

  pub difference_equals : {x y : Float} {s t : Bool} {a b : ℕ} → Is f x s a → Is f y t b → eq (sub f x y) z ≡ eq_z (rnd_z f (signed s a -ℤ signed t b)) (units f z)
  unfolding sub
  difference_equals {t = t} {b = b} p q = rw (turned t b) (sum_equals p (neg_is q))

-- ---- a sum that is exactly ±n, and one that is no greater in size than n
module _ {f : Format} {n : ℕ} (r : Rep f n) (u : n < overflow f) {x y : Float} {s t : Bool} {a b : ℕ} (p : Is f x s a) (q : Is f y t b) where
  pub sum_exactly : (o : Bool) → 0 < n → signed s a +ℤ signed t b ≡ signed o n → Is f (add f x y) o n
  sum_exactly o h e =
      let (m, k) = net f s t a b in
      let g = sym k.whole ∙ e in
      let i : k.sign ≡ o = same_sign k.sign o m h g in
      let j : m ≡ n = same_size k.sign o g in
      rw (add_is p q, k.once, i, j) (round_fix r u o n (2 ^ low f) (pow_pos (low f)) refl)

  pub sum_within : (s ≡ t → a + b ≤ n) → a ≤ n + b → b ≤ n + a → (o : Bool) × (m : ℕ) × Is f (add f x y) o m × (m ≤ n)
  sum_within h i j =
      let (m, k) = net f s t a b in
      let d : ((s ≡ t) × (m ≡ a + b)) ⊎ (m ≡ a - b + (b - a)) = sizes s t k.sign a b k.whole in
      let l : m ≤ n = elim d [ inl (e, g) ↦ omega (arith, h e) | inr g ↦ omega arith ] in
      let v = rnd_le r l in
      (k.sign, rnd f m, rw (add_is p q, k.once) (round_is_rnd f k.sign m (lt_of_le_of_lt v u)), v)
