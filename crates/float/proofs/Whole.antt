-- Whole numbers rounded to the `prec f` binary digits of a format, ties to even: `rnd f n` is what `round` does to n units of the format's smallest value.
-- Rounding keeps what is representable, keeps the order, goes through doubling, and a difference of numbers within a factor of two needs none (Sterbenz).
use mathlib.Core.Path.{◌≡◌, refl, sym, ap, ◌∙◌}
use mathlib.Core.Logic.{◌⊎◌, inl, inr}
use mathlib.Core.Bool.{Bool, true, false}
use Prim.Native.Nat.compare
use Prim.Native.Nat.{Ordering}
use Prim.Native.Nat.{ℕ, zero, suc, ◌+◌, ◌-◌, ◌*◌, ◌/◌, ◌%◌, ◌^◌, ◌≤◌, ◌<◌, zero-le, compare}
use native.Mathlib.Nat.{le_trans, le_of_lt, lt_irrefl, lt_of_le_of_lt, lt_of_lt_of_le, not-le_of_lt, lt_of_not-le, eq-or-lt_of_le, mul_comm, mul_assoc, mul-one, mul-sub, mul-le-mul_right, mul-lt-mul_of_pos_right, le_of_mul-le-mul_right, le-div_iff_mul-le, mul-div_cancel, mul-mod_left, pow-suc, one-mul}
use native.Mathlib.Omega.{arith}
use lib.Dec.{leb}
use borrow.Author.Tests.{leb-true, leb-false}
use lib.Pow.{pow-add, pow_pos, pow_mono, pow-lt, shl_lt}
use lib.Ieee.{Format, prec, size}
use lib.Ieee.Digits.{size-lt, size-le, size_reaches, back}
use lib.Ieee.Fits.{kept-lt, nearest-le, two}
use lib.Ieee.Nearest.{closest, closest_mono, closest_same, nearest-ge}

-- how many digits of n are dropped, and n rounded
abbrev pub cut : Format → ℕ → ℕ
cut f n = size n - prec f

unfoldable pub rnd : Format → ℕ → ℕ
rnd f n = closest n (2 ^ cut f n) * 2 ^ cut f n

-- n has at most `prec f` digits before its closing zeros
pub record Rep (f : Format) (n : ℕ) : Type 0 where
  pub digits : ℕ
  pub zeros : ℕ
  pub few : digits < 2 ^ prec f
  pub whole : n ≡ digits * 2 ^ zeros

pub le_or_lt : (a b : ℕ) → (a ≤ b) ⊎ (b < a)
le_or_lt a b = go (leb a b) refl
  where
    go : (t : Bool) → leb a b ≡ t → (a ≤ b) ⊎ (b < a)
    go true e = inl (leb-true a b e)
    go false e = inr (leb-false a b e)

-- ---- a representable number is kept
above_zero : (u : ℕ) → 0 < u → compare 0 u ≡ Ordering.lt
above_zero zero h = absurd (lt_irrefl 0 h)
above_zero (suc u) h = compare.zero-suc u

closest_exact : (q u : ℕ) → 0 < u → closest (q * u) u ≡ q
closest_exact q u h = rw (mul-div_cancel q h, mul-mod_left q u, above_zero u h)

-- all but k of its closing zeros counted as digits
pub regroup : (q : ℕ) {j k : ℕ} → k ≤ j → q * 2 ^ (j - k) * 2 ^ k ≡ q * 2 ^ j
regroup q {j} {k} h = rw (mul_assoc, ← pow-add, back j k h)

pub rnd_fix : {f : Format} {n : ℕ} → Rep f n → rnd f n ≡ n
unfolding rnd
rnd_fix {f} {n} r =
    let q = r.digits in
    let j = r.zeros in
    let k = cut f (q * 2 ^ j) in
    let l : k ≤ j = omega (arith, size-le (q * 2 ^ j) (prec f + j) (shl_lt (prec f) j r.few)) in
    let e = regroup q l in
    rw r.whole (ap (λ (x : ℕ). closest x (2 ^ k) * 2 ^ k) (sym e) ∙ ap (λ (x : ℕ). x * 2 ^ k) (closest_exact (q * 2 ^ (j - k)) (2 ^ k) (pow_pos k)) ∙ e)

pub rep_small : {f : Format} {n : ℕ} → n < 2 ^ prec f → Rep f n
rep_small {f} {n} h = record { digits = n; zeros = 0; few = h; whole = sym (mul-one n) }

one_few : (f : Format) → 1 < 2 ^ prec f
one_few f = pow-lt {i = 0} (omega (arith, two f))

-- ---- the order is kept
size_mono : {a b : ℕ} → a ≤ b → size a ≤ size b
size_mono {a} {b} h = size-le a (size b) (lt_of_le_of_lt h (size-lt b))

keep_le : (f : Format) (n : ℕ) → closest n (2 ^ cut f n) ≤ 2 ^ prec f
keep_le f n = let u = 2 ^ cut f n in le_trans (nearest-le (n / u) (compare (n % u * 2) u)) (kept-lt (prec f) n)

-- where digits are dropped, the number that is kept has all the digits of the format
keep_ge : (f : Format) (n : ℕ) → 0 < cut f n → 2 ^ (prec f - 1) ≤ closest n (2 ^ cut f n)
keep_ge f n K =
    let k = cut f n in
    let u = 2 ^ k in
    let l : 2 ^ (prec f - 1) * u ≤ n = rw (← pow-add) (size_reaches n (prec f - 1 + k) (omega (arith, two f))) in
    le_trans ((le-div_iff_mul-le (pow_pos k)).1 l) (nearest-ge (n / u) (compare (n % u * 2) u))

-- what is rounded is representable
pub rnd_rep : (f : Format) (n : ℕ) → Rep f (rnd f n)
unfolding rnd
rnd_rep f n =
    let k = cut f n in
    elim (eq-or-lt_of_le (keep_le f n)) [
      | inl e ↦ record { digits = 1; zeros = prec f + k; few = one_few f; whole = rw (e, one-mul, pow-add) }
      | inr l ↦ record { digits = closest n (2 ^ k); zeros = k; few = l; whole = refl }
    ]

same_cut : (k : ℕ) {a b : ℕ} → a ≤ b → closest a (2 ^ k) * 2 ^ k ≤ closest b (2 ^ k) * 2 ^ k
same_cut k {a} {b} h = mul-le-mul_right (2 ^ k) (closest_mono a (2 ^ k) b (2 ^ k) (pow_pos k) (pow_pos k) (mul-le-mul_right (2 ^ k) h))

-- Either both drop as many digits, or the smaller drops fewer, and then a power of two lies between the two results.
pub rnd_mono : (f : Format) {a b : ℕ} → a ≤ b → rnd f a ≤ rnd f b
unfolding rnd
rnd_mono f {a} {b} h =
    let j = cut f a in
    let k = cut f b in
    let l : j ≤ k = omega (arith, size_mono h) in
    elim (eq-or-lt_of_le l) [
      | inl e ↦ rw e (same_cut k h)
      | inr g ↦
          let x : 2 ^ (prec f + j) ≤ 2 ^ (prec f - 1 + k) = pow_mono (omega (arith, two f)) in
          let y = simp pow-add at x in
          le_trans (mul-le-mul_right (2 ^ j) (keep_le f a)) (le_trans y (mul-le-mul_right (2 ^ k) (keep_ge f b (lt_of_le_of_lt zero-le g))))
    ]

-- against a representable number the rounded number stays on the same side
pub rnd_le : {f : Format} {n z : ℕ} → Rep f z → n ≤ z → rnd f n ≤ z
rnd_le {f} {n} {z} r h = rw (rnd_fix r) at (rnd_mono f h)

pub rnd_ge : {f : Format} {n z : ℕ} → Rep f z → z ≤ n → z ≤ rnd f n
rnd_ge {f} {n} {z} r h = rw (rnd_fix r) at (rnd_mono f h)

pub rnd_pos : (f : Format) {n : ℕ} → 0 < n → 0 < rnd f n
rnd_pos f h = rnd_ge (rep_small (one_few f)) h

-- ---- rounding goes through doubling
size_gt : (n j : ℕ) → 2 ^ j ≤ n → j < size n
size_gt n j h = lt_of_not-le (λ (g : size n ≤ j). not-le_of_lt (lt_of_lt_of_le (size-lt n) (pow_mono g)) h)

rep_twice : {f : Format} {n : ℕ} → Rep f n → Rep f (n * 2)
rep_twice {f} {n} r = record { digits = r.digits; zeros = suc r.zeros; few = r.few; whole = rw (r.whole, pow-suc, mul_assoc) }

-- past the digits that are kept, twice as much has one digit more, and drops it
cut_twice : (f : Format) (n : ℕ) → 2 ^ prec f ≤ n → cut f (n * 2) ≡ suc (cut f n)
cut_twice f n h =
    let z = size n in
    let g : prec f < z = size_gt n (prec f) h in
    let a : n * 2 < 2 ^ suc z = rw pow-suc (mul-lt-mul_of_pos_right (size-lt n) (pow_pos 1)) in
    let b : 2 ^ suc (z - 1) ≤ n * 2 = rw pow-suc (mul-le-mul_right 2 (size_reaches n (z - 1) (omega arith))) in
    omega (arith, size-le (n * 2) (suc z) a, size_gt (n * 2) (suc (z - 1)) b)

large_twice : (f : Format) (n : ℕ) → 2 ^ prec f ≤ n → rnd f (n * 2) ≡ rnd f n * 2
unfolding rnd
large_twice f n h =
    let k = cut f n in
    let c : closest (n * 2) (2 ^ k * 2) ≡ closest n (2 ^ k) = closest_same (n * 2) (2 ^ k * 2) n (2 ^ k) (omega (arith, pow_pos k)) (pow_pos k) (omega arith) in
    rw (cut_twice f n h, pow-suc, c) (sym (mul_assoc _ _ _))

pub rnd_twice : (f : Format) (n : ℕ) → rnd f (n * 2) ≡ rnd f n * 2
rnd_twice f n =
    elim (le_or_lt (2 ^ prec f) n) [
      | inl h ↦ large_twice f n h
      | inr h ↦ let r : Rep f n = rep_small h in rw (rnd_fix r, rnd_fix (rep_twice r))
    ]

-- ---- Sterbenz
pub sub_mul : (a b c : ℕ) → a * c - b * c ≡ (a - b) * c
sub_mul a b c = rw (mul_comm (a - b) c, mul-sub, mul_comm c a, mul_comm c b)

-- Over the smaller power of two the difference has no more digits than the number that has it: it is no more than a, nor more than b.
pub sterbenz : {f : Format} {a b : ℕ} → Rep f a → Rep f b → a ≤ b * 2 → Rep f (a - b)
sterbenz {f} {a} {b} r s l =
    let q = r.digits in
    let j = r.zeros in
    let p = s.digits in
    let k = s.zeros in
    elim (le_or_lt j k) [
      | inl o ↦
          let m = q - p * 2 ^ (k - j) in
          record { digits = m; zeros = j; few = omega (arith, r.few); whole = rw (r.whole, s.whole, ← regroup p o) (sub_mul q (p * 2 ^ (k - j)) (2 ^ j)) }
      | inr o ↦
          let m = q * 2 ^ (j - k) - p in
          let e : a - b ≡ m * 2 ^ k = rw (r.whole, s.whole, ← regroup q (le_of_lt o)) (sub_mul (q * 2 ^ (j - k)) p (2 ^ k)) in
          let y : m * 2 ^ k ≤ p * 2 ^ k = omega (arith, s.whole) in
          record { digits = m; zeros = k; few = lt_of_le_of_lt (le_of_mul-le-mul_right y (pow_pos k)) s.few; whole = e }
    ]
