-- Sizes and distances of whole numbers with a sign.
use mathlib.Core.Path.{◌≡◌, refl, sym, ap, ◌∙◌}
use mathlib.Core.Logic.{◌⊎◌, inl, inr}
use mathlib.Core.Bool.{Bool, true, false}
use Prim.Native.Nat.{ℕ, suc, ◌+◌, ◌-◌, ◌*◌, ◌≤◌}
use native.Mathlib.Omega.{arith}
use borrow.Author.Tests.{leb-true}
use lib.IntN.{ℤ, pos, negsuc, neg_ℤ, nat_abs, ◌+ℤ◌, ◌-ℤ◌, ◌*ℤ◌}
use lib.Signed.{le_z}
use Rattle.float.specs.Exact.{signed}
use Rattle.float.specs.Errors.{apart}
use Rattle.float.proofs.Whole.{le_or_lt}
use Rattle.float.proofs.Sizes.{size_is}
use Rattle.float.proofs.Less.{◌less◌, pos_less, neg_less, of_one, of_two, of_three, less_same, less_neg, less_plus, less_times, less_size, less_le}

pub size_times : (x y : ℤ) → nat_abs (x *ℤ y) ≡ nat_abs x * nat_abs y
size_times (pos m) (pos n) = refl
size_times (pos m) (negsuc n) = size_is true (m * suc n)
size_times (negsuc m) (pos n) = size_is true (suc m * n)
size_times (negsuc m) (negsuc n) = refl

pub size_neg : (x : ℤ) → nat_abs (neg_ℤ x) ≡ nat_abs x
size_neg = of_one (λ x. nat_abs (neg_ℤ x) ≡ nat_abs x) (λ a b. simp (less_neg, less_size) (omega arith))

pub size_plus : (x y : ℤ) → nat_abs (x +ℤ y) ≤ nat_abs x + nat_abs y
size_plus = of_two (λ x y. nat_abs (x +ℤ y) ≤ nat_abs x + nat_abs y) (λ a b c d. simp (less_plus, less_size) (omega arith))

-- ---- sums and differences
pub times_plus : (k x y : ℤ) → k *ℤ (x +ℤ y) ≡ k *ℤ x +ℤ k *ℤ y
times_plus = of_three (λ k x y. k *ℤ (x +ℤ y) ≡ k *ℤ x +ℤ k *ℤ y) (λ a b c d e f. simp (less_plus, less_times) (less_same _ _ _ _ (omega arith)))

times_minus : (k x y : ℤ) → k *ℤ x -ℤ k *ℤ y ≡ k *ℤ (x -ℤ y)
times_minus = of_three (λ k x y. k *ℤ x -ℤ k *ℤ y ≡ k *ℤ (x -ℤ y)) (λ a b c d e f. simp (less_neg, less_plus, less_times) (less_same _ _ _ _ (omega arith)))

pub minus_via : (x y z : ℤ) → (y -ℤ x) +ℤ (z -ℤ y) ≡ z -ℤ x
minus_via = of_three (λ x y z. (y -ℤ x) +ℤ (z -ℤ y) ≡ z -ℤ x) (λ a b c d e f. simp (less_neg, less_plus) (less_same _ _ _ _ (omega arith)))

pub minus_swap : (x y : ℤ) → y -ℤ x ≡ neg_ℤ (x -ℤ y)
minus_swap = of_two (λ x y. y -ℤ x ≡ neg_ℤ (x -ℤ y)) (λ a b c d. simp (less_neg, less_plus) (less_same _ _ _ _ (omega arith)))

-- ---- distances
pub apart_swap : (x y : ℤ) → apart x y ≡ apart y x
apart_swap = of_two (λ x y. apart x y ≡ apart y x) (λ a b c d. simp (less_neg, less_plus, less_size) (omega arith))

pub apart_size : (x y : ℤ) → apart x y ≤ nat_abs x + nat_abs y
apart_size = of_two (λ x y. apart x y ≤ nat_abs x + nat_abs y) (λ a b c d. simp (less_neg, less_plus, less_size) (omega arith))

pub size_within : (x y : ℤ) → nat_abs x ≤ nat_abs y + apart x y
size_within = of_two (λ x y. nat_abs x ≤ nat_abs y + apart x y) (λ a b c d. simp (less_neg, less_plus, less_size) (omega arith))

pub apart_via : (x y z : ℤ) → apart x z ≤ apart x y + apart y z
apart_via = of_three (λ x y z. apart x z ≤ apart x y + apart y z) (λ a b c d e f. simp (less_neg, less_plus, less_size) (omega arith))

pub apart_plus : (k x y : ℤ) → apart (k +ℤ x) (k +ℤ y) ≡ apart x y
apart_plus = of_three (λ k x y. apart (k +ℤ x) (k +ℤ y) ≡ apart x y) (λ a b c d e f. simp (less_neg, less_plus, less_size) (omega arith))

pub apart_times : (k x y : ℤ) → apart (k *ℤ x) (k *ℤ y) ≡ nat_abs k * apart x y
apart_times k x y = ap nat_abs (times_minus k x y) ∙ size_times k (x -ℤ y)

-- of two numbers with one sign
pub apart_signed : (s : Bool) (m n : ℕ) → apart (signed s m) (signed s n) ≡ m - n + (n - m)
apart_signed s m n = go s (signed s m) (signed s n) refl refl
  where
    go : (s : Bool) (x y : ℤ) → x ≡ signed s m → y ≡ signed s n → apart x y ≡ m - n + (n - m)
    go false x y e d = rw (e ∙ pos_less m, d ∙ pos_less n, less_neg, less_plus, less_size) (omega arith)
    go true x y e d = rw (e ∙ neg_less m, d ∙ neg_less n, less_neg, less_plus, less_size) (omega arith)

-- ---- y lies from x to z: the distances add up, and y is no greater in size than one of them
module _ (x1 x0 y1 y0 z1 z0 : ℕ) (p : le_z (x1 less x0) (y1 less y0) ≡ true) (q : le_z (y1 less y0) (z1 less z0) ≡ true) where
  first : x1 + y0 ≤ y1 + x0
  first = leb-true _ _ (sym (less_le x1 x0 y1 y0) ∙ p)

  second : y1 + z0 ≤ z1 + y0
  second = leb-true _ _ (sym (less_le y1 y0 z1 z0) ∙ q)

  along : apart (z1 less z0) (x1 less x0) ≡ apart (y1 less y0) (x1 less x0) + apart (z1 less z0) (y1 less y0)
  along = simp (less_neg, less_plus, less_size) (omega (arith, first, second))

  inner : (nat_abs (y1 less y0) ≤ nat_abs (x1 less x0)) ⊎ (nat_abs (y1 less y0) ≤ nat_abs (z1 less z0))
  inner = elim (le_or_lt y0 y1) [ inl o ↦ inr (simp less_size (omega (arith, second))) | inr o ↦ inl (simp less_size (omega (arith, first))) ]

pub apart_along : (x y z : ℤ) → le_z x y ≡ true → le_z y z ≡ true → apart z x ≡ apart y x + apart z y
apart_along = of_three (λ x y z. le_z x y ≡ true → le_z y z ≡ true → apart z x ≡ apart y x + apart z y) along

pub size_between : (x y z : ℤ) → le_z x y ≡ true → le_z y z ≡ true → (nat_abs y ≤ nat_abs x) ⊎ (nat_abs y ≤ nat_abs z)
size_between = of_three (λ x y z. le_z x y ≡ true → le_z y z ≡ true → (nat_abs y ≤ nat_abs x) ⊎ (nat_abs y ≤ nat_abs z)) inner
