-- Whole numbers with a sign as differences of two without: every one is `a less b`, and sum, product, order and size of such are arithmetic that `omega` reads.
use mathlib.Core.Path.{◌≡◌, refl, sym, ap, subst}
use mathlib.Core.Logic.{inl, inr}
use mathlib.Core.Bool.{Bool, true, false, cond}
use Prim.Native.Nat.{ℕ, zero, suc, ◌+◌, ◌-◌, ◌*◌}
use native.Mathlib.Omega.{arith}
use lib.Dec.{ltb, leb}
use borrow.Author.Tests.{ltb-true, ltb-false, le-leb, lt-leb}
use lib.IntN.{ℤ, pos, negsuc, neg_ℤ, nat_abs, sub_ℕ, ◌+ℤ◌, ◌*ℤ◌}
use lib.Signed.{le_z}
use Rattle.float.proofs.Whole.{le_or_lt}

infix 5 ◌less◌
unfoldable pub ◌less◌ : ℕ → ℕ → ℤ
a less b = sub_ℕ a b

-- z is a less b
abbrev Is : ℤ → ℕ → ℕ → Type 0
Is (pos n) a b = a ≡ n + b
Is (negsuc n) a b = b ≡ a + suc n

less_is : (a b : ℕ) → Is (a less b) a b
unfolding ◌less◌
less_is a b = go (ltb a b) refl
  where
    go : (t : Bool) → ltb a b ≡ t → Is (cond t (negsuc (b - suc a)) (pos (a - b))) a b
    go true e = omega (arith, ltb-true a b e)
    go false e = omega (arith, ltb-false a b e)

-- only one number is
same : (y z : ℤ) (a b : ℕ) → Is y a b → Is z a b → y ≡ z
same (pos m) (pos n) a b h k = ap pos (omega arith)
same (pos m) (negsuc n) a b h k = absurd (omega arith)
same (negsuc m) (pos n) a b h k = absurd (omega arith)
same (negsuc m) (negsuc n) a b h k = ap negsuc (omega arith)

is_less : (z : ℤ) (a b : ℕ) → Is z a b → z ≡ (a less b)
is_less z a b h = same z (a less b) a b h (less_is a b)

is_shift : (z : ℤ) (a b c d : ℕ) → a + d ≡ c + b → Is z a b → Is z c d
is_shift (pos n) a b c d e h = omega arith
is_shift (negsuc n) a b c d e h = omega arith

neg_is : (z : ℤ) (a b : ℕ) → Is z a b → Is (neg_ℤ z) b a
neg_is (pos zero) a b h = omega arith
neg_is (pos (suc n)) a b h = omega arith
neg_is (negsuc n) a b h = omega arith

-- ---- each is one, in many ways
pub pos_less : (n : ℕ) → pos n ≡ (n less 0)
pos_less n = is_less (pos n) n 0 (omega arith)

pub neg_less : (n : ℕ) → neg_ℤ (pos n) ≡ (0 less n)
neg_less n = is_less (neg_ℤ (pos n)) 0 n (neg_is (pos n) n 0 (omega arith))

pub parts : (z : ℤ) → (a : ℕ) × (b : ℕ) × (z ≡ (a less b))
parts (pos n) = (n, 0, pos_less n)
parts (negsuc n) = (0, suc n, is_less (negsuc n) 0 (suc n) (omega arith))

-- what holds of all differences holds of all numbers
pub of_one : (P : ℤ → Type 0) → ((a b : ℕ) → P (a less b)) → (z : ℤ) → P z
of_one P f z = let (a, b, e) = parts z in subst P (sym e) (f a b)

pub of_two : (P : ℤ → ℤ → Type 0) → ((a b c d : ℕ) → P (a less b) (c less d)) → (y z : ℤ) → P y z
of_two P f y z = of_one (λ (x : ℤ). P x z) (λ a b. of_one (P (a less b)) (f a b) z) y

pub of_three : (P : ℤ → ℤ → ℤ → Type 0) → ((a b c d e f : ℕ) → P (a less b) (c less d) (e less f)) → (x y z : ℤ) → P x y z
of_three P f x y z = of_one (λ (w : ℤ). P w y z) (λ a b. of_two (P (a less b)) (f a b) y z) x

pub less_same : (a b c d : ℕ) → a + d ≡ c + b → (a less b) ≡ (c less d)
less_same a b c d e = is_less (a less b) c d (is_shift (a less b) a b c d e (less_is a b))

-- ---- the sign changed, sum and product
plus_is : (y z : ℤ) (a b c d : ℕ) → Is y a b → Is z c d → Is (y +ℤ z) (a + c) (b + d)
plus_is (pos m) (pos n) a b c d h k = omega arith
plus_is (pos m) (negsuc n) a b c d h k = unfold ◌less◌ in is_shift (m less suc n) m (suc n) (a + c) (b + d) (omega arith) (less_is m (suc n))
plus_is (negsuc m) (pos n) a b c d h k = unfold ◌less◌ in is_shift (n less suc m) n (suc m) (a + c) (b + d) (omega arith) (less_is n (suc m))
plus_is (negsuc m) (negsuc n) a b c d h k = omega arith

times_is : (y z : ℤ) (a b c d : ℕ) → Is y a b → Is z c d → Is (y *ℤ z) (a * c + b * d) (a * d + b * c)
times_is (pos m) (pos n) a b c d h k = rw (h, k) (omega arith)
times_is (pos m) (negsuc n) a b c d h k = neg_is (pos (m * suc n)) (a * d + b * c) (a * c + b * d) (rw (h, k) (omega arith))
times_is (negsuc m) (pos n) a b c d h k = neg_is (pos (suc m * n)) (a * d + b * c) (a * c + b * d) (rw (h, k) (omega arith))
times_is (negsuc m) (negsuc n) a b c d h k = rw (h, k) (omega arith)

pub less_neg : (a b : ℕ) → neg_ℤ (a less b) ≡ (b less a)
less_neg a b = is_less _ b a (neg_is (a less b) a b (less_is a b))

pub less_plus : (a b c d : ℕ) → (a less b) +ℤ (c less d) ≡ (a + c less b + d)
less_plus a b c d = is_less _ (a + c) (b + d) (plus_is (a less b) (c less d) a b c d (less_is a b) (less_is c d))

pub less_times : (a b c d : ℕ) → (a less b) *ℤ (c less d) ≡ (a * c + b * d less a * d + b * c)
less_times a b c d = is_less _ _ _ (times_is (a less b) (c less d) a b c d (less_is a b) (less_is c d))

-- ---- size and order
size_is : (z : ℤ) (a b : ℕ) → Is z a b → nat_abs z ≡ a - b + (b - a)
size_is (pos n) a b h = omega arith
size_is (negsuc n) a b h = omega arith

pub less_size : (a b : ℕ) → nat_abs (a less b) ≡ a - b + (b - a)
less_size a b = size_is (a less b) a b (less_is a b)

-- two tests of one difference
tests : (m n p q : ℕ) → m + q ≡ n + p → leb m n ≡ leb p q
tests m n p q e = elim (le_or_lt m n) [ inl h ↦ rw (le-leb m n h, le-leb p q (omega arith)) | inr h ↦ rw (lt-leb m n h, lt-leb p q (omega arith)) ]

le_is : (y z : ℤ) (a b c d : ℕ) → Is y a b → Is z c d → le_z y z ≡ leb (a + d) (c + b)
le_is (pos m) (pos n) a b c d h k = tests m n (a + d) (c + b) (omega arith)
le_is (pos m) (negsuc n) a b c d h k = sym (lt-leb (a + d) (c + b) (omega arith))
le_is (negsuc m) (pos n) a b c d h k = sym (le-leb (a + d) (c + b) (omega arith))
le_is (negsuc m) (negsuc n) a b c d h k = tests n m (a + d) (c + b) (omega arith)

pub less_le : (a b c d : ℕ) → le_z (a less b) (c less d) ≡ leb (a + d) (c + b)
less_le a b c d = le_is (a less b) (c less d) a b c d (less_is a b) (less_is c d)
