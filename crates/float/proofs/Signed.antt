-- Whole numbers with a sign: their order and equality are those of `below` and `level`, and their sums and products are those of the magnitudes.
use mathlib.Core.Path.{◌≡◌, refl, sym, ap, ◌∙◌}
use mathlib.Core.Bool.{Bool, true, false, not, ◌||◌, and-true, and-false, and_self}
use Prim.Native.Nat.{ℕ, zero, suc, ◌+◌, ◌-◌, ◌*◌, ◌≤◌}
use native.Mathlib.Nat.{zero-add, zero-mul, mul-zero}
use native.Mathlib.Decide.{ℕ_discrete}
use native.Mathlib.Omega.{arith}
use lib.Dec.{eqb, leb-suc-zero, leb-suc-suc, eqb-zero-suc, eqb-suc-zero, eqb-suc-suc}
use borrow.Author.Tests.{lt-ltb, eq-eqb, ne_eqb}
use lib.IntN.{ℤ, pos, negsuc, neg_ℤ, ◌+ℤ◌, ◌-ℤ◌, ◌*ℤ◌, neg_ℤ-+ℤ, neg_ℤ-neg_ℤ, +ℤ-neg_ℤ_cancel}
use lib.Signed.{lt_z, le_z}
use lib.Ieee.{unlike, below, level}
use lib.Ieee.Digits.{back}
use Rattle.float.specs.Exact.{signed, eq_z}
use Rattle.float.proofs.Values.{le_either}

-- ---- order and equality
pub below_z : (s t : Bool) (a b : ℕ) → below s a t b ≡ lt_z (signed s a) (signed t b)
below_z false false a b = refl
below_z false true a zero = sym (leb-suc-zero a)
below_z false true a (suc b) = refl
below_z true false zero b = rw zero-add
below_z true false (suc a) b = lt-ltb 0 (suc a + b) (omega arith)
below_z true true zero zero = refl
below_z true true zero (suc b) = leb-suc-zero (suc b)
below_z true true (suc a) zero = lt-ltb 0 (suc a) (omega arith)
below_z true true (suc a) (suc b) = leb-suc-suc (suc b) a

pub level_z : (s t : Bool) (a b : ℕ) → level s a t b ≡ eq_z (signed s a) (signed t b)
level_z false false a b = and-true (eqb a b)
level_z false true a zero = and_self (eqb a 0)
level_z false true zero (suc b) = rw eqb-zero-suc
level_z false true (suc a) (suc b) = rw eqb-suc-zero (and-false (eqb (suc a) (suc b)))
level_z true false zero b = and-true (eqb 0 b)
level_z true false (suc a) b = rw eqb-suc-zero (and-false (eqb (suc a) b))
level_z true true zero zero = refl
level_z true true zero (suc b) = rw eqb-zero-suc
level_z true true (suc a) zero = rw eqb-suc-zero
level_z true true (suc a) (suc b) = and-true (eqb (suc a) (suc b)) ∙ eqb-suc-suc a b

eqb_swap : (a b : ℕ) → eqb a b ≡ eqb b a
eqb_swap a b = elim (ℕ_discrete a b) [ yes e ↦ rw (eq-eqb a b e, eq-eqb b a (sym e)) | no n ↦ rw (ne_eqb a b n, ne_eqb b a (λ e. n (sym e))) ]

le_z_either : (x y : ℤ) → (lt_z x y || eq_z x y) ≡ le_z x y
le_z_either (pos a) (pos b) = le_either a b
le_z_either (pos a) (negsuc b) = refl
le_z_either (negsuc a) (pos b) = refl
le_z_either (negsuc a) (negsuc b) = rw (eqb_swap a b) (le_either b a)

pub leq_z : (s t : Bool) (a b : ℕ) → (below s a t b || level s a t b) ≡ le_z (signed s a) (signed t b)
leq_z s t a b = rw (below_z s t a b, level_z s t a b) (le_z_either (signed s a) (signed t b))

pub eq_z_refl : (x : ℤ) → eq_z x x ≡ true
eq_z_refl (pos a) = eq-eqb a a refl
eq_z_refl (negsuc a) = eq-eqb a a refl

-- numbers that are equal are level
pub level_of : (s t : Bool) (a b : ℕ) → signed s a ≡ signed t b → level s a t b ≡ true
level_of s t a b e = rw (level_z s t a b, e) (eq_z_refl (signed t b))

-- a sign goes over to the other side
pub level_turn : (s t r : Bool) (a b : ℕ) → level (unlike s t) a r b ≡ level s a (unlike r t) b
level_turn true true true a b = refl
level_turn true true false a b = refl
level_turn true false true a b = refl
level_turn true false false a b = refl
level_turn false true true a b = refl
level_turn false true false a b = refl
level_turn false false true a b = refl
level_turn false false false a b = refl

-- ---- the sign changed, sum and product
pub turned : (s : Bool) (a : ℕ) → neg_ℤ (signed s a) ≡ signed (not s) a
turned false a = refl
turned true a = neg_ℤ-neg_ℤ (pos a)

pub plus : (s : Bool) (a b : ℕ) → signed s a +ℤ signed s b ≡ signed s (a + b)
plus false a b = refl
plus true a b = sym (neg_ℤ-+ℤ (pos a) (pos b))

less : {a b : ℕ} → b ≤ a → pos a -ℤ pos b ≡ pos (a - b)
less {a} {b} h = ap (λ (x : ℕ). pos x -ℤ pos b) (sym (back a b h)) ∙ +ℤ-neg_ℤ_cancel (pos (a - b)) (pos b)

pub minus : (s : Bool) {a b : ℕ} → b ≤ a → signed s a +ℤ signed (not s) b ≡ signed s (a - b)
minus false h = less h
minus true {a} {b} h = ap (λ (z : ℤ). neg_ℤ (pos a) +ℤ z) (sym (neg_ℤ-neg_ℤ (pos b))) ∙ sym (neg_ℤ-+ℤ (pos a) (neg_ℤ (pos b))) ∙ ap neg_ℤ (less h)

pub times : (s t : Bool) (a b : ℕ) → signed s a *ℤ signed t b ≡ signed (unlike s t) (a * b)
times false false a b = refl
times false true a zero = rw mul-zero
times false true a (suc b) = refl
times true false zero b = rw zero-mul
times true false (suc a) b = refl
times true true zero zero = refl
times true true zero (suc b) = rw zero-mul
times true true (suc a) zero = rw mul-zero
times true true (suc a) (suc b) = refl

pub times_pos : (s : Bool) (a b : ℕ) → signed s a *ℤ pos b ≡ signed s (a * b)
times_pos false a b = refl
times_pos true a b = times true false a b
