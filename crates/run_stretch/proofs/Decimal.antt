-- A number in decimal: its last digit after those of a tenth of it, and no more than twenty.
use Prim.Native.Nat.{ℕ, zero, suc, ◌+◌, ◌*◌, ◌/◌, ◌%◌, ◌^◌, ◌≤◌, ◌<◌}
use native.Mathlib.Omega.{arith}
use mathlib.Core.Path.{◌≡◌, refl, sym, ap, ◌∙◌}
use mathlib.Core.Logic.{inl, inr}
use mathlib.Core.List.{[], ◌∷◌, ◌++◌}
use lib.ListN.{length, length-append}
use lib.Pow.{pow-add}
use Rattle.float.proofs.Choice.{when_le, when_gt}
use Rattle.float.proofs.Whole.{le_or_lt}
use Rattle.run_stretch.specs.Line.{digits_in, decimal}

-- ---- one step
module _ (k n : ℕ) where
  pub in_one : n ≤ 9 → (48 + n) ∷ [] ≡ digits_in (suc k) n
  unfolding digits_in
  in_one h = when_le n 9 _ _ _ h refl

  pub in_more : 9 < n → digits_in k (n / 10) ++ ((48 + n % 10) ∷ []) ≡ digits_in (suc k) n
  unfolding digits_in
  in_more h = when_gt n 9 _ _ _ h refl

-- any steps that are enough give the same
enough : (j k n : ℕ) → n < j → n < k → digits_in j n ≡ digits_in k n
enough zero k n h l = absurd (omega arith)
enough (suc j) zero n h l = absurd (omega arith)
enough (suc j) (suc k) n h l =
    elim (le_or_lt n 9) [
      | inl t ↦ sym (in_one j n t) ∙ in_one k n t
      | inr t ↦ sym (in_more j n t) ∙ ap (◌++ ((48 + n % 10) ∷ [])) (enough j k (n / 10) (omega arith) (omega arith)) ∙ in_more k n t
    ]

-- ---- a number
module _ (n : ℕ) where
  pub one_digit : n ≤ 9 → (48 + n) ∷ [] ≡ decimal n
  unfolding decimal
  one_digit h = in_one n n h

  pub more_digits : 9 < n → decimal (n / 10) ++ ((48 + n % 10) ∷ []) ≡ decimal n
  unfolding decimal
  more_digits h = ap (◌++ ((48 + n % 10) ∷ [])) (enough (suc (n / 10)) n (n / 10) (omega arith) (omega arith)) ∙ in_more n n h

  pub one_long : n ≤ 9 → length (decimal n) ≡ 1
  one_long h = ap length (sym (one_digit h))

  pub more_long : 9 < n → length (decimal n) ≡ length (decimal (n / 10)) + 1
  more_long h = ap length (sym (more_digits h)) ∙ length-append (decimal (n / 10)) ((48 + n % 10) ∷ [])

-- ---- how many digits there are
few : (k m n : ℕ) → n < 10 ^ (m + 1) → length (digits_in k n) ≤ m + 1
unfolding digits_in
few zero m n h = omega arith
few (suc k) zero n h =
    let one : (48 + n) ∷ [] ≡ digits_in (suc k) n = in_one k n (omega arith) in
    omega (arith, ap length one)
few (suc k) (suc m) n h =
    let p : 10 ^ (suc m + 1) ≡ 10 ^ (m + 1) * 10 = ap (10 ^◌) (omega arith) ∙ pow-add 10 (m + 1) 1 in
    let rest = few k m (n / 10) (omega arith) in
    elim (le_or_lt n 9) [
      | inl t ↦ omega (arith, ap length (in_one k n t))
      | inr t ↦ omega (arith, ap length (in_more k n t), length-append (digits_in k (n / 10)) ((48 + n % 10) ∷ []))
    ]

pub twenty : (n : ℕ) → n < 2 ^ 64 → length (decimal n) ≤ 20
unfolding decimal
twenty n h = few (suc n) 19 n (omega arith)
