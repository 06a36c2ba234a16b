-- The least number of which something holds, and the greatest.
use Prim.Native.Nat.{ℕ, zero, suc, ◌+◌, ◌≤◌, ◌<◌}
use native.Mathlib.Omega.{arith}
use mathlib.Core.Path.{◌≡◌, sym, ap, ◌∙◌}
use mathlib.Core.Bool.{Bool, true, false, false≢true}
use Rattle.float.proofs.Choice.{cases}
use Rattle.stretch.specs.Longest.{least, greatest}

module _ (is : ℕ → Bool) where
  differ : {k j : ℕ} → is k ≡ false → is j ≡ true → k ≡ j → ⊥
  differ f e h = false≢true (sym f ∙ ap is h ∙ e)

  pub least_to : (k m : ℕ) → least is k m ≤ k + m
  unfolding least
  least_to k zero = omega arith
  least_to k (suc m) = cases (λ (n : ℕ). n ≤ k + suc m) _ _ _ (λ e. omega arith) (λ e. omega (arith, least_to (k + 1) m))

  -- where it holds of j, it holds of the least, which is no greater
  pub least_is : (k m j : ℕ) → k ≤ j → j < k + m → is j ≡ true → (is (least is k m) ≡ true) × (least is k m ≤ j)
  unfolding least
  least_is k zero j l h e = absurd (omega arith)
  least_is k (suc m) j l h e =
      cases (λ (n : ℕ). (is n ≡ true) × (n ≤ j)) _ _ _ (λ t. (t, l))
      (λ f. let d = differ f e in least_is (k + 1) m j (omega arith) (omega arith) e)

  pub greatest_is : (m : ℕ) → is 0 ≡ true → is (greatest is m) ≡ true
  unfolding greatest
  greatest_is zero e = e
  greatest_is (suc m) e = cases (λ (n : ℕ). is n ≡ true) _ _ _ (λ t. t) (λ f. greatest_is m e)

  pub greatest_most : (m n : ℕ) → n ≤ m → is n ≡ true → n ≤ greatest is m
  unfolding greatest
  greatest_most zero n h e = omega arith
  greatest_most (suc m) n h e =
      cases (λ (g : ℕ). n ≤ g) _ _ _ (λ t. h) (λ f. let d = differ f e in greatest_most m n (omega arith) e)
