-- Runs of stores: one after the other is one run, and two that lie apart may change places.
use Prim.Native.Nat.{ℕ, suc, ◌+◌, ◌≤◌, ◌<◌}
use native.Mathlib.Nat.{add-zero}
use native.Mathlib.Omega.{arith}
use mathlib.Core.Path.{◌≡◌, refl, ap, ◌∙◌}
use mathlib.Core.List.{List, [], ◌∷◌, ◌++◌}
use lib.ListN.{length, drop, set}
use lib.Seq.{sets, sets-eq, set_comm}

module _ {A : Type 0} where
  pub sets_join : (l : List A) (i : ℕ) (xs bs : List A) → sets (sets l i xs) (i + length xs) bs ≡ sets l i (xs ++ bs)
  sets_join l i [] bs = rw (add-zero i) refl
  sets_join l i (a ∷ xs) bs =
      let e : i + suc (length xs) ≡ suc i + length xs = omega arith in
      rw e (sets_join (set l i a) (suc i) xs bs)

  set_apart : (l : List A) (i j : ℕ) (a : A) (bs : List A) → i < j → set (sets l j bs) i a ≡ sets (set l i a) j bs
  set_apart l i j a [] h = refl
  set_apart l i j a (b ∷ bs) h =
      set_apart (set l j b) i (suc j) a bs (omega arith) ∙ ap (λ (k : List A). sets k (suc j) bs) (set_comm l j i b a (λ e. omega arith))

  pub sets_apart : (l : List A) (i j : ℕ) (xs bs : List A) → i + length xs ≤ j → sets (sets l j bs) i xs ≡ sets (sets l i xs) j bs
  sets_apart l i j [] bs h = refl
  sets_apart l i j (a ∷ xs) bs h =
      ap (λ (k : List A). sets k (suc i) xs) (set_apart l i j a bs (omega arith)) ∙ sets_apart (set l i a) (suc i) j xs bs (omega arith)

  -- a node written after its two halves is the three in order
  pub three_runs : (l : List A) (i j k : ℕ) (xs bs cs : List A) → j ≡ i + length xs → k ≡ j + length bs
      → sets (sets (sets l j bs) k cs) i xs ≡ sets l i (xs ++ (bs ++ cs))
  three_runs l i j k xs bs cs ej ek =
      sets_apart (sets l j bs) i k xs cs (omega (arith, ej, ek))
      ∙ ap (λ (x : List A). sets x k cs) (sets_apart l i j xs bs (omega (arith, ej)))
      ∙ rw (ek, ej) (sets_join (sets l i xs) (i + length xs) bs cs)
      ∙ sets_join l i xs (bs ++ cs)

  pub sets_front : (l vs : List A) → length vs ≤ length l → sets l 0 vs ≡ vs ++ drop (length vs) l
  sets_front l vs h = sets-eq vs l 0 (omega arith) ∙ rw (zero_plus (length vs)) refl
    where
      zero_plus : (n : ℕ) → 0 + n ≡ n
      zero_plus n = omega arith
