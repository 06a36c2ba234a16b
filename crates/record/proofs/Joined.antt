-- Records one after the other, and then whatever follows them: how long they are, and record k.
use Prim.Native.Nat.{ℕ, zero, suc, ◌+◌, ◌*◌, ◌<◌}
use native.Mathlib.Omega.{arith}
use mathlib.Core.Path.{◌≡◌, refl, sym, ap, ◌∙◌}
use mathlib.Core.List.{List, [], ◌∷◌, ◌++◌, append_assoc}
use lib.ListN.{length, take, length-append}
use lib.Seq.{take_at, drop-append-add}
use Rattle.record.specs.Record.{joined, record_at}

-- records that are the same one by one
pub joined_same : {A : Type 0} (f g : A → List ℕ) → ((x : A) → f x ≡ g x) → (xs : List A) → joined f xs ≡ joined g xs
unfolding joined
joined_same f g e [] = refl
joined_same f g e (x ∷ xs) = rw (e x, joined_same f g e xs)

-- those of two lists
pub joined_append : {A : Type 0} (f : A → List ℕ) (xs ys : List A) → joined f (xs ++ ys) ≡ joined f xs ++ joined f ys
unfolding joined
joined_append f [] ys = refl
joined_append f (x ∷ xs) ys = ap (f x ++◌) (joined_append f xs ys) ∙ sym (append_assoc (f x) (joined f xs) (joined f ys))

module _ {A : Type 0} (f : A → List ℕ) (forty : (x : A) → length (f x) ≡ 40) where
  pub length_joined : (xs : List A) → length (joined f xs) ≡ length xs * 40
  unfolding joined
  length_joined [] = refl
  length_joined (x ∷ xs) = omega (arith, length-append (f x) (joined f xs), forty x, length_joined xs)

  module _ (rest : List ℕ) where
    pub first_record : (x : A) (xs : List A) → record_at 0 (joined f (x ∷ xs) ++ rest) ≡ f x
    unfolding joined
    first_record x xs = rw (append_assoc (f x) (joined f xs) rest) (take_at (f x) (joined f xs ++ rest) 40 (forty x))

    pub next_record : (k : ℕ) (x : A) (xs : List A) → record_at (suc k) (joined f (x ∷ xs) ++ rest) ≡ record_at k (joined f xs ++ rest)
    unfolding joined
    next_record k x xs =
        let e : suc k * 40 ≡ length (f x) + k * 40 = omega (arith, forty x) in
        let tail = joined f xs ++ rest in
        rw (append_assoc (f x) (joined f xs) rest, e) (ap (take 40) (drop-append-add (f x) tail (k * 40)))

-- what holds of an item's record by one rule and by another, holds of record k by the one and by the other
module _ {A : Type 0} (f g : A → List ℕ) (fs : (x : A) → length (f x) ≡ 40) (gs : (x : A) → length (g x) ≡ 40) (p q : List ℕ) (P : List ℕ → List ℕ → Type 0) (each : (x : A) → P (f x) (g x)) where
  pub at_record : (xs : List A) (k : ℕ) → k < length xs → P (record_at k (joined f xs ++ p)) (record_at k (joined g xs ++ q))
  at_record [] k h = absurd (omega arith)
  at_record (x ∷ xs) zero h = rw (first_record f fs p x xs, first_record g gs q x xs) (each x)
  at_record (x ∷ xs) (suc k) h = rw (next_record f fs p k x xs, next_record g gs q k x xs) (at_record xs k (omega arith))
