-- What belongs to each of six faces: a fact at each is a fact at all, and a test that is computed at each holds at all.
use mathlib.Core.Path.{◌≡◌, refl, ap}
use mathlib.Core.Logic.{inl, inr}
use mathlib.Core.Bool.{Bool, true, false, ◌&&◌, beq, false≢true}
use Prim.Native.Nat.{ℕ, zero, suc, ◌-◌, ◌≤◌, ◌<◌}
use native.Mathlib.Nat.{eq-or-lt_of_le}
use native.Mathlib.Omega.{arith}
use Rattle.cube.specs.Faces.{by_face}

-- no face
pub beyond_is : {A : Type 0} (f : ℕ) (a b c d e g none : A) → 5 < f → none ≡ by_face f a b c d e g none
unfolding by_face
beyond_is f a b c d e g none h =
    let k : suc (suc (suc (suc (suc (suc (f - 6)))))) ≡ f = omega arith in
    ap (λ (k : ℕ). by_face k a b c d e g none) k

-- ---- a fact at each face, or at each axis
pub six : (P : ℕ → Type 0) → P 0 → P 1 → P 2 → P 3 → P 4 → P 5 → (f : ℕ) → f ≤ 5 → P f
six P a b c d e g zero h = a
six P a b c d e g (suc zero) h = b
six P a b c d e g (suc (suc zero)) h = c
six P a b c d e g (suc (suc (suc zero))) h = d
six P a b c d e g (suc (suc (suc (suc zero)))) h = e
six P a b c d e g (suc (suc (suc (suc (suc zero))))) h = g
six P a b c d e g (suc (suc (suc (suc (suc (suc n)))))) h = absurd (omega arith)

pub three : (P : ℕ → Type 0) → P 0 → P 1 → P 2 → (i : ℕ) → i ≤ 2 → P i
three P a b c zero h = a
three P a b c (suc zero) h = b
three P a b c (suc (suc zero)) h = c
three P a b c (suc (suc (suc n))) h = absurd (omega arith)

-- ---- a test that holds at each number up to n: it is computed
abbrev pub up_to : ℕ → (ℕ → Bool) → Bool
up_to zero t = t 0
up_to (suc n) t = t (suc n) && up_to n t

pub both : (p q : Bool) → (p && q) ≡ true → (p ≡ true) × (q ≡ true)
both true q e = (refl, e)
both false q e = absurd (false≢true e)

pub beq_is : (p q : Bool) → beq p q ≡ true → p ≡ q
beq_is true true e = refl
beq_is true false e = absurd (false≢true e)
beq_is false true e = absurd (false≢true e)
beq_is false false e = refl

pub at : (n : ℕ) (t : ℕ → Bool) → up_to n t ≡ true → (k : ℕ) → k ≤ n → t k ≡ true
at zero t e zero h = e
at zero t e (suc k) h = absurd (omega arith)
at (suc n) t e k h =
    let (last, rest) = both (t (suc n)) (up_to n t) e in
    elim (eq-or-lt_of_le h) [ inl p ↦ rw p last | inr l ↦ at n t rest k (omega arith) ]
