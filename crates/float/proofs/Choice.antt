-- How a proof goes down a choice: `then_is` and `else_is` where the test is a fact in hand, and their like where it is the answer of a call or a test of numbers.
-- Each is a rule for `search`; the rule sets are named for what the branch of the code tested.
use mathlib.Core.Path.{◌≡◌, refl, sym, ◌∙◌}
use mathlib.Core.Bool.{Bool, true, false, false≢true}
use Prim.Native.Nat.{ℕ, ◌<◌, ◌≤◌}
use lib.Dec.{eqb, leb}
use borrow.Author.Tests.{eq-eqb, ne_eqb, le-leb, lt-leb}
use Rattle.float.specs.Choice.{when◌then◌else◌, ◌and◌}

module _ {A : Type 0} (b : Bool) (w x y : A) where
  pub then_is : b ≡ true → w ≡ x → w ≡ (when b then x else y)
  unfolding when◌then◌else◌
  then_is e h = rw e h

  pub else_is : b ≡ false → w ≡ y → w ≡ (when b then x else y)
  unfolding when◌then◌else◌
  else_is e h = rw e h

pub ruleset branches = (then_is, else_is)

-- ---- the test is what a call gave, t
module _ {A : Type 0} (t b : Bool) (w x y : A) (d : t ≡ b) where
  pub ask_yes : t ≡ true → w ≡ x → w ≡ (when b then x else y)
  ask_yes e h = then_is b w x y (sym d ∙ e) h

  pub ask_no : t ≡ false → w ≡ y → w ≡ (when b then x else y)
  ask_no e h = else_is b w x y (sym d ∙ e) h

pub ruleset asks = (ask_yes, ask_no)

-- ---- the test is one of numbers, which a branch knows as a fact of them
module _ {A : Type 0} (m n : ℕ) (w x y : A) where
  pub when_eq : m ≡ n → w ≡ x → w ≡ (when eqb m n then x else y)
  when_eq e h = then_is _ w x y (eq-eqb m n e) h

  pub when_ne : (m ≡ n → ⊥) → w ≡ y → w ≡ (when eqb m n then x else y)
  when_ne e h = else_is _ w x y (ne_eqb m n e) h

  pub when_le : m ≤ n → w ≡ x → w ≡ (when leb m n then x else y)
  when_le e h = then_is _ w x y (le-leb m n e) h

  pub when_gt : n < m → w ≡ y → w ≡ (when leb m n then x else y)
  when_gt e h = else_is _ w x y (lt-leb m n e) h

pub ruleset numbers = (when_eq, when_ne, when_le, when_gt)

-- ---- what a choice came to, taken apart
pub split : {A R : Type 0} (b : Bool) (x y w : A) → (when b then x else y) ≡ w → (b ≡ true → x ≡ w → R) → (b ≡ false → y ≡ w → R) → R
unfolding when◌then◌else◌
split true x y w e f g = f refl e
split false x y w e f g = g refl e

-- what holds of either choice, where it is the one taken, holds of the choice
pub cases : {A : Type 0} (P : A → Type 0) (b : Bool) (x y : A) → (b ≡ true → P x) → (b ≡ false → P y) → P (when b then x else y)
unfolding when◌then◌else◌
cases P true x y f g = f refl
cases P false x y f g = g refl

pub and_parts : (p q : Bool) → (p and q) ≡ true → (p ≡ true) × (q ≡ true)
and_parts p q e = split p q false true e (λ h k. (h, k)) (λ h k. absurd (false≢true k))

pub and_both : (p q : Bool) → p ≡ true → q ≡ true → (p and q) ≡ true
and_both p q e f = sym (then_is p true q false e (sym f))

-- two tests that hold together are one
pub same : (p q : Bool) → (p ≡ true → q ≡ true) → (q ≡ true → p ≡ true) → p ≡ q
same true q f g = sym (f refl)
same false true f g = g refl
same false false f g = refl
