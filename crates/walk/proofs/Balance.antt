-- Three sizes with signs, not all zero: ±X ± Y = ±Z exactly when one of the three is the sum of the other two and its sign is the one that allows it.
use mathlib.Core.Path.{◌≡◌, sym, ap, ◌∙◌}
use mathlib.Core.Logic.{inl, inr}
use mathlib.Core.Bool.{Bool, true, false, not, ◌&&◌, true≢false, false≢true}
use Prim.Native.Nat.{ℕ, ◌+◌, ◌-◌, ◌≤◌, ◌<◌}
use native.Mathlib.Omega.{arith}
use lib.Dec.{leb}
use borrow.Author.Tests.{le-leb, leb-true}
use lib.IntN.{◌+ℤ◌, +ℤ_comm}
use Rattle.float.specs.Exact.{signed}
use Rattle.float.proofs.Whole.{le_or_lt}
use Rattle.float.proofs.Signed.{plus, minus}
use Rattle.float.proofs.Sizes.{same_size, same_sign}
use Rattle.cube.proofs.Six.{both}
use Rattle.walk.proofs.Kind.{Part, balance}

not_self : (r : Bool) → r ≡ not r → ⊥
not_self true e = true≢false e
not_self false e = false≢true e

-- ---- of one sign, or of two
like_to : (r : Bool) (X Y Z : ℕ) → signed r X +ℤ signed r Y ≡ signed r Z → X + Y ≡ Z
like_to r X Y Z e = same_size r r (sym (plus r X Y) ∙ e)

like_of : (r : Bool) (X Y Z : ℕ) → X + Y ≡ Z → signed r X +ℤ signed r Y ≡ signed r Z
like_of r X Y Z e = plus r X Y ∙ ap (signed r) e

like_no : (r : Bool) (X Y Z : ℕ) → signed r X +ℤ signed r Y ≡ signed (not r) Z → X + Y + Z ≡ 0
like_no r X Y Z e =
    let d = sym (plus r X Y) ∙ e in
    let s : X + Y ≡ Z = same_size r (not r) d in
    elim (le_or_lt Z 0) [ inl l ↦ omega arith | inr l ↦ absurd (not_self r (same_sign r (not r) (X + Y) l d)) ]

unlike_to : (r : Bool) (X Y Z : ℕ) → signed r X +ℤ signed (not r) Y ≡ signed r Z → X ≡ Y + Z
unlike_to r X Y Z e = elim (le_or_lt Y X) [ inl l ↦ (let d : X - Y ≡ Z = same_size r r (sym (minus r l) ∙ e) in omega arith) | inr l ↦ absurd (less r l e) ]
  where
    less : (r : Bool) → X < Y → signed r X +ℤ signed (not r) Y ≡ signed r Z → ⊥
    less true l e =
        let k : X ≤ Y = omega arith in
        let d = sym (minus false k) ∙ +ℤ_comm (signed false Y) (signed true X) ∙ e in
        let s : Y - X ≡ Z = same_size false true d in
        let q : 0 < Z = omega arith in
        false≢true (same_sign false true (Y - X) q d)
    less false l e =
        let k : X ≤ Y = omega arith in
        let d = sym (minus true k) ∙ +ℤ_comm (signed true Y) (signed false X) ∙ e in
        let s : Y - X ≡ Z = same_size true false d in
        let q : 0 < Z = omega arith in
        true≢false (same_sign true false (Y - X) q d)

unlike_of : (r : Bool) (X Y Z : ℕ) → X ≡ Y + Z → signed r X +ℤ signed (not r) Y ≡ signed r Z
unlike_of r X Y Z e =
    let l : Y ≤ X = omega arith in
    let d : X - Y ≡ Z = omega arith in
    minus r l ∙ ap (signed r) d

-- ---- a part of which the size is known
abbrev sized : ℕ → Bool → ℕ → Part
sized t s n = record { s = s; g = leb t (n + n); l = leb (n + n) t }

half_to : (t n : ℕ) → t ≡ n + n → (leb t (n + n) && leb (n + n) t) ≡ true
half_to t n e =
    let a : leb t (n + n) ≡ true = le-leb t (n + n) (omega arith) in
    let b : leb (n + n) t ≡ true = le-leb (n + n) t (omega arith) in
    rw (a, b)

half_of : (t n : ℕ) → (leb t (n + n) && leb (n + n) t) ≡ true → t ≡ n + n
half_of t n h = let (a, b) = both (leb t (n + n)) (leb (n + n) t) h in omega (arith, leb-true t (n + n) a, leb-true (n + n) t b)

module _ (X Y Z n : ℕ) (x y z : Bool) (e : n ≡ X + Y + Z) (some : 0 < n) where
  abbrev Sum : Bool → Bool → Bool → Type 0
  Sum r s o = signed r X +ℤ signed s Y ≡ signed o Z

  abbrev test : Bool → Bool → Bool → Bool
  test r s o = balance r (sized n x X) s (sized n y Y) o (sized n z Z)

  turn : (r s o : Bool) → Sum r s o → signed s Y +ℤ signed r X ≡ signed o Z
  turn r s o h = +ℤ_comm (signed s Y) (signed r X) ∙ h

  pub to_test : (r s o : Bool) → Sum r s o → test r s o ≡ true
  to_test false false false h = half_to n Z (omega (arith, like_to false X Y Z h))
  to_test false false true h = absurd (omega (arith, like_no false X Y Z h))
  to_test false true false h = half_to n X (omega (arith, unlike_to false X Y Z h))
  to_test false true true h = half_to n Y (omega (arith, unlike_to true Y X Z (turn false true true h)))
  to_test true false false h = half_to n Y (omega (arith, unlike_to false Y X Z (turn true false false h)))
  to_test true false true h = half_to n X (omega (arith, unlike_to true X Y Z h))
  to_test true true false h = absurd (omega (arith, like_no true X Y Z h))
  to_test true true true h = half_to n Z (omega (arith, like_to true X Y Z h))

  back : (r s o : Bool) → signed s Y +ℤ signed r X ≡ signed o Z → Sum r s o
  back r s o h = +ℤ_comm (signed r X) (signed s Y) ∙ h

  pub of_test : (r s o : Bool) → test r s o ≡ true → Sum r s o
  of_test false false false h = like_of false X Y Z (omega (arith, half_of n Z h))
  of_test false false true h = absurd (false≢true h)
  of_test false true false h = unlike_of false X Y Z (omega (arith, half_of n X h))
  of_test false true true h = back false true true (unlike_of true Y X Z (omega (arith, half_of n Y h)))
  of_test true false false h = back true false false (unlike_of false Y X Z (omega (arith, half_of n Y h)))
  of_test true false true h = unlike_of true X Y Z (omega (arith, half_of n X h))
  of_test true true false h = absurd (false≢true h)
  of_test true true true h = like_of true X Y Z (omega (arith, half_of n Z h))
