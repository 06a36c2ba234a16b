-- More than one edge is two halves, however often it was said that they may be halved; and no edge is lost.
use Prim.Native.Nat.{ℕ, zero, suc, ◌-◌, ◌/◌, ◌≤◌}
use native.Mathlib.Omega.{arith}
use mathlib.Core.Path.{◌≡◌, refl, sym, ◌∙◌}
use mathlib.Core.Logic.{◌⊎◌, inl, inr}
use mathlib.Core.Bool.{Bool, true, false}
use lib.Dec.{leb}
use borrow.Author.Tests.{leb-true, leb-false, le-leb, lt-leb}
use Rattle.float.specs.Choice.{when◌then◌else◌}
use Rattle.pages.specs.Halves.{Halves, single, halved, edges_in, halved_to, halves_of}

-- one edge, and more
pub to_one : (d n : ℕ) → n ≤ 1 → halved_to d n ≡ single
unfolding halved_to when◌then◌else◌
to_one zero n h = refl
to_one (suc d) n h = rw (le-leb n 1 h)

pub to_more : (d n : ℕ) → 2 ≤ n → halved_to (suc d) n ≡ halved (halved_to d (n - n / 2)) (halved_to d (n / 2))
unfolding halved_to when◌then◌else◌
to_more d n h = let l : leb n 1 ≡ false = lt-leb n 1 (omega arith) in rw l

pub few_or_more : (n : ℕ) → (n ≤ 1) ⊎ (2 ≤ n)
few_or_more n = go (leb n 1) refl
  where
    go : (b : Bool) → leb n 1 ≡ b → (n ≤ 1) ⊎ (2 ≤ n)
    go true l = inl (leb-true n 1 l)
    go false l = inr (leb-false n 1 l)

-- as often as there are edges is often enough
enough : (d e n : ℕ) → n ≤ d → n ≤ e → halved_to d n ≡ halved_to e n
enough zero e n h k = to_one zero n (omega arith) ∙ sym (to_one e n (omega arith))
enough (suc d) zero n h k = to_one (suc d) n (omega arith) ∙ sym (to_one zero n (omega arith))
enough (suc d) (suc e) n h k =
    elim (few_or_more n) [
      | inl m ↦ to_one (suc d) n m ∙ sym (to_one (suc e) n m)
      | inr m ↦
          let f = enough d e (n - n / 2) (omega arith) (omega arith) in
          let s = enough d e (n / 2) (omega arith) (omega arith) in
          to_more d n m ∙ rw (f, s) (sym (to_more e n m))
    ]

pub one_edge : (n : ℕ) → n ≡ 1 → halves_of n ≡ single
unfolding halves_of
one_edge n e = to_one n n (omega arith)

pub two_halves : (n : ℕ) → 2 ≤ n → halves_of n ≡ halved (halves_of (n - n / 2)) (halves_of (n / 2))
unfolding halves_of
two_halves zero h = absurd (omega arith)
two_halves (suc d) h =
    let n = suc d in
    let f = enough d (n - n / 2) (n - n / 2) (omega arith) (omega arith) in
    let s = enough d (n / 2) (n / 2) (omega arith) (omega arith) in
    to_more d n h ∙ rw (f, s) refl

edges_to : (d n : ℕ) → 1 ≤ n → n ≤ suc d → edges_in (halved_to d n) ≡ n
unfolding edges_in
edges_to zero n h k = rw (to_one zero n (omega arith)) (omega arith)
edges_to (suc d) n h k =
    elim (few_or_more n) [
      | inl m ↦ rw (to_one (suc d) n m) (omega arith)
      | inr m ↦
          let f = edges_to d (n - n / 2) (omega arith) (omega arith) in
          let s = edges_to d (n / 2) (omega arith) (omega arith) in
          rw (to_more d n m) (omega (arith, f, s))
    ]

-- no edge is lost
pub edges_are : (n : ℕ) → 1 ≤ n → edges_in (halves_of n) ≡ n
unfolding halves_of
edges_are n h = edges_to n n h (omega arith)

pub some_edge : (h : Halves) → 1 ≤ edges_in h
unfolding edges_in
some_edge single = omega arith
some_edge (halved f s) = omega (arith, some_edge f, some_edge s)
