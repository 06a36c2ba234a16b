-- How deep halves lie in halves.
use Prim.Native.Nat.{ℕ, zero, suc, ◌-◌, ◌/◌, ◌^◌, ◌≤◌}
use native.Mathlib.Omega.{arith}
use mathlib.Core.Logic.{inl, inr}
use Rattle.pages.specs.Halves.{Halves, halved, halved_to, halves_of}
use Rattle.pages.specs.Promises.{levels}
use Rattle.pages.proofs.Halving.{few_or_more, to_one, to_more}

deeper : (f s : Halves) (d : ℕ) → levels f ≤ d → levels s ≤ d → levels (halved f s) ≤ suc d
unfolding levels
deeper f s d h k = omega arith

-- 2 to the d edges lie on d + 1 levels
levels_to : (d e n : ℕ) → n ≤ 2 ^ d → levels (halved_to e n) ≤ suc d
levels_to zero e n h = rw (to_one e n h) (unfold levels in omega arith)
levels_to (suc d) zero n h = unfold levels halved_to in omega arith
levels_to (suc d) (suc e) n h =
    elim (few_or_more n) [
      | inl m ↦ rw (to_one (suc e) n m) (unfold levels in omega arith)
      | inr m ↦ rw (to_more e n m) (deeper _ _ (suc d) (levels_to d e (n - n / 2) (omega arith)) (levels_to d e (n / 2) (omega arith)))
    ]

pub few_levels : (n : ℕ) → n ≤ 4096 → levels (halves_of n) ≤ 13
unfolding halves_of
few_levels n h = levels_to 12 n n h
