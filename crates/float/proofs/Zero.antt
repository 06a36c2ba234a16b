-- A finite value against zero: it equals zero where it has no units, and else its sign decides.
use mathlib.Core.Path.{◌≡◌, refl, ◌∙◌}
use mathlib.Core.Bool.{Bool, true, false, not, and-true, and_self}
use Prim.Native.Nat.{ℕ, ◌+◌, ◌^◌, ◌<◌}
use native.Mathlib.Nat.{zero-mul}
use native.Mathlib.Omega.{arith}
use lib.Dec.{eqb}
use borrow.Author.Tests.{lt-ltb, le-ltb}
use lib.IntN.{pos}
use lib.Ieee.{Float, fin, Format, low, below, level, lt, eq}
use Rattle.float.proofs.Values.{Is, of, lt_is, eq_is}

-- +0
abbrev pub nought : Float
nought = fin false 0 (pos 0)

pub nought_is : (f : Format) → Is f nought false 0
nought_is f = of (zero-mul (2 ^ low f))

module _ {f : Format} {x : Float} {s : Bool} {n : ℕ} (p : Is f x s n) where
  pub eq_nought : eq x nought ≡ eqb n 0
  eq_nought = eq_is p (nought_is f) ∙ level_nought s
    where
      level_nought : (s : Bool) → level s n false 0 ≡ eqb n 0
      level_nought true = and_self (eqb n 0)
      level_nought false = and-true (eqb n 0)

  pub lt_nought : 0 < n → lt x nought ≡ s
  lt_nought h = lt_is p (nought_is f) ∙ below_nought s
    where
      below_nought : (s : Bool) → below s n false 0 ≡ s
      below_nought true = lt-ltb 0 (n + 0) (omega arith)
      below_nought false = le-ltb n 0 (omega arith)

  pub nought_lt : 0 < n → lt nought x ≡ not s
  nought_lt h = lt_is (nought_is f) p ∙ above_nought s
    where
      above_nought : (s : Bool) → below false 0 s n ≡ not s
      above_nought true = refl
      above_nought false = lt-ltb 0 n h
