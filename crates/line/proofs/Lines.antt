-- The line tests on whole numbers of at most `prec f` binary digits, each difference and sum rounded: what each test comes to is exact.
use mathlib.Core.Path.{◌≡◌, ◌∙◌}
use mathlib.Core.Logic.{inl, inr}
use mathlib.Core.Bool.{Bool, ◌&&◌}
use Prim.Native.Nat.{ℕ, ◌+◌, ◌-◌, ◌*◌, ◌≤◌}
use native.Mathlib.Nat.{add_comm, le_of_lt, sub-le}
use native.Mathlib.Omega.{arith}
use lib.Dec.{leb, eqb}
use borrow.Author.Tests.{leb-true, le-leb, eqb-true, eqb-false}
use lib.Ieee.{Format}
use Rattle.float.specs.Choice.{when◌then◌else◌}
use Rattle.float.proofs.Choice.{cases, same}
use Rattle.float.proofs.Whole.{Rep, rnd, rnd_fix, rnd_mono, rnd_twice, rnd_le, rnd_ge, sterbenz, le_or_lt}

-- ---- the face: w ≤ u + v

-- where u ≤ v: w - v is exact if it is no more than v, and else its double is no less than w
face_half : {f : Format} {u v w : ℕ} → Rep f v → Rep f w → u ≤ v → rnd f (w - v) ≤ u → w ≤ u + v
face_half {f} {u} {v} {w} q r o h =
    elim (le_or_lt w (v * 2)) [
      | inl a ↦ omega (arith, rnd_fix (sterbenz r q a))
      | inr a ↦
          let b : w ≤ rnd f ((w - v) * 2) = rnd_ge r (omega arith) in
          omega (arith, rnd_twice f (w - v))
    ]

pub face_only : {f : Format} {u v w : ℕ} → Rep f u → Rep f v → Rep f w → rnd f (w - u) ≤ v → rnd f (w - v) ≤ u → w ≤ u + v
face_only {u = u} {v = v} p q r g h = elim (le_or_lt u v) [ inl o ↦ face_half q r o h | inr o ↦ omega (arith, face_half p r (le_of_lt o) g) ]

-- ---- opposite edges, where v ≤ u: w ≤ u - v

edges_only : {f : Format} {u v w : ℕ} → Rep f u → Rep f v → Rep f w → v ≤ u → rnd f (u - v) ≡ w → v ≤ rnd f (u - w) → w ≤ u - v
edges_only {f} {u} {v} {w} p q r o e h =
    elim (le_or_lt u (v * 2)) [
      | inl a ↦ omega (arith, rnd_fix (sterbenz p q a))
      | inr a ↦
          let b : u ≤ rnd f ((u - v) * 2) = rnd_ge p (omega arith) in
          let c = rnd_twice f (u - v) in
          let d : rnd f (u - v) ≤ u = rnd_le p (sub-le u v) in
          omega (arith, rnd_fix (sterbenz p r (omega arith)))
    ]

-- where the rounded difference is not w, it lies on the same side of w as the exact one
edges_apart : {f : Format} (n : ℕ) {w : ℕ} → Rep f w → (rnd f n ≡ w → ⊥) → leb w (rnd f n) ≡ leb w n
edges_apart {f} n {w} r d =
    same (leb w (rnd f n)) (leb w n)
    (λ t. le-leb w n (elim (le_or_lt w n) [ inl k ↦ k | inr k ↦ absurd (d (omega (arith, rnd_le r (le_of_lt k), leb-true w (rnd f n) t))) ]))
    (λ t. le-leb w (rnd f n) (rnd_ge r (leb-true w n t)))

pub edges_is : {f : Format} {u v w : ℕ} → Rep f u → Rep f v → Rep f w → v ≤ u
    → (when eqb (rnd f (u - v)) w then leb w u && leb v (rnd f (u - w)) else leb w (rnd f (u - v))) ≡ leb w (u - v)
edges_is {f} {u} {v} {w} p q r o =
    let n = rnd f (u - v) in
    let m = rnd f (u - w) in
    cases (λ (t : Bool). t ≡ leb w (u - v)) (eqb n w) (leb w u && leb v m) (leb w n)
    (λ e.
    let k = eqb-true n w e in
    let l : n ≤ u = rnd_le p (sub-le u v) in
    rw (le-leb w u (omega arith)) (same (leb v m) (leb w (u - v)) (λ t. le-leb w (u - v) (edges_only p q r o k (leb-true v m t))) (λ t. le-leb v m (rnd_ge q (omega (arith, leb-true w (u - v) t))))))
    (λ e. edges_apart (u - v) r (eqb-false n w e))

-- ---- the sum: u + v = w

-- where u ≤ v, w lies from v to its double, and w - v is exact
sum_half : {f : Format} {u v w : ℕ} → Rep f v → Rep f w → u ≤ v → rnd f (u + v) ≡ w → rnd f (w - v) ≡ u → u + v ≡ w
sum_half {f} {u} {v} {w} q r o g h =
    let a : rnd f (u + v) ≤ rnd f (v * 2) = rnd_mono f (omega arith) in
    let b = rnd_twice f v in
    let c = rnd_fix q in
    let d : v ≤ rnd f (u + v) = rnd_ge q (omega arith) in
    omega (arith, rnd_fix (sterbenz r q (omega arith)))

pub sum_only : {f : Format} {u v w : ℕ} → Rep f u → Rep f v → Rep f w → rnd f (u + v) ≡ w → rnd f (w - v) ≡ u → rnd f (w - u) ≡ v → u + v ≡ w
sum_only {u = u} {v = v} p q r g h k = elim (le_or_lt u v) [ inl o ↦ sum_half q r o g h | inr o ↦ add_comm u v ∙ sum_half p r (le_of_lt o) (rw (add_comm v u) g) k ]
