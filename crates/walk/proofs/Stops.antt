-- Where the walk stops: at the target, at a missed face, at the limit; else it goes on.
use Prim.Native.Nat.{ℕ, zero, suc, ◌-◌, ◌<◌}
use native.Mathlib.Omega.{arith}
use mathlib.Core.Path.{◌≡◌, refl, sym}
use mathlib.Core.Bool.{true, false}
use Rattle.float.proofs.Choice.{then_is, else_is, when_eq, when_ne}
use Rattle.std.specs.Prelude.{Result, Ok, Err}
use Rattle.answer.specs.Refusal.{◌then◌, done}
use Rattle.answer.specs.declared.Refusal.{Refusal}
use Rattle.answer.specs.declared.Refusal.TheVariants.{OffFace, Unfinished}
use Rattle.cube.specs.declared.vector.Vector.{Vector}
use Rattle.line.specs.Line.{onward}
use Rattle.walk.specs.Walk.{met, stop_refusal, count_of}

-- ---- an answer
pub answer_done : (r : Result (Unit {0}) Refusal) (c k : ℕ) → r ≡ done → c ≡ k → Ok c ≡ (r then Ok k)
answer_done r c k e h = rw (e, h)

pub answer_other : (r : Result (Unit {0}) Refusal) (e : Refusal) (k : ℕ) → r ≡ Err e → Err e ≡ (r then Ok k)
answer_other r e k h = rw h

-- ---- with k faces left
module _ (p : Vector) (f t : ℕ) where
  pub at_target : (k : ℕ) → 0 < k → f ≡ t → (stop_refusal k p f t ≡ done) × (count_of k p f t ≡ 1)
  unfolding stop_refusal count_of
  at_target zero h e = absurd (omega arith)
  at_target (suc k) h e = (sym (when_eq f t _ _ _ e refl), sym (when_eq f t _ _ _ e refl))

  pub at_miss : (k : ℕ) → 0 < k → (f ≡ t → ⊥) → met p f ≡ false → stop_refusal k p f t ≡ Err OffFace
  unfolding stop_refusal
  at_miss zero h n m = absurd (omega arith)
  at_miss (suc k) h n m = sym (when_ne f t _ _ _ n (else_is _ _ _ _ m refl))

  pub goes_on : (k g : ℕ) → 0 < k → (f ≡ t → ⊥) → met p f ≡ true → g ≡ onward p f t → (stop_refusal (k - 1) p g t ≡ stop_refusal k p f t) × (suc (count_of (k - 1) p g t) ≡ count_of k p f t)
  unfolding stop_refusal count_of
  goes_on zero g h n m e = absurd (omega arith)
  goes_on (suc k) g h n m e = let d : suc k - 1 ≡ k = omega arith in rw (d, e) (when_ne f t _ _ _ n (then_is _ _ _ _ m refl), when_ne f t _ _ _ n refl)

  -- at the last face that is allowed, it would go on to a face too many
  pub at_limit : (k : ℕ) → k ≡ 1 → (f ≡ t → ⊥) → met p f ≡ true → stop_refusal k p f t ≡ Err Unfinished
  unfolding stop_refusal
  at_limit k h n m = rw h (sym (when_ne f t _ _ _ n (then_is _ _ _ _ m refl)))
