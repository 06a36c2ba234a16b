-- Over the samples from a place on, up to one that is clean, or is not, as wanted.
use Prim.Native.Nat.{ℕ, ◌+◌, ◌*◌, ◌/◌, ◌≤◌, ◌<◌}
use native.Mathlib.Omega.{arith}
use mathlib.Core.Path.{◌≡◌, refl, sym, ap, subst, ◌∙◌}
use mathlib.Core.Logic.{inl, inr}
use mathlib.Core.Bool.{Bool, true, false, not, beq, true≢false, false≢true}
use mathlib.Core.List.{List}
use lib.Ieee.{Float}
use lib.ListN.{length, get_or}
use Rattle.float.proofs.Whole.{le_or_lt}
use Rattle.plane.specs.Point.{at}
use Rattle.plane.specs.declared.rect.Rect.{Rect}
use Rattle.trace.specs.Trace.{samples_of}
use Rattle.trace.specs.Promises.{sample_at}
use Rattle.trace.proofs.Samples.{sample_is}
use Rattle.stretch.specs.Longest.{clean}
use Rattle.stretch.specs.Inner.{From, Skipped, Until}

alike : (p q : Bool) → beq p q ≡ true → p ≡ q
alike true true e = refl
alike true false e = absurd (false≢true e)
alike false true e = absurd (false≢true e)
alike false false e = refl

unlike : (p q : Bool) → beq p q ≡ false → p ≡ not q
unlike true true e = absurd (true≢false e)
unlike true false e = refl
unlike false true e = refl
unlike false false e = absurd (true≢false e)

pub begins : {wanted : Bool} {fs : List Float} {w : Rect} {from : ℕ} → From fs from → Skipped wanted fs w from from
begins f =
    record { begun = f; even = f.even; further = omega arith; within = λ h. h; few = f.few; passed = λ j l h. absurd (omega arith) }

module _ {wanted : Bool} {fs : List Float} {w : Rect} {from k : ℕ} (v : Skipped wanted fs w from k) where
  -- the sample at k, by its two floats
  here : k < length fs → (t : Bool) (d : Float) → t ≡ clean w (at (get_or fs k d) (get_or fs (k + 1) d)) → clean w (sample_at (k / 2) (samples_of fs)) ≡ t
  here h t d e =
      let two : 2 * (k / 2) ≡ k = omega (arith, v.even) in
      sym (e ∙ ap (clean w) (subst (λ (m : ℕ). at (get_or fs m d) (get_or fs (m + 1) d) ≡ sample_at (k / 2) (samples_of fs)) two
      (sample_is fs (k / 2) d (omega (arith, v.even, v.begun.trace.even)))))

  pub finds : k < length fs → (t : Bool) (d : Float) → t ≡ clean w (at (get_or fs k d) (get_or fs (k + 1) d)) → beq t wanted ≡ true → Until wanted fs w from k
  finds h t d e is = record { skipped = v; found = λ l. here h t d e ∙ alike t wanted is }

  pub ends : length fs ≤ k → Until wanted fs w from k
  ends h = record { skipped = v; found = λ l. absurd (omega arith) }

  pub goes_on : k < length fs → (t : Bool) (d : Float) → t ≡ clean w (at (get_or fs k d) (get_or fs (k + 1) d)) → beq t wanted ≡ false → Skipped wanted fs w from (k + 2)
  goes_on h t d e is =
      record {
        begun = v.begun;
        even = omega (arith, v.even);
        further = omega (arith, v.further);
        within = λ l. omega (arith, v.even, v.begun.trace.even);
        few = omega (arith, v.few);
        passed = λ j l g.
            elim (le_or_lt k (2 * j)) [
              | inl m ↦ let two : k / 2 ≡ j = omega (arith, v.even) in subst (λ (i : ℕ). clean w (sample_at i (samples_of fs)) ≡ not wanted) two (here h t d e ∙ unlike t wanted is)
              | inr m ↦ v.passed j l m
            ];
      }

pub ruleset steps = (begins, ends)
