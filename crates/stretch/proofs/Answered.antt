-- The answers: what is not refused, the longest run then, and the part that it is.
use Prim.Native.Nat.{ℕ, ◌+◌, ◌-◌, ◌*◌, ◌/◌, ◌%◌, ◌≤◌}
use native.Mathlib.Omega.{arith}
use mathlib.Core.Path.{◌≡◌, refl, ap, ap₂}
use mathlib.Core.Bool.{true}
use mathlib.Core.List.{List}
use lib.Ieee.{Float}
use lib.ListN.{length, take, drop}
use borrow.Author.Tests.{eqb-true, leb-true}
use Rattle.std.specs.Prelude.{Result, Ok, Err}
use Rattle.std.specs.Result.{result_unwrap_or}
use Rattle.float.proofs.Choice.{and_parts}
use Rattle.answer.specs.Refusal.{done, ◌then◌}
use Rattle.answer.specs.declared.Refusal.{Refusal}
use Rattle.plane.specs.declared.rect.Rect.{Rect}
use Rattle.clip.specs.Refuse.{window_fine}
use Rattle.trace.proofs.Cuts.{length_samples}
use Rattle.trace.proofs.Exits.{admitted}
use Rattle.trace.specs.Trace.{samples_of}
use Rattle.trace.specs.Refuse.{trace_fine}
use Rattle.stretch.specs.Answers.{stretch_refusal, longest_stretch, stretch_of, no_stretch, stretch_or_none, part_of, place_of}
use Rattle.stretch.specs.Inner.{Admitted, IsLongest}
use Rattle.stretch.specs.declared.Part.{Part}
use Rattle.stretch.specs.declared.Stretch.{Stretch}
use Rattle.stretch.proofs.Runs.{longest_clean}

-- what comes after the refusals is taken where there is none
taken : (r : Result (Unit {0}) Refusal) (a s : Stretch) → (r then Ok a) ≡ Ok s → (r ≡ done) × (s ≡ a)
taken (Ok x) a s e = (refl, cc)
taken (Err x) a s e = cc

module _ (fs : List Float) (w : Rect) where
  pub fine_window : stretch_refusal (length fs) w ≡ done → window_fine w ≡ true
  fine_window d = (admitted (trace_fine (length fs)) (window_fine w) true d).1

  pub not_refused : stretch_refusal (length fs) w ≡ done → Admitted fs
  not_refused d =
      let (t, _, _) = admitted (trace_fine (length fs)) (window_fine w) true d in
      let (p, q) = and_parts _ _ t in
      let few : length fs / 2 ≤ 4096 = leb-true _ _ q in
      let even : length fs % 2 ≡ 0 = eqb-true _ _ p in
      record { even = even; few = omega arith }

  pub found : (p : Part) → IsLongest fs w p → stretch_refusal (length fs) w ≡ done → Ok (record { first = p.from / 2; count = p.length / 2 }) ≡ stretch_of fs w
  found p is d = rw d (ap₂ (λ (i n : ℕ). Ok (record { first = i; count = n })) (half is.from) (half is.length))
    where
      half : {m k : ℕ} → m ≡ 2 * k → m / 2 ≡ k
      half e = omega arith

  pub answered : (s : Stretch) → stretch_of fs w ≡ Ok s → (stretch_refusal (length fs) w ≡ done) × (s ≡ longest_stretch fs w)
  answered s e = taken (stretch_refusal (length fs) w) (longest_stretch fs w) s e

  none_within : 2 * (stretch_or_none fs w).first + 2 * (stretch_or_none fs w).count ≤ length fs
  none_within = go (stretch_refusal (length fs) w)
    where
      go : (r : Result (Unit {0}) Refusal) → let s = result_unwrap_or (r then Ok (longest_stretch fs w)) no_stretch in 2 * s.first + 2 * s.count ≤ length fs
      go (Ok x) = omega (arith, (longest_clean w (samples_of fs)).there, length_samples fs)
      go (Err e) = omega arith

-- of the answer a of `longest_clean_run`
pub within : (fs : List Float) (w : Rect) (a : Result Stretch Refusal) (s : Stretch) → a ≡ stretch_of fs w → s ≡ result_unwrap_or a no_stretch → 2 * s.first + 2 * s.count ≤ length fs
within fs w a s e f = rw (f, e) (omega (arith, none_within fs w))

-- the part from 2 * first on, and its address
pub handed_back : (fs : List Float) (s t : Stretch) (place : ℕ × ℕ) → s ≡ t
    → (take (2 * s.first + 2 * s.count - 2 * s.first) (drop (2 * s.first) fs) ≡ part_of fs t) × (place_of place s ≡ place_of place t)
handed_back fs s t place e =
    let d : 2 * s.first + 2 * s.count - 2 * s.first ≡ 2 * s.count = omega arith in
    (rw d (ap (part_of fs) e), ap (place_of place) e)
