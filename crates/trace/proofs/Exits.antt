-- What each way out of the entry leaves: the answer, and the lent bytes.
use Prim.Native.Nat.{ℕ, ◌-◌, ◌/◌, ◌≤◌}
use native.Mathlib.Omega.{arith}
use mathlib.Core.Path.{◌≡◌, refl, sym, ap, ◌∙◌}
use mathlib.Core.Bool.{Bool, true, false}
use mathlib.Core.List.{List}
use lib.Ieee.{Float}
use lib.ListN.{length}
use borrow.Author.Tests.{leb-true}
use Rattle.std.specs.Prelude.{Result, Ok, Err}
use Rattle.float.proofs.Choice.{and_parts}
use Rattle.answer.specs.Refusal.{number, done}
use Rattle.answer.specs.declared.Refusal.{Refusal}
use Rattle.buffer.specs.Bytes.{stored}
use Rattle.buffer.proofs.Stored.{stored_front}
use Rattle.plane.specs.declared.rect.Rect.{Rect}
use Rattle.clip.specs.Refuse.{window_fine}
use Rattle.trace.specs.Trace.{samples_of, trace_cuts}
use Rattle.trace.specs.Records.{records_of}
use Rattle.trace.specs.Inner.{Admitted}
use Rattle.trace.specs.Refuse.{trace_fine, room_for, in_order, trace_refusal}
use Rattle.trace.specs.Answers.{counts_of, answer_of, buffer_after}
use Rattle.trace.specs.declared.Counts.{Counts}
use Rattle.trace.proofs.Cuts.{length_samples, length_cuts, length_records}

-- nothing is refused
pub admitted : (trace window room : Bool) → in_order trace window room ≡ done → (trace ≡ true) × (window ≡ true) × (room ≡ true)
unfolding in_order
admitted true true true e = (refl, refl, refl)
admitted true true false e = absurd (omega (arith, ap number e))
admitted true false room e = absurd (omega (arith, ap number e))
admitted false window room e = absurd (omega (arith, ap number e))

module _ (fs : List Float) (w : Rect) (bytes : ℕ) (r : Result (Unit {0}) Refusal) (d : r ≡ in_order (trace_fine (length fs)) (window_fine w) (room_for (length fs / 2 - 1) bytes)) where
  pub refusal_is : trace_refusal fs w bytes ≡ r
  refusal_is = ap (λ (k : ℕ). in_order (trace_fine (length fs)) (window_fine w) (room_for (k - 1) bytes)) (length_samples fs) ∙ sym d

  -- what the records need: they are among the bytes lent
  pub fits : r ≡ done → Admitted fs w bytes
  fits z =
      let (t, f, r) = admitted _ _ _ (sym d ∙ z) in
      let (p, q) = and_parts _ _ t in
      let few : length fs / 2 ≤ 4096 = leb-true _ _ q in
      let room : length fs / 2 - 1 ≤ bytes / 40 = leb-true _ _ r in
      record { few = omega arith; fine = f; room = omega (arith, length_samples fs) }

module _ (touches : Bool) (fs : List Float) (w : Rect) (whose : ℕ) (xs ys : List ℕ) (r : Result (Unit {0}) Refusal) (d : r ≡ in_order (trace_fine (length fs)) (window_fine w) (room_for (length fs / 2 - 1) (length xs))) where
  abbrev Left : Result Counts Refusal → Type 0
  Left a = (a ≡ answer_of touches fs w (length xs)) × (ys ≡ buffer_after touches xs fs w whose)

  pub refused : (e : Refusal) → r ≡ Err e → ys ≡ xs → Left (Err e)
  unfolding buffer_after
  refused e z u = rw (refusal_is fs w (length xs) r d ∙ z) (refl, u)

  pub cut : r ≡ done → (counts : Counts) → counts ≡ counts_of (trace_cuts touches w fs) → ys ≡ stored xs 0 (records_of whose (trace_cuts touches w fs)) → Left (Ok counts)
  unfolding buffer_after
  cut z counts a b =
      let f = fits fs w (length xs) r d z in
      let l : length (records_of whose (trace_cuts touches w fs)) ≤ length xs = omega (arith, length_records whose (trace_cuts touches w fs), length_cuts touches w (samples_of fs), f.room) in
      rw (refusal_is fs w (length xs) r d ∙ z) (ap Ok a, b ∙ stored_front xs (records_of whose (trace_cuts touches w fs)) l)
