-- What a trace leaves in the lent buffer, whatever its number.
use Prim.Native.Nat.{ℕ, ◌-◌, ◌*◌, ◌/◌, ◌≤◌, ◌<◌}
use native.Mathlib.Omega.{arith}
use mathlib.Core.Path.{◌≡◌, refl}
use mathlib.Core.Bool.{Bool}
use mathlib.Core.List.{List, [], append-nil}
use lib.Ieee.{Float}
use lib.ListN.{length, drop}
use borrow.Author.Tests.{leb-true}
use Rattle.std.specs.Prelude.{Result, Ok, Err}
use Rattle.answer.specs.Refusal.{number, done, value_or, ◌then◌}
use Rattle.answer.specs.declared.Refusal.{Refusal}
use Rattle.buffer.specs.Bytes.{followed_by}
use Rattle.plane.specs.declared.rect.Rect.{Rect}
use Rattle.record.specs.Record.{record_at}
use Rattle.record.specs.Numbered.{Numbered}
use Rattle.record.proofs.Joined.{at_record}
use Rattle.record.proofs.Numbered as numbers
use Rattle.trace.specs.Trace.{Clipped, samples_of, trace_cuts}
use Rattle.trace.specs.Records.{cut_ends, cut_bytes, records_of}
use Rattle.trace.specs.Refuse.{trace_refusal}
use Rattle.trace.specs.Answers.{counts_of, no_edges, buffer_after}
use Rattle.trace.specs.Promises.{Lent}
use Rattle.trace.proofs.Cuts.{length_cuts, length_cut}
use Rattle.trace.proofs.Exits.{admitted}

module _ (touches : Bool) (xs : List ℕ) (fs : List Float) (w : Rect) where
  abbrev found : List Clipped
  found = trace_cuts touches w fs

  -- where nothing is refused there is room
  done_fits : trace_refusal fs w (length xs) ≡ done → length found * 40 ≤ length xs
  done_fits e =
      let (t, f, r) = admitted _ _ _ e in
      let h : length (samples_of fs) - 1 ≤ length xs / 40 = leb-true _ _ r in
      omega (arith, length_cuts touches w (samples_of fs))

  -- ---- by what is refused, if anything is
  abbrev after : Result (Unit {0}) Refusal → ℕ → List ℕ
  after r whose = value_or xs (r then Ok (followed_by (records_of whose found) xs))

  abbrev edges : Result (Unit {0}) Refusal → ℕ
  edges r = (value_or no_edges (r then Ok (counts_of found))).edges

  -- the records stand in front
  in_front : (r : Result (Unit {0}) Refusal) (whose k : ℕ) → k < edges r → record_at k (after r whose) ≡ record_at k (records_of whose found)
  in_front (Ok x) whose k h =
      let bytes = records_of whose found in
      rw append-nil at (at_record (cut_bytes whose) (cut_bytes whose) (length_cut whose) (length_cut whose) (drop (length bytes) xs) [] ◌≡◌ (λ c. refl) found k h)
  in_front (Err x) whose k h = absurd (omega arith)

  numbered : (r : Result (Unit {0}) Refusal) → Numbered (after r) (edges r)
  numbered (Ok x) = numbers.numbered number cut_ends (Ok x) found xs
  numbered (Err x) = numbers.numbered number cut_ends (Err x) found xs

  pub lent : Lent touches xs fs w
  unfolding buffer_after
  lent =
      let r = trace_refusal fs w (length xs) in
      record { as_long = numbers.as_long number cut_ends r found xs done_fits; records = in_front r; numbered = numbered r; of_none = numbers.of_none number cut_ends r found xs }
