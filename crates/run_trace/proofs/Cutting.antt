-- The records that a piece has are within what was lent; its first floats and its last sample.
use Rattle.std.proofs.Common.{◌≡◌, ℕ, ◌+◌, ◌-◌, ◌*◌, ◌/◌, ◌<◌, ◌≤◌, Bool, true, false, leb, List, [], ◌∷◌, ◌++◌, length, get_or, take, set, refl, ap, ◌∙◌, arith, leb-true, Option, Some, None, Result, Ok, Err}
use Rattle.std.specs.Result.{result_unwrap_or, ResultUnwrapsOrElse}
use lib.Ieee.{Float, nan}
use Rattle.float.specs.Choice.{when◌then◌else◌}
use Rattle.float.proofs.Choice.{when_le, when_gt}
use Rattle.answer.specs.Refusal.{◌then◌}
use Rattle.answer.specs.declared.Refusal.{Refusal}
use Rattle.plane.specs.Point.{at}
use Rattle.plane.specs.declared.point.Point.{Point}
use Rattle.plane.specs.declared.rect.Rect.{Rect}
use Rattle.clip.specs.Refuse.{window_fine}
use Rattle.trace.specs.Trace.{samples_of, trace_cuts}
use Rattle.trace.specs.Refuse.{trace_fine, room_for, in_order}
use Rattle.trace.specs.Answers.{answer_of, no_edges, counts_of}
use Rattle.trace.specs.declared.Counts.{Counts}
use Rattle.trace.proofs.Cuts.{length_cuts}
use Rattle.reading.specs.Samples.{floats_in, floats_of, floats_into}
use Rattle.reading.proofs.Floats.{put_in}
use Rattle.run_trace.specs.Samples.{last_sample}
use Rattle.run_trace.specs.Pieces.{carried, piece_floats}

-- edges are counted only where they fit
counted : (c : Counts) (bytes : ℕ) (p q r : Bool) → room_for c.edges bytes ≡ r → (result_unwrap_or (in_order p q r then Ok c) no_edges).edges * 40 ≤ bytes
unfolding in_order
counted c bytes true true true h = let k : c.edges ≤ bytes / 40 = leb-true _ _ h in omega arith
counted c bytes true true false h = omega arith
counted c bytes true false r h = omega arith
counted c bytes false q r h = omega arith

pub within : (touches : Bool) (fs : List Float) (w : Rect) (bytes : ℕ) (a : Result Counts Refusal) → a ≡ answer_of touches fs w bytes
    → (result_unwrap_or a no_edges).edges * 40 ≤ bytes
within touches fs w bytes a e =
    let n = length_cuts touches w (samples_of fs) in
    rw e (counted (counts_of (trace_cuts touches w fs)) bytes (trace_fine (length fs)) (window_fine w) (room_for (length (samples_of fs) - 1) bytes) (ap (λ (k : ℕ). room_for k bytes) n))

-- the counts of an answer, or the zeros that std's default is
pub or_zeros : (a : Result Counts Refusal) (r : Counts)
    → ResultUnwrapsOrElse a (λ c. (c.kept ≡ 0) × ((c.missed ≡ 0) × ((c.refused ≡ 0) × (c.edges ≡ 0)))) r → r ≡ result_unwrap_or a no_edges
or_zeros (Ok c) r h = h
or_zeros (Err e) r (k, (m, (f, n))) = λ i. record { kept = k i; missed = m i; refused = f i; edges = n i }

-- ---- the floats
pub take_two : (zs : List Float) (x y : Float) → 2 ≤ length zs → take 2 (set (set zs 0 x) 1 y) ≡ x ∷ y ∷ []
take_two [] x y h = absurd (omega arith)
take_two (a ∷ []) x y h = absurd (omega arith)
take_two (a ∷ b ∷ zs) x y h = refl

-- the sample that is carried over, and then those of the bytes
pub filled : (before : Option Point) (s : List ℕ) (xs out : List Float) (from n : ℕ) → take from xs ≡ carried before → from + floats_in s ≤ length xs
    → n ≡ (when leb (from + floats_in s) (length xs) then from + floats_in s else 0)
    → out ≡ (when leb (from + floats_in s) (length xs) then floats_into xs from (floats_of s) else xs)
    → take n out ≡ piece_floats before s
unfolding piece_floats
filled before s xs out from n e h count floats = put_in xs out s from n h count floats ∙ ap (◌++ floats_of s) e

-- ---- the last sample
pub last_none : (fs : List Float) → length fs < 2 → None ≡ last_sample fs
unfolding last_sample
last_none fs h = when_gt _ _ _ _ _ h refl

pub last_is : (fs : List Float) → 2 ≤ length fs → Some (at (get_or fs (length fs - 2) nan) (get_or fs (length fs - 1) nan)) ≡ last_sample fs
unfolding last_sample
last_is fs h = when_le _ _ _ _ _ h refl
