-- The stretch of the floats that stand in a buffer of k places is that of the samples which were read into it.
use Prim.Native.Nat.{ℕ, ◌+◌, ◌≤◌}
use native.Mathlib.Omega.{arith}
use mathlib.Core.Path.{◌≡◌, ap, ◌∙◌}
use mathlib.Core.List.{List}
use lib.Dec.{leb}
use lib.Ieee.{Float}
use lib.ListN.{length, take, replicate, length-replicate}
use Rattle.float.specs.Choice.{when◌then◌else◌}
use Rattle.plane.specs.declared.rect.Rect.{Rect}
use Rattle.reading.specs.Samples.{floats_in, floats_of, floats_into}
use Rattle.reading.proofs.Floats.{put_in}
use Rattle.std.proofs.Common.{Result}
use Rattle.answer.specs.declared.Refusal.{Refusal}
use Rattle.stretch.specs.declared.Stretch.{Stretch}
use Rattle.stretch.specs.Answers.{stretch_of}

pub found : (s : List ℕ) (w : Rect) (k : ℕ) (z : Float) (n : ℕ) (out : List Float) (a : Result Stretch Refusal) → floats_in s ≤ k
    → n ≡ (when leb (0 + floats_in s) (length (replicate k z)) then 0 + floats_in s else 0)
    → out ≡ (when leb (0 + floats_in s) (length (replicate k z)) then floats_into (replicate k z) 0 (floats_of s) else replicate k z)
    → a ≡ stretch_of (take n out) w → a ≡ stretch_of (floats_of s) w
found s w k z n out a h count floats e =
    e ∙ ap (λ (fs : List Float). stretch_of fs w) (put_in (replicate k z) out s 0 n (omega (arith, length-replicate k z)) count floats)
