-- The floats so far, then those that are left, are what is asked for.
use Rattle.std.proofs.Common.{◌≡◌, ◌+◌, ◌-◌, ◌++◌, length, take}
use Rattle.reading.specs.Samples.{floats_from}
use Rattle.answers.proofs.request.floats_at.Given as goal

abbrev pub invariant-loop-i : goal.invariant-loop-i
invariant-loop-i l = (length l.floats ≡ 16) × (take l.i l.floats ++ floats_from l.s (l.k + l.i) (16 - l.i) ≡ floats_from l.s l.k 16)
