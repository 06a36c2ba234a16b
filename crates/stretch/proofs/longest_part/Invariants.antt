use Prim.Native.Nat.{◌-◌, ◌+◌}
use lib.ListN.{length}
use Rattle.stretch.proofs.Whole.{Passing}
use Rattle.stretch.proofs.longest_part.Given as goal

abbrev pub invariant-loop-k : goal.invariant-loop-k
invariant-loop-k l = Passing l.samples l.window.rect l.best l.k

abbrev pub decreases-loop-k : goal.decreases-loop-k
decreases-loop-k l = length l.samples + 2 - l.k
