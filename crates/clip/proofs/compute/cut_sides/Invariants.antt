use mathlib.Core.Path.{◌≡◌}
use Prim.Native.Nat.{◌-◌}
use Rattle.clip.specs.Turns.{sides_cut}
use Rattle.clip.proofs.compute.cut_sides.Given as goal

abbrev pub invariant-loop-done : goal.invariant-loop-done
invariant-loop-done l = sides_cut l.own (l.sides - l._done) l.high l.this l.other l.neg_slope ≡ sides_cut l.own l.sides l.initial.high l.initial.this l.initial.other l.neg_slope
