use Rattle.std.proofs.Common.{◌-◌}
use Rattle.walk.proofs.Along.{Along}
use Rattle.walk.proofs.Route.put_segments.Given as goal

abbrev pub invariant-loop-at : goal.invariant-loop-at
invariant-loop-at l = Along l.initial.out l.initial.at l.initial.begin l.target l.b l.normal l.whose l.out l.at l.head l.begin l.closed

abbrev pub decreases-loop-at : goal.decreases-loop-at
decreases-loop-at l = 8 - l.closed
