-- The floats still to come, put after those that are there, give what all of them would have given.
use Rattle.reading.proofs.Reading.{Reading}
use Rattle.reading.proofs.put_samples.Given as goal

abbrev pub invariant-loop-i : goal.invariant-loop-i
invariant-loop-i l = Reading l.s l.initial.out l.out l.from l.n l.i
