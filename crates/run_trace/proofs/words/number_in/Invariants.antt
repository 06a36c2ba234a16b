-- n is the number of the digits so far.
use Rattle.run_trace.proofs.Digits.{Read}
use Rattle.run_trace.proofs.words.number_in.Given as goal

abbrev pub invariant-loop-digit : goal.invariant-loop-digit
invariant-loop-digit l = Read l.word l.digit-index l.n
