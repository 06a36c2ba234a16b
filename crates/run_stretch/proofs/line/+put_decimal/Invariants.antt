-- A tenth of a number is less.
use Rattle.run_stretch.proofs.line.+put_decimal.Given as goal

abbrev pub decreases-put_decimal : goal.decreases-put_decimal
decreases-put_decimal l = l.n
