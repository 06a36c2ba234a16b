-- `put_decimal` stores a number's last digit after those of a tenth of it.
use Rattle.run_stretch.proofs.Written.{one_stored, more_stored}
use Rattle.run_stretch.proofs.line.+put_decimal.Goals as goal

pub returns-then-n-le9 : goal.returns-then-n-le9
returns-then-n-le9 t c = one_stored _ _ _ c.if-n-le9.true

pub returns : goal.returns
returns t c = more_stored _ _ _ _ _ c.if-n-le9.false c.put_decimal-at.ensures
