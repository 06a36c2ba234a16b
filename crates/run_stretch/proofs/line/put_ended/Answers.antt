-- `put_ended` stores a number and the byte after it: twenty digits at the most, and one.
use Rattle.std.proofs.Common.{arith}
use Rattle.run_stretch.proofs.Decimal.{twenty}
use Rattle.run_stretch.proofs.Written.{ended_stored}
use Rattle.run_stretch.proofs.line.put_ended.Goals as goal

pub returns : goal.returns
returns c =
    let n = c.args.n in
    let e = ended_stored _ _ n _ _ _ c.put_decimal-at.ensures in
    (e.0, e.1, omega (arith, twenty n (omega arith)))
