-- `put_line` stores the line: three numbers, one after the other.
use Rattle.std.proofs.Common.{◌∙◌, arith}
use Rattle.run_stretch.proofs.Written.{line_stored}
use Rattle.run_stretch.proofs.line.put_line.Goals as goal

pub returns : goal.returns
returns c =
    let number = c.put_ended-first.ensures in
    let first = c.put_ended-count.ensures in
    let count = c.put_ended.ensures in
    let (p, (q, r)) =
    line_stored c.args.a _ _ _ _ _ _ _ _ _ (c.from.ensures ∙ c.number.ensures.is) c.unwrap_or-run.ensures (omega arith) (number.0, number.1) (first.0, first.1) (count.0, count.1) (omega arith) in
    record { count = p; bytes = q; within = r }
