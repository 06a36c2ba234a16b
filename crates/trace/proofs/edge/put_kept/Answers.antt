-- `put_kept` is the record of kept points: their bits are those of no NaN.
use native.Mathlib.Omega.{arith}
use Rattle.record.specs.Record.{end_bytes}
use Rattle.record.specs.Inner.{with_head, headed}
use Rattle.record.proofs.Words.{record_placed, length_record}
use Rattle.trace.proofs.Writing.{placed_whole}
use Rattle.trace.proofs.edge.put_kept.Goals as goal

pub returns : goal.returns
unfolding headed with_head end_bytes
returns c = placed_whole _ _ _ c.requires.1 (length_record _ _ _) (record_placed _ _ _ _ 0 _ _ c.head.ensures (omega arith) c.put_record.ensures)
