-- `put_segment` is the record of the segment: its points' bits are those of no NaN.
use Rattle.record.specs.Record.{end_bytes}
use Rattle.record.specs.Inner.{with_head, headed}
use Rattle.walk.proofs.put_segment.Goals as goal

pub returns : goal.returns
unfolding headed with_head end_bytes
returns c = c.put_record.ensures
