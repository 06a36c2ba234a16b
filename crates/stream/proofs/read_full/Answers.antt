-- `read_full` is what was read, to the end of the buffer or of the input, or to a failure.
use Rattle.std.proofs.Common.{rules}
use Rattle.stream.proofs.Bytes.{read_more}
use Rattle.stream.proofs.read_full.Goals as goal

pub loop-done-preserved : goal.loop-done-preserved
loop-done-preserved g c =
    let l = c.loop-done in
    record {
      same = search rules;
      within = search rules;
      read = read_more _ _ _ _ _ l.buf _ l.invariant.within c.in-Ok.ensures.bound.0 l.invariant.read c.in-Ok.ensures.bytes.0;
    }
