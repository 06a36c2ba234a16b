-- `write_all` is what was taken, to the end or to a write that fails or takes nothing.
use Rattle.std.proofs.Common.{rules}
use Rattle.stream.proofs.Bytes.{written_more}
use Rattle.stream.proofs.write_all.Goals as goal

pub loop-done-preserved : goal.loop-done-preserved
loop-done-preserved g c =
    record {
      within = search rules;
      written = written_more _ _ _ _ _ _ c.loop-done.invariant.written c.in-Ok.ensures.bytes;
    }
