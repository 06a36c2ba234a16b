-- `cut_piece` cuts the samples that it read after the one before them.
use Rattle.std.proofs.Common.{◌≡◌, arith, length, take}
use lib.ListN.{length-replicate}
use Rattle.run_trace.specs.Pieces.{piece_floats}
use Rattle.run_trace.proofs.Cutting.{filled, within}
use Rattle.run_trace.proofs.piece.cut_piece.Goals as goal

pub returns : goal.returns
returns c =
    let a = c.args in
    let from = c.put_carried-from in
    let read = c.put_samples-n.ensures in
    let size : length from.new.floats ≡ 8192 = simp length-replicate at from.ensures.long in
    let e : take c.put_samples-n.result c.put_samples-n.new.out ≡ piece_floats a.before a.bytes.now = filled a.before a.bytes.now _ _ _ _ from.ensures.floats (omega arith) read.count read.floats in
    let answer = rw e at c.cut.ensures.answer in
    record {
      answer = answer;
      bytes = rw e at c.cut.ensures.bytes;
      last = rw e at c.last_sample.ensures;
      room = within _ _ _ _ _ answer;
    }
