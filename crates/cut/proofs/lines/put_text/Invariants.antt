-- The lines of i records are stored.
use Rattle.buffer.proofs.Text.{Writing}
use Rattle.cut.specs.Line.{record_line, torn_line}
use Rattle.cut.proofs.lines.put_text.Given as goal

abbrev pub invariant-loop-i : goal.invariant-loop-i
invariant-loop-i l = Writing 64 record_line torn_line 70 l.s l.initial.out l.n l.out l.i l.to
