-- The lines of i requests are stored.
use Rattle.buffer.proofs.Text.{Writing}
use Rattle.answers.specs.Line.{line_of, torn_line}
use Rattle.answers.proofs.text.put_text.Given as goal

abbrev pub invariant-loop-i : goal.invariant-loop-i
invariant-loop-i l = Writing 192 line_of torn_line 1334 l.s l.initial.out l.n l.out l.i l.to
