-- `put_text` writes the text, line by line.
use Rattle.std.proofs.Common.{arith, refl, ap, sym, ◌∙◌}
use Rattle.buffer.proofs.Stored.{placed_fits}
use Rattle.buffer.proofs.Text.{writing_starts, line_written, whole_written, torn_written}
use Rattle.cut.specs.Line.{number_line, line_of}
use Rattle.cut.proofs.Text.{line_room, record_told}
use Rattle.cut.proofs.lines.put_text.Goals as goal

pub loop-i-init : goal.loop-i-init
loop-i-init c = writing_starts (omega arith)

pub loop-i-preserved : goal.loop-i-preserved
loop-i-preserved c =
    let w = c.put_line-to.ensures in
    line_written c.loop-i.invariant (omega arith) (ap line_of c.answer_of.ensures) w.place w.bytes (line_room _ _ _ w.place)

pub returns-then-s-eq0 : goal.returns-then-s-eq0
returns-then-s-eq0 c =
    let w = whole_written c.loop-i.invariant c.loop-i-test.false c.if-s-eq0.true in
    record { count = w.0; bytes = w.1.0; within = w.1.1 }

pub returns : goal.returns
unfolding number_line
returns c =
    let b = c.place.ensures ∙ sym (placed_fits _ _ _ (omega arith)) in
    let w = torn_written c.loop-i.invariant c.loop-i-test.false c.if-s-eq0.false (rw c.number_line.ensures at b) refl in
    record { count = w.0; bytes = w.1.0; within = w.1.1 }

-- and so it is of a record
pub put_line-to-requires : goal.put_line-to-requires
put_line-to-requires c = record { room = omega arith; told = rw c.answer_of.ensures (record_told _) }
