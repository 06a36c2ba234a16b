-- `put_text` writes the text, line by line.
use Rattle.std.proofs.Common.{refl, sym, ◌∙◌, arith}
use Rattle.float.specs.Choice.{when◌then◌else◌}
use Rattle.buffer.proofs.Stored.{placed_fits}
use Rattle.buffer.proofs.Text.{none_written, writing_starts, line_written, whole_written, torn_written}
use Rattle.answers.specs.Number.{number_text}
use Rattle.answers.proofs.text.put_text.Goals as goal
use Rattle.answers.proofs.text.put_text.Goals.{then-out-lt2-via-then-out-lt2, then-out-lt2-via-else-out-lt2+then-out-n}

pub returns-then-out-lt2 : goal.returns-then-out-lt2
returns-then-out-lt2 c =
    let w = none_written _ _ _ (elim c.then-out-lt2.branch [ then-out-lt2-via-then-out-lt2 w ↦ omega arith | then-out-lt2-via-else-out-lt2+then-out-n w ↦ omega arith ]) in
    record { count = w.0; bytes = w.1.0; within = w.1.1 }

pub loop-i-init : goal.loop-i-init
loop-i-init c = writing_starts (omega arith)

pub loop-i-preserved : goal.loop-i-preserved
loop-i-preserved c =
    let w = c.loop-i.invariant in
    let is = c.as_slice-text.ensures in
    line_written w c.loop-i-test.true (is.is ∙ c.line_of.ensures) refl
    (c.place.ensures ∙ sym (placed_fits _ _ _ (omega (arith, w.near, w.room, w.same, w.all, is.most)))) (omega (arith, is.most))

pub returns-then-s-eq0 : goal.returns-then-s-eq0
returns-then-s-eq0 c =
    let w = whole_written c.loop-i.invariant c.loop-i-test.false c.if-s-eq0.true in
    record { count = w.0; bytes = w.1.0; within = w.1.1 }

pub returns : goal.returns
unfolding number_text when◌then◌else◌
returns c =
    let v = c.loop-i.invariant in
    let w = torn_written v c.loop-i-test.false c.if-s-eq0.false (c.place-2.ensures ∙ sym (placed_fits _ _ _ (omega (arith, v.near, v.room, v.same, v.all)))) refl in
    record { count = w.0; bytes = w.1.0; within = w.1.1 }
