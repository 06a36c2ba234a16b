-- `number_in` reads the word digit by digit.
use Rattle.std.proofs.Common.{sym, arith, ⊎_elim, eqb-true}
use Rattle.run_trace.proofs.Digits.{empty, too_long, too_low, too_high, one_more, too_great, number}
use Rattle.run_trace.proofs.words.number_in.Goals as goal
use Rattle.run_trace.proofs.words.number_in.Goals.{then-is_empty-via-then-is_empty, then-is_empty-via-else-is_empty+then-word-gt-DIGITS}

pub returns-then-is_empty : goal.returns-then-is_empty
returns-then-is_empty c =
    elim c.then-is_empty.branch [
      | then-is_empty-via-then-is_empty w ↦ empty _ (eqb-true _ _ (sym w.if-is_empty.ensures))
      | then-is_empty-via-else-is_empty+then-word-gt-DIGITS w ↦ too_long _ w.if-word-gt-DIGITS.true
    ]

pub returns-then-not-is_ascii_digit : goal.returns-then-not-is_ascii_digit
returns-then-not-is_ascii_digit c =
    let r = c.loop-digit.invariant in
    let h = c.loop-digit-test.true in
    ⊎_elim (too_low r h) (too_high r h) c.if-not-is_ascii_digit.ensures.cases

pub loop-digit-preserved : goal.loop-digit-preserved
loop-digit-preserved c =
    let d = c.if-not-is_ascii_digit.ensures.cases in
    one_more c.loop-digit.invariant c.loop-digit-test.true d.0 d.1 _ (omega (arith, c.from.ensures))

pub returns-in-Ok : goal.returns-in-Ok
returns-in-Ok c =
    let e = c.in-Ok.ensures in
    rw e.1 (number c.loop-digit.invariant c.loop-digit-test.false (omega (arith, e.0)))

pub returns-in-Err : goal.returns-in-Err
returns-in-Err c = let e = c.in-Err.ensures in too_great c.loop-digit.invariant c.loop-digit-test.false (omega (arith, e))
