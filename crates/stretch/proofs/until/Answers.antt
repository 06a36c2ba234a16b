-- `until` goes over the samples that are not as wanted.
use Rattle.stretch.proofs.Skipping.{finds, goes_on}
use Rattle.stretch.proofs.until.Goals as goal

pub returns-then-is_clean-wanted : goal.returns-then-is_clean-wanted
returns-then-is_clean-wanted c = finds c.loop-at.invariant c.loop-at-test.true _ _ c.is_clean.ensures c.if-is_clean-wanted.true

pub loop-at-preserved : goal.loop-at-preserved
loop-at-preserved c = goes_on c.loop-at.invariant c.loop-at-test.true _ _ c.is_clean.ensures c.if-is_clean-wanted.false
