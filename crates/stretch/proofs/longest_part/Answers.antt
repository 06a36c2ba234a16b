-- `longest_part` goes from run to run.
use Rattle.stretch.proofs.Whole.{all_left, none_left, goes_on}
use Rattle.stretch.proofs.longest_part.Goals as goal

pub returns-then-samples-from : goal.returns-then-samples-from
returns-then-samples-from c = none_left c.loop-k.invariant c.until-from.ensures c.if-samples-from.true

pub loop-k-preserved : goal.loop-k-preserved
loop-k-preserved c = goes_on c.loop-k.invariant c.until-from.ensures c.if-samples-from.false c.until-end.ensures _ c.longer-best.ensures

pub returns : goal.returns
returns c = all_left c.loop-k.invariant c.loop-k-test.false
