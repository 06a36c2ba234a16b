-- `sample_at` is the sample.
use Rattle.trace.proofs.Samples.{sample_is}
use Rattle.trace.proofs.sample_at.Goals as goal

pub returns : goal.returns
returns c = sample_is _ _ _ c.requires.0
