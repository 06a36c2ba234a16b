-- `sample_at` reads two floats.
use Rattle.trace.proofs.Samples.{sample_is}
use Rattle.pages.proofs.boxes.sample_at.Goals as goal

pub returns : goal.returns
returns c = sample_is _ _ _ c.requires.0
