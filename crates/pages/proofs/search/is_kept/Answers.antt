-- `is_kept` asks for the edge between two samples.
use Rattle.pages.proofs.Going.{kept_at_lem}
use Rattle.pages.proofs.search.is_kept.Goals as goal

pub returns : goal.returns
returns c = kept_at_lem _ _ _ _ _ _ c.is_cut_kept.ensures c.sample_at.ensures c.sample_at-2.ensures
