use Rattle.run_trace.proofs.Cutting.{or_zeros}
use Rattle.run_trace.proofs.piece.Piece.counts.Goals as goal

pub returns : goal.returns
returns c = or_zeros _ _ c.unwrap_or_default.ensures
