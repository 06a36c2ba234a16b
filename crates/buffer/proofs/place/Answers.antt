-- `place` overwrites a part.
use Rattle.std.proofs.Common.{arith}
use Rattle.buffer.proofs.Stored.{placed_part, placed_not}
use Rattle.buffer.proofs.place.Goals as goal
use Rattle.buffer.proofs.place.Goals.{else-n-out-via-then-n-out+else-at-out, else-n-out-via-else-n-out}

pub returns-then-at-out : goal.returns-then-at-out
returns-then-at-out c = placed_part _ _ _ _ _ (omega arith) (omega arith) c.copy_from_slice.ensures.after

pub returns-else-n-out : goal.returns-else-n-out
returns-else-n-out c = placed_not _ _ _ (elim c.else-n-out.branch [ else-n-out-via-then-n-out+else-at-out w ↦ omega arith | else-n-out-via-else-n-out w ↦ omega arith ])
