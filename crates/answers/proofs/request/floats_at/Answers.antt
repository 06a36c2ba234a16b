-- `floats_at` reads sixteen floats.
use Rattle.std.proofs.Common.{arith, ◌∙◌}
use Rattle.std.proofs.Math.ListN.{length-set}
use Rattle.answers.specs.Request.{float_at}
use Rattle.answers.proofs.Floats.{floats_more, floats_all}
use Rattle.answers.proofs.request.floats_at.Goals as goal

pub loop-i-preserved : goal.loop-i-preserved
unfolding float_at
loop-i-preserved c =
    let inv = c.loop-i.invariant in
    (simp length-set inv.0, floats_more _ _ _ _ _ 16 c.loop-i-test.true inv.0 c.float_at.ensures ∙ inv.1)

pub returns : goal.returns
returns c =
    let inv = c.loop-i.invariant in
    floats_all _ _ _ _ _ 16 (omega arith) inv.0 inv.1
