-- `put_group` is `group`, placed.
use Rattle.std.proofs.Common.{refl, sym, ap, ◌∙◌, arith, length-set}
use Rattle.buffer.specs.Bytes.{placed}
use Rattle.buffer.proofs.Stored.{hex_next, group_is, hex_done}
use Rattle.buffer.proofs.put_group.Goals as goal

pub loop-k-preserved : goal.loop-k-preserved
loop-k-preserved c =
    let l = c.loop-k in
    record { long = simp length-set l.invariant.long; left = rw c.digit.ensures (sym (hex_next _ _ l.k _ (omega arith)) ∙ l.invariant.left) }

pub returns : goal.returns
returns c =
    let l = c.loop-k in
    c.place.ensures ∙ ap (placed c.args.out.now c.args.at) (hex_done _ _ l.k _ (omega arith) ∙ l.invariant.left ∙ group_is _ _ refl refl)
