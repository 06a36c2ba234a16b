-- `kept_line` is a byte, four groups, a byte.
use mathlib.Core.Path.{refl}
use Rattle.cut.proofs.Text.{kept_is}
use Rattle.cut.proofs.lines.kept_line.Goals as goal

pub returns : goal.returns
returns c =
    kept_is _ _ _ _ _ _ refl refl (rw c.to_bits.ensures at c.put_group.ensures) (rw c.to_bits-2.ensures at c.put_group-2.ensures)
    (rw c.to_bits-3.ensures at c.put_group-3.ensures) (rw c.to_bits-4.ensures at c.put_group-4.ensures)
