-- `is_admitted` makes the comparison that both definitions have.
use Rattle.clip.specs.Refuse.{coordinate, side}
use lib.Ieee.{of_bits}
use Rattle.clip.proofs.refuse.is_admitted.Goals as goal

pub returns : goal.returns
unfolding coordinate side of_bits
returns c = record { as_coordinate = cc; as_side = cc }
