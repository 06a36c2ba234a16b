-- `is_within` asks both sides of the limit, which is the magnitude against it.
use mathlib.Core.Path.{◌≡◌, refl, ◌∙◌}
use lib.Ieee.{Float, binary64, le, neg, of_bits}
use Rattle.float.specs.Choice.{◌and◌}
use Rattle.float.specs.Float.{magnitude_of}
use Rattle.float.proofs.Choice.{then_is, else_is}
use Rattle.float.proofs.Size.{size_within}
use Rattle.clip.specs.Refuse.{coordinate}
use Rattle.clip.proofs.refuse.is_within.Goals as goal

-- the limit as the code has it
bound : Float
bound = of_bits binary64 6858982232485265408

own : magnitude_of bound ≡ bound
unfolding bound magnitude_of of_bits
own = refl

within : (x : Float) → (le (neg bound) x and le x bound) ≡ coordinate x
unfolding bound coordinate of_bits
within x = size_within x bound own

pub returns-then-x : goal.returns-then-x
unfolding bound
returns-then-x c = then_is _ _ _ _ c.if-x.true refl ∙ within c.args.x

pub returns-else-x : goal.returns-else-x
unfolding bound
returns-else-x c = else_is _ _ _ _ c.if-x.false c.if-x.false ∙ within c.args.x
