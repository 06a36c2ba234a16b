-- Module 2: the closed interval. Empty when lo > hi.
use Rattle.std.specs.Prelude.{Bool, true, Float}
use Rattle.std.specs.Float.Ieee.{lt, le}
use Rattle.float.specs.Choice.{when◌then◌else◌, ◌and◌}
use Rattle.float.specs.Float.{zero_f, one_f, finite}
use Rattle.plane.specs.declared.interval.Interval.{Interval}

infixr 20 from◌to◌
abbrev pub from◌to◌ : Float → Float → Interval
from a to b = record { lo = a; hi = b }

-- lo 1 and hi 0
abbrev pub empty_interval : Interval
empty_interval = from one_f to zero_f

unfoldable pub is_empty : Interval → Bool
is_empty i = lt i.hi i.lo

-- holds a number
unfoldable pub holds : Interval → Float → Bool
holds i x = le i.lo x and le x i.hi

-- contains an interval: the empty one lies in every interval
unfoldable pub contains : Interval → Interval → Bool
contains i j = when is_empty j then true else le i.lo j.lo and le j.hi i.hi

-- shares a point: the higher of the two low ends lies in both
unfoldable pub intersects : Interval → Interval → Bool
intersects i j =
    when le i.lo j.lo then le j.lo i.hi and le j.lo j.hi
    else le i.lo j.hi and le i.lo i.hi

-- the lesser and the greater of two; the first where they compare equal
unfoldable pub lesser : Float → Float → Float
lesser x y = when lt y x then y else x

unfoldable pub greater : Float → Float → Float
greater x y = when lt x y then y else x

-- the empty one adds nothing to a union
unfoldable pub union_of : Interval → Interval → Interval
union_of i j =
    when is_empty i then j
    else when is_empty j then i
    else from lesser i.lo j.lo to greater i.hi j.hi

unfoldable pub intersection_of : Interval → Interval → Interval
intersection_of i j = from greater i.lo j.lo to lesser i.hi j.hi

-- the interval of two numbers, the first kept where they compare equal
unfoldable pub between : Float → Float → Interval
between a b = from lesser a b to greater a b

-- the high end or the low
unfoldable pub end_of : Interval → Bool → Float
end_of i high = when high then i.hi else i.lo

unfoldable pub finite_interval : Interval → Bool
finite_interval i = finite i.lo and finite i.hi
