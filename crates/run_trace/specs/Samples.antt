-- The last sample of some floats: the one that is carried over to the next piece.
use Rattle.std.specs.Prelude.{◌-◌, List, length, nat_le, slice_index_or, Float, Option, Some, None}
use Rattle.std.specs.Float.{nan}
use Rattle.float.specs.Choice.{when◌then◌else◌}
use Rattle.plane.specs.Point.{at}
use Rattle.plane.specs.declared.point.Point.{Point}

-- none where there is none
unfoldable pub last_sample : List Float → Option Point
last_sample fs =
    when nat_le 2 (length fs) then Some (at (slice_index_or fs (length fs - 2) nan) (slice_index_or fs (length fs - 1) nan))
    else None
