-- The zeros that stand beside a refusal, where an interval or a rectangle would.
use Rattle.float.specs.Float.{zero_f}
use Rattle.plane.specs.Interval.{from◌to◌}
use Rattle.plane.specs.Rect.{◌by◌}
use Rattle.plane.specs.declared.interval.Interval.{Interval}
use Rattle.plane.specs.declared.rect.Rect.{Rect}

abbrev pub zero_interval : Interval
zero_interval = from zero_f to zero_f

abbrev pub zero_rect : Rect
zero_rect = zero_interval by zero_interval
