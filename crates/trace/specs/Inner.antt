-- What the functions inside ask for and leave: what is known where nothing was refused. No entry's contract and no promise cites it: a reader of those can pass it over.
use Rattle.std.specs.Prelude.{ℕ, ◌+◌, ◌-◌, ◌*◌, ◌≤◌, ◌≡◌, Bool, true, not, List, T, Float, length}
use Rattle.std.specs.Float.Ieee.{is_nan}
use Rattle.float.specs.Choice.{when◌then◌else◌, ◌and◌}
use Rattle.plane.specs.declared.point.Point.{Point}
use Rattle.plane.specs.declared.rect.Rect.{Rect}
use Rattle.clip.specs.Refuse.{window_fine}
use Rattle.clip.specs.declared.Segment.{Segment}
use Rattle.trace.specs.Trace.{samples_of, touching, Clipped}
use Rattle.trace.specs.Records.{is_kept}

-- of a trace that is not refused, with so many bytes lent
pub record Admitted (fs : List Float) (w : Rect) (bytes : ℕ) : Type 0 where
  pub few : length fs ≤ 8193
  pub fine : window_fine w ≡ true
  pub room : (length (samples_of fs) - 1) * 40 ≤ bytes

-- ---- of one edge

-- how many are kept with it
abbrev pub kept_with : ℕ → Clipped → ℕ
kept_with n c = n + (when is_kept c then 1 else 0)

-- a float that is not the NaN
abbrev pub Number : Float → Type 0
Number x = T (not (is_nan x))

-- of kept points: each of their floats is a number
pub record Numbers (s : Segment) : Type 0 where
  pub ax : Number s.ax
  pub ay : Number s.ay
  pub bx : Number s.bx
  pub by : Number s.by

-- of the edge's own ends the same
pub record LiveEnds (a b : Point) : Type 0 where
  pub ax : Number a.x
  pub ay : Number a.y
  pub bx : Number b.x
  pub by : Number b.y

-- an edge that touches, with these kept points, where touches are not kept
unfoldable pub dropped : Bool → Point → Point → Segment → Bool
dropped touches a b s = touching a b s and not touches
