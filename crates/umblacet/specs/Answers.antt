-- What C sees of an answer: its number, and its value beside 0; zeros beside any other number.
use Rattle.std.specs.Prelude.{ℕ, Bool, false, List, Float, Result, Ok, Err, None, ok_or, replicate}
use Rattle.float.specs.Float.{zero_f}
use Rattle.answer.specs.Refusal.{number, value_or}
use Rattle.answer.specs.declared.Refusal.{Refusal}
use Rattle.answer.specs.declared.Refusal.TheVariants.{Missed}
use Rattle.plane.specs.Point.{origin}
use Rattle.plane.specs.Interval.{from◌to◌}
use Rattle.plane.specs.Rect.{◌by◌}
use Rattle.plane.specs.declared.point.Point.{Point}
use Rattle.plane.specs.declared.interval.Interval.{Interval}
use Rattle.plane.specs.declared.rect.Rect.{Rect}
use Rattle.clip.specs.declared.compute.Both.{Both}
use Rattle.cube.specs.Vector.{vec}
use Rattle.cube.specs.Faces.{uv}
use Rattle.cube.specs.declared.vector.Vector.{Vector}
use Rattle.cube.specs.declared.compute.Uv.{Uv}
use Rattle.cube.specs.declared.FaceUv.{FaceUv}
use Rattle.trace.specs.Answers.{no_edges}
use Rattle.trace.specs.declared.Counts.{Counts}
use Rattle.stretch.specs.Answers.{no_stretch}
use Rattle.stretch.specs.declared.Stretch.{Stretch}
use Rattle.pages.specs.declared.Found.{Found}
use Rattle.umblacet.specs.declared.answers.Real.{Real}
use Rattle.umblacet.specs.declared.answers.YesNo.{YesNo}
use Rattle.umblacet.specs.declared.answers.PointAnswer.{PointAnswer}
use Rattle.umblacet.specs.declared.answers.IntervalAnswer.{IntervalAnswer}
use Rattle.umblacet.specs.declared.answers.RectAnswer.{RectAnswer}
use Rattle.umblacet.specs.declared.answers.Corners.{Corners}
use Rattle.umblacet.specs.declared.answers.AxesAnswer.{AxesAnswer}
use Rattle.umblacet.specs.declared.answers.FaceAnswer.{FaceAnswer}
use Rattle.umblacet.specs.declared.answers.FaceUv as seen
use Rattle.umblacet.specs.declared.answers.UvAnswer.{UvAnswer}
use Rattle.umblacet.specs.declared.answers.VectorAnswer.{VectorAnswer}
use Rattle.umblacet.specs.declared.answers.WalkAnswer.{WalkAnswer}
use Rattle.umblacet.specs.declared.answers.TraceAnswer.{TraceAnswer}
use Rattle.umblacet.specs.declared.answers.StretchAnswer.{StretchAnswer}
use Rattle.umblacet.specs.declared.answers.PagesAnswer.{PagesAnswer}
use Rattle.umblacet.specs.declared.answers.KeptAnswer.{KeptAnswer}

abbrev pub real : Result Float Refusal → Real
real a = record { number = number a; value = value_or zero_f a }

abbrev pub yes_no : Result Bool Refusal → YesNo
yes_no a = record { number = number a; yes = value_or false a }

abbrev pub point_answer : Result Point Refusal → PointAnswer
point_answer a = record { number = number a; point = value_or origin a }

abbrev pub no_interval : Interval
no_interval = from zero_f to zero_f

abbrev pub interval_answer : Result Interval Refusal → IntervalAnswer
interval_answer a = record { number = number a; interval = value_or no_interval a }

abbrev pub rect_answer : Result Rect Refusal → RectAnswer
rect_answer a = record { number = number a; rect = value_or (no_interval by no_interval) a }

abbrev pub corners : Result (List Point) Refusal → Corners
corners a = record { number = number a; vertices = value_or (replicate 4 origin) a }

abbrev pub axes_answer : Result Both Refusal → AxesAnswer
axes_answer a = record { number = number a; both = value_or (record { this = no_interval; other = no_interval }) a }

abbrev pub face_answer : Result ℕ Refusal → FaceAnswer
face_answer a = record { number = number a; face = value_or 0 a }

abbrev pub face_uv : Result FaceUv Refusal → seen.FaceUv
face_uv a =
    let p = value_or (record { face = 0; at = uv zero_f zero_f }) a in
    record { number = number a; face = p.face; u = p.at.u; v = p.at.v }

abbrev pub uv_answer : Result Uv Refusal → UvAnswer
uv_answer a = let p = value_or (uv zero_f zero_f) a in record { number = number a; u = p.u; v = p.v }

abbrev pub vector_answer : Result Vector Refusal → VectorAnswer
vector_answer a = record { number = number a; vector = value_or (vec zero_f zero_f zero_f) a }

abbrev pub walk_answer : Result ℕ Refusal → WalkAnswer
walk_answer a = record { number = number a; count = value_or 0 a }

abbrev pub trace_answer : Result Counts Refusal → TraceAnswer
trace_answer a =
    let c = value_or no_edges a in
    record { number = number a; kept = c.kept; missed = c.missed; refused = c.refused; edges = c.edges }

abbrev pub stretch_answer : Result Stretch Refusal → StretchAnswer
stretch_answer a = let s = value_or no_stretch a in record { number = number a; first = s.first; count = s.count }

abbrev pub pages_answer : Result ℕ Refusal → PagesAnswer
pages_answer a = record { number = number a; floats = value_or 0 a }

-- the edge, or the miss where none is kept
abbrev pub edge_of : Result Found Refusal → Result ℕ Refusal
edge_of (Ok found) = ok_or found.edge Missed
edge_of (Err e) = Err e

-- the count of opened boxes stands beside the miss too
abbrev pub kept_answer : Result Found Refusal → KeptAnswer
kept_answer a = record { number = number (edge_of a); edge = value_or 0 (edge_of a); opened = (value_or (record { edge = None; opened = 0 }) a).opened }
