-- The reply to a request: a number and, beside 0, words. A float is its bits, a yes/no 1 or 0.
use Rattle.std.specs.Prelude.{ℕ, Bool, List, [], ◌∷◌, Float, Result, Ok, Err, ◌++◌, get_or, if◌then◌else◌}
use Rattle.std.specs.Float.{nan}
use Rattle.answer.specs.Refusal.{number, number_of, value_or}
use Rattle.answer.specs.declared.Refusal.{Refusal}
use Rattle.plane.specs.Point.{at}
use Rattle.plane.specs.declared.point.Point.{Point}
use Rattle.plane.specs.declared.interval.Interval.{Interval}
use Rattle.plane.specs.declared.rect.Rect.{Rect}
use Rattle.clip.specs.declared.Segment.{Segment}
use Rattle.clip.specs.declared.compute.Both.{Both}
use Rattle.cube.specs.declared.FaceUv.{FaceUv}
use Rattle.cube.specs.declared.compute.Uv.{Uv}
use Rattle.cube.specs.declared.vector.Vector.{Vector}
use Rattle.line.specs.Line.{axis_number}
use Rattle.line.specs.declared.compute.Axis.{Axis}
use Rattle.stretch.specs.declared.Stretch.{Stretch}
use Rattle.trace.specs.declared.Counts.{Counts}
use Rattle.answers.specs.Number.{bits, numbered}

pub record Reply : Type 0 where
  pub number : ℕ
  pub words : List ℕ

-- the number of an answer, and the words of its value; none beside a refusal
abbrev pub reply : {A : Type 0} → (A → List ℕ) → Result A Refusal → Reply
reply words (Ok x) = record { number = 0; words = words x }
reply words (Err e) = record { number = number_of e; words = [] }

-- the number of an answer whose words stand beside every number, zero's beside a refusal
abbrev pub reply_or : {A : Type 0} → (A → List ℕ) → Result A Refusal → A → Reply
reply_or words a zero = record { number = number a; words = words (value_or zero a) }

-- a number alone
abbrev pub only_reply : ℕ → Reply
only_reply n = record { number = n; words = [] }

-- the line of a reply
unfoldable pub reply_line : Reply → List ℕ
reply_line r = numbered r.number r.words ++ (10 ∷ [])

-- ---- the words of each kind of value
abbrev pub yes_words : Bool → List ℕ
yes_words b = (if b then 1 else 0) ∷ []

abbrev pub face_words : ℕ → List ℕ
face_words f = f ∷ []

-- 0 for U, 1 for V
abbrev pub axis_words : Axis → List ℕ
axis_words a = axis_number a ∷ []

abbrev pub float_words : Float → List ℕ
float_words x = bits x ∷ []

abbrev pub point_words : Point → List ℕ
point_words p = bits p.x ∷ bits p.y ∷ []

-- two corners
abbrev pub points_words : Point × Point → List ℕ
points_words c = point_words c.0 ++ point_words c.1

abbrev pub segment_words : Segment → List ℕ
segment_words s = bits s.ax ∷ bits s.ay ∷ bits s.bx ∷ bits s.by ∷ []

abbrev pub interval_words : Interval → List ℕ
interval_words i = bits i.lo ∷ bits i.hi ∷ []

-- the interval of the asked axis, then the other's
abbrev pub both_words : Both → List ℕ
both_words b = interval_words b.this ++ interval_words b.other

-- the low corner, then the high one
abbrev pub rect_words : Rect → List ℕ
rect_words r = bits r.x.lo ∷ bits r.y.lo ∷ bits r.x.hi ∷ bits r.y.hi ∷ []

-- the corner i of the four
abbrev pub corner : List Point → ℕ → Point
corner ps i = get_or ps i (at nan nan)

-- four corners
abbrev pub corners_words : List Point → List ℕ
corners_words ps = point_words (corner ps 0) ++ (point_words (corner ps 1) ++ (point_words (corner ps 2) ++ point_words (corner ps 3)))

abbrev pub uv_words : Uv → List ℕ
uv_words a = bits a.u ∷ bits a.v ∷ []

abbrev pub face_uv_words : FaceUv → List ℕ
face_uv_words a = a.face ∷ uv_words a.at

abbrev pub vector_words : Vector → List ℕ
vector_words r = bits r.x ∷ bits r.y ∷ bits r.z ∷ []

abbrev pub stretch_words : Stretch → List ℕ
stretch_words s = s.first ∷ s.count ∷ []

abbrev pub count_words : ℕ → List ℕ
count_words n = n ∷ []

abbrev pub pair_words : ℕ × ℕ → List ℕ
pair_words p = p.0 ∷ p.1 ∷ []

abbrev pub counts_words : Counts → List ℕ
counts_words c = c.kept ∷ c.missed ∷ c.refused ∷ c.edges ∷ []
