-- The walk along a line from face to face: the rules of document 01, in its order. The line has the normal p, and the walk goes from the point a of the face f to the point b of the face t.
use Rattle.std.specs.Prelude.{ℕ, zero, suc, Bool, List, [], ◌∷◌, eqb, Result, Err}
use Rattle.float.specs.Choice.{when◌then◌else◌}
use Rattle.answer.specs.Refusal.{done}
use Rattle.answer.specs.declared.Refusal.{Refusal}
use Rattle.answer.specs.declared.Refusal.TheVariants.{OffFace, Unfinished}
use Rattle.cube.specs.Faces.{uv, point_at, uvw_of}
use Rattle.cube.specs.declared.vector.Vector.{Vector}
use Rattle.cube.specs.declared.compute.Uv.{Uv}
use Rattle.line.specs.Line.{meets_face, left_at, onward}
use Rattle.record.specs.Record.{Ends, record_bytes, joined}

-- ---- a step: the exit point is `left_at p f`, the next face `onward p f t`

-- the line meets the face
abbrev pub met : Vector → ℕ → Bool
met p f = meets_face (uvw_of f p)

-- the point e of the face f, in the coordinates of the face g
abbrev pub moved_to : ℕ → Uv → ℕ → Uv
moved_to f e g =
    let r = uvw_of g (point_at f e.u e.v) in
    uv r.x r.y

-- the entry point of the next face
abbrev pub entered_at : Vector → ℕ → ℕ → Uv
entered_at p f t = moved_to f (left_at p f) (onward p f t)

-- ---- the walk with at most k faces

-- where it stops: at the target with none, at a missed face with 6, after k faces with 7
unfoldable pub stop_refusal : ℕ → Vector → ℕ → ℕ → Result (Unit {0}) Refusal
stop_refusal zero p f t = Err Unfinished
stop_refusal (suc k) p f t =
    when eqb f t then done
    else when met p f then stop_refusal k p (onward p f t) t
    else Err OffFace

pub record Segment : Type 0 where
  pub face : ℕ
  pub a : Uv
  pub b : Uv

abbrev pub segment : ℕ → Uv → Uv → Segment
segment f a b = record { face = f; a = a; b = b }

-- its segments: while the face is not the target, close one at the exit point, move it to the next face, go on; at the target the last ends at the given point
unfoldable pub segments : ℕ → Vector → ℕ → Uv → ℕ → Uv → List Segment
segments zero p f a t b = []
segments (suc k) p f a t b =
    when eqb f t then segment f a b ∷ []
    else segment f a (left_at p f) ∷ segments k p (onward p f t) (entered_at p f t) t b

-- how many they are, which the faces alone decide
unfoldable pub count_of : ℕ → Vector → ℕ → ℕ → ℕ
count_of zero p f t = 0
count_of (suc k) p f t =
    when eqb f t then 1
    else suc (count_of k p (onward p f t) t)

-- ---- the records, 40 bytes each, with no header: of each segment its face, whose it is, its two points

abbrev pub ends_of : Uv → Uv → Ends
ends_of a b = record { au = a.u; av = a.v; bu = b.u; bv = b.v }

abbrev pub segment_ends : Segment → Ends
segment_ends s = ends_of s.a s.b

abbrev pub segment_bytes : ℕ → Segment → List ℕ
segment_bytes whose s = record_bytes s.face whose (segment_ends s)

abbrev pub records_of : ℕ → List Segment → List ℕ
records_of whose ss = joined (segment_bytes whose) ss
