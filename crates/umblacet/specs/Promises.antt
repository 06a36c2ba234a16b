-- What is promised of what C sees of a refusal, and of several calls that write into one buffer. Statements only; proofs/Promises.antt has the proofs.
use Rattle.std.specs.Prelude.{◌≡◌, ℕ, ◌+◌, ◌≤◌, false, List, [], ◌∷◌, length, Ok, Err}
use Rattle.float.specs.Float.{zero_f}
use Rattle.answer.specs.Refusal.{number_of}
use Rattle.answer.specs.declared.Refusal.{Refusal}
use Rattle.plane.specs.Point.{at}
use Rattle.plane.specs.Answers.{zero_interval, zero_rect}
use Rattle.plane.specs.declared.point.Point.{Point}
use Rattle.cube.specs.Vector.{vec}
use Rattle.pages.specs.Search.{none}
use Rattle.buffer.specs.Parts.{EitherFirst}
use Rattle.umblacet.specs.Answers as c
use Rattle.umblacet.specs.Axis.{numbered_axis}
use Rattle.umblacet.specs.Cut.{cut_of}
use Rattle.umblacet.specs.Calls.{Call, leaves}

abbrev pub zero_point : Point
zero_point = at zero_f zero_f

-- of a refusal C gets its number, and zeros or no beside it
pub record Refused (e : Refusal) : Type 0 where
  pub real : c.real (Err e) ≡ record { number = number_of e; value = zero_f }
  pub yes_no : c.yes_no (Err e) ≡ record { number = number_of e; yes = false }
  pub point : c.point_answer (Err e) ≡ record { number = number_of e; point = zero_point }
  pub interval : c.interval_answer (Err e) ≡ record { number = number_of e; interval = zero_interval }
  pub rect : c.rect_answer (Err e) ≡ record { number = number_of e; rect = zero_rect }
  pub corners : c.corners (Err e) ≡ record { number = number_of e; vertices = zero_point ∷ zero_point ∷ zero_point ∷ zero_point ∷ [] }
  pub axes : c.axes_answer (Err e) ≡ record { number = number_of e; both = record { this = zero_interval; other = zero_interval } }
  pub cut : cut_of (Err e) ≡ record { number = number_of e; a = zero_point; b = zero_point }
  pub face : c.face_answer (Err e) ≡ record { number = number_of e; face = 0 }
  pub face_uv : c.face_uv (Err e) ≡ record { number = number_of e; face = 0; u = zero_f; v = zero_f }
  pub uv : c.uv_answer (Err e) ≡ record { number = number_of e; u = zero_f; v = zero_f }
  pub vector : c.vector_answer (Err e) ≡ record { number = number_of e; vector = vec zero_f zero_f zero_f }
  pub axis : numbered_axis (Err e) ≡ record { number = number_of e; axis = 0 }
  pub walk : c.walk_answer (Err e) ≡ record { number = number_of e; count = 0 }
  pub trace : c.trace_answer (Err e) ≡ record { number = number_of e; kept = 0; missed = 0; refused = 0; edges = 0 }
  pub stretch : c.stretch_answer (Err e) ≡ record { number = number_of e; first = 0; count = 0 }
  pub pages : c.pages_answer (Err e) ≡ record { number = number_of e; floats = 0 }
  pub kept : c.kept_answer (Err e) ≡ record { number = number_of e; edge = 0; opened = 0 }

pub record Promises : Type 0 where
  pub refused : (e : Refusal) → Refused e
  -- of a search that finds no edge, 1, edge 0 and the count of opened boxes
  pub none_found : (opened : ℕ) → c.kept_answer (Ok (none opened)) ≡ record { number = 1; edge = 0; opened = opened }
  -- two traces, each with touches or without, two walks or one of each, in parts of a buffer that do not overlap, neighbours among them: whichever is written first, each gives the same answer and the same bytes, and the rest of the buffer is as it was
  pub either_first : (c d : Call) (xs : List ℕ) (p m q n : ℕ) → p + m ≤ q → q + n ≤ length xs → EitherFirst (leaves c) (leaves d) xs p m q n
