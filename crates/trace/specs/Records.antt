-- The records of cut edges, 40 bytes each, and how many were kept, missed and refused.
use Rattle.std.specs.Prelude.{ℕ, ◌+◌, Bool, true, false, not, eqb, List, [], ◌∷◌, Ok, Err}
use Rattle.float.specs.Choice.{when◌then◌else◌}
use Rattle.float.specs.Float.{zero_f}
use Rattle.record.specs.Record.{Ends, record_bytes, joined}
use Rattle.answer.specs.Refusal.{number, number_of}
use Rattle.answer.specs.declared.Refusal.TheVariants.{Missed}
use Rattle.clip.specs.Answers.{points_of}
use Rattle.clip.specs.declared.Segment.{Segment}
use Rattle.trace.specs.Trace.{Clipped}

abbrev pub ends_of : Segment → Ends
ends_of s = record { au = s.ax; av = s.ay; bu = s.bx; bv = s.by }

abbrev pub no_ends : Ends
no_ends = record { au = zero_f; av = zero_f; bu = zero_f; bv = zero_f }

abbrev pub cut_ends : Clipped → Ends
cut_ends c = ends_of (points_of c)

-- the number of the edge's answer, three zero bytes, whose it is, then the four floats, zeros unless kept
abbrev pub cut_bytes : ℕ → Clipped → List ℕ
cut_bytes whose c = record_bytes (number c) whose (cut_ends c)

abbrev pub records_of : ℕ → List Clipped → List ℕ
records_of whose cs = joined (cut_bytes whose) cs

-- ---- counts

unfoldable pub is_kept : Clipped → Bool
is_kept (Ok s) = true
is_kept (Err e) = false

unfoldable pub is_missed : Clipped → Bool
is_missed (Ok s) = false
is_missed (Err e) = eqb (number_of e) (number_of Missed)

unfoldable pub is_refused : Clipped → Bool
is_refused (Ok s) = false
is_refused (Err e) = not (eqb (number_of e) (number_of Missed))

unfoldable pub how_many : (Clipped → Bool) → List Clipped → ℕ
how_many is [] = 0
how_many is (c ∷ cs) = (when is c then 1 else 0) + how_many is cs
